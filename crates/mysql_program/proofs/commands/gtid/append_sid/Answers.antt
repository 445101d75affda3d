use Rattle.std.proofs.Common.{[], sym, append-nil, string_bytes}
use Rattle.mysql_program.proofs.commands.gtid.append_sid.Goals as goal

pub returns-in_err-shown-clause-stays : goal.returns-in_err-shown-clause-stays
returns-in_err-shown-clause-stays c = ([], sym (append-nil (string_bytes c.args.out.now)))
