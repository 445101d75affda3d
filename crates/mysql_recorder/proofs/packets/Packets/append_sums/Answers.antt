use Rattle.std.proofs.Common.{string_bytes}
use Rattle.mysql_recorder.proofs.Summed.{on_ok_some}
use Rattle.mysql_recorder.proofs.packets.Packets.append_sums.Goals as goal

pub returns-in-Some-clause-sums : goal.returns-in-Some-clause-sums
returns-in-Some-clause-sums c = λ asked. on_ok_some c.append.result c.args.self.now.layout _ (string_bytes c.args.out.now) (string_bytes c.append.new.out) c.append.ensures.sums
