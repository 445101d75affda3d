use Rattle.std.proofs.Common.{rules, ◌<◌, ◌^◌, ℕ, List, [], refl, subst}
use Rattle.std.proofs.lemmas.List.{append-nil}
use Rattle.mysql_repl.specs.BinlogDump.{binlog_dump, pos, flags_of, server_id}
use Rattle.mysql_repl.proofs.Fits.{binlog_dump-fits}
use Rattle.mysql_repl.proofs.laws.values.this_binlog_dump_round_trips.Goals as goal

pub returns : goal.returns
returns c =
    let p = c.args.dump.now in
    let position : pos p < 2 ^ 32 = search rules in
    let flags : (flags_of p).0 < 2 ^ 16 = search rules in
    let number : server_id p < 2 ^ 32 = search rules in
    let spelled = binlog_dump.again tt p [] (binlog_dump-fits p [] (record { pos = position; flags = flags; server_id = number; filename = refl })) in
    record { spelled = subst (λ (t : List ℕ). (binlog_dump.form tt).Spells p t []) (append-nil (binlog_dump.bytes p)) spelled }
