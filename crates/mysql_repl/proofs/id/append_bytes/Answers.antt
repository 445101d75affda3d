use Rattle.std.proofs.Common.{rules, arith}
use Rattle.std.proofs.lemmas.Grind.{common_steps}
use Rattle.mysql_repl.proofs.Ids.{byte-less}
use Rattle.mysql_repl.proofs.id.append_bytes.Goals as goal

pub loop-byte-preserved : goal.loop-byte-preserved
loop-byte-preserved g c =
    let so_far = c.loop-byte.invariant in
    let before = so_far.items in
    let pushed = c.push_byte.ensures in
    let items = pushed.items in
    let left = byte-less c.loop-byte.byte-index _ _ _ pushed.after so_far.after in
    record { items = grind (arith, common_steps); after = left; capacity = search rules; kept = search rules }
