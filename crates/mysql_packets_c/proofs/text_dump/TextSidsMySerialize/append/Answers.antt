use Rattle.std.proofs.Common.{◌≡◌, ◌++◌, ap}
use Rattle.std.specs.List.{flat_map}
use Rattle.mysql_repl.specs.GtidSetEntries.{text_entries}
use Rattle.mysql_packets_c.specs.GtidEntries.{entry_bytes}
use Rattle.mysql_packets_c.proofs.SidsTexts.{step-fits}
use Rattle.mysql_packets_c.proofs.text_dump.TextSidsMySerialize.append.Goals as goal

pub append-requires : goal.append-requires
append-requires g c =
    let inv = c.loop-entry.invariant in
    let bytes = entry_bytes c.args.self.now.tagged in
    let rest = flat_map bytes c.loop-entry.left in
    let next = bytes c.in-Some.entry in
    let more = flat_map bytes c.next.new.self in
    let split : rest ≡ next ++ more = ap (flat_map bytes) c.in-Some.ensures.steps in
    step-fits (flat_map bytes (text_entries c.args.self.now.text.now)) rest next more split (g.O.Buffer.held c.args.out.now) (g.O.Buffer.held c.loop-entry.bytes) (g.O.Buffer.capacity c.args.out.now) (g.O.Buffer.capacity c.loop-entry.bytes) inv.items c.requires inv.capacity
