use Rattle.std.proofs.Common.{◌≡◌, ◌++◌, rules}
use Rattle.std.specs.List.{flat_map}
use Rattle.mysql_repl.specs.SidText.{interval_text}
use Rattle.mysql_packets_c.specs.Sid.{interval_of}
use Rattle.mysql_packets_c.proofs.SidsTexts.{step-fits}
use Rattle.mysql_packets_c.proofs.sids_text.IntervalsTextMySerialize.append.Goals as goal

pub append-requires : goal.append-requires
append-requires g c =
    let inv = c.loop-interval.invariant in
    let rest = flat_map interval_text c.loop-interval.interval-iterator in
    let next = interval_text (interval_of (record { start = c.start.result; end = c.end.result })) in
    let more = flat_map interval_text c.next.new.self in
    let split : rest ≡ next ++ more = search rules in
    step-fits (flat_map interval_text c.args.self.now.0) rest next more split (g.O.Buffer.held c.args.out.now) (g.O.Buffer.held c.loop-interval.bytes) (g.O.Buffer.capacity c.args.out.now) (g.O.Buffer.capacity c.loop-interval.bytes) inv.items c.requires inv.capacity
