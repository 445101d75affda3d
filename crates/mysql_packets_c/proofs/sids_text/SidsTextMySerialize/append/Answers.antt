use Rattle.std.proofs.Common.{◌≡◌, ◌++◌, Some, option_map, rules}
use Rattle.mysql_repl.specs.GtidSetWritten.{next_text, set_text, texts_after}
use Rattle.mysql_packets_c.proofs.SidsTexts.{step-fits}
use Rattle.mysql_packets_c.proofs.sids_text.SidsTextMySerialize.append.Goals as goal

pub append-requires : goal.append-requires
append-requires g c =
    let inv = c.loop-sid.invariant in
    let rest = texts_after c.loop-sid.before c.loop-sid.sid-iterator in
    let next = next_text (option_map (λ t. t.now) c.as_ref.result) c.in-Some.sid in
    let more = texts_after (Some c.in-Some.sid) c.next.new.self in
    let split : rest ≡ next ++ more = search rules in
    step-fits (set_text c.args.self.now.0) rest next more split (g.O.Buffer.held c.args.out.now) (g.O.Buffer.held c.loop-sid.bytes) (g.O.Buffer.capacity c.args.out.now) (g.O.Buffer.capacity c.loop-sid.bytes) inv.items c.requires inv.capacity
