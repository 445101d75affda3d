use Rattle.std.proofs.Common.{rules, arith, [], subst}
use Rattle.std.proofs.lemmas.List.{take_all}
use Rattle.mysql_packets.specs.Observed.{AreTracked, tracked}
use Rattle.mysql_packets.specs.Tracked.{nothing}
use Rattle.examples_proved.specs.Audit.{AreSent}
use Rattle.examples_proved.proofs.Followed.{followed_more, in_order}
use Rattle.examples_proved.proofs.observe.follow.Goals as goal

pub loop-packet-preserved : goal.loop-packet-preserved
loop-packet-preserved c =
    followed_more c.args.limits c.args.packets.now c.loop-packet.packet-index _ c.loop-packet.observer c.next.new.self c.in_ok-seen.seen.kind c.in_ok-seen.seen.exchange c.in_ok-seen.seen.has_memory (search rules) c.loop-packet-test.true c.loop-packet.invariant c.in_ok-seen.ensures.taken c.in_ok-seen.ensures.knows

pub returns : goal.returns
returns c =
    let f = c.loop-packet.invariant in
    record {
      order = (
        f.0,
        subst (AreSent f.0) (take_all c.loop-packet.packet-index c.args.packets.now (omega (arith, c.loop-packet-test.false))) f.1,
        f.2,
        λ a front x rest logged split.
            in_order a front x rest f.0 c.args.limits.statements c.args.limits.early _ split
            (c.what_a_session_took_is_a_beginning.ensures c.loop-packet.observer.session f.0 f.2.0)
            (c.tracked_packets_are_the_steps_of_a_conversation.ensures a front x rest c.args.limits.statements c.args.limits.early _ logged (subst (λ items. AreTracked [] items (nothing c.args.limits.statements c.args.limits.early) (tracked c.loop-packet.observer)) split f.3))
            (λ begun early places. c.what_is_known_is_in_the_order_of_the_conversation.ensures a front x c.args.limits.statements c.args.limits.early _ logged begun early places),
      );
    }
