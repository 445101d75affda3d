use Rattle.mysql_conversation.proofs.Stood.{lift_ok}
use Rattle.mysql_recorder.proofs.Reasons.{reason_of}
use Rattle.mysql_recorder.proofs.packets.Packets.next.Goals as goal

pub returns-then-self-clause-taken : goal.returns-then-self-clause-taken
returns-then-self-clause-taken c = lift_ok c.next-seen.result (λ x h items o. c.tls_established.ensures.stays _ (h items o)) c.next-seen.ensures.taken

pub returns-then-self-clause-reason : goal.returns-then-self-clause-reason
returns-then-self-clause-reason c =
    reason_of c.next-seen.result c.args.self.now.observer c.args.side c.args.payload.now c.next-seen.ensures.refused c.next-seen.ensures.not_next c.next-seen.ensures.encrypted c.next-seen.ensures.compressed c.next-seen.ensures.full c.next-seen.ensures.memory

pub returns-else-self-clause-reason : goal.returns-else-self-clause-reason
returns-else-self-clause-reason c =
    reason_of c.next-seen.result c.args.self.now.observer c.args.side c.args.payload.now c.next-seen.ensures.refused c.next-seen.ensures.not_next c.next-seen.ensures.encrypted c.next-seen.ensures.compressed c.next-seen.ensures.full c.next-seen.ensures.memory
