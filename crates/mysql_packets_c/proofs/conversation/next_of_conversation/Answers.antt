use Rattle.std.proofs.Common.{◌≡◌, ◌∙◌, ap, refl, sym, true}
use Rattle.std.specs.Prelude.{Err}
use Rattle.mysql_packets_c.specs.Conversation.{IsOpening}
use Rattle.mysql_packets_c.proofs.Conversations.{comes_at, goes_on, refused_at, valid_is}
use Rattle.mysql_packets_c.proofs.conversation.next_of_conversation.Goals as goal

pub returns-in-Ok-clause-taken : goal.returns-in-Ok-clause-taken
returns-in-Ok-clause-taken c e =
    goes_on c.args.conversation.now c.keep.new.numbers c.in-Some.opening c.agreed_of.result c.state_of-state.result c.next.new.self c.args.from c.args.payload.now c.in-Ok.kind c.in-Ok.exchange c.put_packet.new.out
    (sym c.opening_of.ensures.value ∙ c.in-Some.is) c.state_of-state.ensures c.agreed_of.ensures c.keep.ensures.opening c.keep.ensures.state c.keep.ensures.agreed c.put_packet.ensures c.in-Ok.ensures.taken

pub returns-then-is_valid-clause-refused : goal.returns-then-is_valid-clause-refused
returns-then-is_valid-clause-refused c e =
    refused_at c.args.conversation.now c.in-Some.opening c.agreed_of.result c.state_of-state.result c.args.from c.args.payload.now (sym c.opening_of.ensures.value ∙ c.in-Some.is) c.state_of-state.ensures c.agreed_of.ensures
    (λ items kind number. c.in-Err-UnexpectedPacket.ensures.refused items kind number c.in-Err-UnexpectedPacket.field-0-is)

pub returns-then-is_valid-clause-state : goal.returns-then-is_valid-clause-state
returns-then-is_valid-clause-state c =
    let i : IsOpening c.args.conversation.now.opening = c.opening_of.ensures.is_one.0 (rw c.in-Some.is refl) in
    let v = valid_is c.args.conversation.now c.in-Some.opening c.state_of-state.result c.next.new.self c.state_of-state.ensures c.in-Err-UnexpectedPacket.ensures.err i in
    ((λ e. absurd cc), (λ n. absurd (n (v.0 (c.is_valid.ensures.0 c.if-is_valid.true)))))

pub returns-else-is_valid-clause-state : goal.returns-else-is_valid-clause-state
returns-else-is_valid-clause-state c =
    let i : IsOpening c.args.conversation.now.opening = c.opening_of.ensures.is_one.0 (rw c.in-Some.is refl) in
    let v = valid_is c.args.conversation.now c.in-Some.opening c.state_of-state.result c.next.new.self c.state_of-state.ensures c.in-Err-UnexpectedPacket.ensures.err i in
    ((λ e s. let yes : c.is_valid.result ≡ true = c.is_valid.ensures.1 (v.1 s) in absurd cc), (λ n. refl))

pub returns-in-Err-Full-clause-comes : goal.returns-in-Err-Full-clause-comes
returns-in-Err-Full-clause-comes c e =
    comes_at c.args.conversation.now c.in-Some.opening c.agreed_of.result c.state_of-state.result c.args.from c.args.payload.now (sym c.opening_of.ensures.value ∙ c.in-Some.is) c.state_of-state.ensures c.agreed_of.ensures
    (c.next.ensures.comes (c.in-Err-Full.is ∙ ap Err c.in-Err-Full.field-0-is))
