use Rattle.std.proofs.Common.{◌∙◌, sym, rules}
use Rattle.mysql_packets_c.proofs.Conversations.{begun_is, fills_is}
use Rattle.mysql_packets_c.proofs.conversation.next_of_any.Goals as goal

pub returns-then-conversation-eq-LOGIN : goal.returns-then-conversation-eq-LOGIN
returns-then-conversation-eq-LOGIN c = record {
  taken = search rules;
  under = search rules;
  begun = search rules;
  refused = λ e. (c.in-Some.side, sym c.side_of.ensures ∙ c.in-Some.is, c.next_of_login.ensures.refused e);
  compressed = search rules;
  full = search rules;
  comes = search rules;
  state = search rules;
  stays = search rules;
  known = search rules;
}

pub returns-else-conversation-eq-LOGIN : goal.returns-else-conversation-eq-LOGIN
returns-else-conversation-eq-LOGIN c = record {
  taken = search rules;
  under = search rules;
  begun = search rules;
  refused = λ e. (c.in-Some.side, sym c.side_of.ensures ∙ c.in-Some.is, c.next_of_conversation.ensures.refused e);
  compressed = search rules;
  full = fills_is c.args.conversation.now c.args.from c.in-Some.side c.args.payload.now (sym c.side_of.ensures ∙ c.in-Some.is) c.next_of_conversation.ensures.full;
  comes = λ e. (c.in-Some.side, sym c.side_of.ensures ∙ c.in-Some.is, c.next_of_conversation.ensures.comes e);
  state = begun_is c.args.conversation.now c.args.from c.in-Some.side (sym c.side_of.ensures ∙ c.in-Some.is) c.if-conversation-eq-LOGIN.false c.next_of_conversation.ensures.state;
  stays = search rules;
  known = search rules;
}
