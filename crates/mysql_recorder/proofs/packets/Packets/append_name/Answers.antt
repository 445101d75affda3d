use Rattle.std.proofs.Common.{[], ◌∷◌, ◌++◌, ap, ◌∙◌, codes, sym, append-nil}
use Rattle.mysql_show.specs.Fields.{said, Word}
use Rattle.mysql_recorder.proofs.Refused.{is_expected, is_not_expected}
use Rattle.mysql_recorder.proofs.packets.Packets.append_name.Goals as goal

pub returns-in_ok-push : goal.returns-in_ok-push
returns-in_ok-push c = record {
  ok = (
    c.args.name ∷ [],
    c.in_ok-push.ensures.items ∙ ap (λ f. c.args.fields.now.items ++ f ∷ []) (c.word.ensures.value ∙ ap (λ t. said (codes "expected") (Word t)) c.as_str.ensures.value),
    λ items h. is_expected items c.args.name c.may_receive.result (c.may_receive.ensures items h) c.if-may_receive.true,
  );
}

pub returns-else-may_receive : goal.returns-else-may_receive
returns-else-may_receive c = record {
  ok = ([], sym (append-nil c.args.fields.now.items), λ items h. is_not_expected items c.args.name c.may_receive.result (c.may_receive.ensures items h) c.if-may_receive.false);
}
