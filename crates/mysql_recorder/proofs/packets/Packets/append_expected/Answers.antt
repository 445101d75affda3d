use Rattle.std.proofs.Common.{[], ◌∷◌, ◌++◌, take, get_or, refl, sym, ap, subst, ◌∙◌, append_assoc, append-nil}
use Rattle.std.proofs.lemmas.List.{take_more, take_all}
use Rattle.mysql_conversation.specs.declared.packet_kind_tag.PacketKindTag.TheVariants.{Handshake}
use Rattle.mysql_recorder.specs.Refused.{expected_fields, AreExpected}
use Rattle.mysql_recorder.proofs.Refused.{expected-append, expected_both}
use Rattle.mysql_recorder.proofs.packets.Packets.append_expected.Goals as goal

pub loop-name-init : goal.loop-name-init
loop-name-init c = ([], sym (append-nil c.args.fields.now.items), λ items f. refl)

pub loop-name-preserved : goal.loop-name-preserved
loop-name-preserved c =
    let r = c.loop-name.invariant in
    let h = c.in_ok-append_name.ensures.ok in
    let all = c.args.all.now in
    let i = c.loop-name.name-index in (
      r.0 ++ h.0,
      h.1 ∙ ap (λ fs. fs ++ expected_fields h.0) r.1 ∙ append_assoc c.args.fields.now.items (expected_fields r.0) (expected_fields h.0)
          ∙ ap (λ fs. c.args.fields.now.items ++ fs) (sym (expected-append r.0 h.0)),
      λ items f. subst (λ xs. AreExpected items xs (r.0 ++ h.0)) (sym (take_more all i Handshake c.loop-name-test.true))
          (expected_both items (take i all) (get_or all i Handshake ∷ []) r.0 h.0 (r.2 items f) (h.2 items f)),
    )

pub returns : goal.returns
returns c =
    let r = c.loop-name.invariant in
    record { ok = (r.0, r.1, λ items f. subst (λ xs. AreExpected items xs r.0) (take_all c.loop-name.name-index c.args.all.now c.loop-name-test.false) (r.2 items f)) }
