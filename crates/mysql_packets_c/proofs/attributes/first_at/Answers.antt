use Rattle.std.proofs.Common.{◌≡◌, ◌+◌, ◌-◌, List, [], length, take, drop, get_or, refl, sym, ap, ◌∙◌, arith}
use Rattle.std.proofs.lemmas.List.{length-drop, take_all}
use Rattle.mysql_packets_c.specs.Attributes.{last_of, pairs_of}
use Rattle.mysql_packets_c.specs.declared.attributes.CAttribute.{CAttribute}
use Rattle.mysql_packets_c.proofs.MergedNames.{firsts-known, firsts-new}
use Rattle.mysql_packets_c.proofs.attributes.first_at.Goals as goal

abbrev none : CAttribute
none = record { name = record { ref_ptr = (0, 0); now = [] }; value = record { ref_ptr = (0, 0); now = [] } }

pub returns-then-has_name : goal.returns-then-has_name
returns-then-has_name c =
    firsts-known c.args.attributes.now c.args.place (get_or c.args.attributes.now c.args.place none) none c.requires refl (sym c.has_name.ensures ∙ c.if-has_name.true)

pub returns : goal.returns
returns c =
    let attributes = c.args.attributes.now in
    let attribute : CAttribute = get_or attributes c.args.place none in
    let after = drop (c.args.place + 1) attributes in
    let whole : take (length attributes - (c.args.place + 1)) after ≡ after = take_all (length attributes - (c.args.place + 1)) after (omega (arith, length-drop (c.args.place + 1) attributes)) in
    firsts-new attributes c.args.place attribute none c.last_of-value.result.now c.requires refl (sym c.has_name.ensures ∙ c.if-has_name.false)
    (c.last_of-value.ensures ∙ ap (λ (x : List CAttribute). last_of attribute.name.now attribute.value.now (pairs_of x)) whole)
