use Rattle.std.proofs.Common.{List, ℕ, length, sym, subst, ◌∙◌}
use Rattle.mysql_packets_c.proofs.SetTexts.{words-with-tag}
use Rattle.mysql_packets_c.proofs.set_text.WordsTextParts.put.Goals as goal

pub part-requires : goal.part-requires
part-requires g c =
    let same = words-with-tag c.args.self.now.0.now c.words.result c.words-then-has_tag.result (sym c.has_tag.ensures ∙ c.if-has_tag.true) c.words.ensures (c.words-then-has_tag.ensures ∙ c.tag_place.ensures) in
    subst (λ (l : List ℕ). g.S.Sink.capacity c.args.sink.now (length l)) (sym same) c.requires

pub returns-then-has_tag : goal.returns-then-has_tag
returns-then-has_tag g c =
    let same = words-with-tag c.args.self.now.0.now c.words.result c.words-then-has_tag.result (sym c.has_tag.ensures ∙ c.if-has_tag.true) c.words.ensures (c.words-then-has_tag.ensures ∙ c.tag_place.ensures) in
    record { value = subst (λ (l : List ℕ). g.S.Sink.took c.args.sink.now l c.part.new.self) same c.part.ensures }
