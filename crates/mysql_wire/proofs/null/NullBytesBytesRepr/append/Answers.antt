use Rattle.std.proofs.Common.{◌≡◌, ◌∙◌, ap, sym, drop, length, [], ◌∷◌, ◌++◌, ◌+◌}
use Rattle.std.proofs.lemmas.List.{drop-drop, length-append}
use Rattle.mysql_wire.specs.Null.{before_zero}
use Rattle.mysql_wire.proofs.null.NullBytesBytesRepr.append.Goals as goal

pub returns-clause-after : goal.returns-clause-after
returns-clause-after g c =
    let was = g.O.Buffer.after c.args.out.now in
    let count : length c.kept.result.now + 1 ≡ length (before_zero c.args.content.now ++ 0 ∷ []) =
    ap (λ xs. length xs + 1) c.kept.ensures ∙ sym (length-append (before_zero c.args.content.now) (0 ∷ [])) in
    c.push_byte.ensures.after ∙ ap (drop 1) c.push_bytes.ensures.after ∙ drop-drop 1 (length c.kept.result.now) was ∙ ap (λ n. drop n was) count
