use Rattle.std.proofs.Common.{◌++◌, ◌<◌, ℕ, suc, List, length, ap, subst, sym, refl, ◌∙◌, append_assoc, arith}
use Rattle.mysql_frames.specs.Frames.{most, header, next, FramedIn}
use Rattle.mysql_frames.proofs.Raw.{regroup}
use Rattle.mysql_frames.proofs.writer.write_long.Goals as goal

pub loop-left-preserved : goal.loop-left-preserved
loop-left-preserved c =
    let inv = c.loop-left.invariant.written in
    let number = c.loop-left.number in
    let part = c.split_at.result.0.now in
    let more = c.split_at.result.1.now in
    record {
      capacity = omega arith;
      grown = omega arith;
      written = (
        inv.0 ++ (header (length part) number ++ part),
        c.push_frame.ensures.items ∙ ap (λ (xs : List ℕ). xs ++ (header (length part) number ++ part)) inv.1 ∙ append_assoc c.args.out.now.items inv.0 (header (length part) number ++ part),
        λ i after bytes rest h.
            let g = inv.2 (suc i) after (header most number ++ (part ++ bytes)) rest (part, more, bytes, c.split_at.ensures.front_len, c.split_at.ensures.by_index.0, refl, h) in (
              g.0,
              subst (λ b. FramedIn most g.0 c.args.number c.args.payload.now after b rest)
                  (ap (λ l. inv.0 ++ (header l number ++ (part ++ bytes))) (sym c.split_at.ensures.front_len) ∙ regroup inv.0 (header (length part) number) part bytes) g.1,
            ),
      );
    }

pub returns-clause-framed : goal.returns-clause-framed
returns-clause-framed c =
    let inv = c.loop-left.invariant.written in
    let number = c.loop-left.number in
    let left = c.loop-left.left.now in (
      inv.0 ++ (header (length left) number ++ left),
      c.push_frame-2.ensures.items ∙ ap (λ (xs : List ℕ). xs ++ (header (length left) number ++ left)) inv.1 ∙ append_assoc c.args.out.now.items inv.0 (header (length left) number ++ left),
      λ rest.
          let short : length left < most = omega arith in
          let g = inv.2 0 (next number) (header (length left) number ++ (left ++ rest)) rest (short, refl, refl) in
          (g.0, subst (λ b. FramedIn most g.0 c.args.number c.args.payload.now (next number) b rest) (regroup inv.0 (header (length left) number) left rest) g.1),
    )
