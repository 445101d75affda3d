use Rattle.std.proofs.Common.{◌≡◌, ◌∙◌, refl, sym, ap, arith, length, take, drop, ◌++◌, ◌-◌, length-drop}
use Rattle.std.proofs.lemmas.List.{take_all}
use Rattle.mysql_frames.specs.Frames.{header}
use Rattle.mysql_frames.specs.FrameHeader.{length_in}
use Rattle.mysql_frames.proofs.Peel.{header_front}
use Rattle.mysql_frames.proofs.unfinished.whole_at.Goals as goal

pub returns-clause-framed : goal.returns-clause-framed
returns-clause-framed c =
    let input = c.args.input.now in
    let len : length c.split_at.result.0.now ≡ length_in input = c.split_at.ensures.front_len ∙ c.length_in-len.ensures.value in
    let all : take (length input - 4) (drop 4 input) ≡ drop 4 input = take_all (length input - 4) (drop 4 input) (omega (arith, length-drop 4 input)) in (
      0,
      (
        omega arith,
        header_front input c.args.number c.if-input-lt-HEADER_LEN.false (λ i. omega (arith, c.type_inv.input i)) c.if-input-number.false ∙ ap (λ xs. header (length_in input) c.args.number ++ xs) (sym all ∙ c.split_at.ensures.by_index.0)
            ∙ ap (λ l. header l c.args.number ++ (c.split_at.result.0.now ++ c.split_at.result.1.now)) (sym len),
        refl,
      ),
    )
