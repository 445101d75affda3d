-- Concatenated names are at the places given by their ends.
use Rattle.std.proofs.Common.{◌≡◌, ℕ, zero, suc, ◌<◌, true, ◌+◌, ◌-◌, List, [], ◌++◌, length, take, refl, arith, append_assoc, length-append}
use Rattle.std.proofs.lemmas.List.{append-nil}
use Rattle.std.proofs.Math.Seq.{drop-append_seam, take-append_seam}
use Rattle.std.specs.Prelude.{slice_range}
use Rattle.mysql_wire.proofs.Packets.{packets}
use Rattle.mysql_wire.specs.Seq.{is_any}
use Rattle.mysql_replies.specs.ColumnNames.{meta_of, names_at}

-- what follows some bytes, up to its end
between : (p x y w : List ℕ) (a b : ℕ) → w ≡ p ++ (x ++ y) → a ≡ length p → b ≡ a + length x → slice_range w a b ≡ x
between p x y w a b is starts ends =
    let n : b - a ≡ length x = omega arith in
    rw (is, n, starts, drop-append_seam p (x ++ y)) (take-append_seam x y)

pub names_after : (s t o n m : List ℕ) (a b c d : ℕ) → a ≡ length s → b ≡ a + length t → c ≡ b + length o → d ≡ c + length n
    → names_at ((((s ++ t) ++ o) ++ n) ++ m) a b c d ≡ meta_of s t o n m
names_after s t o n m a b c d ea eb ec ed =
    let w : List ℕ = (((s ++ t) ++ o) ++ n) ++ m in
    let w1 : w ≡ s ++ (t ++ (o ++ (n ++ m))) = grind (arith, append_assoc) in
    let w2 : w ≡ (s ++ t) ++ (o ++ (n ++ m)) = grind (arith, append_assoc) in
    let w3 : w ≡ ((s ++ t) ++ o) ++ (n ++ m) = grind (arith, append_assoc) in
    let e1 : take a w ≡ s = rw (w1, ea) (take-append_seam s (t ++ (o ++ (n ++ m)))) in
    let e2 : slice_range w a b ≡ t = between s t (o ++ (n ++ m)) w a b w1 ea eb in
    let e3 : slice_range w b c ≡ o = between (s ++ t) o (n ++ m) w b c w2 (omega (arith, length-append s t)) ec in
    let e4 : slice_range w c d ≡ n = between ((s ++ t) ++ o) n m w c d w3 (omega (arith, length-append s t, length-append (s ++ t) o)) ed in
    let w4 : w ≡ (((s ++ t) ++ o) ++ n) ++ (m ++ []) = rw (append-nil m) refl in
    let at_m : d ≡ length (((s ++ t) ++ o) ++ n) = omega (arith, length-append s t, length-append (s ++ t) o, length-append ((s ++ t) ++ o) n) in
    let e5 : slice_range w d (length w) ≡ m = between (((s ++ t) ++ o) ++ n) m [] w d (length w) w4 at_m (omega (arith, length-append (((s ++ t) ++ o) ++ n) m)) in
    rw (e1, e2, e3, e4, e5) refl

-- a count other than 0 counts something
pub some-any : (n : ℕ) → 0 < n → is_any n ≡ true
some-any zero lt = absurd (omega (arith, lt))
some-any (suc n) lt = refl

pub ruleset names = (packets, names_after, some-any)
