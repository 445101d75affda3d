-- What a reader returned.
use Rattle.std.proofs.Common.{◌≡◌, ◌≢◌, ◌∙◌, ◌++◌, List, ℕ, Option, Some, None, take, length, refl, sym, append_assoc, arith}
use Rattle.std.proofs.lemmas.List.{length-append}
use Rattle.std.specs.Io.KnownBytes.{Consumes}
use Rattle.mysql_program.specs.Input.{GaveAtLeast}

-- a read that returns nothing changes nothing
pub none_more : (a b c : Option (List ℕ)) (input chunk : List ℕ) (n : ℕ) → Consumes a b input → Consumes b c (take n chunk) → n ≡ 0 → Consumes a c input
none_more None b c input chunk n p q e = tt
none_more (Some xs) None c input chunk n p q e = absurd p
none_more (Some xs) (Some ys) None input chunk n p q e = absurd q
none_more (Some xs) (Some ys) (Some zs) input chunk n p q e =
    let same : ys ≡ zs = rw e at q in
    p ∙ rw same refl

-- what was read, followed by the result of one more read
gave_both : (a b c : Option (List ℕ)) (front back : List ℕ) → Consumes a b front → Consumes b c back → Consumes a c (front ++ back)
gave_both None b c front back p q = tt
gave_both (Some xs) None c front back p q = absurd p
gave_both (Some xs) (Some ys) None front back p q = absurd q
gave_both (Some xs) (Some ys) (Some zs) front back p q = p ∙ rw q (sym (append_assoc front back zs))

pub gave_some : (a b c : Option (List ℕ)) (input chunk : List ℕ) (n : ℕ) → Consumes a b input → Consumes b c (take n chunk) → n ≡ length (take n chunk) → n ≢ 0 → GaveAtLeast 1 a c
gave_some a b c input chunk n p q whole some =
    (input ++ take n chunk, gave_both a b c input (take n chunk) p q, omega (arith, length-append input (take n chunk), whole, some))
