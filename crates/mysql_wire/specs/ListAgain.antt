-- Lists are read back.
use Rattle.std.specs.Prelude.{ℕ, ◌<◌, ◌^◌, List, [], ◌∷◌, ◌++◌, length, refl}
use Rattle.std.specs.List.{All, flat_map}
use Rattle.std.proofs.Common.{arith, append_assoc}
use Rattle.std.proofs.lemmas.List.{length-append}
use Rattle.std.proofs.lemmas.List.Elements.{All-head, All-tail}
use Rattle.mysql_wire.specs.Form.{Form}
use Rattle.mysql_wire.specs.Int.{raw_int, le_u64, number_of}
use Rattle.mysql_wire.specs.Writing.{le_bytes}
use Rattle.mysql_wire.specs.Spelling.{IsSpelling, le_u64-again}
use Rattle.mysql_wire.specs.Many.{many}
use Rattle.mysql_wire.specs.Seq.{counted, seq}

module _ {A : Type 0} (Fits : A → Type 0) (f : Form A) (spelling : A → List ℕ) (again : (x : A) → Fits x → IsSpelling f x (spelling x)) where
  pub counted-again : (xs : List A) → All Fits xs → IsSpelling (counted (length xs) f) xs (flat_map spelling xs)
  unfolding counted
  counted-again [] fits rest = (refl, refl)
  counted-again (x ∷ xs) fits rest =
      rw append_assoc (x, flat_map spelling xs ++ rest, again x (All-head Fits x xs fits) (flat_map spelling xs ++ rest), (xs, rest, counted-again xs (All-tail Fits x xs fits) rest, (refl, refl)))

  pub seq-again : (count : Form ℕ) (count_spelling : List ℕ) (xs : List A) → IsSpelling count (length xs) count_spelling → All Fits xs → IsSpelling (seq count f) xs (count_spelling ++ flat_map spelling xs)
  seq-again count count_spelling xs counted_so fits rest =
      rw append_assoc (length xs, flat_map spelling xs ++ rest, counted_so (flat_map spelling xs ++ rest), counted-again xs fits rest)

  pub many-again : ((x : A) → Fits x → 0 < length (spelling x)) → (xs : List A) → All Fits xs → (many f).Spells xs (flat_map spelling xs) []
  unfolding many
  many-again some [] fits = (refl, refl)
  many-again some (x ∷ xs) fits =
      let less : length (flat_map spelling xs) < length (spelling x ++ flat_map spelling xs) = omega (arith, length-append (spelling x) (flat_map spelling xs), some x (All-head Fits x xs fits)) in
      (flat_map spelling xs, less, again x (All-head Fits x xs fits) (flat_map spelling xs), many-again some xs (All-tail Fits x xs fits))

-- a count of eight bytes
pub count_u64-again : (n : ℕ) → n < 2 ^ 64 → IsSpelling (number_of le_u64) n (le_bytes 8 n)
count_u64-again n lt rest = (raw_int n, refl, le_u64-again n lt rest)

pub ruleset lists_again = (count_u64-again)
