-- The bytes after the written ones.
use Rattle.std.specs.Prelude.{◌≡◌, ℕ, List, ◌+◌, drop, slice_set}
use Rattle.std.proofs.Common.{◌∙◌, ap, arith}
use Rattle.std.proofs.lemmas.List.{drop-drop, drop-set-lt, length-append}
use Rattle.std.proofs.lemmas.Slice.{drop-put_mid}

pub ruleset after = (drop-drop, length-append)

pub after_set : {X : Type 0} (n : ℕ) (xs : List X) (v : X) → drop (n + 1) (slice_set xs n v) ≡ drop (n + 1) xs
after_set n xs v = drop-set-lt (n + 1) xs n v (omega arith)

-- the bytes after n bytes, once one more is written
pub after_next : {X : Type 0} (n : ℕ) (old now new : List X) → now ≡ drop n old → new ≡ drop 1 now → new ≡ drop (n + 1) old
after_next n old now new so_far next = next ∙ ap (drop 1) so_far ∙ drop-drop 1 n old

pub ruleset after_slice = (drop-drop, after_set, drop-put_mid)
