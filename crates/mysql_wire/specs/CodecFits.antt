-- What combined codecs write, how many bytes that is, and when it is read back.
use Rattle.std.specs.Prelude.{◌≡◌, ℕ, List, [], ◌∷◌, ◌++◌, Option, Some, None, Bool, true, false}
use Rattle.std.proofs.Common.{◌⊎◌, inl, inr}
use Rattle.std.specs.List.{flat_map}
use Rattle.mysql_wire.specs.Codec.{Codec, Fields}

-- ---- some fields, and then others

module _ {C P A B : Type 0} (f : Fields C P A) (g : A → Fields C P B) where
  abbrev pub then_bytes : P → List ℕ
  then_bytes p = f.bytes p ++ (g (f.value p)).bytes p

  -- the first fields fit before the bytes of the others
  abbrev pub then_fits : C → P → List ℕ → Type 0
  then_fits c p rest = f.fits c p ((g (f.value p)).bytes p ++ rest) × (g (f.value p)).fits c p rest

-- ---- a field under a flag

module _ {C A : Type 0} (f : Codec C A) where
  abbrev pub option_len : Option A → ℕ
  option_len None = 0
  option_len (Some a) = f.len a

  -- it is present exactly if the flag is set
  abbrev pub option_fits : Bool → C → Option A → List ℕ → Type 0
  option_fits flag c None rest = flag ≡ false
  option_fits flag c (Some a) rest = (flag ≡ true) × f.fits c a rest

-- ---- one of two

module _ {C A B X : Type 0} (of_left : A → X) (of_right : B → X) (l : Codec C A) (r : Codec C B) where
  abbrev pub choice_of : A ⊎ B → X
  choice_of (inl a) = of_left a
  choice_of (inr b) = of_right b

  abbrev pub choice_bytes : A ⊎ B → List ℕ
  choice_bytes (inl a) = l.bytes a
  choice_bytes (inr b) = r.bytes b

  abbrev pub choice_len : A ⊎ B → ℕ
  choice_len (inl a) = l.len a
  choice_len (inr b) = r.len b

  -- the left one is present exactly if the test says so
  abbrev pub choice_fits : Bool → C → A ⊎ B → List ℕ → Type 0
  choice_fits test c (inl a) rest = (test ≡ true) × l.fits c a rest
  choice_fits test c (inr b) rest = (test ≡ false) × r.fits c b rest

-- ---- lists

-- each value fits before those after it
abbrev pub each_fits : {C A : Type 0} → Codec C A → C → List A → List ℕ → Type 0
each_fits f c [] rest = Unit {0}
each_fits f c (x ∷ xs) rest = f.fits c x (flat_map f.bytes xs ++ rest) × each_fits f c xs rest

-- ---- a part that is present if bytes are left

abbrev pub is_there : List ℕ → Bool
is_there [] = false
is_there (b ∷ bytes) = true

-- it is absent only if nothing follows
abbrev pub if_left_fits : {C A : Type 0} → Codec C A → C → Option A → List ℕ → Type 0
if_left_fits f c None rest = rest ≡ []
if_left_fits f c (Some a) rest = f.fits c a rest
