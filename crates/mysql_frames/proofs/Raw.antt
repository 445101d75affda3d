-- What a reader holds, as bytes.
use Rattle.std.proofs.Common.{◌≡◌, ℕ, ◌+◌, ◌*◌, ◌<◌, ◌≤◌, zero, suc, List, [], ◌∷◌, ◌++◌, length, take, drop, refl, sym, ap, subst, ◌∙◌, arith, append_assoc, length-drop}
use Rattle.std.proofs.lemmas.List.{take-append-le, drop-append-le, append-nil, take-append-drop, length-take-le}
use Rattle.mysql_frames.specs.Frames.{header, next, FramedIn}
use Rattle.mysql_frames.specs.Unfinished.{raw, number_of}

none : (xs : List ℕ) → length xs ≡ 0 → xs ≡ []
none [] e = refl
none (x ∷ xs) e = absurd (omega arith)

pub regroup : (a b r t : List ℕ) → a ++ (b ++ (r ++ t)) ≡ (a ++ (b ++ r)) ++ t
regroup a b r t = simp append_assoc

-- a header's bytes, one after another
pub raw_head : (size full number : ℕ) (payload head t : List ℕ) → length payload ≡ full * size → raw size full number payload (head ++ t) ≡ raw size full number payload head ++ t
raw_head size zero number payload head t e =
    let empty : length payload ≡ 0 = omega arith in
    subst (λ p. (head ++ t) ++ p ≡ (head ++ p) ++ t) (sym (none payload empty)) (append-nil (head ++ t) ∙ ap (λ h. h ++ t) (sym (append-nil head)))
raw_head size (suc full) number payload head t e =
    let rest : length (drop size payload) ≡ full * size = omega (arith, length-drop size payload) in
    ap (λ xs. header size number ++ (take size payload ++ xs)) (raw_head size full (next number) (drop size payload) head t rest)
    ∙ regroup (header size number) (take size payload) (raw size full (next number) (drop size payload) head) t

-- a payload's bytes, one after another
pub raw_body : (size full number : ℕ) (payload head t : List ℕ) → full * size ≤ length payload → raw size full number (payload ++ t) head ≡ raw size full number payload head ++ t
raw_body size zero number payload head t e = sym (append_assoc head payload t)
raw_body size (suc full) number payload head t e =
    let long : size ≤ length payload = omega arith in
    let rest : full * size ≤ length (drop size payload) = omega (arith, length-drop size payload) in
    ap (λ xs. header size number ++ (xs ++ raw size full (next number) (drop size (payload ++ t)) head)) (take-append-le size payload t long)
    ∙ ap (λ xs. header size number ++ (take size payload ++ raw size full (next number) xs head)) (drop-append-le size payload t long)
    ∙ ap (λ xs. header size number ++ (take size payload ++ xs)) (raw_body size full (next number) (drop size payload) head t rest)
    ∙ regroup (header size number) (take size payload) (raw size full (next number) (drop size payload) head) t

pub number_first : (n : ℕ) → n < 256 → number_of 0 n ≡ n
number_first n h = omega arith

pub number_more : (full n : ℕ) → number_of full (next n) ≡ number_of (suc full) n
number_more full n = omega arith

pub next_below : (n : ℕ) → next n < 256
next_below n = omega arith

-- after a full frame
pub raw_next : (size full number : ℕ) (payload : List ℕ) → number < 256 → length payload ≡ full * size + size → raw size (suc full) number payload [] ≡ raw size full number payload (header size (number_of full number))
raw_next size zero number payload b e =
    ap (λ xs. header size number ++ xs) (take-append-drop size payload) ∙ ap (λ n. header size n ++ payload) (sym (number_first number b))
raw_next size (suc full) number payload b e =
    let rest : length (drop size payload) ≡ full * size + size = omega (arith, length-drop size payload) in
    ap (λ xs. header size number ++ (take size payload ++ xs))
    (raw_next size full (next number) (drop size payload) (next_below number) rest
    ∙ ap (λ n. raw size full (next number) (drop size payload) (header size n)) (number_more full number))

-- after the last frame
pub raw_done : (size full number len : ℕ) (payload rest : List ℕ) → number < 256 → length payload ≡ full * size + len → len < size
    → FramedIn size full number payload (next (number_of full number)) (raw size full number payload (header len (number_of full number)) ++ rest) rest
raw_done size zero number len payload rest b e h =
    let same : len ≡ length payload = omega arith in (
      omega arith,
      ap (λ n. (header len n ++ payload) ++ rest) (number_first number b) ∙ ap (λ l. (header l number ++ payload) ++ rest) same ∙ append_assoc (header (length payload) number) payload rest,
      ap next (number_first number b),
    )
raw_done size (suc full) number len payload rest b e h =
    let long : size ≤ length payload = omega arith in
    let left : length (drop size payload) ≡ full * size + len = omega (arith, length-drop size payload) in
    let n : number_of full (next number) ≡ number_of (suc full) number = number_more full number in
    let h : FramedIn size full (next number) (drop size payload) (next (number_of (suc full) number)) (raw size full (next number) (drop size payload) (header len (number_of (suc full) number)) ++ rest) rest
    = subst (λ m. FramedIn size full (next number) (drop size payload) (next m) (raw size full (next number) (drop size payload) (header len m) ++ rest) rest) n
    (raw_done size full (next number) len (drop size payload) rest (next_below number) left h) in (
      take size payload,
      drop size payload,
      raw size full (next number) (drop size payload) (header len (number_of (suc full) number)) ++ rest,
      length-take-le size payload long,
      sym (take-append-drop size payload),
      sym (regroup (header size number) (take size payload) (raw size full (next number) (drop size payload) (header len (number_of (suc full) number))) rest),
      h,
    )
