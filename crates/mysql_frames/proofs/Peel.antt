-- Bytes that are no payload's frames, and that bytes are the frames of at most one payload.
use Rattle.std.proofs.Common.{◌≡◌, ℕ, ◌+◌, ◌*◌, ◌/◌, ◌%◌, ◌<◌, ◌≤◌, zero, suc, List, [], ◌∷◌, ◌++◌, length, take, drop, refl, sym, ap, subst, ◌∙◌, arith, append_assoc, length-append, length-drop, get_or}
use Rattle.std.proofs.lemmas.List.{length-take-le}
use Rattle.mysql_frames.specs.Frames.{header, next, FramedIn}
use Rattle.mysql_frames.specs.FrameHeader.{length_in}
use Rattle.mysql_frames.specs.Unfinished.{raw, number_of}
use Rattle.mysql_frames.proofs.Raw.{number_first, number_more, next_below}

-- fronts of the same length are equal
pub same_front : (xs ys us vs : List ℕ) → length xs ≡ length us → xs ++ ys ≡ us ++ vs → (xs ≡ us) × (ys ≡ vs)
same_front [] ys [] vs e h = (refl, h)
same_front [] ys (a ∷ us) vs e h = absurd (omega arith)
same_front (x ∷ xs) ys [] vs e h = absurd (omega arith)
same_front (x ∷ xs) ys (a ∷ us) vs e h =
    let head : x ≡ a = cc in
    let tails : xs ++ ys ≡ us ++ vs = cc in
    let r = same_front xs ys us vs (omega arith) tails in
    ((let xs_is : xs ≡ us = r.0 in cc), r.1)

pub header_same : (a b m n : ℕ) (xs ys : List ℕ) → header a m ++ xs ≡ header b n ++ ys → (a ≡ b) × (m ≡ n) × (xs ≡ ys)
header_same a b m n xs ys h =
    let low : a % 256 ≡ b % 256 = cc in
    let middle : a / 256 % 256 ≡ b / 256 % 256 = cc in
    let high : a / 65536 ≡ b / 65536 = cc in
    (omega arith, cc, cc)

pub length_in_header : (len n : ℕ) (xs : List ℕ) → length_in (header len n ++ xs) ≡ len
length_in_header len n xs = omega arith

-- a complete header is the header of its length
pub head_is : (head : List ℕ) → length head ≡ 4 → ((i : ℕ) → get_or head i 0 < 256) → head ≡ header (length_in head) (get_or head 3 0)
head_is [] e fits = absurd (omega arith)
head_is (a ∷ []) e fits = absurd (omega arith)
head_is (a ∷ b ∷ []) e fits = absurd (omega arith)
head_is (a ∷ b ∷ c ∷ []) e fits = absurd (omega arith)
head_is (a ∷ b ∷ c ∷ d ∷ []) e fits =
    let fa : a < 256 = fits 0 in
    let fb : b < 256 = fits 1 in
    let fc : c < 256 = fits 2 in
    let ea : (a + 256 * b + 65536 * c) % 256 ≡ a = omega arith in
    let eb : (a + 256 * b + 65536 * c) / 256 % 256 ≡ b = omega arith in
    let ec : (a + 256 * b + 65536 * c) / 65536 ≡ c = omega arith in
    cc
head_is (a ∷ b ∷ c ∷ d ∷ x ∷ xs) e fits = absurd (omega arith)

-- frames begin with a header
pub four : (size full number : ℕ) (payload : List ℕ) (after : ℕ) (bytes rest : List ℕ) → FramedIn size full number payload after bytes rest → 4 ≤ length bytes
four size zero number payload after bytes rest h = omega (arith, ap length h.1)
four size (suc full) number payload after bytes rest h = omega (arith, ap length h.5)

-- The header has the length of the front, which is present and part of the payload.
pub first_header : (size full number : ℕ) (payload : List ℕ) (after : ℕ) (head body rest : List ℕ) → length head ≡ 4 → FramedIn size full number payload after (head ++ body) rest
    → (len : ℕ) × (head ≡ header len number) × (len ≤ length payload) × (len ≤ length body)
first_header size zero number payload after head body rest e h =
    let f = same_front head body (header (length payload) number) (payload ++ rest) e h.1 in
    (length payload, f.0, omega arith, omega (arith, ap length f.1, length-append payload rest))
first_header size (suc full) number payload after head body rest e h =
    let f = same_front head body (header size number) (h.0 ++ h.2) e h.5 in
    (size, f.0, omega (arith, ap length h.4, length-append h.0 h.1, h.3), omega (arith, ap length f.1, length-append h.0 h.2, h.3))

-- After the full frames that a reader accepted, the rest of the payload follows in frames.
pub peel : (size full i number : ℕ) (payload : List ℕ) (after : ℕ) (head got more rest : List ℕ)
    → number < 256 → full * size ≤ length got → FramedIn size i number payload after (raw size full number got head ++ more) rest
    → (j : ℕ) × (left : List ℕ) × (body : List ℕ) × (length payload ≡ full * size + length left) × (length got ≡ full * size + length body) × FramedIn size j (number_of full number) left after (head ++ (body ++ more)) rest
peel size zero i number payload after head got more rest b e h = (
  i,
  payload,
  got,
  omega arith,
  omega arith,
  subst (λ n. FramedIn size i n payload after (head ++ (got ++ more)) rest) (sym (number_first number b))
      (subst (λ bytes. FramedIn size i number payload after bytes rest) (append_assoc head got more) h),
)
peel size (suc full) zero number payload after head got more rest b e h =
    let same = header_same size (length payload) number number _ _ h.1 in
    absurd (omega (arith, same.0, h.0))
peel size (suc full) (suc i) number payload after head got more rest b e h =
    let long : size ≤ length got = omega arith in
    let cut = header_same size size number number _ _ h.5 in
    let bytes : take size got ++ (raw size full (next number) (drop size got) head ++ more) ≡ h.0 ++ h.2 = sym (append_assoc (take size got) _ more) ∙ cut.2 in
    let f = same_front (take size got) _ h.0 h.2 (length-take-le size got long ∙ sym h.3) bytes in
    let left : full * size ≤ length (drop size got) = omega (arith, length-drop size got) in
    let r = peel size full i (next number) h.1 after head (drop size got) more rest (next_below number) left
    (subst (λ bytes. FramedIn size i (next number) h.1 after bytes rest) (sym f.1) h.6) in (
      r.0,
      r.1,
      r.2,
      omega (arith, r.3, ap length h.4, length-append h.0 h.1, h.3),
      omega (arith, r.4, length-drop size got),
      subst (λ n. FramedIn size r.0 n r.1 after (head ++ (r.2 ++ more)) rest) (number_more full number) r.5,
    )

-- bytes begin with the frames of at most one payload, which end at one place
pub framed_once : (size i j number : ℕ) (p q : List ℕ) (a b : ℕ) (bytes r s : List ℕ)
    → FramedIn size i number p a bytes r → FramedIn size j number q b bytes s → (p ≡ q) × (a ≡ b) × (r ≡ s)
framed_once size zero zero number p q a b bytes r s g h =
    let same = header_same (length p) (length q) number number _ _ (sym g.1 ∙ h.1) in
    let f = same_front p r q s same.0 same.2 in
    (f.0, g.2 ∙ sym h.2, f.1)
framed_once size zero (suc j) number p q a b bytes r s g h =
    let same = header_same (length p) size number number _ _ (sym g.1 ∙ h.5) in
    absurd (omega (arith, same.0, g.0))
framed_once size (suc i) zero number p q a b bytes r s g h =
    let same = header_same size (length q) number number _ _ (sym g.5 ∙ h.1) in
    absurd (omega (arith, same.0, h.0))
framed_once size (suc i) (suc j) number p q a b bytes r s g h =
    let same = header_same size size number number _ _ (sym g.5 ∙ h.5) in
    let f = same_front g.0 g.2 h.0 h.2 (g.3 ∙ sym h.3) same.2 in
    let mid = subst (λ bytes. FramedIn size i (next number) g.1 a bytes r) f.1 g.6 in
    let o = framed_once size i j (next number) g.1 h.1 a b h.2 r s mid h.6 in
    (g.4 ∙ ap (λ xs. xs ++ g.1) f.0 ∙ ap (λ xs. h.0 ++ xs) o.0 ∙ sym h.4, o.1, o.2)

-- bytes that begin with a header
pub header_front : (xs : List ℕ) (n : ℕ) → 4 ≤ length xs → ((i : ℕ) → get_or xs i 0 < 256) → get_or xs 3 0 ≡ n → xs ≡ header (length_in xs) n ++ drop 4 xs
header_front [] n e fits m = absurd (omega arith)
header_front (a ∷ []) n e fits m = absurd (omega arith)
header_front (a ∷ b ∷ []) n e fits m = absurd (omega arith)
header_front (a ∷ b ∷ c ∷ []) n e fits m = absurd (omega arith)
header_front (a ∷ b ∷ c ∷ d ∷ xs) n e fits m =
    let fa : a < 256 = fits 0 in
    let fb : b < 256 = fits 1 in
    let fc : c < 256 = fits 2 in
    let ea : (a + 256 * b + 65536 * c) % 256 ≡ a = omega arith in
    let eb : (a + 256 * b + 65536 * c) / 256 % 256 ≡ b = omega arith in
    let ec : (a + 256 * b + 65536 * c) / 65536 ≡ c = omega arith in
    cc

pub length_by_bytes : (head : List ℕ) → length head ≡ 4 → length_in head ≡ get_or head 0 0 + 256 * get_or head 1 0 + 65536 * get_or head 2 0
length_by_bytes [] e = absurd (omega arith)
length_by_bytes (a ∷ []) e = absurd (omega arith)
length_by_bytes (a ∷ b ∷ []) e = absurd (omega arith)
length_by_bytes (a ∷ b ∷ c ∷ []) e = absurd (omega arith)
length_by_bytes (a ∷ b ∷ c ∷ d ∷ xs) e = refl
