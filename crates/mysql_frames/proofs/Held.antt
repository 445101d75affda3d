-- The bytes that a reader holds.
use Rattle.std.proofs.Common.{◌≡◌, ◌≢◌, ℕ, ◌+◌, ◌*◌, ◌<◌, ◌≤◌, zero, suc, refl, ◌∷◌, List, [], ◌++◌, length, take, drop, sym, ap, subst, ◌∙◌, arith, append_assoc, length-append, get_or}
use Rattle.std.proofs.lemmas.List.{append-nil}
use Rattle.mysql_frames.specs.Frames.{header, most, next, FramedIn}
use Rattle.mysql_frames.specs.FrameHeader.{length_in}
use Rattle.mysql_frames.specs.Unfinished.{raw, number_of}
use Rattle.mysql_frames.proofs.Raw.{number_first, raw_head, raw_body}
use Rattle.mysql_frames.proofs.Peel.{peel, four, first_header, header_same, length_in_header, head_is}

-- the bytes moved from the input are appended to those held
pub moved_head : (size full number : ℕ) (payload head new moved input rest : List ℕ) → length payload ≡ full * size → new ≡ head ++ moved → input ≡ moved ++ rest
    → raw size full number payload new ++ rest ≡ raw size full number payload head ++ input
moved_head size full number payload head new moved input rest e n i =
    ap (λ h. raw size full number payload h ++ rest) n ∙ ap (λ b. b ++ rest) (raw_head size full number payload head moved e)
    ∙ append_assoc (raw size full number payload head) moved rest ∙ ap (λ b. raw size full number payload head ++ b) (sym i)

pub moved_body : (size full number : ℕ) (payload head new moved input rest : List ℕ) → full * size ≤ length payload → new ≡ payload ++ moved → input ≡ moved ++ rest
    → raw size full number new head ++ rest ≡ raw size full number payload head ++ input
moved_body size full number payload head new moved input rest e n i =
    ap (λ p. raw size full number p head ++ rest) n ∙ ap (λ b. b ++ rest) (raw_body size full number payload head moved e)
    ∙ append_assoc (raw size full number payload head) moved rest ∙ ap (λ b. raw size full number payload head ++ b) (sym i)

-- an incomplete header
pub none_head : (size full i number : ℕ) (payload : List ℕ) (after : ℕ) (head got rest : List ℕ)
    → number < 256 → length got ≡ full * size → length head < 4 → FramedIn size i number payload after (raw size full number got head) rest → ⊥
none_head size full i number payload after head got rest b e short h =
    let r = peel size full i number payload after head got [] rest b (omega arith) (subst (λ bytes. FramedIn size i number payload after bytes rest) (sym (append-nil (raw size full number got head))) h) in
    omega (arith, four size r.0 (number_of full number) r.1 after (head ++ (r.2 ++ [])) rest r.5, length-append head (r.2 ++ []), length-append r.2 [], r.4)

-- an incomplete frame
pub none_body : (size full i number len : ℕ) (payload : List ℕ) (after : ℕ) (head got rest : List ℕ)
    → number < 256 → full * size ≤ length got → head ≡ header len (number_of full number) → length got < full * size + len → FramedIn size i number payload after (raw size full number got head) rest → ⊥
none_body size full i number len payload after head got rest b e is short h =
    let r = peel size full i number payload after head got [] rest b e (subst (λ bytes. FramedIn size i number payload after bytes rest) (sym (append-nil (raw size full number got head))) h) in
    let f = first_header size r.0 (number_of full number) r.1 after head (r.2 ++ []) rest (ap length is) r.5 in
    let same = header_same len f.0 (number_of full number) (number_of full number) [] [] (ap (λ h. h ++ []) (sym is ∙ f.1)) in
    omega (arith, f.3, same.0, length-append r.2 [], r.4)

-- a frame out of order
pub out_of_order : (size full i number : ℕ) (payload : List ℕ) (after : ℕ) (head got more rest : List ℕ)
    → number < 256 → full * size ≤ length got → length head ≡ 4 → get_or head 3 0 ≢ number_of full number → FramedIn size i number payload after (raw size full number got head ++ more) rest → ⊥
out_of_order size full i number payload after head got more rest b e four other h =
    let r = peel size full i number payload after head got more rest b e h in
    let f = first_header size r.0 (number_of full number) r.1 after head (r.2 ++ more) rest four r.5 in
    other (ap (λ h. get_or h 3 0) f.1)

-- a frame with more of the payload
pub longer : (size full i number limit : ℕ) (payload : List ℕ) (after : ℕ) (head got more rest : List ℕ)
    → number < 256 → full * size ≤ length got → length head ≡ 4 → limit < full * size + length_in head → FramedIn size i number payload after (raw size full number got head ++ more) rest → limit < length payload
longer size full i number limit payload after head got more rest b e four long h =
    let r = peel size full i number payload after head got more rest b e h in
    let f = first_header size r.0 (number_of full number) r.1 after head (r.2 ++ more) rest four r.5 in
    omega (arith, r.3, f.2, ap length_in f.1, length_in_header f.0 (number_of full number) [])

-- a complete header
pub header_of : (head : List ℕ) (number : ℕ) → length head ≡ 4 → ((i : ℕ) → get_or head i 0 < 256) → get_or head 3 0 ≡ number → head ≡ header (length_in head) number
header_of head number four fits e = head_is head four fits ∙ ap (header (length_in head)) e

-- a reader that holds nothing
pub nothing_held : (size full number : ℕ) (payload head : List ℕ) → full ≡ 0 → head ≡ [] → length payload ≡ full * size → raw size full number payload head ≡ []
nothing_held size zero number [] head e h n = append-nil head ∙ h
nothing_held size zero number (x ∷ xs) head e h n = absurd omega (arith, n)
nothing_held size (suc full) number payload head e h n = absurd omega (arith, e)

pub held_nothing : (size full number : ℕ) (payload head : List ℕ) → raw size full number payload head ≡ [] → (full ≡ 0) × (head ≡ [])
held_nothing size zero number payload [] h = (refl, refl)
held_nothing size zero number payload (x ∷ xs) h = absurd cc
held_nothing size (suc full) number payload head h = absurd cc

-- the bytes held begin with the header of the payload's first frame
pub begins_in_order : (full number len limit : ℕ) (payload head rest : List ℕ) → number < 256 → head ≡ header len (number_of full number) → full * most + len ≤ limit
    → (l : ℕ) × (others : List ℕ) × (l ≤ limit) × (raw most full number payload head ++ rest ≡ header l number ++ others)
begins_in_order zero number len limit payload head rest b is within = (
  len,
  payload ++ rest,
  omega arith,
  ap (λ h. (h ++ payload) ++ rest) is ∙ ap (λ n. (header len n ++ payload) ++ rest) (number_first number b) ∙ append_assoc (header len number) payload rest,
)
begins_in_order (suc full) number len limit payload head rest b is within = (
  most,
  (take most payload ++ raw most full (next number) (drop most payload) head) ++ rest,
  omega arith,
  append_assoc (header most number) (take most payload ++ raw most full (next number) (drop most payload) head) rest,
)
