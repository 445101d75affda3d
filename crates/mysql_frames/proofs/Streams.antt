-- Bytes are one stream of payloads, which can be continued.
use Rattle.std.proofs.Common.{◌≡◌, ℕ, zero, suc, List, [], ◌∷◌, ◌++◌, length, refl, sym, ap, subst, ◌∙◌, append_assoc}
use Rattle.mysql_frames.specs.Frames.{header, most, next, FramedIn, Framed, Stream}
use Rattle.mysql_frames.specs.FrameReader.{NoneWhole}
use Rattle.mysql_frames.proofs.Peel.{framed_once}

-- frames with more bytes after them
pub framed_more : (size full number : ℕ) (payload : List ℕ) (after : ℕ) (bytes rest more : List ℕ) → FramedIn size full number payload after bytes rest → FramedIn size full number payload after (bytes ++ more) (rest ++ more)
framed_more size zero number payload after bytes rest more h =
    (h.0, ap (λ b. b ++ more) h.1 ∙ append_assoc (header (length payload) number) (payload ++ rest) more ∙ ap (λ b. header (length payload) number ++ b) (append_assoc payload rest more), h.2)
framed_more size (suc full) number payload after bytes rest more h = (
  h.0,
  h.1,
  h.2 ++ more,
  h.3,
  h.4,
  ap (λ b. b ++ more) h.5 ∙ append_assoc (header size number) (h.0 ++ h.2) more ∙ ap (λ b. header size number ++ b) (append_assoc h.0 h.2 more),
  framed_more size full (next number) h.1 after h.2 rest more h.6,
)

pub stream_more : (number : ℕ) (payloads : List (List ℕ)) (after : ℕ) (bytes rest more : List ℕ) → Stream number payloads after bytes rest → Stream number payloads after (bytes ++ more) (rest ++ more)
stream_more number [] after bytes rest more h = (h.0, ap (λ b. b ++ more) h.1)
stream_more number (p ∷ ps) after bytes rest more h =
    (h.0, h.1 ++ more, (h.2.0, framed_more most h.2.0 number p h.0 bytes h.1 more h.2.1), stream_more h.0 ps after h.1 rest more h.3)

-- one more payload
pub stream_then : (number : ℕ) (payloads : List (List ℕ)) (mid : ℕ) (bytes rest : List ℕ) (payload : List ℕ) (after : ℕ) (left : List ℕ)
    → Stream number payloads mid bytes rest → Framed mid payload after rest left → Stream number (payloads ++ payload ∷ []) after bytes left
stream_then number [] mid bytes rest payload after left h f =
    (after, left, subst (λ n. Framed n payload after bytes left) (sym h.0) (subst (λ b. Framed mid payload after b left) (sym h.1) f), (refl, refl))
stream_then number (p ∷ ps) mid bytes rest payload after left h f = (h.0, h.1, h.2, stream_then h.0 ps mid h.1 rest payload after left h.3 f)

-- up to a rest without a payload, bytes are the frames of exactly one list of payloads
pub stream_once : (number : ℕ) (ps qs : List (List ℕ)) (a b : ℕ) (bytes r s : List ℕ)
    → Stream number ps a bytes r → Stream number qs b bytes s → NoneWhole a r → NoneWhole b s → (ps ≡ qs) × (a ≡ b) × (r ≡ s)
stream_once number [] [] a b bytes r s g h x y = (refl, sym g.0 ∙ h.0, sym g.1 ∙ h.1)
stream_once number [] (q ∷ qs) a b bytes r s g h x y =
    absurd (x q h.0 h.1 (subst (λ n. Framed n q h.0 r h.1) g.0 (subst (λ bs. Framed number q h.0 bs h.1) g.1 h.2)))
stream_once number (p ∷ ps) [] a b bytes r s g h x y =
    absurd (y p g.0 g.1 (subst (λ n. Framed n p g.0 s g.1) h.0 (subst (λ bs. Framed number p g.0 bs g.1) h.1 g.2)))
stream_once number (p ∷ ps) (q ∷ qs) a b bytes r s g h x y =
    let o = framed_once most g.2.0 h.2.0 number p q g.0 h.0 bytes g.1 h.1 g.2.1 h.2.1 in
    let more : Stream h.0 ps a h.1 r = subst (λ n. Stream n ps a h.1 r) o.1 (subst (λ bs. Stream g.0 ps a bs r) o.2 g.3) in
    let u = stream_once h.0 ps qs a b h.1 r s more h.3 x y in
    (ap (λ z. z ∷ ps) o.0 ∙ ap (λ zs. q ∷ zs) u.0, u.1, u.2)
