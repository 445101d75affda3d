-- The packets of one side are a unique list.
use Rattle.std.proofs.Common.{◌≡◌, ℕ, Bool, true, false, List, [], ◌∷◌, ◌++◌, if◌then◌else◌, refl, sym, ap, subst, ◌∙◌, append_assoc, append-nil}
use Rattle.mysql_conversation.specs.declared.packet_kind.Side.{Side}
use Rattle.mysql_conversation.specs.declared.packet_kind.Side.TheVariants.{Client, Server}
use Rattle.mysql_frames.specs.Frames.{Framed, FramedIn, most}
use Rattle.mysql_frames.proofs.Peel.{framed_once}
use Rattle.mysql_frames.proofs.Streams.{framed_more}
use Rattle.mysql_recorder.specs.Frames.{AreFrames, NoneComes, AreFrom, Piece, joined, ComeIn, is_side, packets_of, bytes_of, client_with, server_with, of_side, sent}
use Rattle.mysql_recorder.specs.Lines.{Heard, heard}
use Rattle.mysql_recorder.specs.Shown.{Item}
use Rattle.mysql_recorder.proofs.Frames.{framed_number}

-- ---- frames one after another

pub frames_more : (xs : List Item) (bytes rest more : List ℕ) → AreFrames xs bytes rest → AreFrames xs (bytes ++ more) (rest ++ more)
frames_more [] bytes rest more h = ap (λ b. b ++ more) h
frames_more (x ∷ xs) bytes rest more h =
    (h.0, h.1 ++ more, (h.2.0, framed_more most h.2.0 x.sequence x.placed.packet.payload h.0 bytes h.1 more h.2.1), frames_more xs h.1 rest more h.3)

pub frames_append : (xs ys : List Item) (bytes mid rest : List ℕ) → AreFrames xs bytes mid → AreFrames ys mid rest → AreFrames (xs ++ ys) bytes rest
frames_append [] ys bytes mid rest h g = subst (λ b. AreFrames ys b rest) (sym h) g
frames_append (x ∷ xs) ys bytes mid rest h g = (h.0, h.1, h.2, frames_append xs ys h.1 mid rest h.3 g)

-- up to a rest without a payload, bytes are the frames of exactly one list of payloads
pub frames_once : (xs ys : List Item) (bytes r s : List ℕ) → AreFrames xs bytes r → AreFrames ys bytes s → NoneComes r → NoneComes s → (sent xs ≡ sent ys) × (r ≡ s)
frames_once [] [] bytes r s g h x y = (refl, sym g ∙ h)
frames_once [] (q ∷ ys) bytes r s g h x y =
    absurd (x q.sequence q.placed.packet.payload h.0 h.1 (subst (λ b. Framed q.sequence q.placed.packet.payload h.0 b h.1) g h.2))
frames_once (p ∷ xs) [] bytes r s g h x y =
    absurd (y p.sequence p.placed.packet.payload g.0 g.1 (subst (λ b. Framed p.sequence p.placed.packet.payload g.0 b g.1) h g.2))
frames_once (p ∷ xs) (q ∷ ys) bytes r s g h x y =
    let number : p.sequence ≡ q.sequence =
    sym (framed_number most g.2.0 p.sequence p.placed.packet.payload g.0 bytes g.1 g.2.1) ∙ framed_number most h.2.0 q.sequence q.placed.packet.payload h.0 bytes h.1 h.2.1 in
    let o = framed_once most g.2.0 h.2.0 q.sequence p.placed.packet.payload q.placed.packet.payload g.0 h.0 bytes g.1 h.1
    (subst (λ n. FramedIn most g.2.0 n p.placed.packet.payload g.0 bytes g.1) number g.2.1) h.2.1 in
    let u = frames_once xs ys h.1 r s (subst (λ b. AreFrames xs b r) o.2 g.3) h.3 x y in (
      ap (λ n. record { number = n; payload = p.placed.packet.payload } ∷ sent xs) number
          ∙ ap (λ b. record { number = q.sequence; payload = b } ∷ sent xs) o.0
          ∙ ap (λ zs. record { number = q.sequence; payload = q.placed.packet.payload } ∷ zs) u.0,
      u.1,
    )

-- ---- one side

byte_at : (is : Bool) (b : ℕ) (xs ys zs : List ℕ) → xs ≡ ys ++ zs → (if is then b ∷ xs else xs) ≡ (if is then b ∷ ys else ys) ++ zs
byte_at true b xs ys zs e = ap (λ t. b ∷ t) e
byte_at false b xs ys zs e = e

in_front : {A : Type 0} (is : Bool) (x : A) {xs ys : List A} → is ≡ true → xs ≡ ys → (if is then x ∷ xs else xs) ≡ x ∷ ys
in_front true x e h = ap (λ t. x ∷ t) h
in_front false x e h = cc

left_out : {A : Type 0} (is : Bool) (x : A) {xs ys : List A} → is ≡ false → xs ≡ ys → (if is then x ∷ xs else xs) ≡ ys
left_out true x e h = cc
left_out false x e h = h

bytes-append : (side : Side) (xs ys : List Heard) → bytes_of side (xs ++ ys) ≡ bytes_of side xs ++ bytes_of side ys
bytes-append side [] ys = refl
bytes-append side (x ∷ xs) ys = byte_at (is_side side x.from) x.byte (bytes_of side (xs ++ ys)) (bytes_of side xs) (bytes_of side ys) (bytes-append side xs ys)

same_side : (side : Side) → is_side side side ≡ true
same_side Client = refl
same_side Server = refl

pub bytes_heard : (side : Side) (bytes : List ℕ) → bytes_of side (heard side bytes) ≡ bytes
bytes_heard side [] = refl
bytes_heard side (b ∷ bytes) = in_front (is_side side side) b (same_side side) (bytes_heard side bytes)

bytes_other : (side other : Side) (bytes : List ℕ) → is_side side other ≡ false → bytes_of side (heard other bytes) ≡ []
bytes_other side other [] e = refl
bytes_other side other (b ∷ bytes) e = left_out (is_side side other) b e (bytes_other side other bytes e)

own : (side : Side) (here later : List Item) → AreFrom side here → packets_of side (here ++ later) ≡ here ++ packets_of side later
own side [] later h = refl
own side (x ∷ here) later h =
    in_front (is_side side x.placed.packet.from) x (ap (is_side side) h.0 ∙ same_side side) (own side here later h.1)

others : (side other : Side) (here later : List Item) → is_side side other ≡ false → AreFrom other here → packets_of side (here ++ later) ≡ packets_of side later
others side other [] later e h = refl
others side other (x ∷ here) later e h =
    left_out (is_side side x.placed.packet.from) x (ap (is_side side) h.0 ∙ e) (others side other here later e h.1)

step_own : (side : Side) (here later items : List Item) (bytes held left rest : List ℕ) (more : List Heard)
    → items ≡ here ++ later → AreFrom side here → AreFrames here (held ++ bytes) left → AreFrames (packets_of side later) (left ++ bytes_of side more) rest
    → AreFrames (packets_of side items) (held ++ bytes_of side (heard side bytes ++ more)) rest
step_own side here later items bytes held left rest more e from h g =
    let stream : held ++ bytes_of side (heard side bytes ++ more) ≡ (held ++ bytes) ++ bytes_of side more =
    ap (λ b. held ++ b) (bytes-append side (heard side bytes) more ∙ ap (λ b. b ++ bytes_of side more) (bytes_heard side bytes)) ∙ sym (append_assoc held bytes (bytes_of side more)) in
    subst (λ xs. AreFrames xs (held ++ bytes_of side (heard side bytes ++ more)) rest) (sym (ap (packets_of side) e ∙ own side here later from))
    (subst (λ b. AreFrames (here ++ packets_of side later) b rest) (sym stream)
    (frames_append here (packets_of side later) ((held ++ bytes) ++ bytes_of side more) (left ++ bytes_of side more) rest
    (frames_more here (held ++ bytes) left (bytes_of side more) h) g))

step_other : (side other : Side) (here later items : List Item) (bytes held rest : List ℕ) (more : List Heard)
    → is_side side other ≡ false → items ≡ here ++ later → AreFrom other here → AreFrames (packets_of side later) (held ++ bytes_of side more) rest
    → AreFrames (packets_of side items) (held ++ bytes_of side (heard other bytes ++ more)) rest
step_other side other here later items bytes held rest more apart e from g =
    let stream : bytes_of side (heard other bytes ++ more) ≡ bytes_of side more =
    bytes-append side (heard other bytes) more ∙ ap (λ b. b ++ bytes_of side more) (bytes_other side other bytes apart) in
    subst (λ xs. AreFrames xs (held ++ bytes_of side (heard other bytes ++ more)) rest) (sym (ap (packets_of side) e ∙ others side other here later apart from))
    (subst (λ b. AreFrames (packets_of side later) (held ++ b) rest) (sym stream) g)

by_piece : (side other : Side) (bytes client server : List ℕ) (pieces : List Piece) (items : List Item) (rest : List ℕ) (here later : List Item) (left : List ℕ)
    → items ≡ here ++ later → AreFrom other here → AreFrames here (of_side other client server ++ bytes) left
    → AreFrames (packets_of side later) (of_side side (client_with other left client) (server_with other left server) ++ bytes_of side (joined pieces)) rest
    → AreFrames (packets_of side items) (of_side side client server ++ bytes_of side (heard other bytes ++ joined pieces)) rest
by_piece Client Client bytes client server pieces items rest here later left e from h g = step_own Client here later items bytes client left rest (joined pieces) e from h g
by_piece Client Server bytes client server pieces items rest here later left e from h g = step_other Client Server here later items bytes client rest (joined pieces) refl e from g
by_piece Server Client bytes client server pieces items rest here later left e from h g = step_other Server Client here later items bytes server rest (joined pieces) refl e from g
by_piece Server Server bytes client server pieces items rest here later left e from h g = step_own Server here later items bytes server left rest (joined pieces) e from h g

pub of_one_side : (side : Side) (client server : List ℕ) (pieces : List Piece) (items : List Item) (c s : List ℕ) → ComeIn client server pieces items c s
    → AreFrames (packets_of side items) (of_side side client server ++ bytes_of side (joined pieces)) (of_side side c s)
of_one_side side client server [] items c s h = subst (λ xs. AreFrames (packets_of side xs) (of_side side client server ++ []) (of_side side c s)) (sym h.0)
    (append-nil (of_side side client server) ∙ ap (λ x. of_side side x server) h.1 ∙ ap (of_side side c) h.2)
of_one_side side client server (p ∷ pieces) items c s h = by_piece side p.side p.bytes client server pieces items (of_side side c s) h.0 h.1 h.2 h.3 h.4 h.5
    (of_one_side side (client_with p.side h.2 client) (server_with p.side h.2 server) pieces h.1 c s h.7)
