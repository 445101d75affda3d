-- Packets of streams, piece by piece.
use Rattle.std.proofs.Common.{◌≡◌, Bool, true, false, ℕ, ◌+◌, ◌<◌, ◌≤◌, zero, suc, List, [], ◌∷◌, ◌++◌, length, slice_index, refl, sym, ap, subst, ◌∙◌, append_assoc, append-nil, length-append, arith}
use Rattle.mysql_conversation.specs.declared.packet_kind.Side.{Side}
use Rattle.mysql_recorder.specs.declared.entry.Layout.{Layout}
use Rattle.mysql_frames.specs.FrameReader.{ReaderState, NoneWhole, HandsOut, HoldsAll}
use Rattle.mysql_frames.specs.Frames.{FramedIn, Framed, most, next}
use Rattle.mysql_frames.proofs.Peel.{four}
use Rattle.mysql_recorder.specs.Frames.{AreFrames, NoneComes, AreFrom, Piece, joined, of_side, client_with, server_with, ComeIn, IsNumbered}
use Rattle.mysql_recorder.specs.Lines.{heard}
use Rattle.mysql_recorder.specs.Shown.{Item, placed, Appends, Writes}
use Rattle.mysql_recorder.specs.Streams.{as_sent, number_sent, header_comes}

-- ---- lists

pub placed-append : (a b : List Item) → placed (a ++ b) ≡ placed a ++ placed b
placed-append [] b = refl
placed-append (x ∷ a) b = ap (λ xs. x.placed ∷ xs) (placed-append a b)

pub writes_then : (layout : Layout) (before xs ys : List Item) (a b c : List ℕ) → Writes layout before xs a b → Writes layout (before ++ xs) ys b c → Writes layout before (xs ++ ys) a c
writes_then layout before [] ys a b c h g = subst (λ t. Writes layout before ys t c) (sym h) (subst (λ q. Writes layout q ys b c) (append-nil before) g)
writes_then layout before (x ∷ xs) ys a b c h g =
    (h.0, h.1, writes_then layout (before ++ x ∷ []) xs ys h.0 b c h.2 (subst (λ q. Writes layout q ys b c) (sym (append_assoc before (x ∷ []) xs)) g))

pub writes_one : (layout : Layout) (before xs : List Item) (x : Item) (a b c : List ℕ) → Writes layout before xs a b → Appends layout (placed (before ++ xs)) x b c → Writes layout before (xs ++ x ∷ []) a c
writes_one layout before xs x a b c h g = writes_then layout before xs (x ∷ []) a b c h (c, g, refl)

pub from_then : (side : Side) (xs ys : List Item) → AreFrom side xs → AreFrom side ys → AreFrom side (xs ++ ys)
from_then side [] ys h g = g
from_then side (x ∷ xs) ys h g = (h.0, from_then side xs ys h.1 g)

pub joined-append : (a : List Piece) (p : Piece) → joined (a ++ p ∷ []) ≡ joined a ++ heard p.side p.bytes
joined-append [] p = append-nil (heard p.side p.bytes)
joined-append (x ∷ a) p = ap (λ xs. heard x.side x.bytes ++ xs) (joined-append a p) ∙ sym (append_assoc (heard x.side x.bytes) (joined a) (heard p.side p.bytes))

-- ---- frames

pub frames_then : (here : List Item) (x : Item) (bytes mid : List ℕ) (after : ℕ) (rest : List ℕ) → AreFrames here bytes mid → Framed x.sequence x.placed.packet.payload after mid rest
    → AreFrames (here ++ x ∷ []) bytes rest
frames_then [] x bytes mid after rest h f = (after, rest, subst (λ b. Framed x.sequence x.placed.packet.payload after b rest) (sym h) f, refl)
frames_then (y ∷ here) x bytes mid after rest h f = (h.0, h.1, h.2, frames_then here x h.1 mid after rest h.3 f)

pub framed_number : (size full number : ℕ) (payload : List ℕ) (after : ℕ) (bytes rest : List ℕ) → FramedIn size full number payload after bytes rest → slice_index bytes 3 ≡ number
framed_number size zero number payload after bytes rest h = ap (λ b. slice_index b 3) h.1
framed_number size (suc full) number payload after bytes rest h = ap (λ b. slice_index b 3) h.5

pub framed_shorter : (size full number : ℕ) (payload : List ℕ) (after : ℕ) (bytes rest : List ℕ) → FramedIn size full number payload after bytes rest → length rest + 4 ≤ length bytes
framed_shorter size zero number payload after bytes rest h = omega (arith, ap length h.1, length-append payload rest)
framed_shorter size (suc full) number payload after bytes rest h =
    omega (arith, ap length h.5, length-append h.0 h.2, framed_shorter size full (next number) h.1 after h.2 rest h.6)

pub framed_less : (number : ℕ) (payload : List ℕ) (after : ℕ) (held input rest : List ℕ) → Framed number payload after (held ++ input) rest → length rest + 4 ≤ length held + length input
framed_less number payload after held input rest h = omega (arith, framed_shorter most h.0 number payload after (held ++ input) rest h.1, length-append held input)

-- if the header is complete, the payload has its number
index_front : (held input : List ℕ) → 4 ≤ length held → slice_index (held ++ input) 3 ≡ slice_index held 3
index_front (a ∷ b ∷ c ∷ d ∷ held) input h = refl
index_front _ input h = absurd (omega arith)

by_header : (is : Bool) (reader : ReaderState) (input : List ℕ) → header_comes reader input ≡ is → IsNumbered reader → 4 ≤ length (reader.held ++ input)
    → number_sent is reader input ≡ slice_index (reader.held ++ input) 3
by_header true reader input e h long = refl
by_header false reader input e h long =
    let there : 4 ≤ length reader.held = grind arith in
    h there ∙ sym (index_front reader.held input there)

pub numbered_sent : (reader : ReaderState) (input : List ℕ) → IsNumbered reader → 4 ≤ length (reader.held ++ input) → (as_sent reader input).number ≡ slice_index (reader.held ++ input) 3
unfolding as_sent
numbered_sent reader input h long = by_header (header_comes reader input) reader input refl h long

pub sent-held : (reader : ReaderState) (input : List ℕ) → (as_sent reader input).held ≡ reader.held
unfolding as_sent
sent-held reader input = refl

pub sent-limit : (reader : ReaderState) (input : List ℕ) → (as_sent reader input).limit ≡ reader.limit
unfolding as_sent
sent-limit reader input = refl

pub handed_out : (old new : ReaderState) (input payload rest : List ℕ) → HandsOut (as_sent old input) input payload new rest
    → Framed (as_sent old input).number payload new.number (old.held ++ input) rest
handed_out old new input payload rest h = subst (λ held. Framed (as_sent old input).number payload new.number (held ++ input) rest) (sent-held old input) h.framed

pub handed_numbered : (old new : ReaderState) (input payload rest : List ℕ) → HandsOut (as_sent old input) input payload new rest → IsNumbered new
handed_numbered old new input payload rest h long = absurd (omega (arith, ap length h.none_held))

pub held_all : (old new : ReaderState) (input rest : List ℕ) → HoldsAll (as_sent old input) input new rest → new.held ≡ old.held ++ input
held_all old new input rest h = h.held ∙ ap (λ held. held ++ input) (sent-held old input)

pub held_numbered : (old new : ReaderState) (input rest : List ℕ) → IsNumbered old → HoldsAll (as_sent old input) input new rest → IsNumbered new
held_numbered old new input rest n h long =
    let e : new.held ≡ old.held ++ input = held_all old new input rest h in
    h.number ∙ numbered_sent old input n (subst (λ xs. 4 ≤ length xs) e long) ∙ ap (λ xs. slice_index xs 3) (sym e)

pub none_comes : (reader : ReaderState) → IsNumbered reader → NoneWhole reader.number reader.held → NoneComes reader.held
none_comes reader n none number payload after rest f =
    let long : 4 ≤ length reader.held = four most f.0 number payload after reader.held rest f.1 in
    let same : number ≡ reader.number = sym (framed_number most f.0 number payload after reader.held rest f.1) ∙ sym (n long) in
    none payload after rest (subst (λ m. Framed m payload after reader.held rest) same f)

pub packets_less : (old new : ReaderState) (input payload rest : List ℕ) → HandsOut (as_sent old input) input payload new rest
    → length new.held + length rest < length old.held + length input
packets_less old new input payload rest h =
    omega (arith, ap length h.none_held, framed_less (as_sent old input).number payload new.number old.held input rest (handed_out old new input payload rest h))

-- ---- pieces

pub come_then : (client server : List ℕ) (pieces : List Piece) (items : List Item) (c s : List ℕ) (p : Piece) (here : List Item) (left : List ℕ)
    → ComeIn client server pieces items c s → AreFrom p.side here → AreFrames here (of_side p.side c s ++ p.bytes) left → NoneComes left
    → ComeIn client server (pieces ++ p ∷ []) (items ++ here) (client_with p.side left c) (server_with p.side left s)
come_then client server [] items c s p here left h from frames none = (
  here,
  [],
  left,
  ap (λ xs. xs ++ here) h.0 ∙ sym (append-nil here),
  from,
  subst (λ x. AreFrames here (of_side p.side x server ++ p.bytes) left) (sym h.1) (subst (λ y. AreFrames here (of_side p.side c y ++ p.bytes) left) (sym h.2) frames),
  none,
  (refl, ap (client_with p.side left) h.1, ap (server_with p.side left) h.2),
)
come_then client server (q ∷ pieces) items c s p here left h from frames none = (
  h.0,
  h.1 ++ here,
  h.2,
  ap (λ xs. xs ++ here) h.3 ∙ append_assoc h.0 h.1 here,
  h.4,
  h.5,
  h.6,
  come_then (client_with q.side h.2 client) (server_with q.side h.2 server) pieces h.1 c s p here left h.7 from frames none,
)
