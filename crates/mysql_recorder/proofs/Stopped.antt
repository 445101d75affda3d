-- An unexpected packet, step by step.
use Rattle.std.proofs.Common.{◌≡◌, ◌≢◌, ◌⊎◌, inl, inr, ℕ, true, List, ◌++◌, Result, Ok, Err, IfOk, IfErr, OnOk, refl, sym, subst, ◌∙◌, take, drop, take-append-drop}
use Rattle.mysql_conversation.specs.Agreements.{Agreed}
use Rattle.mysql_conversation.specs.declared.packet_kind.Side.{Side}
use Rattle.mysql_conversation.specs.declared.packet_kind_tag.PacketKindTag.{PacketKindTag}
use Rattle.mysql_conversation.specs.declared.pipeline.SessionError.{SessionError}
use Rattle.mysql_conversation.specs.Pipelined.{Numbered}
use Rattle.mysql_frames.specs.FrameReader.{HandsOut}
use Rattle.mysql_frames.specs.Frames.{Framed}
use Rattle.mysql_observer.specs.Observed.{Observed}
use Rattle.mysql_recorder.specs.Frames.{Piece}
use Rattle.mysql_recorder.specs.Recorded.{Recorded}
use Rattle.mysql_recorder.specs.Recorded as recorded
use Rattle.mysql_recorder.specs.Refused.{ShowsRefused}
use Rattle.mysql_recorder.specs.Refusals.{IfRefused}
use Rattle.mysql_recorder.specs.Shown.{Item, placed, Writes}
use Rattle.mysql_recorder.specs.Sides.{IsAt, Reads, Stand, has_lost, layout, stream_of}
use Rattle.mysql_recorder.specs.Sides as sides
use Rattle.mysql_recorder.specs.Stops.{StopsIn, PieceStops, LineStops, StopsAfter, TextStops, Stops}
use Rattle.mysql_recorder.specs.Streams.{as_sent}
use Rattle.mysql_recorder.specs.declared.error.RecordingError.{RecordingError}
use Rattle.mysql_recorder.specs.declared.error.RecordingError.TheVariants as error
use Rattle.mysql_recorder.specs.declared.packets.Packets.{Packets}
use Rattle.mysql_recorder.specs.declared.packets.Taken.{Taken}
use Rattle.mysql_recorder.specs.declared.packets.Taken.TheVariants as taken_as
use Rattle.mysql_recorder.specs.declared.recording.Recording.{Recording}
use Rattle.mysql_recorder.specs.declared.piece.Came.{Came}
use Rattle.mysql_recorder.specs.declared.piece.Came.TheVariants as came_as
use Rattle.mysql_recorder.specs.declared.sides.Sides.{Sides}
use Rattle.mysql_recorder.specs.declared.stream.Stream.{Stream}
use Rattle.mysql_recorder.proofs.Frames.{handed_out}
use Rattle.mysql_recorder.proofs.Goes.{goes_same, is_lost, stream_holds, stream_in_step}
use Rattle.mysql_recorder.proofs.Texts.{shown_of}
use Rattle.mysql_recorder.proofs.Wholes.{observed_session}

-- a property of each reason
pub if_refused : (e : RecordingError) (P Q : SessionError → Type 0) → ((why : SessionError) → P why → Q why) → IfRefused e P → IfRefused e Q
if_refused (error.Refused why) P Q f h = f why h
if_refused _ _ _ f h = tt

pub never : (e : RecordingError) (Q : SessionError → Type 0) → IfRefused e (λ why. ⊥) → IfRefused e Q
never e Q h = if_refused e (λ why. ⊥) Q (λ why n. absurd n) h

pub at_shown : {P : Type 0} (r : Result Taken RecordingError) → r ≡ Ok taken_as.Shown → IfOk r (λ t. t ≡ taken_as.Shown → P) → P
at_shown (Ok t) e h = let shown : t ≡ taken_as.Shown = cc in h shown
at_shown (Err x) e h = cc

pub at_refused : {P : Type 0} (r : Result Taken RecordingError) (a : Agreed) → r ≡ Ok (taken_as.Refused a) → IfOk r (λ t. t ≢ taken_as.Shown → P) → P
at_refused (Ok t) a e h =
    let refused : t ≡ taken_as.Refused a = cc in
    h (λ shown. let no : taken_as.Refused a ≡ taken_as.Shown = sym refused ∙ shown in cc)
at_refused (Err x) a e h = cc

-- the result for a piece is complete, or something is lost
pub goes_on_came : (came : Came) (r : Result (Unit {0}) RecordingError) (more : List Piece) (old mid new : Sides) (before m after : List ℕ)
    → (came ≡ came_as.Whole → sides.GoesOn more old mid before m) → (came ≡ came_as.Whole → sides.IsSame mid new × (after ≡ m))
    → (came ≢ came_as.Whole → OnOk r (has_lost new ≡ true)) → OnOk r (sides.GoesOn more old new before after)
goes_on_came came (Err e) more old mid new before m after goes same lost = tt
goes_on_came came_as.Whole (Ok u) more old mid new before m after goes same lost =
    let s = same refl in
    subst (λ t. sides.GoesOn more old new before t) (sym s.1) (goes_same more old mid new before m (goes refl) s.0)
goes_on_came (came_as.Refused a n) (Ok u) more old mid new before m after goes same lost = is_lost more old new before after (lost (λ e. cc))
goes_on_came (came_as.NoFrames x n) (Ok u) more old mid new before m after goes same lost = is_lost more old new before after (lost (λ e. cc))

-- an unexpected packet is returned
pub stops_in : (all : List PacketKindTag) (side : Side) (bytes input rest : List ℕ) (items here : List Item) (s old new : Stream) (p po : Packets) (a b c : List ℕ) (sequence : ℕ) (payload : List ℕ) (why : SessionError)
    → Reads side bytes input items here s old p po a b
    → HandsOut (as_sent old.reader input) input payload new.reader rest → sequence ≡ (as_sent old.reader input).number
    → po.layout ≡ p.layout → ShowsRefused all po.layout side sequence payload (placed (items ++ here)) why b c
    → StopsIn all p.layout side (s.reader.held ++ bytes) items why a c
stops_in all side bytes input rest items here s old new p po a b c sequence payload why r h n l shown = (
  here,
  sequence,
  payload,
  new.reader.number,
  old.reader.held ++ input,
  rest,
  b,
  r.from,
  r.frames,
  subst (λ m. Framed m payload new.reader.number (old.reader.held ++ input) rest) (sym n) (handed_out old.reader new.reader input payload rest h),
  r.written,
  observed_session po.observer (placed (items ++ here)) r.observed,
  subst (λ y. ShowsRefused all y side sequence payload (placed (items ++ here)) why b c) l shown,
)

pub reads_refused : (all : List PacketKindTag) (side : Side) (bytes input rest : List ℕ) (items here : List Item) (s old new : Stream) (p po : Packets) (a b c : List ℕ) (sequence : ℕ) (payload : List ℕ) (e : RecordingError)
    → Reads side bytes input items here s old p po a b
    → HandsOut (as_sent old.reader input) input payload new.reader rest → sequence ≡ (as_sent old.reader input).number
    → po.layout ≡ p.layout
    → ((xs : List Numbered) → Observed po.observer xs → IfRefused e (λ why. ShowsRefused all po.layout side sequence payload xs why b c))
    → IfRefused e (λ why. StopsIn all p.layout side (s.reader.held ++ bytes) items why a c)
reads_refused all side bytes input rest items here s old new p po a b c sequence payload e r h n l shows =
    if_refused e (λ why. ShowsRefused all po.layout side sequence payload (placed (items ++ here)) why b c) (λ why. StopsIn all p.layout side (s.reader.held ++ bytes) items why a c)
    (λ why shown. stops_in all side bytes input rest items here s old new p po a b c sequence payload why r h n l shown)
    (shows (placed (items ++ here)) r.observed)

pub side_stops : (side : Side) (r : Result Came RecordingError) (all : List PacketKindTag) (s : Sides) (bytes before after : List ℕ)
    → IfErr r (λ e. (items : List Item) → IsAt (stream_of side s) s.packets items → IfRefused e (λ why. StopsIn all s.packets.layout side ((stream_of side s).reader.held ++ bytes) items why before after))
    → IfErr r (λ e. PieceStops all side bytes s e before after)
side_stops side (Ok came) all s bytes before after h = tt
side_stops side (Err e) all s bytes before after h = λ pieces items k.
    subst (λ held. IfRefused e (λ why. StopsIn all s.packets.layout side (held ++ bytes) items why before after)) (stream_holds side s) (h items ((stream_in_step side s pieces items k).numbered, k.observed))

-- what is never refused
pub piece_never : (r : Result (Unit {0}) RecordingError) (all : List PacketKindTag) (side : Side) (bytes : List ℕ) (s : Sides) (before after : List ℕ)
    → IfErr r (λ e. IfRefused e (λ why. ⊥)) → IfErr r (λ e. PieceStops all side bytes s e before after)
piece_never (Ok u) all side bytes s before after h = tt
piece_never (Err e) all side bytes s before after h = λ pieces items k. never e _ h

-- ---- recordings

pub line_stops : (r : Result (Unit {0}) RecordingError) (all : List PacketKindTag) (old : Recording) (bytes before after : List ℕ) → bytes ≡ old.line.bytes.items
    → IfErr r (λ e. PieceStops all old.line.side bytes old.sides e before after) → IfErr r (λ e. LineStops all old e before after)
line_stops (Ok u) all old bytes before after is h = tt
line_stops (Err e) all old bytes before after is h = subst (λ b. PieceStops all old.line.side b old.sides e before after) is h

after_text : (all : List PacketKindTag) (r : Recording) (text : List ℕ) (items : List Item) (e : RecordingError) (before after : List ℕ) → Recorded r text items → LineStops all r e before after
    → IfRefused e (λ why. StopsAfter all (recorded.layout r) text items why before after)
after_text all r text items e before after h stops =
    if_refused e _ (λ why. StopsAfter all (recorded.layout r) text items why before after)
    (λ why s. record { side = r.line.side; bytes = r.line.bytes.items; shown = shown_of r text items h; stops = s }) (stops h.pieces items h.stand)

pub text_stops : (r : Result (Unit {0}) RecordingError) (all : List PacketKindTag) (old : Recording) (before after : List ℕ)
    → IfErr r (λ e. LineStops all old e before after) → IfErr r (λ e. TextStops all old e before after)
text_stops (Ok u) all old before after h = tt
text_stops (Err e) all old before after h = λ text items k. after_text all old text items e before after k h

-- the same for the place after a byte, which changes neither the line nor the sides
pub text_stops_at : (r : Result (Unit {0}) RecordingError) (all : List PacketKindTag) (old mid : Recording) (before after : List ℕ) → mid.line ≡ old.line → mid.sides ≡ old.sides
    → IfErr r (λ e. LineStops all mid e before after) → IfErr r (λ e. TextStops all old e before after)
text_stops_at r all old mid before after line sides h =
    text_stops r all old before after
    (subst (λ l. IfErr r (λ e. PieceStops all l.side l.bytes.items old.sides e before after)) line (subst (λ s. IfErr r (λ e. PieceStops all mid.line.side mid.line.bytes.items s e before after)) sides h))

-- after a front of the text
pub stops_after : (all : List PacketKindTag) (xs : List ℕ) (i : ℕ) (old mid new : Recording) (x y z : List ℕ) (e : RecordingError)
    → recorded.GoesOn (take i xs) old mid x y → (recorded.has_lost mid ≡ true → recorded.has_lost new ≡ true) → recorded.layout mid ≡ recorded.layout old
    → TextStops all mid e y z → Stops all xs old new e x z
stops_after all xs i old mid new x y z e first lost same stops text items h =
    elim (first text items h) as (λ _. (recorded.has_lost new ≡ true) ⊎ IfRefused e (λ why. (front : List ℕ) × (back : List ℕ) × (here : List Item) × (m : List ℕ) × (xs ≡ front ++ back)
    × Writes (recorded.layout old) items here x m × StopsAfter all (recorded.layout old) (text ++ front) (items ++ here) why m z)) [
      | inl f ↦ inl (lost f)
      | inr f ↦ inr (if_refused e (λ why. StopsAfter all (recorded.layout mid) (text ++ take i xs) (items ++ f.0) why y z)
          (λ why. (front : List ℕ) × (back : List ℕ) × (here : List Item) × (m : List ℕ) × (xs ≡ front ++ back)
          × Writes (recorded.layout old) items here x m × StopsAfter all (recorded.layout old) (text ++ front) (items ++ here) why m z)
          (λ why s. (take i xs, drop i xs, f.0, y, sym (take-append-drop i xs), f.2, subst (λ l. StopsAfter all l (text ++ take i xs) (items ++ f.0) why y z) same s))
          (stops (text ++ take i xs) (items ++ f.0) f.1))
    ]
