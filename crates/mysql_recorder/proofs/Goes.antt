-- Two steps in turn.
use Rattle.std.proofs.Common.{◌≡◌, ◌⊎◌, inl, inr, ℕ, ◌+◌, ◌<◌, length, take, get_or, true, false, List, [], ◌∷◌, ◌++◌, Option, Some, Result, Ok, Err, IfOk, OnOk, refl, sym, ap, subst, ◌∙◌, append_assoc, append-nil}
use Rattle.std.proofs.lemmas.List.{take_more}
use Rattle.mysql_conversation.specs.declared.packet_kind.Side.{Side}
use Rattle.mysql_conversation.specs.declared.packet_kind.Side.TheVariants as side
use Rattle.mysql_observer.specs.Observed.{Observed}
use Rattle.mysql_recorder.specs.Frames.{Piece, joined, AreFrames, NoneComes, IsNumbered, ComeIn, of_side, client_with, server_with}
use Rattle.mysql_recorder.specs.Lines.{Heard, heard, IsRead, Stands, Passes}
use Rattle.mysql_recorder.specs.Recorded as recorded
use Rattle.mysql_recorder.specs.Recorded.{IsReadTo, Recorded, Takes}
use Rattle.mysql_recorder.specs.Shown.{Item, Writes, placed}
use Rattle.mysql_recorder.specs.Sides.{InStep, Stand, has_lost, layout, piece, stream_of, IsAt, Reads}
use Rattle.mysql_recorder.specs.Sides as sides
use Rattle.mysql_recorder.specs.declared.error.RecordingError.{RecordingError}
use Rattle.mysql_recorder.specs.declared.line.Said.TheVariants as says
use Rattle.mysql_recorder.specs.declared.recording.Recording.{Recording}
use Rattle.mysql_recorder.specs.declared.packets.Packets.{Packets}
use Rattle.mysql_recorder.specs.declared.piece.Came.{Came}
use Rattle.mysql_recorder.specs.declared.piece.Came.TheVariants as came_as
use Rattle.mysql_recorder.specs.declared.sides.Sides.{Sides}
use Rattle.mysql_recorder.specs.declared.stream.Stream.{Stream}
use Rattle.mysql_recorder.proofs.Frames.{joined-append, writes_then, come_then}
use Rattle.mysql_recorder.proofs.Texts.{line_ends, read_byte}

-- ---- sides

pub is_lost : (more : List Piece) (old new : Sides) (before after : List ℕ) → has_lost new ≡ true → sides.GoesOn more old new before after
is_lost more old new before after e pieces items h = inl e

pub sides_then : (a b : List Piece) (old mid new : Sides) (x y z : List ℕ) → sides.GoesOn a old mid x y → (has_lost mid ≡ true → has_lost new ≡ true) → layout mid ≡ layout old
    → sides.GoesOn b mid new y z → sides.GoesOn (a ++ b) old new x z
sides_then a b old mid new x y z first lost same second pieces items h =
    elim (first pieces items h) as (λ _. (has_lost new ≡ true) ⊎ ((here : List Item) × Stand new (pieces ++ (a ++ b)) (items ++ here) × Writes (layout old) items here x z)) [
      | inl e ↦ inl (lost e)
      | inr f ↦ elim (second (pieces ++ a) (items ++ f.0) f.1) as (λ _. (has_lost new ≡ true) ⊎ ((here : List Item) × Stand new (pieces ++ (a ++ b)) (items ++ here) × Writes (layout old) items here x z)) [
        | inl e ↦ inl e
        | inr g ↦ inr (
          f.0 ++ g.0,
          subst (λ ps. Stand new ps (items ++ (f.0 ++ g.0))) (append_assoc pieces a b) (subst (λ xs. Stand new ((pieces ++ a) ++ b) xs) (append_assoc items f.0 g.0) g.1),
          writes_then (layout old) items f.0 g.0 x y z f.2 (subst (λ l. Writes l (items ++ f.0) g.0 y z) same g.2),
        )
      ]
    ]

-- the stream of a piece
read_step : (side : Side) (bytes : List ℕ) (items here : List Item) (old new : Stream) (before after : Packets) (x y : List ℕ) (longest : ℕ) → Reads side bytes [] items here old new before after x y
    → NoneComes new.reader.held → new.passed ≡ old.passed → InStep old longest → InStep new longest
read_step side bytes items here old new before after x y longest r none passed h = record {
  numbered = r.numbered;
  limit = r.limit ∙ h.limit;
  none = none;
  none_passed = passed ∙ h.none_passed;
}

-- the stream of a side is in step, and holds its bytes
pub stream_in_step : (side : Side) (s : Sides) (pieces : List Piece) (items : List Item) → Stand s pieces items → InStep (stream_of side s) s.longest
stream_in_step side.Client s pieces items h = h.client
stream_in_step side.Server s pieces items h = h.server

pub stream_holds : (side : Side) (s : Sides) → (stream_of side s).reader.held ≡ of_side side s.client.reader.held s.server.reader.held
stream_holds side.Client s = refl
stream_holds side.Server s = refl

-- this is the stream of a side
abbrev pub with_stream : Side → Sides → Stream → Packets → Sides
with_stream side.Client s stream packets = record s { client = stream; packets = packets }
with_stream side.Server s stream packets = record s { server = stream; packets = packets }

stands_with : (side : Side) (s : Sides) (stream : Stream) (packets : Packets) (before pieces : List Piece) (old items : List Item) → Stand s before old
    → ComeIn [] [] pieces items (client_with side stream.reader.held s.client.reader.held) (server_with side stream.reader.held s.server.reader.held)
    → InStep stream s.longest → Observed packets.observer (placed items) → Stand (with_stream side s stream packets) pieces items
stands_with side.Client s stream packets before pieces old items h come in_step observed = record { come = come; client = in_step; server = h.server; observed = observed; nothing_lost = h.nothing_lost }
stands_with side.Server s stream packets before pieces old items h come in_step observed = record { come = come; client = h.client; server = in_step; observed = observed; nothing_lost = h.nothing_lost }

-- a piece of a side
pub read_piece : (side : Side) (r : Result Came RecordingError) (old : Sides) (new : Stream) (packets : Packets) (bytes before after : List ℕ)
    → IfOk r (λ came. came ≡ came_as.Whole → (items : List Item) → IsAt (stream_of side old) old.packets items
    → (here : List Item) × Reads side bytes [] items here (stream_of side old) new old.packets packets before after)
    → IfOk r (λ came. came ≡ came_as.Whole → IsNumbered (stream_of side old).reader → NoneComes new.reader.held)
    → new.passed ≡ (stream_of side old).passed
    → IfOk r (λ came. came ≡ came_as.Whole → sides.GoesOn (piece side bytes ∷ []) old (with_stream side old new packets) before after)
read_piece side (Err e) old new packets bytes before after reads none passed = tt
read_piece side (Ok came) old new packets bytes before after reads none passed = λ w pieces items h.
    let at = stream_in_step side old pieces items h in
    let r = reads w items (at.numbered, h.observed) in
    let last = none w at.numbered in
    let frames = subst (λ held. AreFrames r.0 (held ++ bytes) new.reader.held) (stream_holds side old)
    (subst (λ left. AreFrames r.0 ((stream_of side old).reader.held ++ bytes) left) (append-nil new.reader.held) r.1.frames) in
    inr (
      r.0,
      stands_with side old new packets pieces (pieces ++ piece side bytes ∷ []) items (items ++ r.0) h
          (come_then [] [] pieces items old.client.reader.held old.server.reader.held (piece side bytes) r.0 new.reader.held h.come r.1.from frames last)
          (read_step side bytes items r.0 (stream_of side old) new old.packets packets before after old.longest r.1 last passed at) r.1.observed,
      r.1.written,
    )

-- the expected answer and the options of the packets may differ
pub still_stand : (s : Sides) (answer : Option ℕ) (packets : Packets) (pieces : List Piece) (items : List Item) → packets.observer ≡ s.packets.observer
    → Stand s pieces items → Stand (record s { answer = answer; packets = packets }) pieces items
still_stand s answer packets pieces items e h = record {
  come = h.come;
  client = h.client;
  server = h.server;
  observed = subst (λ f. Observed f (placed items)) (sym e) h.observed;
  nothing_lost = h.nothing_lost;
}

pub goes_same : (more : List Piece) (old mid new : Sides) (before after : List ℕ) → sides.GoesOn more old mid before after → sides.IsSame mid new → sides.GoesOn more old new before after
goes_same more old mid new before after g e = subst (λ s. sides.GoesOn more old s before after) (sym e) (λ pieces items h.
    elim (g pieces items h) as (λ _. (has_lost mid ≡ true) ⊎ ((here : List Item) × Stand (record mid { answer = new.answer }) (pieces ++ more) (items ++ here) × Writes (layout old) items here before after)) [
      | inl f ↦ inl f
      | inr f ↦ inr (f.0, still_stand mid new.answer mid.packets (pieces ++ more) (items ++ f.0) refl f.1, f.2)
    ])

-- ---- recordings

-- the options of the packets may differ
pub still_recorded : (r : Recording) (packets : Packets) (text : List ℕ) (items : List Item) → packets.observer ≡ r.sides.packets.observer
    → Recorded r text items → Recorded (record r { sides = record r.sides { packets = packets } }) text items
still_recorded r packets text items e h = record {
  said = h.said;
  pieces = h.pieces;
  read = h.read;
  waits = h.waits;
  line = h.line;
  untaken = h.untaken;
  stand = still_stand r.sides r.sides.answer packets h.pieces items e h.stand;
}

taken : (mid new : Recording) (text : List ℕ) (said : List Heard) (pieces : List Piece) (items : List Item) (before after : List ℕ)
    → IsRead text mid.place said → said ≡ joined pieces ++ heard mid.line.side mid.line.bytes.items → Stand mid.sides pieces items
    → Takes mid new before after → new.place ≡ mid.place → new.line.bytes.items ≡ []
    → (new.line.is_untaken ≡ true → IsReadTo text new.place (joined (pieces ++ piece mid.line.side mid.line.bytes.items ∷ [])) [])
    → (recorded.has_lost new ≡ true) ⊎ ((here : List Item) × Recorded new text (items ++ here) × Writes (recorded.layout mid) items here before after)
taken mid new text said pieces items before after read waits stand takes place bytes untaken =
    let p : Piece = piece mid.line.side mid.line.bytes.items in
    elim (takes pieces items stand) as (λ _. (recorded.has_lost new ≡ true) ⊎ ((here : List Item) × Recorded new text (items ++ here) × Writes (recorded.layout mid) items here before after)) [
      | inl e ↦ inl e
      | inr f ↦ inr (
        f.0,
        record {
          said = said;
          pieces = pieces ++ p ∷ [];
          read = subst (λ at. IsRead text at said) (sym place) read;
          waits = waits ∙ sym (joined-append pieces p) ∙ sym (append-nil (joined (pieces ++ p ∷ []))) ∙ ap (λ b. joined (pieces ++ p ∷ []) ++ heard new.line.side b) (sym bytes);
          line = inl bytes;
          untaken = λ e. subst (λ b. IsReadTo text new.place (joined (pieces ++ p ∷ [])) (heard new.line.side b)) (sym bytes) (untaken e);
          stand = f.1;
        },
        f.2,
      )
    ]

pub takes_goes : (mid new : Recording) (before after : List ℕ) → Takes mid new before after → new.place ≡ mid.place → new.line.bytes.items ≡ [] → new.line.is_untaken ≡ false → recorded.GoesOn [] mid new before after
takes_goes mid new before after takes place bytes is_taken text items h =
    subst (λ t. (recorded.has_lost new ≡ true) ⊎ ((here : List Item) × Recorded new t (items ++ here) × Writes (recorded.layout mid) items here before after)) (sym (append-nil text))
    (taken mid new text h.said h.pieces items before after h.read h.waits h.stand takes place bytes (λ e. absurd (let no : true ≡ false = sym e ∙ is_taken in cc)))

-- the byte that ends a line
pub ends_goes : (old mid new : Recording) (c : ℕ) (before after : List ℕ)
    → ((line : List ℕ) (said : List Heard) → Stands old.place line said → Passes (Some says.End) c line said mid.place) → mid.line ≡ old.line → mid.sides ≡ old.sides
    → Takes mid new before after → new.place ≡ mid.place → new.line.bytes.items ≡ [] → recorded.GoesOn (c ∷ []) old new before after
ends_goes old mid new c before after passes line same takes place bytes text items h =
    subst (λ s. (recorded.has_lost new ≡ true) ⊎ ((here : List Item) × Recorded new (text ++ c ∷ []) (items ++ here) × Writes (layout s) items here before after)) same
    (taken mid new (text ++ c ∷ []) (h.said ++ []) h.pieces items before after
    (read_byte text h.said old.place mid.place c (Some says.End) h.read passes)
    (append-nil h.said ∙ h.waits ∙ ap (λ l. joined h.pieces ++ heard l.side l.bytes.items) (sym line))
    (subst (λ s. Stand s h.pieces items) (sym same) h.stand)
    takes place bytes
    (λ e. subst (λ said. IsReadTo (text ++ c ∷ []) new.place said [])
    (h.waits ∙ ap (λ l. joined h.pieces ++ heard l.side l.bytes.items) (sym line) ∙ sym (joined-append h.pieces (piece mid.line.side mid.line.bytes.items)))
    (subst (λ at. IsReadTo (text ++ c ∷ []) at h.said []) (sym place) (line_ends text h.said old.place mid.place c h.read passes))))

pub recorded_goes : (more : List ℕ) (old new : Recording) (text : List ℕ)
    → ((read : List ℕ) (items : List Item) → Recorded old read items → Recorded new (read ++ more) (items ++ [])) → recorded.GoesOn more old new text text
recorded_goes more old new text f read items h = inr ([], f read items h, refl)

pub recorded_stays : (r : Recording) (text : List ℕ) → recorded.GoesOn [] r r text text
recorded_stays r text read items h =
    inr ([], subst (λ t. Recorded r t (items ++ [])) (sym (append-nil read)) (subst (λ xs. Recorded r read xs) (sym (append-nil items)) h), refl)

pub recorded_then : (a b : List ℕ) (old mid new : Recording) (x y z : List ℕ) → recorded.GoesOn a old mid x y → (recorded.has_lost mid ≡ true → recorded.has_lost new ≡ true)
    → recorded.layout mid ≡ recorded.layout old → recorded.GoesOn b mid new y z → recorded.GoesOn (a ++ b) old new x z
recorded_then a b old mid new x y z first lost same second text items h =
    elim (first text items h) as (λ _. (recorded.has_lost new ≡ true) ⊎ ((here : List Item) × Recorded new (text ++ (a ++ b)) (items ++ here) × Writes (recorded.layout old) items here x z)) [
      | inl e ↦ inl (lost e)
      | inr f ↦ elim (second (text ++ a) (items ++ f.0) f.1) as (λ _. (recorded.has_lost new ≡ true) ⊎ ((here : List Item) × Recorded new (text ++ (a ++ b)) (items ++ here) × Writes (recorded.layout old) items here x z)) [
        | inl e ↦ inl e
        | inr g ↦ inr (
          f.0 ++ g.0,
          subst (λ t. Recorded new t (items ++ (f.0 ++ g.0))) (append_assoc text a b) (subst (λ xs. Recorded new ((text ++ a) ++ b) xs) (append_assoc items f.0 g.0) g.1),
          writes_then (recorded.layout old) items f.0 g.0 x y z f.2 (subst (λ l. Writes l (items ++ f.0) g.0 y z) same g.2),
        )
      ]
    ]

-- the bytes of an incomplete line are one piece
pub takes_piece : (old new : Recording) (bytes before after : List ℕ) → bytes ≡ old.line.bytes.items
    → sides.GoesOn (piece old.line.side bytes ∷ []) old.sides new.sides before after → Takes old new before after
takes_piece old new bytes before after e g pieces items h =
    subst (λ b. (recorded.has_lost new ≡ true) ⊎ ((here : List Item) × Stand new.sides (pieces ++ piece old.line.side b ∷ []) (items ++ here) × Writes (recorded.layout old) items here before after)) e
    (g pieces items h)

pub ends_on_ok : (r : Result (Unit {0}) RecordingError) (old mid new : Recording) (c : ℕ) (before after : List ℕ)
    → ((line : List ℕ) (said : List Heard) → Stands old.place line said → Passes (Some says.End) c line said mid.place) → mid.line ≡ old.line → mid.sides ≡ old.sides
    → OnOk r (Takes mid new before after) → new.place ≡ mid.place → OnOk r (new.line.bytes.items ≡ []) → OnOk r (recorded.GoesOn (c ∷ []) old new before after)
ends_on_ok (Ok u) old mid new c before after passes line same takes place bytes = ends_goes old mid new c before after passes line same takes place bytes
ends_on_ok (Err e) old mid new c before after passes line same takes place bytes = tt

pub takes_on_ok : (r : Result (Unit {0}) RecordingError) (mid new : Recording) (before after : List ℕ)
    → OnOk r (Takes mid new before after) → new.place ≡ mid.place → OnOk r (new.line.bytes.items ≡ []) → new.line.is_untaken ≡ false → OnOk r (recorded.GoesOn [] mid new before after)
takes_on_ok (Ok u) mid new before after takes place bytes is_taken = takes_goes mid new before after takes place bytes is_taken
takes_on_ok (Err e) mid new before after takes place bytes is_taken = tt

-- ---- the bytes of a text, in order

take_none : (xs : List ℕ) → take 0 xs ≡ []
take_none [] = refl
take_none (x ∷ xs) = refl

pub loop_starts : (xs : List ℕ) (r : Recording) (text : List ℕ) → recorded.GoesOn (take 0 xs) r r text text
loop_starts xs r text = subst (λ t. recorded.GoesOn t r r text text) (sym (take_none xs)) (recorded_stays r text)

pub loop_goes : (xs : List ℕ) (i c : ℕ) (old mid new : Recording) (x y z : List ℕ) → i < length xs → c ≡ get_or xs i 0
    → recorded.GoesOn (take i xs) old mid x y → (recorded.has_lost mid ≡ true → recorded.has_lost new ≡ true) → recorded.layout mid ≡ recorded.layout old
    → recorded.GoesOn (c ∷ []) mid new y z → recorded.GoesOn (take (i + 1) xs) old new x z
loop_goes xs i c old mid new x y z below is first lost same second =
    subst (λ t. recorded.GoesOn t old new x z) (ap (λ b. take i xs ++ b ∷ []) is ∙ sym (take_more xs i 0 below)) (recorded_then (take i xs) (c ∷ []) old mid new x y z first lost same second)

pub loop_ends : (xs : List ℕ) (n : ℕ) (old mid new : Recording) (x y z : List ℕ) → take n xs ≡ xs
    → recorded.GoesOn (take n xs) old mid x y → (recorded.has_lost mid ≡ true → recorded.has_lost new ≡ true) → recorded.layout mid ≡ recorded.layout old
    → recorded.GoesOn [] mid new y z → recorded.GoesOn xs old new x z
loop_ends xs n old mid new x y z all first lost same second =
    subst (λ t. recorded.GoesOn t old new x z) (append-nil (take n xs) ∙ all) (recorded_then (take n xs) [] old mid new x y z first lost same second)
