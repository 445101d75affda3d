-- Losses, step by step.
use Rattle.std.proofs.Common.{◌≡◌, ◌≢◌, ◌⊎◌, inl, inr, ℕ, ◌+◌, ◌<◌, true, false, List, [], ◌∷◌, ◌++◌, Result, Ok, Err, IfOk, Some, refl, sym, ap, subst, ◌∙◌, append_assoc, append-nil, length, get_or, take, drop, drop-cons, take-append-drop, suc, add-one}
use Rattle.std.proofs.lemmas.List.{take_more}
use Rattle.mysql_conversation.specs.declared.packet_kind.Side.{Side}
use Rattle.mysql_conversation.specs.declared.packet_kind_tag.PacketKindTag.{PacketKindTag}
use Rattle.mysql_conversation.specs.declared.pipeline.SessionError.{SessionError}
use Rattle.mysql_conversation.specs.Pipelined.{Numbered}
use Rattle.mysql_show.specs.Appended.{Stays}
use Rattle.mysql_recorder.specs.declared.entry.Layout.{Layout}
use Rattle.mysql_frames.specs.FrameReader.{HandsOut, NoneWhole, AllLonger}
use Rattle.mysql_frames.specs.declared.error.FrameError.{FrameError}
use Rattle.mysql_frames.specs.declared.error.FrameError.TheVariants as frame
use Rattle.mysql_observer.specs.Observed.{Observed}
use Rattle.mysql_recorder.specs.Frames.{joined}
use Rattle.mysql_recorder.specs.Lines.{Heard, text_of, said_by, Stands, Passes}
use Rattle.mysql_recorder.specs.Losses.{IsNumberOf, AreNoFrames, AreTooLong, LosesIn, PieceLosesIn, PieceLoses, LineLoses, LineEndLoses, EndsInMark, IsLost, TextLoses, IsAtFeed, Loses}
use Rattle.mysql_recorder.specs.Marks.{IsMark}
use Rattle.mysql_recorder.specs.Recorded.{Recorded}
use Rattle.mysql_recorder.specs.Recorded as recorded
use Rattle.mysql_recorder.specs.Refused.{ShowsRefused}
use Rattle.mysql_recorder.specs.Shown.{Item, placed, Writes}
use Rattle.mysql_recorder.specs.Sides.{IsAt, Reads, has_lost, layout, stream_of}
use Rattle.mysql_recorder.specs.Sides as sides
use Rattle.mysql_recorder.specs.Streams.{as_sent}
use Rattle.mysql_recorder.specs.declared.error.RecordingError.{RecordingError}
use Rattle.mysql_recorder.specs.declared.line.Place.TheVariants as place
use Rattle.mysql_recorder.specs.declared.line.Said.TheVariants as says
use Rattle.mysql_recorder.specs.declared.packets.Packets.{Packets}
use Rattle.mysql_recorder.specs.declared.piece.Came.{Came}
use Rattle.mysql_recorder.specs.declared.piece.Came.TheVariants as came_as
use Rattle.mysql_recorder.specs.declared.recording.Recording.{Recording}
use Rattle.mysql_recorder.specs.declared.sides.Sides.{Sides}
use Rattle.mysql_recorder.specs.declared.stream.Stream.{Stream}
use Rattle.mysql_recorder.proofs.Frames.{numbered_sent, sent-held, sent-limit}
use Rattle.mysql_recorder.proofs.Goes.{stream_holds, stream_in_step}
use Rattle.mysql_recorder.proofs.Stays.{stays_then}
use Rattle.mysql_recorder.proofs.Stopped.{stops_in}
use Rattle.mysql_recorder.proofs.Texts.{shown_of}
use Rattle.mysql_recorder.proofs.Wholes.{observed_session}

-- ---- one side

-- an unexpected packet is returned
pub loses_packet : (all : List PacketKindTag) (side : Side) (bytes input rest : List ℕ) (items here : List Item) (s old new : Stream) (p po : Packets) (a b c : List ℕ) (sequence : ℕ) (payload : List ℕ)
    → Reads side bytes input items here s old p po a b
    → HandsOut (as_sent old.reader input) input payload new.reader rest → sequence ≡ (as_sent old.reader input).number
    → po.layout ≡ p.layout
    → ((xs : List Numbered) → Observed po.observer xs → (why : SessionError) × ShowsRefused all po.layout side sequence payload xs why b c)
    → LosesIn all p.layout s.reader.limit side (s.reader.held ++ bytes) items a c
loses_packet all side bytes input rest items here s old new p po a b c sequence payload r h n l shows =
    let shown = shows (placed (items ++ here)) r.observed in
    inr (shown.0, stops_in all side bytes input rest items here s old new p po a b c sequence payload shown.0 r h n l shown.1)

module _ (all : List PacketKindTag) (side : Side) (bytes input : List ℕ) (items here : List Item) (s old : Stream) (p po : Packets) (a b : List ℕ) (r : Reads side bytes input items here s old p po a b) where
  number_of : IsNumberOf (as_sent old.reader input).number (old.reader.held ++ input)
  number_of long = numbered_sent old.reader input r.numbered long

  breaks : AreNoFrames (old.reader.held ++ input) ⊎ AreTooLong s.reader.limit (old.reader.held ++ input) → LosesIn all p.layout s.reader.limit side (s.reader.held ++ bytes) items a b
  breaks h = inl (here, old.reader.held ++ input, r.from, r.frames, r.written, observed_session po.observer (placed (items ++ here)) r.observed, h)

  out_of_order : ((more : List ℕ) → NoneWhole (as_sent old.reader input).number ((as_sent old.reader input).held ++ input ++ more)) → LosesIn all p.layout s.reader.limit side (s.reader.held ++ bytes) items a b
  out_of_order h = breaks (inl (
    (as_sent old.reader input).number,
    number_of,
    λ more. subst (λ held. NoneWhole (as_sent old.reader input).number (held ++ input ++ more)) (sent-held old.reader input) (h more),
  ))

  too_long : ((more : List ℕ) → AllLonger (as_sent old.reader input).limit (as_sent old.reader input).number ((as_sent old.reader input).held ++ input ++ more))
      → LosesIn all p.layout s.reader.limit side (s.reader.held ++ bytes) items a b
  too_long h = breaks (inr (
    (as_sent old.reader input).number,
    number_of,
    λ more. subst (λ limit. AllLonger limit (as_sent old.reader input).number (old.reader.held ++ input ++ more)) (sent-limit old.reader input ∙ r.limit)
        (subst (λ held. AllLonger (as_sent old.reader input).limit (as_sent old.reader input).number (held ++ input ++ more)) (sent-held old.reader input) (h more)),
  ))

  -- frames are refused, and not for memory
  pub loses_frames : (e : FrameError) → (e ≡ frame.Memory → ⊥)
      → (e ≡ frame.OutOfOrder → (more : List ℕ) → NoneWhole (as_sent old.reader input).number ((as_sent old.reader input).held ++ input ++ more))
      → (e ≡ frame.TooLong → (more : List ℕ) → AllLonger (as_sent old.reader input).limit (as_sent old.reader input).number ((as_sent old.reader input).held ++ input ++ more))
      → LosesIn all p.layout s.reader.limit side (s.reader.held ++ bytes) items a b
  loses_frames frame.Memory memory order long = absurd (memory refl)
  loses_frames frame.OutOfOrder memory order long = out_of_order (order refl)
  loses_frames frame.TooLong memory order long = too_long (long refl)

-- ---- both sides

pub side_loses : (side : Side) (r : Result Came RecordingError) (all : List PacketKindTag) (s : Sides) (bytes before after : List ℕ)
    → IfOk r (λ came. came ≢ came_as.Whole → (items : List Item) → IsAt (stream_of side s) s.packets items
    → LosesIn all s.packets.layout (stream_of side s).reader.limit side ((stream_of side s).reader.held ++ bytes) items before after)
    → IfOk r (λ came. came ≢ came_as.Whole → PieceLosesIn all side bytes s before after)
side_loses side (Ok came) all s bytes before after h = λ w pieces items k.
    let at = stream_in_step side s pieces items k in
    subst (λ held. LosesIn all s.packets.layout s.longest side (held ++ bytes) items before after) (stream_holds side s)
    (subst (λ limit. LosesIn all s.packets.layout limit side ((stream_of side s).reader.held ++ bytes) items before after) at.limit (h w items (at.numbered, k.observed)))
side_loses side (Err e) all s bytes before after h = tt

-- nothing more is lost
pub piece_keeps : (all : List PacketKindTag) (side : Side) (bytes : List ℕ) (old new : Sides) (before after : List ℕ)
    → has_lost new ≡ has_lost old → PieceLoses all side bytes old new before after
piece_keeps all side bytes old new before after e lost pieces items h = absurd (let no : true ≡ false = sym lost ∙ e ∙ h.nothing_lost in cc)

-- the result for a piece
pub came_loses : (came : Came) (all : List PacketKindTag) (side : Side) (bytes : List ℕ) (old mid new : Sides) (before m after : List ℕ)
    → (came ≢ came_as.Whole → PieceLosesIn all side bytes old before m) → (came ≡ came_as.Whole → sides.IsSame mid new × (after ≡ m)) → has_lost mid ≡ has_lost old → Stays m after
    → PieceLoses all side bytes old new before after
came_loses came_as.Whole all side bytes old mid new before m after loses same kept stays = piece_keeps all side bytes old new before after (ap (λ s. s.has_lost) (same refl).0 ∙ kept)
came_loses (came_as.Refused a n) all side bytes old mid new before m after loses same kept stays = λ lost pieces items h. (m, loses (λ e. cc) pieces items h, stays)
came_loses (came_as.NoFrames x n) all side bytes old mid new before m after loses same kept stays = λ lost pieces items h. (m, loses (λ e. cc) pieces items h, stays)

-- ---- lines and texts

pub line_loses : (all : List PacketKindTag) (old new : Recording) (bytes before after : List ℕ) → bytes ≡ old.line.bytes.items
    → PieceLoses all old.line.side bytes old.sides new.sides before after → LineLoses all old new before after
line_loses all old new bytes before after is h = subst (λ b. PieceLoses all old.line.side b old.sides new.sides before after) is h

pub text_keeps : (all : List PacketKindTag) (ends : Type 0) (old new : Recording) (before after : List ℕ)
    → recorded.has_lost new ≡ recorded.has_lost old → TextLoses all ends old new before after
text_keeps all ends old new before after e lost text items h = absurd (let no : true ≡ false = sym lost ∙ e ∙ h.stand.nothing_lost in cc)

-- an incomplete line is lost
waits_loses : (all : List PacketKindTag) (ends : Type 0) (old new : Recording) (before after : List ℕ)
    → LineLoses all old new before after → recorded.has_lost new ≡ true → (text : List ℕ) (items : List Item) → Recorded old text items
    → (mid : List ℕ) × IsLost all (recorded.layout old) (recorded.longest old) ends text items before mid × Stays mid after
waits_loses all ends old new before after loses lost text items h =
    let l = loses lost h.pieces items h.stand in
    (l.0, inl (record { side = old.line.side; bytes = old.line.bytes.items; shown = shown_of old text items h; loses = l.1 }), l.2)

pub text_loses : (all : List PacketKindTag) (ends : Type 0) (old new : Recording) (before after : List ℕ)
    → LineLoses all old new before after → TextLoses all ends old new before after
text_loses all ends old new before after loses = λ lost text items h. waits_loses all ends old new before after loses lost text items h

-- a line with a mark
mark_ends : (old : Recording) (text : List ℕ) (items : List Item) → Recorded old text items → old.line.is_untaken ≡ true → IsMark old.line.bytes.items → EndsInMark text items
mark_ends old text items h untaken mark =
    let to = h.untaken untaken in
    record {
      lines = to.0;
      line = to.1;
      at = old.place;
      side = old.line.side;
      mark = old.line.bytes.items;
      are_lines = to.2;
      text_is = to.3;
      shown = record {
        at = place.Start;
        said = said_by to.0;
        pieces = h.pieces;
        client_left = old.sides.client.reader.held;
        server_left = old.sides.server.reader.held;
        read = (to.0, [], [], to.2, sym (append-nil (text_of to.0)), sym (append-nil (said_by to.0)), (refl, refl));
        parts = sym to.4 ∙ sym (append-nil (joined h.pieces));
        packets = h.stand.come;
        client_none = h.stand.client.none;
        server_none = h.stand.server.none;
      };
      says = to.5;
      is_mark = mark;
    }

-- a line that ends
pub end_loses : (all : List PacketKindTag) (ends : Type 0) (old new : Recording) (before after : List ℕ)
    → LineEndLoses all old new before after → ends → TextLoses all ends old new before after
end_loses all ends old new before after (inl loses) here = text_loses all ends old new before after loses
end_loses all ends old new before after (inr mark) here = λ lost text items h. (before, inr (mark_ends old text items h mark.0 mark.1, here, refl), mark.2)

-- the byte that ends a line
pub feed_loses : (all : List PacketKindTag) (old mid new : Recording) (c : ℕ) (before after : List ℕ)
    → ((line : List ℕ) (said : List Heard) → Stands old.place line said → Passes (Some says.End) c line said mid.place) → mid.line ≡ old.line → mid.sides ≡ old.sides
    → LineEndLoses all mid new before after → TextLoses all (c ≡ 10) old new before after
feed_loses all old mid new c before after passes line same loses lost text items h =
    let feed : c ≡ 10 = (passes h.read.1 h.read.2 h.read.6).0 in
    let back : LineEndLoses all old new before after =
    subst (λ l. PieceLoses all l.side l.bytes.items old.sides new.sides before after ⊎ ((l.is_untaken ≡ true) × IsMark l.bytes.items × Stays before after)) line
    (subst (λ s. PieceLoses all mid.line.side mid.line.bytes.items s new.sides before after ⊎ ((mid.line.is_untaken ≡ true) × IsMark mid.line.bytes.items × Stays before after)) same loses) in
    end_loses all (c ≡ 10) old new before after back feed lost text items h

-- ---- one step after another

-- appending changes nothing else
pub then_loses : (all : List PacketKindTag) (ends : Type 0) (old mid new : Recording) (x y z : List ℕ)
    → TextLoses all ends old mid x y → recorded.has_lost new ≡ recorded.has_lost mid → Stays y z → TextLoses all ends old new x z
then_loses all ends old mid new x y z loses same stays lost text items h =
    let l = loses (sym same ∙ lost) text items h in
    (l.0, l.1, stays_then l.0 y z l.2 stays)

pub is_lost_where : (all : List PacketKindTag) (layout : Layout) (limit : ℕ) (ends others : Type 0) (text : List ℕ) (items : List Item) (before after : List ℕ)
    → (ends → others) → IsLost all layout limit ends text items before after → IsLost all layout limit others text items before after
is_lost_where all layout limit ends others text items before after f (inl h) = inl h
is_lost_where all layout limit ends others text items before after f (inr h) = inr (h.0, f h.1, h.2)

pub feed_more : (back more : List ℕ) → IsAtFeed back → IsAtFeed (back ++ more)
feed_more back more h = (h.0 ++ more, ap (λ t. t ++ more) h.1)

pub loses_none : (all : List PacketKindTag) (input : List ℕ) (old new : Recording) (before after : List ℕ)
    → recorded.has_lost new ≡ recorded.has_lost old → Loses all input old new before after
loses_none all input old new before after e lost text items h = absurd (let no : true ≡ false = sym lost ∙ e ∙ h.stand.nothing_lost in cc)

pub loses_then : (all : List PacketKindTag) (ends : Type 0) (a b : List ℕ) (old mid new : Recording) (x y z : List ℕ)
    → recorded.GoesOn a old mid x y → Loses all a old mid x y → recorded.layout mid ≡ recorded.layout old → recorded.longest mid ≡ recorded.longest old
    → TextLoses all ends mid new y z → (ends → IsAtFeed b) → Stays y z → Loses all (a ++ b) old new x z
loses_then all ends a b old mid new x y z first before same long loses feed stays lost text items h =
    elim (first text items h) as (λ _. (front : List ℕ) × (back : List ℕ) × (here : List Item) × (shown : List ℕ) × (m : List ℕ) × (a ++ b ≡ front ++ back)
    × Writes (recorded.layout old) items here x shown × IsLost all (recorded.layout old) (recorded.longest old) (IsAtFeed back) (text ++ front) (items ++ here) shown m × Stays m z) [
      | inl e ↦ (let l = before e text items h in (
        l.0,
        l.1 ++ b,
        l.2,
        l.3,
        l.4,
        ap (λ t. t ++ b) l.5 ∙ append_assoc l.0 l.1 b,
        l.6,
        is_lost_where all (recorded.layout old) (recorded.longest old) (IsAtFeed l.1) (IsAtFeed (l.1 ++ b)) (text ++ l.0) (items ++ l.2) l.3 l.4 (feed_more l.1 b) l.7,
        stays_then l.4 y z l.8 stays,
      ))
      | inr f ↦ (let l = loses lost (text ++ a) (items ++ f.0) f.1 in (
        a,
        b,
        f.0,
        y,
        l.0,
        refl,
        f.2,
        is_lost_where all (recorded.layout old) (recorded.longest old) ends (IsAtFeed b) (text ++ a) (items ++ f.0) y l.0 feed
            (subst (λ shown_in. IsLost all shown_in (recorded.longest old) ends (text ++ a) (items ++ f.0) y l.0) same
            (subst (λ limit. IsLost all (recorded.layout mid) limit ends (text ++ a) (items ++ f.0) y l.0) long l.1)),
        l.2,
      ))
    ]

-- ---- the bytes of an input, in order

pub loop_loses : (all : List PacketKindTag) (xs : List ℕ) (i c : ℕ) (old mid new : Recording) (x y z : List ℕ) → i < length xs → c ≡ get_or xs i 0
    → recorded.GoesOn (take i xs) old mid x y → Loses all (take i xs) old mid x y → recorded.layout mid ≡ recorded.layout old → recorded.longest mid ≡ recorded.longest old
    → TextLoses all (c ≡ 10) mid new y z → Stays y z → Loses all (take (i + 1) xs) old new x z
loop_loses all xs i c old mid new x y z below is first before same long loses stays =
    subst (λ t. Loses all t old new x z) (ap (λ b. take i xs ++ b ∷ []) is ∙ sym (take_more xs i 0 below))
    (loses_then all (c ≡ 10) (take i xs) (c ∷ []) old mid new x y z first before same long loses (λ e. ([], ap (λ b. b ∷ []) e)) stays)

pub rest_loses : (all : List PacketKindTag) (xs : List ℕ) (n : ℕ) (old mid new : Recording) (x y z : List ℕ) → take n xs ≡ xs
    → recorded.GoesOn (take n xs) old mid x y → Loses all (take n xs) old mid x y → recorded.layout mid ≡ recorded.layout old → recorded.longest mid ≡ recorded.longest old
    → TextLoses all ⊥ mid new y z → Stays y z → Loses all xs old new x z
rest_loses all xs n old mid new x y z whole first before same long loses stays =
    subst (λ t. Loses all t old new x z) (append-nil (take n xs) ∙ whole)
    (loses_then all ⊥ (take n xs) [] old mid new x y z first before same long loses (λ no. absurd no) stays)

pub byte_loses : (all : List PacketKindTag) (xs : List ℕ) (i c : ℕ) (old mid new : Recording) (x y z : List ℕ) → i < length xs → c ≡ get_or xs i 0
    → recorded.GoesOn (take i xs) old mid x y → Loses all (take i xs) old mid x y → recorded.layout mid ≡ recorded.layout old → recorded.longest mid ≡ recorded.longest old
    → TextLoses all (c ≡ 10) mid new y z → Stays y z → Loses all xs old new x z
byte_loses all xs i c old mid new x y z below is first before same long loses stays =
    subst (λ t. Loses all t old new x z) (take-append-drop i xs)
    (loses_then all (c ≡ 10) (take i xs) (drop i xs) old mid new x y z first before same long loses
    (λ e. (drop (i + 1) xs, rw add-one (drop-cons xs i 0 below ∙ ap (λ b. b ∷ drop (suc i) xs) (sym is ∙ e)))) stays)
