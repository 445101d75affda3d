-- One more packet of a piece.
use Rattle.std.proofs.Common.{◌≡◌, ℕ, List, [], ◌∷◌, ◌++◌, refl, sym, ap, subst, ◌∙◌, append_assoc, append-nil}
use Rattle.mysql_conversation.specs.declared.packet_kind.Side.{Side}
use Rattle.mysql_conversation.specs.Pipelined.{Numbered}
use Rattle.mysql_frames.specs.FrameReader.{ReaderState, HandsOut, HoldsAll}
use Rattle.mysql_frames.specs.Frames.{Framed}
use Rattle.mysql_observer.specs.Observed.{Observed}
use Rattle.mysql_recorder.specs.Frames.{AreFrames, NoneComes, IsNumbered}
use Rattle.mysql_recorder.specs.Shown.{Item, item, placed, Appends}
use Rattle.mysql_recorder.specs.Sides.{Reads}
use Rattle.mysql_recorder.specs.Streams.{as_sent}
use Rattle.mysql_recorder.specs.Taken.{ShowsPacket}
use Rattle.mysql_recorder.specs.declared.packets.Packets.{Packets}
use Rattle.mysql_recorder.specs.declared.stream.Stream.{Stream}
use Rattle.mysql_recorder.proofs.Frames.{placed-append, writes_one, from_then, frames_then, handed_out, handed_numbered, held_all, held_numbered, none_comes, sent-limit}

-- a packet is returned and printed
pub reads_packet : (side : Side) (bytes input rest : List ℕ) (items here : List Item) (s old new : Stream) (p po pn : Packets) (a b c : List ℕ) (sequence : ℕ) (payload : List ℕ)
    → Reads side bytes input items here s old p po a b
    → HandsOut (as_sent old.reader input) input payload new.reader rest → sequence ≡ (as_sent old.reader input).number
    → po.layout ≡ p.layout
    → ((xs : List Numbered) → Observed po.observer xs → ShowsPacket po.layout side sequence payload xs pn.observer b c)
    → (more : List Item) × Reads side bytes rest items more s new p pn a c
reads_packet side bytes input rest items here s old new p po pn a b c sequence payload r h e l shows =
    let shown = shows (placed (items ++ here)) r.observed in
    let x : Item = item sequence side payload shown.0 shown.1 in
    let out = handed_out old.reader new.reader input payload rest h in
    let whole : placed (items ++ (here ++ x ∷ [])) ≡ placed (items ++ here) ++ x.placed ∷ [] =
    ap placed (sym (append_assoc items here (x ∷ []))) ∙ placed-append (items ++ here) (x ∷ []) in (
      here ++ x ∷ [],
      record {
        from = from_then side here (x ∷ []) r.from (refl, tt);
        frames = subst (λ held. AreFrames (here ++ x ∷ []) (s.reader.held ++ bytes) (held ++ rest)) (sym h.none_held)
            (frames_then here x (s.reader.held ++ bytes) (old.reader.held ++ input) new.reader.number rest r.frames
            (subst (λ n. Framed n payload new.reader.number (old.reader.held ++ input) rest) (sym e) out));
        numbered = handed_numbered old.reader new.reader input payload rest h;
        limit = h.limit ∙ sent-limit old.reader input ∙ r.limit;
        observed = subst (λ xs. Observed pn.observer xs) (sym whole) shown.2;
        written = writes_one p.layout items here x a b c r.written (subst (λ y. Appends y (placed (items ++ here)) x b c) l shown.3);
      },
    )

-- everything is held
pub reads_all : (side : Side) (bytes input rest : List ℕ) (items here : List Item) (s old new : Stream) (p q : Packets) (a b : List ℕ)
    → Reads side bytes input items here s old p q a b → HoldsAll (as_sent old.reader input) input new.reader rest → Reads side bytes [] items here s new p q a b
reads_all side bytes input rest items here s old new p q a b r h = record {
  from = r.from;
  frames = subst (λ held. AreFrames here (s.reader.held ++ bytes) held) (sym (held_all old.reader new.reader input rest h) ∙ sym (append-nil new.reader.held)) r.frames;
  numbered = held_numbered old.reader new.reader input rest r.numbered h;
  limit = h.limit ∙ sent-limit old.reader input ∙ r.limit;
  observed = r.observed;
  written = r.written;
}

pub holds_none : (old new : ReaderState) (input rest : List ℕ) → IsNumbered old → HoldsAll (as_sent old input) input new rest → NoneComes new.held
holds_none old new input rest n h = none_comes new (held_numbered old new input rest n h) h.none_whole
