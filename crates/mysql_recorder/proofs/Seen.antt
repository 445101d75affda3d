-- What a recording has printed.
use Rattle.std.proofs.Common.{◌≡◌, ◌⊎◌, inl, inr, ℕ, true, List, [], ◌∷◌, ◌++◌, sym, subst, ◌∙◌, append-nil}
use Rattle.mysql_conversation.specs.Session.{IsSessionBeginning}
use Rattle.mysql_conversation.specs.declared.packet_kind.Side.TheVariants as side
use Rattle.mysql_recorder.specs.Frames.{AreFrames, Piece, joined, ComeIn, packets_of, bytes_of}
use Rattle.mysql_recorder.specs.Lines.{Heard, heard}
use Rattle.mysql_recorder.specs.Recorded.{Recorded, IsFinished, IsShown, Takes, Finishes, has_lost, layout}
use Rattle.mysql_recorder.specs.Shown.{Item, Writes, placed}
use Rattle.mysql_recorder.specs.Sides.{SaysNothing, piece}
use Rattle.mysql_recorder.specs.declared.recording.Recording.{Recording}
use Rattle.mysql_recorder.proofs.Frames.{joined-append}
use Rattle.mysql_recorder.proofs.Once.{of_one_side, frames_once}
use Rattle.mysql_recorder.proofs.Texts.{shown_of}
use Rattle.mysql_recorder.proofs.Wholes.{observed_session}

pub recorded_shown : (r : Recording) (text : List ℕ) (items : List Item) → Recorded r text items → (waits : List Heard) × IsShown text waits items
recorded_shown r text items h = (heard r.line.side r.line.bytes.items, shown_of r text items h)

pub recorded_session : (r : Recording) (text : List ℕ) (items : List Item) → Recorded r text items → IsSessionBeginning (placed items)
recorded_session r text items h = observed_session r.sides.packets.observer (placed items) h.stand.observed

pub client_packets : (pieces : List Piece) (items : List Item) (client server : List ℕ) → ComeIn [] [] pieces items client server
    → AreFrames (packets_of side.Client items) (bytes_of side.Client (joined pieces)) client
client_packets pieces items client server h = of_one_side side.Client [] [] pieces items client server h

pub server_packets : (pieces : List Piece) (items : List Item) (client server : List ℕ) → ComeIn [] [] pieces items client server
    → AreFrames (packets_of side.Server items) (bytes_of side.Server (joined pieces)) server
server_packets pieces items client server h = of_one_side side.Server [] [] pieces items client server h

pub finishes : (old new : Recording) (before mid after : List ℕ) → Takes old new before mid → new.place ≡ old.place → SaysNothing new.sides mid after → Finishes old new before after
finishes old new before mid after takes place nothing text items h =
    let p : Piece = piece old.line.side old.line.bytes.items in
    elim (takes h.pieces items h.stand) as (λ _. (has_lost new ≡ true) ⊎ ((here : List Item) × IsFinished new text (items ++ here) × Writes (layout old) items here before after)) [
      | inl e ↦ inl e
      | inr f ↦ inr (
        f.0,
        record {
          shown = record {
            at = old.place;
            said = h.said;
            pieces = h.pieces ++ p ∷ [];
            client_left = new.sides.client.reader.held;
            server_left = new.sides.server.reader.held;
            read = h.read;
            parts = h.waits ∙ sym (joined-append h.pieces p) ∙ sym (append-nil (joined (h.pieces ++ p ∷ [])));
            packets = f.1.come;
            client_none = f.1.client.none;
            server_none = f.1.server.none;
          };
          stand = f.1;
        },
        subst (λ t. Writes (layout old) items f.0 before t) (sym (nothing (h.pieces ++ p ∷ []) (items ++ f.0) f.1)) f.2,
      )
    ]

pub ruleset shown = (recorded_shown, recorded_session)

pub ruleset sides = (client_packets, server_packets)

pub ruleset once = (frames_once)
