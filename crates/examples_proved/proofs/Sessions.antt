-- Packets of a session, one after another.
use Rattle.std.proofs.Common.{ℕ, ◌+◌, List, [], ◌∷◌, ◌++◌, ◌<◌, length, take, get_or, refl, sym, subst}
use Rattle.std.proofs.lemmas.List.{take_more}
use Rattle.mysql_packets.specs.Pipelined.{Numbered}
use Rattle.mysql_packets.specs.Piped.{place}
use Rattle.mysql_packets.specs.Session.{SessionTaken}
use Rattle.mysql_packets.specs.declared.conversation.PacketKind.{PacketKind}
use Rattle.mysql_packets.specs.declared.conversation.Session.{Session}
use Rattle.examples_proved.specs.Audit.{AreSent}
use Rattle.examples_proved.specs.declared.audit.Sent.{Sent}

-- a packet more
pub one_more : (items : List Numbered) (sent : List Sent) (s : Sent) (k : PacketKind) (n : ℕ) → AreSent items sent → AreSent (items ++ place s.from s.payload.now k n ∷ []) (sent ++ s ∷ [])
one_more [] [] s k n h = (refl, refl, tt)
one_more [] (y ∷ sent) s k n h = absurd h
one_more (x ∷ items) [] s k n h = absurd h
one_more (x ∷ items) (y ∷ sent) s k n h = (h.0, h.1, one_more items sent s k n h.2)

-- a session has taken these packets, of some kinds
abbrev pub Took : Session → List Sent → Type 0
Took session sent = (items : List Numbered) × AreSent items sent × SessionTaken session items

pub took_more : (sent : List Sent) (i : ℕ) (d : Sent) (before after : Session) (k : PacketKind) (n : ℕ) → i < length sent → Took before (take i sent)
    → ((items : List Numbered) → SessionTaken before items → SessionTaken after (items ++ place (get_or sent i d).from (get_or sent i d).payload.now k n ∷ []))
    → Took after (take (i + 1) sent)
took_more sent i d before after k n lt t step =
    let s = get_or sent i d in (
      t.0 ++ place s.from s.payload.now k n ∷ [],
      subst (AreSent (t.0 ++ place s.from s.payload.now k n ∷ [])) (sym (take_more sent i d lt)) (one_more t.0 (take i sent) s k n t.1),
      step t.0 t.2,
    )
