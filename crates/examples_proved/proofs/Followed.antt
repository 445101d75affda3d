-- What an observer tracks, packet after packet.
use Rattle.std.proofs.Common.{◌≡◌, ℕ, ◌+◌, Bool, true, false, ◌&&◌, List, [], ◌∷◌, ◌++◌, ◌<◌, length, take, get_or, refl, sym, subst, ap, ◌∙◌, append_assoc}
use Rattle.std.proofs.lemmas.List.{take_more, append-nil}
use Rattle.mysql_packets.specs.Agreements.{Agreed}
use Rattle.mysql_packets.specs.Observed.{Knows, Observed, Tracks, AreTracked, tracked}
use Rattle.mysql_packets.specs.ObservedOrder.{Step, items_of, after_steps, HavePlaces, AreEarlyAfter, tables_after, up_to, at_last}
use Rattle.mysql_packets.specs.Pipelined.{Numbered}
use Rattle.mysql_packets.specs.Piped.{place}
use Rattle.mysql_packets.specs.Session.{IsSessionBeginning}
use Rattle.mysql_packets.specs.StatementTable.{empty}
use Rattle.mysql_packets.specs.Tracked.{Tracked, nothing}
use Rattle.mysql_packets.specs.declared.conversation.PacketKind.{PacketKind}
use Rattle.mysql_packets.specs.declared.observer.Observer.{Observer}
use Rattle.mysql_packets.specs.declared.observer.ObserverLimits.{ObserverLimits}
use Rattle.mysql_packets.specs.declared.statements.PipelinedLimits.{PipelinedLimits}
use Rattle.mysql_packets.specs.declared.statements.StatementLimits.{StatementLimits}
use Rattle.examples_proved.specs.Audit.{AreSent}
use Rattle.examples_proved.specs.InOrder.{InOrder}
use Rattle.examples_proved.specs.declared.audit.Sent.{Sent}
use Rattle.examples_proved.proofs.Sessions.{one_more}

-- a packet more
more_tracked : (before items : List Numbered) (x : Numbered) (old mid new : Tracked) → AreTracked before items old mid → Tracks true (before ++ items) x mid new → AreTracked before (items ++ x ∷ []) old new
more_tracked before [] x old mid new h t = (new, subst (λ f. Tracks true before x f new) h (subst (λ b. Tracks true b x mid new) (append-nil before) t), refl)
more_tracked before (y ∷ items) x old mid new h t =
    (h.0, h.1, more_tracked (before ++ y ∷ []) items x h.0 mid new h.2 (subst (λ b. Tracks true b x mid new) (sym (append_assoc before (y ∷ []) items)) t))

-- where there was memory for all, there was memory for what is tracked
memory_of_both : (memory tracks defines : Bool) → memory ≡ true → memory ≡ (tracks && defines) → tracks ≡ true
memory_of_both memory true defines there both = refl
memory_of_both memory false defines there both = absurd cc

-- an observer was passed these packets, and tracks what they say
abbrev pub Followed : ObserverLimits → Observer → List Sent → Type 0
Followed limits observer sent = (items : List Numbered) × AreSent items sent × Observed observer items × AreTracked [] items (nothing limits.statements limits.early) (tracked observer)

pub followed_more : (limits : ObserverLimits) (sent : List Sent) (i : ℕ) (d : Sent) (before after : Observer) (k : PacketKind) (n : ℕ) (memory : Bool) → memory ≡ true → i < length sent → Followed limits before (take i sent)
    → ((items : List Numbered) → Observed before items → Observed after (items ++ place (get_or sent i d).from (get_or sent i d).payload.now k n ∷ []))
    → ((items : List Numbered) → Observed before items → Knows memory items (place (get_or sent i d).from (get_or sent i d).payload.now k n) before after)
    → Followed limits after (take (i + 1) sent)
followed_more limits sent i d before after k n memory there lt f takes knows =
    let s = get_or sent i d in
    let x = place s.from s.payload.now k n in
    let known = knows f.0 f.2 in (
      f.0 ++ x ∷ [],
      subst (AreSent (f.0 ++ x ∷ [])) (sym (take_more sent i d lt)) (one_more f.0 (take i sent) s k n f.1),
      takes f.0 f.2,
      more_tracked [] f.0 x (nothing limits.statements limits.early) (tracked before) (tracked after) f.3 (subst (λ m. Tracks m f.0 x (tracked before) (tracked after)) (memory_of_both memory known.0 known.1 there known.2) known.3),
    )

-- by the laws: the steps of the conversation, and the table in its order
pub in_order : (a : Agreed) (front : List Numbered) (x : Numbered) (rest items : List Numbered) (limits : StatementLimits) (waiting : PipelinedLimits) (f : Tracked)
    → items ≡ front ++ x ∷ rest → IsSessionBeginning items
    → (s : (steps : List Step) × (items_of steps ≡ rest) × AreEarlyAfter (front ++ x ∷ []) steps × (f ≡ after_steps a steps (nothing limits waiting)))
    → (IsSessionBeginning (front ++ x ∷ items_of s.0) → AreEarlyAfter (front ++ x ∷ []) s.0 → HavePlaces a s.0 (nothing limits waiting)
    → (after_steps a s.0 (nothing limits waiting)).table ≡ tables_after a (up_to (at_last 0 s.0) (items_of s.0)) (empty limits))
    → InOrder a (front ++ x ∷ []) rest limits waiting f
in_order a front x rest items limits waiting f split begun s law = record {
  steps = s.0;
  are = s.1;
  early = s.2;
  known = s.3;
  table = λ places.
      let begun_so : IsSessionBeginning (front ++ x ∷ items_of s.0) = subst IsSessionBeginning (split ∙ ap (λ r. front ++ x ∷ r) (sym s.1)) begun in
      ap (λ (g : Tracked). g.table) s.3 ∙ law begun_so s.2 places ∙ ap (λ r. tables_after a (up_to (at_last 0 s.0) r) (empty limits)) s.1;
}
