-- Unexpected packets of a connection.
use Rattle.std.proofs.Common.{◌≡◌, ◌≢◌, ℕ, List, [], ◌∷◌, ◌++◌, Result, Ok, Err, IfOk, IfErr, subst, sym}
use Rattle.mysql_conversation.specs.Piped.{place}
use Rattle.mysql_conversation.specs.Pipelined.{Numbered}
use Rattle.mysql_conversation.specs.Session.{IsSessionBeginning}
use Rattle.mysql_conversation.specs.declared.packet_kind.PacketKind.{PacketKind}
use Rattle.mysql_conversation.specs.declared.packet_kind.Side.{Side}
use Rattle.mysql_conversation.specs.declared.packet_kind_tag.PacketKindTag.{PacketKindTag}
use Rattle.mysql_conversation.specs.declared.pipeline.SessionError.{SessionError}
use Rattle.mysql_conversation.specs.declared.pipeline.SessionError.TheVariants as refusal
use Rattle.mysql_recorder.specs.declared.entry.Layout.{Layout}
use Rattle.mysql_observer.specs.Observed.{Observed, last_exchange}
use Rattle.mysql_recorder.specs.Reasons.{IsReason}
use Rattle.mysql_recorder.specs.Refused.{ShowsRefused}
use Rattle.mysql_recorder.specs.Refusals.{Refuses, IfRefused}
use Rattle.mysql_recorder.specs.declared.error.RecordingError.{RecordingError}
use Rattle.mysql_recorder.specs.declared.error.RecordingError.TheVariants as error
use Rattle.mysql_observer.specs.declared.observer.Observer.{Observer}
use Rattle.mysql_recorder.specs.declared.packets.Taken.{Taken}
use Rattle.mysql_recorder.specs.declared.packets.Taken.TheVariants as taken_as

module _ (all : List PacketKindTag) (layout : Layout) (old new : Observer) (side : Side) (sequence : ℕ) (payload : List ℕ) (why : SessionError) (before after : List ℕ)
    (stays : (items : List Numbered) → Observed old items → Observed new items)
    (unasked : (items : List Numbered) (kind : PacketKind) (number : ℕ) → why ≡ refusal.UnexpectedPacket → Observed old items → IsSessionBeginning (items ++ place side payload kind number ∷ []) → ⊥)
    (reason : IsReason old side payload why) where
  shows : (items : List Numbered) → Observed old items → Refuses all layout new side sequence payload why before after → ShowsRefused all layout side sequence payload items why before after
  shows items h r =
      let o = stays items h in
      (last_exchange new, r.0, r.1 items o, r.2, λ e kind number. unasked items kind number e h, o.3, (old, h, reason))

  pub refused_ok : (r : Result Taken RecordingError)
      → IfOk r (λ taken. (taken ≢ taken_as.Shown) × Refuses all layout new side sequence payload why before after)
      → IfOk r (λ taken. taken ≢ taken_as.Shown → (items : List Numbered) → Observed old items → (reason : SessionError) × ShowsRefused all layout side sequence payload items reason before after)
  refused_ok (Ok taken) h = λ e items f. (why, shows items f h.1)
  refused_ok (Err e) h = tt

  pub refused_err : (r : Result Taken RecordingError)
      → IfErr r (λ e. IfRefused e (λ shown. (shown ≡ why) × Refuses all layout new side sequence payload why before after))
      → IfErr r (λ e. (items : List Numbered) → Observed old items → IfRefused e (λ reason. ShowsRefused all layout side sequence payload items reason before after))
  refused_err (Ok taken) h = tt
  refused_err (Err (error.Refused shown)) h = λ items f. subst (λ reason. ShowsRefused all layout side sequence payload items reason before after) (sym h.0) (shows items f h.1)
  refused_err _ h = λ items f. tt
