use Rattle.std.proofs.Common.{◌≢◌, List, [], ◌∷◌, ◌++◌, IfOk, IfErr, sym, ap, subst, ◌∙◌, string_bytes}
use Rattle.mysql_conversation.specs.PacketKindTag.{text_of}
use Rattle.mysql_conversation.specs.declared.packet_kind_tag.TheConstants.PacketKindTag.{ALL}
use Rattle.mysql_conversation.specs.declared.pipeline.SessionError.{SessionError}
use Rattle.mysql_conversation.specs.Piped.{place}
use Rattle.mysql_conversation.specs.Pipelined.{Numbered}
use Rattle.mysql_observer.specs.Observed.{Observed}
use Rattle.mysql_recorder.specs.Refused.{ShowsRefused}
use Rattle.mysql_recorder.specs.Refusals.{IfRefused}
use Rattle.mysql_recorder.specs.RecordFields.{AreFields}
use Rattle.mysql_recorder.specs.Shown.{AppendsFields, AreFieldsOf, item}
use Rattle.mysql_recorder.specs.declared.packets.Taken.TheVariants as taken_as
use Rattle.mysql_recorder.proofs.Refusals.{refused_ok, refused_err}
use Rattle.mysql_recorder.proofs.Refused.{appends_as}
use Rattle.mysql_recorder.proofs.packets.Packets.take.Goals as goal

pub returns-in_ok-show-in-Ok-clause-shown : goal.returns-in_ok-show-in-Ok-clause-shown
returns-in_ok-show-in-Ok-clause-shown c = λ e items h. (
  c.in-Ok.seen.kind,
  c.in-Ok.seen.exchange,
  subst (λ f. Observed f (items ++ place c.args.side c.args.payload.now c.in-Ok.seen.kind c.in-Ok.seen.exchange ∷ [])) (sym c.show.ensures.observer) (c.in-Ok.ensures.taken items h),
  appends_as (λ fields. AreFields c.next.new.self.observer c.args.side c.in-Ok.seen.kind c.args.payload.now fields)
      (AreFieldsOf items (item c.args.sequence c.args.side c.args.payload.now c.in-Ok.seen.kind c.in-Ok.seen.exchange)) c.args.self.now.layout _ (string_bytes c.args.out.now) (string_bytes c.show.new.out)
      (λ fields are. (c.next.new.self.observer, c.in-Ok.ensures.taken items h, are))
      (subst (λ w. AppendsFields (λ fields. AreFields c.next.new.self.observer c.args.side c.in-Ok.seen.kind c.args.payload.now fields) c.args.self.now.layout
      (record { side = c.args.side; sequence = c.args.sequence; exchange = c.in-Ok.seen.exchange; kind = w; payload = c.args.payload.now }) (string_bytes c.args.out.now) (string_bytes c.show.new.out))
      (c.as_str.ensures.value ∙ ap text_of c.name.ensures.value)
      (subst (λ l. AppendsFields (λ fields. AreFields c.next.new.self.observer c.args.side c.in-Ok.seen.kind c.args.payload.now fields) l
      (record { side = c.args.side; sequence = c.args.sequence; exchange = c.in-Ok.seen.exchange; kind = c.as_str.result.now; payload = c.args.payload.now })
      (string_bytes c.args.out.now) (string_bytes c.show.new.out)) (ap (λ o. o.layout) c.next.ensures.options) c.in_ok-show-in-Ok.ensures.ok)),
)

pub returns-in-Err-clause-lost : goal.returns-in-Err-clause-lost
returns-in-Err-clause-lost c =
    subst (λ l. IfOk c.refuse.result (λ taken. taken ≢ taken_as.Shown → (items : List Numbered) → Observed c.args.self.now.observer items
    → (reason : SessionError) × ShowsRefused ALL l c.args.side c.args.sequence c.args.payload.now items reason (string_bytes c.args.out.now) (string_bytes c.refuse.new.out))) (ap (λ o. o.layout) c.next.ensures.options)
    (refused_ok ALL c.next.new.self.layout c.args.self.now.observer c.next.new.self.observer c.args.side c.args.sequence c.args.payload.now c.in-Err.why (string_bytes c.args.out.now) (string_bytes c.refuse.new.out)
    c.in-Err.ensures.err (λ items kind number. c.in-Err.ensures.refused items kind number) c.in-Err.ensures.reason c.refuse.result c.refuse.ensures.ok)

pub returns-in-Err-clause-refused : goal.returns-in-Err-clause-refused
returns-in-Err-clause-refused c =
    subst (λ l. IfErr c.refuse.result (λ e. (items : List Numbered) → Observed c.args.self.now.observer items
    → IfRefused e (λ reason. ShowsRefused ALL l c.args.side c.args.sequence c.args.payload.now items reason (string_bytes c.args.out.now) (string_bytes c.refuse.new.out)))) (ap (λ o. o.layout) c.next.ensures.options)
    (refused_err ALL c.next.new.self.layout c.args.self.now.observer c.next.new.self.observer c.args.side c.args.sequence c.args.payload.now c.in-Err.why (string_bytes c.args.out.now) (string_bytes c.refuse.new.out)
    c.in-Err.ensures.err (λ items kind number. c.in-Err.ensures.refused items kind number) c.in-Err.ensures.reason c.refuse.result c.refuse.ensures.err)
