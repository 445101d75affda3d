use Rattle.std.proofs.Common.{◌≡◌, ℕ, Some, None, List, [], ◌∷◌, ◌++◌, Result, IfOk, IfErr, sym, subst, refl}
use Rattle.std.specs.Prelude.{◌≢◌, ◌↔◌, Err}
use Rattle.mysql_conversation.specs.Pipelined.{IsPipelinedBeginning, Numbered}
use Rattle.mysql_conversation.specs.Standing.{pipe_step}
use Rattle.mysql_conversation.specs.Piped.{IsFull, PipeTaken, stands, place}
use Rattle.mysql_conversation.specs.declared.packet_kind.PacketKind.{PacketKind}
use Rattle.mysql_conversation.specs.declared.packet_kind.Side.{Side}
use Rattle.mysql_conversation.specs.declared.packet_kind.Side.TheVariants as side
use Rattle.mysql_conversation.specs.declared.pipeline.Pipeline.{Pipeline}
use Rattle.mysql_conversation.specs.declared.pipeline.SessionError.{SessionError}
use Rattle.mysql_conversation.specs.declared.pipeline.SessionError.TheVariants as refusal
use Rattle.mysql_conversation.proofs.Places.{neither, only, server_is_never_full, unexpected_full}
use Rattle.mysql_conversation.proofs.Stood.{pipe_comes, pipe_one_more, pipe_refused, run_stays, lift_ok, lift_err}
use Rattle.mysql_conversation.proofs.pipeline.Pipeline.next.Goals as goal

-- a packet of this side was taken
taken_from : (r : Result (PacketKind × ℕ) SessionError) (old new : Pipeline) (from side : Side) (p : List ℕ) → from ≡ side → new.agreed ≡ old.agreed → new.opening ≡ old.opening
    → IfOk r (λ x. pipe_step old.agreed (stands old) side p ≡ Some (x.0, x.1, stands new))
    → IfOk r (λ x. (items : List Numbered) → PipeTaken old items → PipeTaken new (items ++ place from p x.0 x.1 ∷ []))
taken_from r old new from side p e agreed opening h = subst (λ s. IfOk r (λ x. (items : List Numbered) → PipeTaken old items → PipeTaken new (items ++ place s p x.0 x.1 ∷ []))) (sym e)
    (lift_ok r (λ x step items run. run_stays _ _ _ _ (items ++ place side p x.0 x.1 ∷ []) (stands new) agreed opening (pipe_one_more _ _ items (stands old) side p x.0 x.1 (stands new) run step)) h)

-- a packet of this side was refused
refused_from : (r : Result (PacketKind × ℕ) SessionError) (old : Pipeline) (from side : Side) (p : List ℕ) → from ≡ side
    → IfErr r (λ why. why ≡ refusal.UnexpectedPacket → pipe_step old.agreed (stands old) side p ≡ None)
    → IfErr r (λ why. (items : List Numbered) (kind : PacketKind) (number : ℕ) → why ≡ refusal.UnexpectedPacket → PipeTaken old items → IsPipelinedBeginning old.agreed old.opening (items ++ place from p kind number ∷ []) → ⊥)
refused_from r old from side p e h = subst (λ s. IfErr r (λ why. (items : List Numbered) (kind : PacketKind) (number : ℕ) → why ≡ refusal.UnexpectedPacket → PipeTaken old items → IsPipelinedBeginning old.agreed old.opening (items ++ place s p kind number ∷ []) → ⊥)) (sym e)
    (lift_err r (λ why none items kind number unexpected run. pipe_refused _ _ items (stands old) (place side p kind number) run (none unexpected)) h)

pub returns-in-Client-clause-taken : goal.returns-in-Client-clause-taken
returns-in-Client-clause-taken c = taken_from c.take_client.result c.args.self.now c.take_client.new.self c.args.from side.Client c.args.payload.now c.in-Client.is
    c.take_client.ensures.agreed c.take_client.ensures.opening c.take_client.ensures.taken

pub returns-in-Client-clause-refused : goal.returns-in-Client-clause-refused
returns-in-Client-clause-refused c = refused_from c.take_client.result c.args.self.now c.args.from side.Client c.args.payload.now c.in-Client.is c.take_client.ensures.refused

pub returns-in-Server-clause-taken : goal.returns-in-Server-clause-taken
returns-in-Server-clause-taken c = taken_from c.take_server.result c.args.self.now c.take_server.new.self c.args.from side.Server c.args.payload.now c.in-Server.is
    c.take_server.ensures.agreed c.take_server.ensures.opening c.take_server.ensures.taken

pub returns-in-Server-clause-refused : goal.returns-in-Server-clause-refused
returns-in-Server-clause-refused c = refused_from c.take_server.result c.args.self.now c.args.from side.Server c.args.payload.now c.in-Server.is
    (lift_err c.take_server.result (λ why h unexpected. h.1) c.take_server.ensures.refused)

pub returns-in-Client-clause-comes : goal.returns-in-Client-clause-comes
returns-in-Client-clause-comes c = lift_err c.take_client.result
    (λ why h n items r. pipe_comes _ _ items (stands c.args.self.now) c.args.from c.args.payload.now _ r refl
    (subst (λ side. pipe_step c.args.self.now.agreed (stands c.args.self.now) side c.args.payload.now ≢ None) (sym c.in-Client.is) (h n)))
    c.take_client.ensures.comes

pub returns-in-Client-clause-full : goal.returns-in-Client-clause-full
returns-in-Client-clause-full c = subst (λ side. (c.take_client.result ≡ Err refusal.Full) ↔ IsFull c.args.self.now side c.args.payload.now) (sym c.in-Client.is) c.take_client.ensures.full

pub returns-in-Server-clause-full : goal.returns-in-Server-clause-full
returns-in-Server-clause-full c = neither
    (only c.take_server.result refusal.Full c.take_server.ensures.refused (λ e h g. unexpected_full e h.0 g))
    (server_is_never_full c.args.self.now c.args.payload.now c.args.from c.in-Server.is)
