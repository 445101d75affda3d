use Rattle.std.proofs.Common.{◌≡◌, ap, sym, ◌∙◌, true}
use Rattle.std.specs.Prelude.{not}
use Rattle.std.proofs.lemmas.Bool.{not-true}
use Rattle.mysql_conversation.specs.Machine.{rests}
use Rattle.mysql_conversation.specs.Standing.{waits}
use Rattle.mysql_conversation.specs.Piped.{stands}
use Rattle.mysql_conversation.proofs.Stood.{pipe_at_rest, run_is_pipelined, none_waits}
use Rattle.mysql_conversation.proofs.pipeline.Pipeline.is_idle.Goals as goal

pub returns-then-rests : goal.returns-then-rests
returns-then-rests c = λ items r. (
  (λ e. run_is_pipelined _ _ items (stands c.args.self.now) r (sym c.rests.ensures ∙ c.if-rests.true, none_waits _ (sym c.waits.ensures ∙ not-true _ e))),
  (λ k. let o = pipe_at_rest _ _ items (stands c.args.self.now) r k in
      ap not (c.waits.ensures ∙ ap waits o.1)),
)

pub returns-else-rests : goal.returns-else-rests
returns-else-rests c = λ items r. (
  (λ e. absurd cc),
  (λ k.
      let o = pipe_at_rest _ _ items (stands c.args.self.now) r k in
      let no : rests c.args.self.now.state ≡ true = o.0 in absurd cc),
)
