use Rattle.std.proofs.Common.{◌∙◌, ap, take, List, ℕ, [], refl, sym}
use Rattle.mysql_repl.specs.Sid.{sid_as}
use Rattle.mysql_repl.proofs.InPlace.{in-place, no-item, none-stand}
use Rattle.mysql_repl.proofs.sids_ref.SidsRef.as_bytes.Goals as goal

pub returns-then-self-eq0-clause-value : goal.returns-then-self-eq0-clause-value
returns-then-self-eq0-clause-value c =
    none-stand _ c.args.self.now [] (sym c.self.view_is ∙ no-item ((sid_as c.self.inside.tagged).form tt) c.self.inside.count c.self.inside.bytes c.if-self-eq0.true) refl

pub returns-clause-value : goal.returns-clause-value
returns-clause-value c =
    in-place ((sid_as c.self.inside.tagged).form tt) c.self.inside.count c.self.inside.len c.self.inside.bytes c.args.self.now c.eat.result.now c.self.invariant
    (c.eat.ensures.value ∙ ap (λ (l : List ℕ). take c.self.inside.len l) c.rest-bytes.ensures) c.self.view_is
