-- What each step over a recording keeps, also one that fails.
use Rattle.std.specs.Prelude.{◌≡◌, ℕ, true, List, Result, IfErr}
use Rattle.mysql_show.specs.Appended.{Stays}
use Rattle.mysql_recorder.specs.Refusals.{IfLine}
use Rattle.mysql_recorder.specs.Sides.{has_lost, settings}
use Rattle.mysql_recorder.specs.declared.error.RecordingError.{RecordingError}
use Rattle.mysql_recorder.specs.declared.sides.Sides.{Sides}

pub record Keeps {A : Type 0} (result : Result A RecordingError) (old new : Sides) (before after : List ℕ) : Type 0 where
  -- a loss remains one
  pub lost : has_lost old ≡ true → has_lost new ≡ true
  -- the options are unchanged
  pub settings : settings new ≡ settings old
  -- earlier output is unchanged
  pub text : Stays before after
  -- the error isn't that of a malformed line
  pub no_line : IfErr result (λ e. IfLine e ⊥)
