-- In each form, bytes encode at most one value with one rest after it.
use Rattle.std.specs.Prelude.{◌≡◌, List, ℕ}
use Rattle.std.proofs.Common.{sym, ◌∙◌}
use Rattle.mysql_wire.specs.Form.{Form}
use Rattle.mysql_wire.specs.Reading.{done-value, done-rest}

pub one-value : {A : Type 0} (f : Form A) (v w : A) (bytes rest left : List ℕ) → f.Spells v bytes rest → f.Spells w bytes left → v ≡ w
one-value f v w bytes rest left s t = done-value v w rest left (sym (f.only v bytes rest s) ∙ f.only w bytes left t)

pub one-rest : {A : Type 0} (f : Form A) (v w : A) (bytes rest left : List ℕ) → f.Spells v bytes rest → f.Spells w bytes left → rest ≡ left
one-rest f v w bytes rest left s t = done-rest v w rest left (sym (f.only v bytes rest s) ∙ f.only w bytes left t)

pub ruleset once = (one-value, one-rest)
