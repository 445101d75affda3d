-- A state string is read to its end.
use Rattle.std.proofs.Common.{◌≡◌, ℕ, List, [], ◌∷◌, Result, Ok, Err, Bool, refl, ◌∙◌, IfOk}
use Rattle.std.specs.Global.{Vec}
use Rattle.mysql_wire.specs.declared.fault.FaultOf.{FaultOf}
use Rattle.mysql_wire.specs.Form.{Form}
use Rattle.mysql_wire.specs.Many.{many, many_Spells}
use Rattle.mysql_wire.specs.Reading.{Answers, done-both}
use Rattle.mysql_wire.specs.Seq.{items_of}

rest-none : {A : Type 0} (f : Form A) (xs : List A) (bytes rest : List ℕ) → many_Spells f xs bytes rest → rest ≡ []
rest-none f [] bytes rest s = s.1
rest-none f (x ∷ xs) bytes rest s = rest-none f xs s.0 rest s.3

-- what is read of the string is read to its end
module _ {A : Type 0} (f : Form A) (takes : List ℕ → Bool) where
  pub at-end : (r : Result (List A) FaultOf) (bytes old rest : List ℕ) → old ≡ bytes → Answers (takes old) r rest ((many f).reads old) → Answers (takes bytes) r [] ((many f).reads bytes)
  unfolding many
  at-end (Ok xs) bytes old rest same e = rw (← same) (e ∙ done-both xs xs rest [] refl (rest-none f xs old rest ((many f).found xs old rest e)))
  at-end (Err fault) bytes old rest same e = rw (← same) e

  pub spelled-at-end : (r : Result (Vec A) FaultOf) (bytes old rest : List ℕ) → old ≡ bytes → Answers (takes old) (items_of r) rest ((many f).reads old) → IfOk r (λ v. (many f).Spells v.items bytes [])
  spelled-at-end (Ok v) bytes old rest same e = (many f).found v.items bytes [] (at-end (Ok v.items) bytes old rest same e)
  spelled-at-end (Err fault) bytes old rest same e = tt

-- no bytes are no entries
pub none-spelled : {A : Type 0} (f : Form A) (bytes : List ℕ) (xs : List A) → bytes ≡ [] → xs ≡ [] → (many f).Spells xs bytes []
unfolding many
none-spelled f bytes xs p q = rw (p, q) (refl, refl)

pub none-read : {A : Type 0} (f : Form A) (bytes : List ℕ) (xs : List A) → bytes ≡ [] → xs ≡ [] → (many f).reads bytes ≡ Ok (xs, [])
none-read f bytes xs p q = (many f).only xs bytes [] (none-spelled f bytes xs p q)

pub ruleset no_entries = (none-read, none-spelled)
