-- The names of an execution's parameters, as C has them.
use Rattle.std.specs.Prelude.{◌≡◌, ℕ, ◌-◌, ◌++◌, List, drop, length, map, take, Result, Ok, Err, false}
use Rattle.mysql_wire.specs.Flags.{CapabilityFlags}
use Rattle.mysql_wire.specs.Reading.{Reading, Faults, then_read}
use Rattle.mysql_wire.specs.declared.fault.FaultOf.{FaultOf}
use Rattle.mysql_stmt.specs.ExecuteHead.{cursor_flags, execute_head}
use Rattle.mysql_stmt.specs.ExecuteRead.{ParamsLeft, TypedParam, execution}
use Rattle.mysql_stmt.specs.declared.execute_view.BoundParam.{BoundParam}
use Rattle.mysql_packets_c.specs.Code.{kind_code}
use Rattle.mysql_packets_c.specs.Execution.{KeepsRest}
use Rattle.mysql_packets_c.specs.declared.text.CBytes.{CBytes}

abbrev pub names_of : List TypedParam → List (List ℕ)
names_of params = map (λ p. p.named_type.name) params

abbrev pub held : List CBytes → List (List ℕ)
held places = map (λ b. b.bytes.now) places

-- the names of the parameters, after which attributes may stand
abbrev pub names_after : CapabilityFlags → (flags : ℕ) → List BoundParam → List ℕ → Reading (List (List ℕ))
names_after capabilities flags params bytes = then_read ((execution capabilities flags params).reads bytes) (λ x rest. Ok (names_of x.0, rest))

-- those of an execution of these parameters
abbrev pub names_in : CapabilityFlags → List BoundParam → List ℕ → Reading (List (List ℕ))
names_in capabilities params bytes = then_read ((execute_head.form tt).reads bytes) (λ h after. names_after capabilities (cursor_flags h) params after)

-- the names of the parameters that were read stand in the first places; the other places are as they were
pub record FillsNames (old new : ParamsLeft) (before places : List CBytes) : Type 0 where
  pub names : names_of old.params ≡ held (take (old.left - new.left) places) ++ names_of new.params
  pub rest : KeepsRest old new
  pub others : drop (old.left - new.left) places ≡ drop (old.left - new.left) before
  pub count : length places ≡ length before

-- the names of these parameters are in the first elements, and the other elements are unchanged
pub record FillsGoodNames (before places : List CBytes) (good : List TypedParam) : Type 0 where
  pub names : held (take (length good) places) ≡ names_of good
  pub others : drop (length good) places ≡ drop (length good) before

-- the places hold the names that reading gives; or reading gives the fault
abbrev pub NamesAre : Reading (List (List ℕ)) → Result (Unit {0}) FaultOf → List CBytes → Type 0
NamesAre read (Ok done) places = (rest : List ℕ) × (read ≡ Ok (held places, rest))
NamesAre read (Err e) places = Faults false e read

-- 0, and the places hold the names; or the code of the first fault
abbrev pub NamesInto : Reading (List (List ℕ)) → (code : ℕ) → List CBytes → Type 0
NamesInto (Ok x) code places = (code ≡ 0) × (held places ≡ x.0)
NamesInto (Err k) code places = code ≡ kind_code k
