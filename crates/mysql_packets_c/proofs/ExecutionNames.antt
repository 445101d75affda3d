-- The names of parameters, read in order.
use Rattle.std.proofs.Common.{◌≡◌, ◌≤◌, ◌-◌, ◌++◌, ◌+◌, ℕ, List, [], Ok, false, length, drop, take, refl, sym, subst, ap, ◌∙◌, arith}
use Rattle.std.proofs.lemmas.List.{append-nil, length-map, length-take-le}
use Rattle.mysql_wire.specs.Flags.{CapabilityFlags}
use Rattle.mysql_wire.specs.Reading.{Reading, Faults}
use Rattle.mysql_wire.specs.declared.fault.FaultOf.{FaultOf}
use Rattle.mysql_stmt.specs.ExecuteHead.{cursor_flags}
use Rattle.mysql_stmt.specs.ExecuteRead.{HasNoParam, ParamsBytes, ParamsLeft, StandsAfter, TypedParam, execution_front}
use Rattle.mysql_stmt.specs.declared.execute_head.ComStmtExecuteHead.{ComStmtExecuteHead}
use Rattle.mysql_stmt.specs.declared.execute_view.BoundParam.{BoundParam}
use Rattle.mysql_packets_c.specs.Execution.{bound_list, good_execution, good_params, last_left}
use Rattle.mysql_packets_c.specs.ExecutionNames.{FillsGoodNames, FillsNames, held, names_of}
use Rattle.mysql_packets_c.specs.declared.execution.CBoundParam.{CBoundParam}
use Rattle.mysql_packets_c.specs.declared.text.CBytes.{CBytes}
use Rattle.mysql_packets_c.proofs.Executions.{good-are, no-front, no-head}

-- all of them
pub all-names : (old new : ParamsLeft) (before names : List CBytes) → FillsNames old new before names → HasNoParam new → names_of old.params ≡ held (take old.left names)
all-names old new before names fills none =
    let whole : old.left - 0 ≡ old.left = omega arith in
    let given : names_of old.params ≡ held (take (old.left - 0) names) = rw (none.0, none.1, append-nil) at fills.names in
    subst (λ (n : ℕ). names_of old.params ≡ held (take n names)) whole given

-- those of the parameters before a fault
pub names-filled : (c : CapabilityFlags) (flags : ℕ) (list : List CBoundParam) (bytes : List ℕ) (before names : List CBytes) (sent after : ParamsBytes) → StandsAfter c flags (length list) bytes sent → length list ≤ length before
    → FillsNames (last_left sent list) (last_left after list) before names → (last_left after list).params ≡ [] → FillsGoodNames before names (good_params c flags (bound_list list) bytes)
names-filled c flags list bytes before names sent after stands fit fills none =
    let params = (last_left sent list).params in
    let count = (last_left sent list).left - (last_left after list).left in
    let left : sent.left ≡ length list = ap (λ (b : ParamsBytes). b.left) stands.3 in
    let all : names_of params ≡ held (take count names) = fills.names ∙ ap (λ (ps : List TypedParam). held (take count names) ++ names_of ps) none ∙ append-nil (held (take count names)) in
    let counted : length params ≡ count =
    sym (length-map params (λ p. p.named_type.name)) ∙ ap length all ∙ length-map (take count names) (λ b. b.bytes.now) ∙ length-take-le count names (omega (arith, left, fit, fills.count)) in
    subst (FillsGoodNames before names) (sym (good-are c flags list bytes sent stands)) (record {
      names = ap (λ n. held (take n names)) counted ∙ sym all;
      others = subst (λ (n : ℕ). drop n names ≡ drop n before) (sym counted) fills.others;
    })

no-names : (names : List CBytes) → FillsGoodNames names names []
no-names names = record { names = refl; others = refl }

pub names-without-front : (c : CapabilityFlags) (flags : ℕ) (list : List CBoundParam) (bytes : List ℕ) (names : List CBytes) (e : FaultOf) → Faults false e ((execution_front c flags (length list)).reads bytes)
    → FillsGoodNames names names (good_params c flags (bound_list list) bytes)
names-without-front c flags list bytes names e h = no-front (FillsGoodNames names names) (no-names names) c flags list bytes e h

pub names-without-head : (c : CapabilityFlags) (params : List BoundParam) (read : Reading ComStmtExecuteHead) (names : List CBytes) (e : FaultOf) → Faults false e read → FillsGoodNames names names (good_execution c params read)
names-without-head c params read names e h = no-head (FillsGoodNames names names) (no-names names) c params read e h

pub names-after-head : (c : CapabilityFlags) (params : List BoundParam) (read : Reading ComStmtExecuteHead) (before names : List CBytes) (h : ComStmtExecuteHead) (after : List ℕ) → read ≡ Ok (h, after)
    → FillsGoodNames before names (good_params c (cursor_flags h) params after) → FillsGoodNames before names (good_execution c params read)
names-after-head c params read before names h after e fills = rw e fills

pub ruleset execution_names = (names-without-front, names-without-head, names-after-head)
