-- The types that an execution sets are those under which its parameters are read.
use Rattle.std.proofs.Common.{◌≡◌, ◌∙◌, ℕ, ◌+◌, ◌||◌, Bool, true, false, List, [], ◌∷◌, length, map, refl, sym, ap, Ok}
use Rattle.mysql_wire.specs.Each.{each}
use Rattle.mysql_wire.specs.Flags.{CapabilityFlags}
use Rattle.mysql_wire.specs.Reading.{then_read, then_read-ok, done-value}
use Rattle.mysql_values.specs.declared.param_type.ParamType.{ParamType}
use Rattle.mysql_stmt.specs.Attributes.{Attribute, values}
use Rattle.mysql_stmt.specs.BindFront.{BindFront}
use Rattle.mysql_stmt.specs.Bitmap.{cell}
use Rattle.mysql_stmt.specs.ExecuteHead.{cursor_flags, execute_head}
use Rattle.mysql_stmt.specs.declared.execute_head.ComStmtExecuteHead.{ComStmtExecuteHead}
use Rattle.mysql_stmt.specs.ExecuteRead.{BoundType, TypedParam, execution, execution_front, given_types, in_force, param_form, typed_param}
use Rattle.mysql_stmt.specs.SentTypes.{NamedType}
use Rattle.mysql_stmt.specs.declared.execute_view.BoundParam.{BoundParam}
use Rattle.mysql_statements.specs.Kept.{Kept}
use Rattle.mysql_statements.specs.Statement.{without_data}
use Rattle.mysql_statements.specs.Binding.{bound_by, single_front, with_bound, with_execution}
use Rattle.mysql_statements.specs.declared.layout.Layout.TheVariants.{Single}

module _ (c : CapabilityFlags) (s : Kept) (p body rest : List ℕ) (h : ComStmtExecuteHead) (head : (execute_head.form tt).reads p ≡ Ok (h, body)) where
  front_read : (f : BindFront) (after : List ℕ) → (execution_front c (cursor_flags h) (length s.params)).reads body ≡ Ok (f, after) → (single_front c (length s.params)).reads p ≡ Ok (f, after)
  front_read f after r = rw (head, r) refl

  pub execution_binds : (f : BindFront) → (execution_front c (cursor_flags h) (length s.params)).reads body ≡ Ok (f, rest)
      → with_execution (Single c) p s ≡ record s { params = map without_data (given_types f.sends_types s.params f.types); is_bound = f.sends_types || s.is_bound }
  execution_binds f r = ap (λ x. with_bound (bound_by s.params x) s) (front_read f rest r)

-- the type in force of a parameter, and the type of one that was read
abbrev in_use : BoundType → ParamType
in_use b = b.named_type.param_type

abbrev pub type_read : TypedParam → ParamType
type_read x = x.named_type.param_type

abbrev kept : BoundParam → ParamType
kept q = q.param_type

-- parameters are read under the types that are in force
types_read : (nulls : List ℕ) (place : ℕ) (bs : List BoundType) (bytes rest : List ℕ) (xs : List TypedParam) → (each (typed_param nulls) place bs).reads bytes ≡ Ok (xs, rest) → map in_use bs ≡ map type_read xs
unfolding each
types_read nulls place [] bytes rest xs e = ap (λ l. map type_read l) (done-value [] xs bytes rest e)
types_read nulls place (b ∷ bs) bytes rest xs e =
    let one = then_read-ok ((typed_param nulls place b).reads bytes) _ (xs, rest) e in
    let more = then_read-ok ((each (typed_param nulls) (place + 1) bs).reads one.1) _ (xs, rest) one.3 in
    let made = then_read-ok ((param_form b.is_sent_ahead _ b.named_type.param_type).reads bytes) _ (one.0, one.1) one.2 in
    let first : in_use b ≡ type_read one.0 = ap type_read (done-value _ one.0 made.1 one.1 made.3) in
    ap (λ t. t ∷ map in_use bs) first ∙ ap (λ l. type_read one.0 ∷ l) (types_read nulls (place + 1) bs one.1 more.1 more.0 more.2) ∙ ap (λ l. map type_read l) (done-value (one.0 ∷ more.0) xs more.1 rest more.3)

-- these are the types that are kept
types_kept : (s : Bool) (ps : List BoundParam) (ts : List NamedType) → map kept (map without_data (given_types s ps ts)) ≡ map in_use (in_force s ps ts)
types_kept true (p ∷ ps) (t ∷ ts) = ap (λ l. t.param_type ∷ l) (types_kept true ps ts)
types_kept false (p ∷ ps) ts = ap (λ l. p.param_type ∷ l) (types_kept false ps ts)
types_kept _ _ _ = refl

pub execution_keeps : (c : CapabilityFlags) (s : Kept) (p body rest : List ℕ) (h : ComStmtExecuteHead) (params : List TypedParam) (attributes : List Attribute) → (execute_head.form tt).reads p ≡ Ok (h, body)
    → (execution c (cursor_flags h) s.params).reads body ≡ Ok ((params, attributes), rest) → map kept (with_execution (Single c) p s).params ≡ map type_read params
execution_keeps c s p body rest h params attributes head e =
    let front = then_read-ok ((execution_front c (cursor_flags h) (length s.params)).reads body) _ ((params, attributes), rest) e in
    let f = front.0 in
    let bs = in_force f.sends_types s.params f.types in
    let all = then_read-ok ((each (typed_param f.nulls) 0 bs).reads front.1) _ ((params, attributes), rest) front.3 in
    let others = then_read-ok ((values f.nulls (length s.params) _).reads all.1) _ ((params, attributes), rest) all.3 in
    let same = ap (λ x. x.0) (done-value (all.0, others.0) (params, attributes) others.1 rest others.3) in
    ap (λ k. map kept k.params) (execution_binds c s p body front.1 h head f front.2)
    ∙ types_kept f.sends_types s.params f.types ∙ types_read f.nulls 0 bs front.1 all.1 all.0 all.2 ∙ ap (λ l. map type_read l) same
