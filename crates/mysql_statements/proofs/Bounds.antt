-- A table stays within its limits.
use Rattle.std.proofs.Common.{◌≡◌, ℕ, zero, suc, ◌+◌, ◌-◌, ◌<◌, ◌≤◌, Bool, true, false, nat_lt, ◌&&◌, not, List, [], ◌∷◌, ◌++◌, Option, Some, None, length, refl, ap, ◌==◌, Ok, Err, if◌then◌else◌, arith}
use Rattle.std.proofs.lemmas.List.{length-append, length-map, length-replicate}
use Rattle.std.proofs.lemmas.Bool.{leb-true, ltb-true, and_parts}
use Rattle.mysql_wire.specs.Reading.{Reading}
use Rattle.mysql_stmt.specs.BindFront.{BindFront}
use Rattle.mysql_stmt.specs.ExecuteRead.{given_types}
use Rattle.mysql_stmt.specs.SentTypes.{NamedType, under_types}
use Rattle.mysql_stmt.specs.declared.execute_view.BoundParam.{BoundParam}
use Rattle.mysql_conversation.specs.Agreements.{Agreed}
use Rattle.mysql_conversation.specs.declared.packet_kind.PacketKind.{PacketKind}
use Rattle.mysql_conversation.specs.declared.packet_kind.PacketKind.TheVariants as kind
use Rattle.mysql_statements.specs.Kept.{Kept}
use Rattle.mysql_statements.specs.Statement.{types, at, without_data, with_param, with_column, with_result, with_data, with_no_data, with_type, sent_ahead as marked, param_type_of, undefined}
use Rattle.mysql_statements.specs.Binding.{bound_by, with_execution, front_of}
use Rattle.mysql_statements.specs.Table.{Table, held, change, change_of, without, without_of, named, has_capacity, has_place, following, prepared, failed_at, defined_column, defined_at, defined, executing, executed, fetched, counted_at, closed, otherwise, cleared}
use Rattle.mysql_statements.specs.After.{after, asked, asked_one, for_data, is_of_one, prepared_by}
use Rattle.mysql_statements.specs.Bounds.{IsWithin, expected}
use Rattle.mysql_statements.specs.Packets.{number_at, prepared_at, column_at, data_at}
use Rattle.mysql_statements.specs.declared.row_column.RowColumn.{RowColumn}
use Rattle.mysql_statements.specs.declared.layout.Layout.{Layout}
use Rattle.mysql_statements.specs.declared.layout.Layout.TheVariants.{Bulk, Single}
use Rattle.mysql_statements.specs.declared.task.Task.{Task}
use Rattle.mysql_statements.specs.declared.task.Task.TheVariants.{Other, Prepare, Definitions, Execution}

-- ---- the number of a statement's types

length_at : (k : ℕ) (f : BoundParam → BoundParam) (ps : List BoundParam) → length (at k f ps) ≡ length ps
length_at k f [] = refl
length_at zero f (p ∷ ps) = refl
length_at (suc k) f (p ∷ ps) = ap suc (length_at k f ps)

length_under : (ps : List BoundParam) (ts : List NamedType) → length (under_types ps ts) ≤ length ps
length_under [] ts = omega arith
length_under (p ∷ ps) [] = omega arith
length_under (p ∷ ps) (t ∷ ts) = let h = length_under ps ts in omega arith

length_given : (sends : Bool) (ps : List BoundParam) (ts : List NamedType) → length (given_types sends ps ts) ≤ length ps
length_given true ps ts = length_under ps ts
length_given false ps ts = omega arith

length_bound : (ps : List BoundParam) (r : Reading BindFront) → length (bound_by ps r).params ≤ length ps
length_bound ps (Ok x) = length_given x.0.sends_types ps x.0.types
length_bound ps (Err e) = omega arith

param_types : (left : ℕ) (c : RowColumn) (s : Kept) → types (with_param left c s) ≤ types s + 0
param_types left c s = let e = length_at (length s.params - left) (with_type (param_type_of c)) s.params in omega arith

column_types : (c : RowColumn) (s : Kept) → types (with_column c s) ≤ types s + 1
column_types c s = let e = length-append s.columns (c ∷ []) in omega arith

result_types : (width : ℕ) (follow : Bool) (s : Kept) → types (with_result width follow s) ≤ types s + 0
result_types width true s = omega arith
result_types width false s = omega arith

data_types : (place : ℕ) (s : Kept) → types (with_data place s) ≤ types s + 0
data_types place s = let e = length_at place marked s.params in omega arith

no_data_types : (s : Kept) → types (with_no_data s) ≤ types s + 0
no_data_types s = omega (arith, length-map s.params without_data)

execution_types : (layout : Layout) (p : List ℕ) (s : Kept) → types (with_execution layout p s) ≤ types s + 0
execution_types layout p s =
    let r = (front_of layout (length s.params)).reads p in
    let h = length_bound s.params r in
    omega (arith, h, length-map (bound_by s.params r).params without_data)

-- ---- the number of all types

held_change : (id : ℕ) (f : Kept → Kept) (xs : List Kept) (d : ℕ) → ((s : Kept) → types (f s) ≤ types s + d) → held (change id f xs) ≤ held xs + d
held_change id f [] d h = omega arith
held_change id f (s ∷ ss) d h = elim (s.id == id) as (λ b. held (if b then f s ∷ ss else s ∷ change id f ss) ≤ types s + held ss + d) [
  | true ↦ let e = h s in omega arith
  | false ↦ let e = held_change id f ss d h in omega arith
]

length_change : (id : ℕ) (f : Kept → Kept) (xs : List Kept) → length (change id f xs) ≡ length xs
length_change id f [] = refl
length_change id f (s ∷ ss) = elim (s.id == id) as (λ b. length (if b then f s ∷ ss else s ∷ change id f ss) ≡ suc (length ss)) [
  | true ↦ refl
  | false ↦ ap suc (length_change id f ss)
]

held_change_of : (id : Option ℕ) (f : Kept → Kept) (xs : List Kept) → ((s : Kept) → types (f s) ≤ types s + 0) → held (change_of id f xs) ≤ held xs
held_change_of None f xs h = omega arith
held_change_of (Some id) f xs h = let e = held_change id f xs 0 h in omega arith

length_change_of : (id : Option ℕ) (f : Kept → Kept) (xs : List Kept) → length (change_of id f xs) ≡ length xs
length_change_of None f xs = refl
length_change_of (Some id) f xs = length_change id f xs

held_without : (id : ℕ) (xs : List Kept) → held (without id xs) ≤ held xs
held_without id [] = omega arith
held_without id (s ∷ ss) = elim (s.id == id) as (λ b. held (if not b then s ∷ without id ss else without id ss) ≤ types s + held ss) [
  | true ↦ let e = held_without id ss in omega arith
  | false ↦ let e = held_without id ss in omega arith
]

length_without : (id : ℕ) (xs : List Kept) → length (without id xs) ≤ length xs
length_without id [] = omega arith
length_without id (s ∷ ss) = elim (s.id == id) as (λ b. length (if not b then s ∷ without id ss else without id ss) ≤ suc (length ss)) [
  | true ↦ let e = length_without id ss in omega arith
  | false ↦ let e = length_without id ss in omega arith
]

held_without_of : (id : Option ℕ) (xs : List Kept) → held (without_of id xs) ≤ held xs
held_without_of None xs = omega arith
held_without_of (Some id) xs = held_without id xs

length_without_of : (id : Option ℕ) (xs : List Kept) → length (without_of id xs) ≤ length xs
length_without_of None xs = omega arith
length_without_of (Some id) xs = length_without id xs

held-append : (xs ys : List Kept) → held (xs ++ ys) ≡ held xs + held ys
held-append [] ys = omega arith
held-append (x ∷ xs) ys = let e = held-append xs ys in omega arith

executing_none : (id : Option ℕ) → expected (executing id) ≡ 0
executing_none None = refl
executing_none (Some id) = refl

-- ---- the packets

within_column : (memory : Bool) (id left : ℕ) (c : RowColumn) (task : ℕ → Task) (t : Table) → ((n : ℕ) → expected (task n) ≡ n) → expected t.task ≡ left
    → IsWithin t → IsWithin (defined_column memory id left c task t)
within_column memory id zero c task t e l h = h
within_column true id (suc left) c task t e l h = record {
  statements = let a = length_change id (with_column c) t.statements in let b = h.statements in omega arith;
  types = let a = held_change id (with_column c) t.statements 1 (column_types c) in let b = h.types in let d = e left in omega arith;
}
within_column false id (suc left) c task t e l h = record {
  statements = h.statements;
  types = let b = h.types in let d = e 0 in omega arith;
}

within_definition : (task : Task) (memory : Bool) (c : RowColumn) (t : Table) → t.task ≡ task → IsWithin t → IsWithin (defined_at task memory c t)
within_definition Other memory c t e h = h
within_definition Prepare memory c t e h = h
within_definition (Definitions id zero left) memory c t e h = within_column memory id left c (Definitions id 0) t (λ n. refl) (ap expected e) h
within_definition (Definitions id (suc params) left) memory c t e h = record {
  statements = let a = length_change id (with_param (suc params) c) t.statements in let b = h.statements in omega arith;
  types = let a = held_change id (with_param (suc params) c) t.statements 0 (param_types (suc params) c) in let b = h.types in let d = ap expected e in omega arith;
}
within_definition (Execution id left) memory c t e h = within_column memory id left c (Execution id) t (λ n. refl) (ap expected e) h

-- with other statements, at most as many and with at most as many types, and nothing expected
same_bounds : (t : Table) (ss : List Kept) (last : Option ℕ) (task : Task) → length ss ≤ length t.statements → held ss ≤ held t.statements → expected task ≡ 0
    → IsWithin t → IsWithin (record { limits = t.limits; statements = ss; last = last; task = task })
same_bounds t ss last task a b e h = record {
  statements = let s = h.statements in omega arith;
  types = let s = h.types in omega arith;
}

within_otherwise : (t : Table) → IsWithin t → IsWithin (otherwise t)
within_otherwise t h = same_bounds t t.statements t.last Other (omega arith) (omega arith) refl h

within_defined : (memory : Bool) (c : Option RowColumn) (t : Table) → IsWithin t → IsWithin (defined memory c t)
within_defined memory (Some c) t h = within_definition t.task memory c t refl h
within_defined memory None t h = within_otherwise t h

within_failed : (task : Task) (t : Table) → IsWithin t → IsWithin (failed_at task t)
within_failed Prepare t h = same_bounds t t.statements None Other (omega arith) (omega arith) refl h
within_failed _ t h = within_otherwise t h

within_cleared : (t : Table) → IsWithin (cleared t)
within_cleared t = record { statements = omega arith; types = omega arith }

within_change : (t : Table) (id : Option ℕ) (f : Kept → Kept) (task : Task) → ((s : Kept) → types (f s) ≤ types s + 0) → expected task ≡ 0 → IsWithin t
    → IsWithin (record { limits = t.limits; statements = change_of id f t.statements; last = t.last; task = task })
within_change t id f task g e h =
    let n = length_change_of id f t.statements in
    same_bounds t (change_of id f t.statements) t.last task (omega arith) (held_change_of id f t.statements g) e h

within_capacity : (limit : ℕ) (ss : List Kept) (n : ℕ) (b : Bool) → has_capacity limit ss n ≡ b → held ss ≤ limit → held ss + (if b then n else 0) ≤ limit
within_capacity limit ss n true e h = leb-true (held ss + n) limit e
within_capacity limit ss n false e h = omega arith

within_follow : (limit : ℕ) (ss : List Kept) (n : ℕ) (follow : Bool) → held ss ≤ limit → held ss + (if follow && has_capacity limit ss n then n else 0) ≤ limit
within_follow limit ss n true h = within_capacity limit ss n (has_capacity limit ss n) refl h
within_follow limit ss n false h = omega arith

within_counted : (task : Task) (width : ℕ) (follow : Bool) (t : Table) → IsWithin t → IsWithin (counted_at task width follow t)
within_counted (Execution id left) width follow t h = record {
  statements = let a = length_change id (with_result width follow) t.statements in let b = h.statements in omega arith;
  types =
      let a = held_change id (with_result width follow) t.statements 0 (result_types width follow) in
      let b = h.types in
      within_follow t.limits.types (change id (with_result width follow) t.statements) width follow (omega arith);
}
within_counted _ width follow t h = h

expected_following : (follow : Bool) (id params columns : ℕ) → expected (following follow id params columns) ≤ columns
expected_following true id params columns = omega arith
expected_following false id params columns = omega arith

within_placed : (t : Table) (id params columns : ℕ) (follow memory b : Bool) → has_place t.limits (without id t.statements) (params + columns) ≡ b → IsWithin t
    → IsWithin (if b && memory
    then record { limits = t.limits; statements = without id t.statements ++ undefined id params columns ∷ []; last = Some id; task = following follow id params columns }
    else record { limits = t.limits; statements = without id t.statements; last = Some id; task = Other })
within_placed t id params columns follow memory false e h = same_bounds t (without id t.statements) (Some id) Other (length_without id t.statements) (held_without id t.statements) refl h
within_placed t id params columns follow false true e h = same_bounds t (without id t.statements) (Some id) Other (length_without id t.statements) (held_without id t.statements) refl h
within_placed t id params columns follow true true e h =
    let rest = without id t.statements in
    let p = and_parts (nat_lt (length rest) t.limits.statements) (has_capacity t.limits.types rest (params + columns)) e in
    record {
      statements = let a : length rest < t.limits.statements = ltb-true (length rest) t.limits.statements p.0 in omega (arith, length-append rest (undefined id params columns ∷ []));
      types =
          let a : held rest + (params + columns) ≤ t.limits.types = leb-true (held rest + (params + columns)) t.limits.types p.1 in
          let b = held-append (without id t.statements) (undefined id params columns ∷ []) in
          let d = expected_following follow id params columns in
          omega (arith, length-replicate {A = BoundParam} params);
    }

within_prepared : (memory : Bool) (id params columns : ℕ) (follow : Bool) (t : Table) → IsWithin t → IsWithin (prepared memory id params columns follow t)
within_prepared memory id params columns follow t h =
    within_placed t id params columns follow memory (has_place t.limits (without id t.statements) (params + columns)) refl h

within_prepared_by : (memory : Bool) (id : Option ℕ) (columns params : ℕ) (follow : Bool) (t : Table) → IsWithin t → IsWithin (prepared_by memory id columns params follow t)
within_prepared_by memory None columns params follow t h = within_otherwise t h
within_prepared_by memory (Some id) columns params follow t h = within_prepared memory id params columns follow t h

within_executed : (layout : Layout) (p : List ℕ) (id : ℕ) (t : Table) → IsWithin t → IsWithin (executed layout p id t)
within_executed layout p id t h = within_change t (named t.last id) (with_execution layout p) (executing (named t.last id)) (execution_types layout p) (executing_none (named t.last id)) h

within_fetched : (id : ℕ) (t : Table) → IsWithin t → IsWithin (fetched id t)
within_fetched id t h = same_bounds t t.statements t.last (executing (named t.last id)) (omega arith) (omega arith) (executing_none (named t.last id)) h

within_closed : (id : ℕ) (t : Table) → IsWithin t → IsWithin (closed id t)
within_closed id t h =
    same_bounds t (without_of (named t.last id) t.statements) _ Other (length_without_of (named t.last id) t.statements) (held_without_of (named t.last id) t.statements) refl h

chosen : (b : Bool) (x y : Table) → IsWithin x → IsWithin y → IsWithin (if b then x else y)
chosen true x y p q = p
chosen false x y p q = q

within_one : (a : Agreed) (code : ℕ) (p : List ℕ) (id : Option ℕ) (t : Table) → IsWithin t → IsWithin (asked_one a code p id t)
within_one a code p None t h = within_otherwise t h
within_one a code p (Some id) t h =
    chosen (code == 0x19) _ _ (within_closed id t h) (
    chosen (code == 0x1a) _ _ (within_change t (named t.last id) with_no_data Other no_data_types refl h) (
    chosen (code == 0x1c) _ _ (within_fetched id t h) (
    chosen (code == 0xfa) _ _ (within_executed Bulk p id t h) (within_executed (Single a.mysql) p id t h)
    )
    )
    )

within_data : (x : Option (ℕ × ℕ)) (t : Table) → IsWithin t → IsWithin (for_data x t)
within_data None t h = within_otherwise t h
within_data (Some x) t h = within_change t (named t.last x.0) (with_data x.1) Other (data_types x.1) refl h

within_asked : (a : Agreed) (code : ℕ) (p : List ℕ) (t : Table) → IsWithin t → IsWithin (asked a code p t)
within_asked a code p t h =
    chosen (code == 0x16) _ _ (same_bounds t t.statements t.last Prepare (omega arith) (omega arith) refl h) (
    chosen (code == 0x11) _ _ (within_cleared t) (
    chosen (code == 0x1f) _ _ (within_cleared t) (
    chosen (code == 0x18) _ _ (within_data (data_at p) t h) (
    chosen (is_of_one code) _ _ (within_one a code p (number_at p) t h) (within_otherwise t h)
    )
    )
    )
    )

pub within_after : (memory : Bool) (a : Agreed) (k : PacketKind) (p : List ℕ) (t : Table) → IsWithin t → IsWithin (after memory a k p t)
within_after memory a (kind.Command code) p t h = within_asked a code p t h
within_after memory a (kind.PrepareOk columns params follow) p t h = within_prepared_by memory (prepared_at p) columns params follow t h
within_after memory a kind.Column p t h = within_defined memory (column_at a p) t h
within_after memory a (kind.ColumnCount count follow) p t h = within_counted t.task count follow t h
within_after memory a kind.Error p t h = within_failed t.task t h
within_after memory a _ p t h = h
