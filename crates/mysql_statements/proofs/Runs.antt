-- Definitions in order.
use Rattle.std.proofs.Common.{◌≡◌, ◌∙◌, ℕ, suc, ◌+◌, ◌-◌, Bool, true, false, ◌&&◌, not, List, [], ◌∷◌, ◌++◌, Option, Some, None, length, map, replicate, refl, sym, ap, subst, inl, inr, ◌⊎◌, ◌==◌, if◌then◌else◌, append_assoc, eq-eqb, arith}
use Rattle.std.proofs.lemmas.List.{length-append, length-replicate, append-nil}
use Rattle.mysql_stmt.specs.declared.execute_view.BoundParam.{BoundParam}
use Rattle.mysql_conversation.specs.Agreements.{Agreed}
use Rattle.mysql_conversation.specs.declared.packet_kind.PacketKind.{PacketKind}
use Rattle.mysql_conversation.specs.declared.packet_kind.PacketKind.TheVariants as kind
use Rattle.mysql_statements.specs.Kept.{Kept}
use Rattle.mysql_statements.specs.Statement.{at, untyped, undefined, with_type, with_param, with_column, with_result, param_type_of, columns}
use Rattle.mysql_statements.specs.Packets.{column_at, prepared_at}
use Rattle.mysql_statements.specs.Table.{Table, find, change, without, named, has_place, has_capacity, defined, defined_at, defined_column, prepared, counted, counted_at, rows_at, columns_in, columns_of_rows, statement_of, find_of}
use Rattle.mysql_statements.specs.After.{after, prepared_by}
use Rattle.mysql_statements.specs.Run.{Item, after_all, AreDefinitions, defined_param, defined_as}
use Rattle.mysql_statements.specs.declared.limits.StatementLimits.{StatementLimits}
use Rattle.mysql_statements.specs.declared.row_column.RowColumn.{RowColumn}
use Rattle.mysql_statements.specs.declared.task.Task.{Task}
use Rattle.mysql_statements.specs.declared.task.Task.TheVariants.{Other, Definitions, Execution}

abbrev pub tab : StatementLimits → List Kept → Option ℕ → Task → Table
tab limits ss last task = record { limits = limits; statements = ss; last = last; task = task }

-- ---- the statement of a number

changed_when : (b : Bool) (f : Kept → Kept) (s x : Kept) (ss : List Kept) (id : ℕ) (rest : List Kept) → (s.id == id) ≡ b → (f s).id ≡ s.id
    → (if b then Some s else find id ss) ≡ Some x → find id rest ≡ Some (f x) ⊎ (b ≡ true)
    → find id (if b then f s ∷ ss else s ∷ rest) ≡ Some (f x)
changed_when true f s x ss id rest e k h r =
    let here : ((f s).id == id) ≡ true = ap (λ n. n == id) k ∙ e in
    let same : s ≡ x = cc in
    ap (λ b. if b then Some (f s) else find id ss) here ∙ ap (λ y. Some (f y)) same
changed_when false f s x ss id rest e k h (inl r) = ap (λ b. if b then Some s else find id rest) e ∙ r
changed_when false f s x ss id rest e k h (inr r) = absurd cc

not_here : (b : Bool) (s x : Kept) (found : Option Kept) → (if b then Some s else found) ≡ Some x → (found ≡ Some x) ⊎ (b ≡ true)
not_here true s x found h = inr refl
not_here false s x found h = inl h

next_or : (id : ℕ) (f : Kept → Kept) (ss : List Kept) (x : Kept) (b : Bool) → (find id ss ≡ Some x → find id (change id f ss) ≡ Some (f x))
    → (find id ss ≡ Some x) ⊎ (b ≡ true) → (find id (change id f ss) ≡ Some (f x)) ⊎ (b ≡ true)
next_or id f ss x b g (inl h) = inl (g h)
next_or id f ss x b g (inr h) = inr h

-- a change that keeps the number
pub find_changed : (id : ℕ) (f : Kept → Kept) → ((s : Kept) → (f s).id ≡ s.id) → (xs : List Kept) (x : Kept) → find id xs ≡ Some x → find id (change id f xs) ≡ Some (f x)
find_changed id f k [] x h = absurd cc
find_changed id f k (s ∷ ss) x h =
    changed_when (s.id == id) f s x ss id (change id f ss) refl (k s) h
    (next_or id f ss x (s.id == id) (λ g. find_changed id f k ss x g) (not_here (s.id == id) s x (find id ss) h))

without_when : (b : Bool) (s : Kept) (id : ℕ) (w : List Kept) → (s.id == id) ≡ b → find id w ≡ None → find id (if not b then s ∷ w else w) ≡ None
without_when true s id w e h = h
without_when false s id w e h = ap (λ b. if b then Some s else find id w) e ∙ h

find_without : (id : ℕ) (xs : List Kept) → find id (without id xs) ≡ None
find_without id [] = refl
find_without id (s ∷ ss) = without_when (s.id == id) s id (without id ss) refl (find_without id ss)

last_when : (b : Bool) (s x : Kept) (found after : Option Kept) → (if b then Some s else found) ≡ None → (found ≡ None → after ≡ Some x) → (if b then Some s else after) ≡ Some x
last_when true s x found after h g = absurd cc
last_when false s x found after h g = g h

found_last : (id : ℕ) (xs : List Kept) (x : Kept) → x.id ≡ id → find id xs ≡ None → find id (xs ++ x ∷ []) ≡ Some x
found_last id [] x e h = ap (λ b. if b then Some x else None) (eq-eqb x.id id e)
found_last id (s ∷ ss) x e h = last_when (s.id == id) s x (find id ss) (find id (ss ++ x ∷ [])) h (λ g. found_last id ss x e g)

-- ---- a definition, and a packet that is none

after_definition : (a : Agreed) (k : PacketKind) (p : List ℕ) (c : RowColumn) (t : Table) → k ≡ kind.Column → column_at a p ≡ Some c → after true a k p t ≡ defined_at t.task true c t
after_definition a k p c t e h = ap (λ x. after true a x p t) e ∙ ap (λ o. defined true o t) h

after_eof : (a : Agreed) (k : PacketKind) (p : List ℕ) (t : Table) → k ≡ kind.Eof → after true a k p t ≡ t
after_eof a k p t e = ap (λ x. after true a x p t) e

-- the statement of that number is this one
pub record Found (id : ℕ) (s : Kept) (last : Option ℕ) (task : Task) (t : Table) : Type 0 where
  pub found : find id t.statements ≡ Some s
  pub last_is : t.last ≡ last
  pub task_is : t.task ≡ task

with_columns : Kept → List RowColumn → Kept
with_columns s cs = record s { columns = s.columns ++ cs }

no_columns : (s : Kept) (cs : List RowColumn) → cs ≡ [] → s ≡ with_columns s cs
unfolding with_columns
no_columns s cs e = ap (λ l. record s { columns = l }) (sym (append-nil s.columns) ∙ ap (λ l. s.columns ++ l) (sym e))

one_column : (s : Kept) (c : RowColumn) (more cs : List RowColumn) → cs ≡ c ∷ more → with_columns (with_column c s) more ≡ with_columns s cs
unfolding with_columns
one_column s c more cs e = ap (λ l. record s { columns = l }) (append_assoc s.columns (c ∷ []) more ∙ ap (λ l. s.columns ++ l) (sym e))

module _ (a : Agreed) (limits : StatementLimits) (id : ℕ) (last : Option ℕ) (mk : ℕ → Task)
    (step : (n : ℕ) (c : RowColumn) (t : Table) → defined_at (mk n) true c t ≡ defined_column true id n c mk t) where
  -- the columns of a statement
  run_columns : (items : List Item) (ss : List Kept) (s : Kept) (cs : List RowColumn) → find id ss ≡ Some s → AreDefinitions a items cs
      → Found id (with_columns s cs) last (mk 0) (after_all a items (tab limits ss last (mk (length cs))))
  run_columns [] ss s cs f d = record { found = f ∙ ap (λ y. Some y) (no_columns s cs d); last_is = refl; task_is = ap (λ l. mk (length l)) d }
  run_columns (x ∷ xs) ss s cs f (inl e) =
      let t = tab limits ss last (mk (length cs)) in
      subst (λ u. Found id (with_columns s cs) last (mk 0) (after_all a xs u)) (sym (after_eof a x.kind x.payload t e.0)) (run_columns xs ss s cs f e.1)
  run_columns (x ∷ xs) ss s cs f (inr e) =
      let c = e.0 in
      let more = e.1 in
      let t = tab limits ss last (mk (length cs)) in
      let next = tab limits (change id (with_column c) ss) last (mk (length more)) in
      let goes : after true a x.kind x.payload t ≡ next =
      after_definition a x.kind x.payload c t e.3.0 e.3.1 ∙ step (length cs) c t ∙ ap (λ l. defined_column true id (length l) c mk t) e.2 in
      let g = find_changed id (with_column c) (λ y. refl) ss s f in
      subst (λ u. Found id (with_columns s cs) last (mk 0) (after_all a xs u)) (sym goes)
      (subst (λ y. Found id y last (mk 0) (after_all a xs next)) (one_column s c more cs e.2) (run_columns xs (change id (with_column c) ss) (with_column c s) more g e.4))

-- ---- parameters

at_there : (done : List BoundParam) (p : BoundParam) (ps : List BoundParam) (f : BoundParam → BoundParam) → at (length done) f (done ++ p ∷ ps) ≡ done ++ f p ∷ ps
at_there [] p ps f = refl
at_there (q ∷ done) p ps f = ap (λ l. q ∷ l) (at_there done p ps f)

param_there : (s : Kept) (c : RowColumn) (done : List BoundParam) (n : ℕ) → s.params ≡ done ++ replicate (suc n) untyped
    → (with_param (suc n) c s).params ≡ (done ++ defined_param c ∷ []) ++ replicate n untyped
param_there s c done n e =
    let count : length (done ++ replicate (suc n) untyped) - suc n ≡ length done = omega (arith, length-append done (replicate (suc n) untyped), length-replicate {A = BoundParam} (suc n) untyped) in
    ap (λ l. at (length l - suc n) (with_type (param_type_of c)) l) e
    ∙ ap (λ k. at k (with_type (param_type_of c)) (done ++ replicate (suc n) untyped)) count
    ∙ at_there done untyped (replicate n untyped) (with_type (param_type_of c))
    ∙ sym (append_assoc done (defined_param c ∷ []) (replicate n untyped))

defined_to : Kept → List BoundParam → List RowColumn → List RowColumn → Kept
defined_to s done ps cs = record s { params = done ++ map defined_param ps; columns = s.columns ++ cs }

from_columns : (s : Kept) (done : List BoundParam) (cs : List RowColumn) → s.params ≡ done ++ [] → with_columns s cs ≡ defined_to s done [] cs
unfolding with_columns defined_to
from_columns s done cs e = ap (λ l. record s { params = l; columns = s.columns ++ cs }) e

one_param : (s : Kept) (done : List BoundParam) (c : RowColumn) (n : ℕ) (ps cs : List RowColumn)
    → defined_to (with_param (suc n) c s) (done ++ defined_param c ∷ []) ps cs ≡ defined_to s done (c ∷ ps) cs
unfolding defined_to
one_param s done c n ps cs = ap (λ l. record s { params = l; columns = s.columns ++ cs }) (append_assoc done (defined_param c ∷ []) (map defined_param ps))

same_head : (c d : RowColumn) (more rest : List RowColumn) → d ∷ rest ≡ c ∷ more → (d ≡ c) × (rest ≡ more)
same_head c d more rest e = (cc, cc)

module _ (a : Agreed) (limits : StatementLimits) (id : ℕ) (last : Option ℕ) (cs : List RowColumn) where
  run_params : (items : List Item) (ss : List Kept) (s : Kept) (done : List BoundParam) (ps : List RowColumn)
      → find id ss ≡ Some s → s.params ≡ done ++ replicate (length ps) untyped → AreDefinitions a items (ps ++ cs)
      → Found id (defined_to s done ps cs) last (Definitions id 0 0) (after_all a items (tab limits ss last (Definitions id (length ps) (length cs))))
  run_params items ss s done [] f e d =
      subst (λ y. Found id y last (Definitions id 0 0) (after_all a items (tab limits ss last (Definitions id 0 (length cs))))) (from_columns s done cs e)
      (run_columns a limits id last (Definitions id 0) (λ n c t. refl) items ss s cs f d)
  run_params [] ss s done (c ∷ ps) f e d = absurd cc
  run_params (x ∷ xs) ss s done (c ∷ ps) f e (inl d) =
      let t = tab limits ss last (Definitions id (suc (length ps)) (length cs)) in
      subst (λ u. Found id (defined_to s done (c ∷ ps) cs) last (Definitions id 0 0) (after_all a xs u)) (sym (after_eof a x.kind x.payload t d.0))
      (run_params xs ss s done (c ∷ ps) f e d.1)
  run_params (x ∷ xs) ss s done (c ∷ ps) f e (inr d) =
      let h = same_head d.0 c d.1 (ps ++ cs) d.2 in
      let t = tab limits ss last (Definitions id (suc (length ps)) (length cs)) in
      let n = length ps in
      let next = tab limits (change id (with_param (suc n) c) ss) last (Definitions id n (length cs)) in
      let goes : after true a x.kind x.payload t ≡ next = after_definition a x.kind x.payload c t d.3.0 (d.3.1 ∙ ap (λ y. Some y) (sym h.0)) in
      let g = find_changed id (with_param (suc n) c) (λ y. refl) ss s f in
      subst (λ u. Found id (defined_to s done (c ∷ ps) cs) last (Definitions id 0 0) (after_all a xs u)) (sym goes)
      (subst (λ y. Found id y last (Definitions id 0 0) (after_all a xs next)) (one_param s done c n ps cs)
      (run_params xs (change id (with_param (suc n) c) ss) (with_param (suc n) c s) (done ++ defined_param c ∷ []) ps g (param_there s c done n e) (subst (λ l. AreDefinitions a xs l) (sym h.1) d.4)))

-- ---- a statement that is prepared, and all of its definitions

named_so : (b : Bool) (id : ℕ) → (if b then Some id else Some id) ≡ Some id
named_so true id = refl
named_so false id = refl

placed : (t : Table) (id params columns : ℕ) → has_place t.limits (without id t.statements) (params + columns) ≡ true
    → prepared true id params columns true t ≡ tab t.limits (without id t.statements ++ undefined id params columns ∷ []) (Some id) (Definitions id params columns)
placed t id params columns h =
    ap (λ b. if b && true
    then tab t.limits (without id t.statements ++ undefined id params columns ∷ []) (Some id) (Definitions id params columns)
    else tab t.limits (without id t.statements) (Some id) Other) h

after_prepared : (a : Agreed) (t : Table) (p : List ℕ) (id columns params : ℕ) → prepared_at p ≡ Some id
    → after true a (kind.PrepareOk columns params true) p t ≡ prepared true id params columns true t
after_prepared a t p id columns params h = ap (λ o. prepared_by true o columns params true t) h

as_defined : (id : ℕ) (ps cs : List RowColumn) → defined_to (undefined id (length ps) (length cs)) [] ps cs ≡ defined_as id ps cs
unfolding defined_to
as_defined id ps cs = refl

found_of : (id : ℕ) (s : Kept) (task : Task) (t : Table) → Found id s (Some id) task t → statement_of id t ≡ Some s
found_of id s task t h = ap (λ o. find_of (named o id) t.statements) h.last_is ∙ ap (λ o. find_of o t.statements) (named_so (id == 0xffff_ffff) id) ∙ h.found

pub run_prepared : (a : Agreed) (t : Table) (p : List ℕ) (id : ℕ) (items : List Item) (ps cs : List RowColumn) → prepared_at p ≡ Some id
    → has_place t.limits (without id t.statements) (length ps + length cs) ≡ true → AreDefinitions a items (ps ++ cs)
    → statement_of id (after_all a items (after true a (kind.PrepareOk (length cs) (length ps) true) p t)) ≡ Some (defined_as id ps cs)
run_prepared a t p id items ps cs h place d =
    let u = undefined id (length ps) (length cs) in
    let ss = without id t.statements ++ u ∷ [] in
    let goes = after_prepared a t p id (length cs) (length ps) h ∙ placed t id (length ps) (length cs) place in
    let f = found_last id (without id t.statements) u refl (find_without id t.statements) in
    let r = run_params a t.limits id (Some id) cs items ss u [] ps f refl d in
    let q = found_of id (defined_to u [] ps cs) (Definitions id 0 0) (after_all a items (tab t.limits ss (Some id) (Definitions id (length ps) (length cs)))) r in
    ap (λ v. statement_of id (after_all a items v)) goes ∙ q ∙ ap (λ y. Some y) (as_defined id ps cs)

-- ---- a result of an execution

known : (cs : List RowColumn) (n : ℕ) → length cs ≡ n → (if length cs == n then Some cs else None) ≡ Some cs
known cs n e = ap (λ b. if b then Some cs else None) (eq-eqb (length cs) n e)

rows_of : (id : ℕ) (s : Kept) (cs : List RowColumn) (last : Option ℕ) (left : ℕ) (t : Table) → Found id s last (Execution id left) t → columns s ≡ Some cs → columns_of_rows t ≡ Some cs
rows_of id s cs last left t h e = ap (λ k. rows_at k t.statements) h.task_is ∙ ap columns_in h.found ∙ e

result_columns : (s : Kept) (cs : List RowColumn) → columns (with_columns (with_result (length cs) true s) cs) ≡ Some cs
unfolding with_columns
result_columns s cs = known cs (length cs) refl

pub run_result : (a : Agreed) (t : Table) (p : List ℕ) (id left : ℕ) (s : Kept) (items : List Item) (cs : List RowColumn) → t.task ≡ Execution id left → find id t.statements ≡ Some s
    → has_capacity t.limits.types (change id (with_result (length cs) true) t.statements) (length cs) ≡ true → AreDefinitions a items cs
    → columns_of_rows (after_all a items (after true a (kind.ColumnCount (length cs) true) p t)) ≡ Some cs
run_result a t p id left s items cs task f capacity d =
    let n = length cs in
    let ss = change id (with_result n true) t.statements in
    let goes : counted n true t ≡ tab t.limits ss t.last (Execution id n) =
    ap (λ k. counted_at k n true t) task ∙ ap (λ b. tab t.limits ss t.last (Execution id (if true && b then n else 0))) capacity in
    let g = find_changed id (with_result n true) (λ y. refl) t.statements s f in
    let r = run_columns a t.limits id t.last (Execution id) (λ m c u. refl) items ss (with_result n true s) cs g d in
    ap (λ v. columns_of_rows (after_all a items v)) goes
    ∙ rows_of id (with_columns (with_result n true s) cs) cs t.last 0 (after_all a items (tab t.limits ss t.last (Execution id n))) r (result_columns s cs)

pub run_left_out : (a : Agreed) (t : Table) (p : List ℕ) (id left : ℕ) (s : Kept) → t.task ≡ Execution id left → find id t.statements ≡ Some s
    → columns_of_rows (after true a (kind.ColumnCount (length s.columns) false) p t) ≡ Some s.columns
run_left_out a t p id left s task f =
    let n = length s.columns in
    let ss = change id (with_result n false) t.statements in
    let g = find_changed id (with_result n false) (λ y. refl) t.statements s f in
    ap (λ k. columns_of_rows (counted_at k n false t)) task ∙ ap columns_in g ∙ known s.columns n refl
