-- Waiting commands are served in order.
use Rattle.std.proofs.Common.{◌≡◌, ℕ, ◌<◌, ◌≤◌, Bool, true, false, ◌&&◌, nat_le, List, [], ◌∷◌, Option, None, Some, IsTrue, is_some, refl, sym, ap, subst, ◌∙◌, arith, if◌then◌else◌}
use Rattle.std.proofs.lemmas.Bool.{le-leb, leb-true}
use Rattle.mysql_conversation.specs.Agreements.{Agreed}
use Rattle.mysql_statements.specs.PipelinedCommands.{Command, FirstIsLater, Queue, Serves}
use Rattle.mysql_statements.specs.Table.{Table}
use Rattle.mysql_statements.specs.Kept.{Kept}
use Rattle.mysql_observer.specs.Records.{reached_params}
use Rattle.mysql_observer.specs.Tracked.{Params, Reached, Tracked, command_taken, executed_in, execution_served, has_execution, left_waiting, reached_by, reached_or, reached_with, served, table_served}

-- the first is served
pub first_served : (a : Agreed) (n : ℕ) (old : List Command) (c : Command) (cs : List Command) (t : Table) → old ≡ c ∷ cs → c.number ≤ n
    → table_served a n cs (command_taken a c.payload t) ≡ table_served a n old t
first_served a n old c cs t e h =
    sym (ap (λ l. table_served a n l t) e ∙ ap (λ b. if b then table_served a n cs (command_taken a c.payload t) else t) (le-leb c.number n h))

pub first_left : (n : ℕ) (old : List Command) (c : Command) (cs : List Command) → old ≡ c ∷ cs → c.number ≤ n → left_waiting n cs ≡ left_waiting n old
first_left n old c cs e h = sym (ap (left_waiting n) e ∙ ap (λ b. if b then left_waiting n cs else c ∷ cs) (le-leb c.number n h))

no_order : (m n : ℕ) (b : Bool) → nat_le m n ≡ b → n < m → b ≡ false
no_order m n true e h = absurd (let k = leb-true m n e in omega (arith, k, h))
no_order m n false e h = refl

-- none is served if the first is later
pub none_served : (a : Agreed) (n : ℕ) (cs : List Command) (t : Table) → FirstIsLater n cs → t ≡ table_served a n cs t
none_served a n [] t h = refl
none_served a n (c ∷ cs) t h = sym (ap (λ b. if b then table_served a n cs (command_taken a c.payload t) else t) (no_order c.number n (nat_le c.number n) refl h))

pub all_left : (n : ℕ) (cs : List Command) → FirstIsLater n cs → cs ≡ left_waiting n cs
all_left n [] h = refl
all_left n (c ∷ cs) h = sym (ap (λ b. if b then left_waiting n cs else c ∷ cs) (no_order c.number n (nat_le c.number n) refl h))

-- ---- the execution that is kept

first_execution : (a : Agreed) (n : ℕ) (old : List Command) (c : Command) (cs : List Command) (t : Table) (was : Option Reached) → old ≡ c ∷ cs → c.number ≤ n
    → execution_served a n cs (command_taken a c.payload t) (reached_by c t was) ≡ execution_served a n old t was
first_execution a n old c cs t was e h =
    sym (ap (λ l. execution_served a n l t was) e ∙ ap (λ b. if b then execution_served a n cs (command_taken a c.payload t) (reached_by c t was) else was) (le-leb c.number n h))

none_executed : (a : Agreed) (n : ℕ) (cs : List Command) (t : Table) (was : Option Reached) → FirstIsLater n cs → was ≡ execution_served a n cs t was
none_executed a n [] t was h = refl
none_executed a n (c ∷ cs) t was h =
    sym (ap (λ b. if b then execution_served a n cs (command_taken a c.payload t) (reached_by c t was) else was) (no_order c.number n (nat_le c.number n) refl h))

still_some : (s : Option Kept) (c : Command) (was : Option Reached) → IsTrue (is_some was) → IsTrue (is_some (reached_or s c was))
still_some None c was h = h
still_some (Some s) c was h = refl

now_some : (s : Option Kept) (c : Command) (was : Option Reached) → IsTrue (is_some s) → IsTrue (is_some (reached_or s c was))
now_some None c was h = absurd (let e : false ≡ true = h in cc)
now_some (Some s) c was h = refl

-- some of the commands were taken, with memory or not for the parameters of each execution
pub record Serving (a : Agreed) (n : ℕ) (first now : Tracked) (memory : Bool) : Type 0 where
  pub was : Option Reached
  pub execution : execution_served a n now.early.commands now.table was ≡ execution_served a n first.early.commands first.table None
  pub table : table_served a n now.early.commands now.table ≡ table_served a n first.early.commands first.table
  pub left : left_waiting n now.early.commands ≡ left_waiting n first.early.commands
  pub limits : now.early.limits ≡ first.early.limits
  pub lost : now.lost ≡ first.lost
  pub params : now.params ≡ first.params
  pub kept : memory ≡ true → now.reached ≡ was
  pub asked : memory ≡ false → IsTrue (is_some was)

pub none_taken : (a : Agreed) (n : ℕ) (first : Tracked) → first.reached ≡ None → Serving a n first first true
none_taken a n first e = record {
  was = None;
  execution = refl;
  table = refl;
  left = refl;
  limits = refl;
  lost = refl;
  params = refl;
  kept = λ m. e;
  asked = λ m. absurd (let f : true ≡ false = m in cc);
}

one_taken : (a : Agreed) (n : ℕ) (first now : Tracked) (memory after : Bool) (c : Command) (queue : Queue) (r : Option Reached) → Serving a n first now memory → Serves n now.early c queue
    → ((was : Option Reached) → (memory ≡ true → now.reached ≡ was) → after ≡ true → r ≡ reached_by c now.table was)
    → ((was : Option Reached) → (memory ≡ false → IsTrue (is_some was)) → after ≡ false → IsTrue (is_some (reached_by c now.table was)))
    → Serving a n first (record { table = command_taken a c.payload now.table; early = queue; lost = now.lost; params = now.params; reached = r }) after
one_taken a n first now memory after c queue r h s kept asked = record {
  was = reached_by c now.table h.was;
  execution = first_execution a n now.early.commands c queue.commands now.table h.was s.1 s.0 ∙ h.execution;
  table = first_served a n now.early.commands c queue.commands now.table s.1 s.0 ∙ h.table;
  left = first_left n now.early.commands c queue.commands s.1 s.0 ∙ h.left;
  limits = s.2 ∙ h.limits;
  lost = h.lost;
  params = h.params;
  kept = kept h.was h.kept;
  asked = asked h.was h.asked;
}

pub serving_on : (a : Agreed) (n : ℕ) (first now : Tracked) (memory is_kept : Bool) (c : Command) (queue : Queue) (next : Tracked) → Serving a n first now memory → Serves n now.early c queue
    → (is_kept ≡ true → next ≡ record { table = command_taken a c.payload now.table; early = queue; lost = now.lost; params = now.params; reached = reached_by c now.table now.reached })
    → (is_kept ≡ false → next ≡ record { table = command_taken a c.payload now.table; early = queue; lost = now.lost; params = now.params; reached = now.reached })
    → (is_kept ≡ false → IsTrue (is_some (executed_in c.payload now.table)))
    → Serving a n first next (memory && is_kept)
serving_on a n first now true true c queue next h s kept dropped asked =
    subst (λ t. Serving a n first t true) (sym (kept refl)) (one_taken a n first now true true c queue (reached_by c now.table now.reached) h s
    (λ was k m. ap (reached_by c now.table) (k refl)) (λ was k m. absurd (let f : true ≡ false = m in cc)))
serving_on a n first now false true c queue next h s kept dropped asked =
    subst (λ t. Serving a n first t false) (sym (kept refl)) (one_taken a n first now false false c queue (reached_by c now.table now.reached) h s
    (λ was k m. absurd (let f : false ≡ true = m in cc)) (λ was k m. still_some (executed_in c.payload now.table) c was (k refl)))
serving_on a n first now true false c queue next h s kept dropped asked =
    subst (λ t. Serving a n first t false) (sym (dropped refl)) (one_taken a n first now true false c queue now.reached h s
    (λ was k m. absurd (let f : false ≡ true = m in cc)) (λ was k m. now_some (executed_in c.payload now.table) c was (asked refl)))
serving_on a n first now false false c queue next h s kept dropped asked =
    subst (λ t. Serving a n first t false) (sym (dropped refl)) (one_taken a n first now false false c queue now.reached h s
    (λ was k m. absurd (let f : false ≡ true = m in cc)) (λ was k m. now_some (executed_in c.payload now.table) c was (asked refl)))

tracked_is : (now : Tracked) (t : Table) (e : Queue) (l : Option ℕ) (p : Option Params) (r s : Option Reached) → now.table ≡ t → now.early ≡ e → now.lost ≡ l → now.params ≡ p → s ≡ r
    → ◌≡◌ {A = Tracked} (record { table = now.table; early = now.early; lost = now.lost; params = now.params; reached = s }) (record { table = t; early = e; lost = l; params = p; reached = r })
tracked_is now t e l p r s ht he hl hp hr = cc

kept_or_none : (memory : Bool) (now was all : Option Reached) → (memory ≡ true → now ≡ was) → was ≡ all → (if memory then now else None) ≡ (if memory then all else None)
kept_or_none true now was all k e = k refl ∙ e
kept_or_none false now was all k e = refl

-- all of them were taken
pub all_taken : (a : Agreed) (n : ℕ) (first now : Tracked) (memory : Bool) → Serving a n first now memory → FirstIsLater n now.early.commands
    → ◌≡◌ {A = Tracked} (record { table = now.table; early = now.early; lost = now.lost; params = now.params; reached = if memory then now.reached else None }) (served memory a n first)
all_taken a n first now memory h last =
    let early : now.early ≡ record { limits = first.early.limits; commands = left_waiting n first.early.commands } =
    ap (λ q. record { limits = now.early.limits; commands = q }) (all_left n now.early.commands last ∙ h.left) ∙ ap (λ l. record { limits = l; commands = left_waiting n first.early.commands }) h.limits in
    tracked_is now _ _ _ _ _ _ (none_served a n now.early.commands now.table last ∙ h.table) early h.lost h.params
    (kept_or_none memory now.reached h.was _ h.kept (none_executed a n now.early.commands now.table h.was last ∙ h.execution))

pub execution_asked : (a : Agreed) (n : ℕ) (first now : Tracked) (memory : Bool) → Serving a n first now memory → FirstIsLater n now.early.commands → memory ≡ false → IsTrue (has_execution a n first)
execution_asked a n first now memory h last e = subst (λ r. IsTrue (is_some r)) (none_executed a n now.early.commands now.table h.was last ∙ h.execution) (h.asked e)

-- ---- as it is kept

pub reached_known : (c : Command) (ps : Option Params) → is_some ps ≡ true → reached_with (Some c) ps ≡ Some (record { command = c; params = ps })
reached_known c (Some ps) e = refl
reached_known c None e = absurd (let f : false ≡ true = e in cc)

pub reached_unknown : (c : Option Command) (ps : Option Params) → is_some ps ≡ false → reached_with c ps ≡ None
reached_unknown c None e = refl
reached_unknown c (Some ps) e = absurd (let f : true ≡ false = e in cc)

pub reached_without : (ps : Option Params) → reached_with None ps ≡ None
reached_without None = refl
reached_without (Some ps) = refl

pub params_reached : (c : Command) (ps : Option Params) → reached_params (reached_with (Some c) ps) ≡ ps
params_reached c None = refl
params_reached c (Some ps) = refl

pub ruleset reached = (reached_known, reached_unknown, reached_without, params_reached)

pub ruleset serves = (first_served, first_left, none_served, all_left)
