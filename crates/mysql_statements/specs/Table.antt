-- The table of prepared statements, and how packets change it.
use Rattle.std.specs.Prelude.{ℕ, zero, suc, ◌+◌, ◌==◌, nat_lt, nat_le, Bool, true, false, not, ◌&&◌, List, [], ◌∷◌, ◌++◌, length, Option, Some, None, option_map, if◌then◌else◌}
use Rattle.std.specs.List.{filter}
use Rattle.mysql_statements.specs.Kept.{Kept}
use Rattle.mysql_statements.specs.Statement.{types, undefined, with_param, with_column, with_result, with_data, with_no_data, columns}
use Rattle.mysql_statements.specs.Binding.{with_execution}
use Rattle.mysql_statements.specs.declared.layout.Layout.{Layout}
use Rattle.mysql_statements.specs.declared.limits.StatementLimits.{StatementLimits}
use Rattle.mysql_statements.specs.declared.row_column.RowColumn.{RowColumn}
use Rattle.mysql_statements.specs.declared.task.Task.{Task}
use Rattle.mysql_statements.specs.declared.task.Task.TheVariants.{Other, Prepare, Definitions, Execution}

-- the limits, the statements, the number of the one that was prepared last, and what the current exchange does
pub record Table : Type 0 where
  pub limits : StatementLimits
  pub statements : List Kept
  pub last : Option ℕ
  pub task : Task

-- the same limits, with other statements
abbrev pub with : Table → List Kept → Option ℕ → Task → Table
with t statements last task = record { limits = t.limits; statements = statements; last = last; task = task }

-- nothing is known
abbrev pub empty : StatementLimits → Table
empty limits = record { limits = limits; statements = []; last = None; task = Other }

-- ---- statements by their numbers

abbrev pub find : ℕ → List Kept → Option Kept
find id [] = None
find id (s ∷ ss) = if s.id == id then Some s else find id ss

abbrev pub change : ℕ → (Kept → Kept) → List Kept → List Kept
change id f [] = []
change id f (s ∷ ss) = if s.id == id then f s ∷ ss else s ∷ change id f ss

-- the statements with other numbers
abbrev pub without : ℕ → List Kept → List Kept
without id ss = filter (λ s. not (s.id == id)) ss

-- the place of the statement with that number
abbrev pub place_of : ℕ → List Kept → Option ℕ
place_of id [] = None
place_of id (s ∷ ss) = if s.id == id then Some 0 else option_map suc (place_of id ss)

-- the number ffffffff refers to the statement that was prepared last
abbrev pub named : Option ℕ → ℕ → Option ℕ
named last id = if id == 0xffff_ffff then last else Some id

abbrev pub change_of : Option ℕ → (Kept → Kept) → List Kept → List Kept
change_of None f ss = ss
change_of (Some id) f ss = change id f ss

-- ---- bounds

-- the number of types kept
abbrev pub held : List Kept → ℕ
held [] = 0
held (s ∷ ss) = types s + held ss

-- a given number of types more may be kept
abbrev pub has_capacity : ℕ → List Kept → ℕ → Bool
has_capacity limit ss wanted = nat_le (held ss + wanted) limit

-- one more statement may be kept, with a given number of types
abbrev pub has_place : StatementLimits → List Kept → ℕ → Bool
has_place limits ss wanted = nat_lt (length ss) limits.statements && has_capacity limits.types ss wanted

-- ---- changes by packets

-- the current exchange does something else
abbrev pub otherwise : Table → Table
otherwise t = with t t.statements t.last Other

-- a statement is being prepared
abbrev pub preparing : Table → Table
preparing t = with t t.statements t.last Prepare

-- the definitions that follow
abbrev pub following : Bool → ℕ → (params columns : ℕ) → Task
following true id params columns = Definitions id params columns
following false id params columns = Other

-- A statement with that number is prepared, with a given number of parameters and columns. It is kept if there is a place and memory for
-- it.
abbrev pub prepared : Bool → ℕ → (params columns : ℕ) → (follow : Bool) → Table → Table
prepared memory id params columns follow t =
    if has_place t.limits (without id t.statements) (params + columns) && memory
    then with t (without id t.statements ++ undefined id params columns ∷ []) (Some id) (following follow id params columns)
    else with t (without id t.statements) (Some id) Other

-- a statement could not be prepared
abbrev pub failed_at : Task → Table → Table
failed_at Prepare t = with t t.statements None Other
failed_at _ t = otherwise t

abbrev pub failed : Table → Table
failed t = failed_at t.task t

-- the definition of a column of a statement, the first of this many that are expected
abbrev pub defined_column : Bool → ℕ → ℕ → RowColumn → (ℕ → Task) → Table → Table
defined_column memory id zero c task t = t
defined_column memory id (suc left) c task t =
    if memory then with t (change id (with_column c) t.statements) t.last (task left) else with t t.statements t.last (task 0)

-- the definition of a parameter or a column, if the exchange has any
abbrev pub defined_at : Task → Bool → RowColumn → Table → Table
defined_at Other memory c t = t
defined_at Prepare memory c t = t
defined_at (Definitions id zero left) memory c t = defined_column memory id left c (Definitions id 0) t
defined_at (Definitions id (suc params) left) memory c t = with t (change id (with_param (suc params) c) t.statements) t.last (Definitions id params left)
defined_at (Execution id left) memory c t = defined_column memory id left c (Execution id) t

-- A malformed definition ends those that are kept.
abbrev pub defined : Bool → Option RowColumn → Table → Table
defined memory (Some c) t = defined_at t.task memory c t
defined memory None t = otherwise t

abbrev pub executing : Option ℕ → Task
executing None = Other
executing (Some id) = Execution id 0

-- a statement is executed
abbrev pub executed : Layout → (payload : List ℕ) → ℕ → Table → Table
executed layout p id t = with t (change_of (named t.last id) (with_execution layout p) t.statements) t.last (executing (named t.last id))

-- rows of a statement's cursor are fetched
abbrev pub fetched : ℕ → Table → Table
fetched id t = with t t.statements t.last (executing (named t.last id))

-- a result of an execution, with a given number of columns, whose definitions follow or not
abbrev pub counted_at : Task → ℕ → Bool → Table → Table
counted_at (Execution id left) width follow t =
    let ss = change id (with_result width follow) t.statements
    in with t ss t.last (Execution id (if follow && has_capacity t.limits.types ss width then width else 0))
counted_at Other width follow t = t
counted_at Prepare width follow t = t
counted_at (Definitions id params columns) width follow t = t

abbrev pub counted : ℕ → Bool → Table → Table
counted width follow t = counted_at t.task width follow t

-- long data is sent for a parameter
abbrev pub sent_ahead : ℕ → (place : ℕ) → Table → Table
sent_ahead id place t = with t (change_of (named t.last id) (with_data place) t.statements) t.last Other

-- a statement's long data is discarded
abbrev pub reset : ℕ → Table → Table
reset id t = with t (change_of (named t.last id) with_no_data t.statements) t.last Other

abbrev pub without_of : Option ℕ → List Kept → List Kept
without_of None ss = ss
without_of (Some id) ss = without id ss

-- the statement prepared last, unless it is the one that was closed
abbrev pub last_but : (gone last : Option ℕ) → Option ℕ
last_but None last = last
last_but (Some id) None = None
last_but (Some id) (Some other) = if other == id then None else Some other

-- a statement is closed
abbrev pub closed : ℕ → Table → Table
closed id t = with t (without_of (named t.last id) t.statements) (last_but (named t.last id) t.last) Other

-- the connection is reset, or its user changes
abbrev pub cleared : Table → Table
cleared t = empty t.limits

-- ---- queries

abbrev pub find_of : Option ℕ → List Kept → Option Kept
find_of None ss = None
find_of (Some id) ss = find id ss

-- the statement with a number
abbrev pub statement_of : ℕ → Table → Option Kept
statement_of id t = find_of (named t.last id) t.statements

abbrev pub columns_in : Option Kept → Option (List RowColumn)
columns_in None = None
columns_in (Some s) = columns s

-- the columns of the rows that follow
abbrev pub rows_at : Task → List Kept → Option (List RowColumn)
rows_at (Execution id left) ss = columns_in (find id ss)
rows_at Other ss = None
rows_at Prepare ss = None
rows_at (Definitions id params columns) ss = None

abbrev pub columns_of_rows : Table → Option (List RowColumn)
columns_of_rows t = rows_at t.task t.statements
