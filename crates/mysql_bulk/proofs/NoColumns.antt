-- A request without columns is its head alone.
use Rattle.std.proofs.Common.{◌≢◌, Err, ◌≡◌, ℕ, List, [], length, Bool, true, false, if◌then◌else◌, Ok, refl, ap, map}
use Rattle.std.specs.Global.{Vec}
use Rattle.mysql_wire.specs.Each.{each}
use Rattle.mysql_wire.specs.Many.{many}
use Rattle.mysql_wire.specs.Reading.{Reading}
use Rattle.mysql_wire.specs.declared.fault.FaultKind.TheVariants as kind
use Rattle.mysql_wire.proofs.Counted.{with_front}
use Rattle.mysql_wire.proofs.ReadAll.{takes-none, no-more}
use Rattle.mysql_bulk.specs.ReadRows.{row_of_columns}
use Rattle.mysql_wire.specs.declared.codes.mariadb_bulk_indicator.MariadbBulkIndicator.{MariadbBulkIndicator}
use Rattle.mysql_values.specs.declared.param_type.ParamType.{ParamType}
use Rattle.mysql_values.specs.declared.value.Value.{Value}
use Rattle.mysql_values.specs.Value.{contents_of}
use Rattle.mysql_bulk.specs.Head.{BulkHead, head, sends_types, column_of_type, value_columns}
use Rattle.mysql_bulk.specs.ParamValues.{BulkColumn}
use Rattle.mysql_bulk.specs.Request.{BulkRequest}
use Rattle.mysql_bulk.specs.RequestForm.{with_head, bulk_request}
use Rattle.mysql_bulk.specs.SentValues.{sent_values}

neither : (b : Bool) (types : List ParamType) → types ≡ [] → ◌≡◌ {A = List BulkColumn} (if b then map column_of_type types else []) []
neither true types e = ap (λ (l : List ParamType). map column_of_type l) e
neither false types e = refl

pub no_columns : (columns : List BulkColumn) (old rest : List ℕ) (h : BulkHead) (made : BulkRequest) (indicators : List MariadbBulkIndicator) (values : List Value) → columns ≡ []
    → (head.form (length columns)).reads old ≡ Ok (h, rest) → h.types ≡ [] → values ≡ [] → made ≡ with_head h (sent_values indicators (contents_of values)) → (bulk_request columns).reads old ≡ Ok (made, rest)
unfolding each
no_columns columns old rest h made indicators values none read types empty is =
    let no_values : value_columns columns h ≡ [] = rw none (neither (sends_types h.bulk_flags) h.types types) in
    let no_made : made ≡ with_head h (sent_values indicators []) = rw empty at is in
    rw (read, no_values, no_made) refl

-- ---- rows

no_front : {A : Type 0} (read : Reading (List A)) → with_front [] read ≡ read
no_front (Ok x) = refl
no_front (Err e) = refl

-- remaining bytes are no row
pub no_row_fits : (bytes : List ℕ) → bytes ≢ [] → (many (row_of_columns [])).reads bytes ≡ Err kind.InvalidData
unfolding each
no_row_fits bytes some = takes-none (row_of_columns []) [] bytes _ (no_front ((many (row_of_columns [])).reads bytes)) [] bytes some refl refl

pub no_row_left : (bytes : List ℕ) (rows : List (Vec Value)) → bytes ≡ [] → rows ≡ [] → (many (row_of_columns [])).reads bytes ≡ Ok (map (λ row. contents_of row.items) rows, bytes)
no_row_left bytes rows none empty = rw (empty, none) (no-more (row_of_columns []) [] [] _ (no_front ((many (row_of_columns [])).reads [])) refl)
