-- A request is read back: its values, its head and its rows.
use Rattle.std.proofs.Common.{◌≡◌, ◌≢◌, ℕ, ◌+◌, ◌<◌, ◌^◌, Bool, true, false, if◌then◌else◌, List, [], ◌∷◌, ◌++◌, length, map, inl, inr, refl, sym, ◌∙◌, ap, subst, arith, append_assoc}
use Rattle.std.proofs.lemmas.List.{append-nil, map-append, length-map, nil_from_length}
use Rattle.std.proofs.lemmas.Grind.{flat_map-append}
use Rattle.std.proofs.lemmas.Bool.{and_parts, eqb-true}
use Rattle.std.proofs.lemmas.Bool.Decides.{eqb_tells}
use Rattle.std.proofs.lemmas.List.Elements.{All-nil, All-map, All-weaker}
use Rattle.std.specs.Prelude.{◌&&◌, ◌||◌, ◌==◌, IsTrue, IfSome, Option, Some, None}
use Rattle.std.specs.List.{All, AllZip, flat_map, list_any, range_with_len}
use Rattle.mysql_wire.specs.FlagMasks.{UNSIGNED, UNSIGNED_FLAG}
use Rattle.mysql_wire.specs.Each.{each}
use Rattle.mysql_wire.specs.Flags.{has}
use Rattle.mysql_wire.specs.ListAgain.{many-again}
use Rattle.mysql_wire.specs.Many.{many}
use Rattle.mysql_wire.specs.MariadbBulkIndicator.{mariadb_bulk_indicator-again}
use Rattle.mysql_wire.specs.Spelling.{IsSpelling}
use Rattle.mysql_wire.specs.Writing.{le_bytes}
use Rattle.mysql_cuts.specs.Cut.{rows_in}
use Rattle.mysql_values.specs.declared.param_type.ParamType.{ParamType}
use Rattle.mysql_values.specs.ReadingBack.{Agrees}
use Rattle.mysql_values.specs.SentType.{is_uint}
use Rattle.mysql_values.specs.Value.{Content, NULL, Int, UInt, bin}
use Rattle.mysql_bulk.specs.Builder.{BuilderState, IsRequest}
use Rattle.mysql_values.specs.ValueKind.{kind_of, is_longlong}
use Rattle.mysql_bulk.specs.ColumnTypes.{is_declarable_type, is_declarable, TakesTypes, types_of_rows}
use Rattle.mysql_bulk.proofs.ColumnTypes.{length-types_of_rows}
use Rattle.mysql_bulk.specs.DeclaredTypes.{first_not_null, type_from, declared_type, declared_types, column_values}
use Rattle.mysql_bulk.specs.Head.{BulkHead, head, sends_types, value_columns, column_of_type}
use Rattle.mysql_bulk.specs.HeadTypes.{TypesFor}
use Rattle.mysql_bulk.specs.ParamValue.{ParamValue, with_indicator, param_value, param_value_bytes, values_bytes}
use Rattle.mysql_bulk.specs.ParamValues.{BulkColumn, value_of_column}
use Rattle.mysql_bulk.specs.ReadRows.{content_of_column, row_of_columns, bulk_rows}
use Rattle.mysql_bulk.specs.ReadingBack.{AgreesWith, ParamValueAgrees, RequestFits, RowsFit, columns_read_by, PartAgrees}
use Rattle.mysql_bulk.specs.Request.{BulkRequest, head_of, request_flags, request_bytes}
use Rattle.mysql_bulk.specs.RequestForm.{bulk_request}
use Rattle.mysql_bulk.specs.Row.{first_length}

-- ---- values

pub param_value-again : (column : BulkColumn) (v : ParamValue) → ParamValueAgrees column v → IsSpelling (param_value column.0 (has column.1.0 UNSIGNED_FLAG)) v (param_value_bytes v)
param_value-again column v a rest =
    rw append_assoc (
      record { 0 = v.indicator; 1 = record {} },
      bin v.content ++ rest,
      mariadb_bulk_indicator-again (record { 0 = v.indicator; 1 = record {} }) (bin v.content ++ rest),
      (v.content, rest, a rest, (refl, refl)),
    )

-- a value that matches its column's type matches its indicator
pub indicated : (column : BulkColumn) (v : Content) → Agrees column.0 (has column.1.0 UNSIGNED_FLAG) v → ParamValueAgrees column (with_indicator v)
indicated column NULL a = λ rest. (refl, refl)
indicated column v a = a

pub values-again : (place : ℕ) (columns : List BulkColumn) (values : List ParamValue) → AllZip ParamValueAgrees columns values → IsSpelling (each value_of_column place columns) values (values_bytes values)
unfolding each
values-again place [] [] a rest = (refl, refl)
values-again place (column ∷ columns) (v ∷ values) a rest =
    let P : List ℕ → Type 0 = λ bytes. (each value_of_column place (column ∷ columns)).Spells (v ∷ values) bytes rest in
    subst P (sym (append_assoc (param_value_bytes v) (values_bytes values) rest))
    (v, values_bytes values ++ rest, param_value-again column v a.0 (values_bytes values ++ rest), (values, rest, values-again (place + 1) columns values a.1 rest, (refl, refl)))
values-again place columns values a rest = absurd a

-- ---- a row

value_round_trips : (place : ℕ) (column : BulkColumn) (v : Content) → Agrees column.0 (has column.1.0 UNSIGNED_FLAG) v → IsSpelling (content_of_column place column) v (param_value_bytes (with_indicator v))
value_round_trips place column v a rest = (with_indicator v, refl, param_value-again column (with_indicator v) (indicated column v a) rest)

-- the bytes of a row
abbrev pub row_bytes : List Content → List ℕ
row_bytes row = values_bytes (map with_indicator row)

row_again : (place : ℕ) (columns : List BulkColumn) (row : List Content) → AgreesWith columns row → IsSpelling (each content_of_column place columns) row (row_bytes row)
unfolding each
row_again place [] [] a rest = (refl, refl)
row_again place (column ∷ columns) (v ∷ row) a rest =
    let P : List ℕ → Type 0 = λ bytes. (each content_of_column place (column ∷ columns)).Spells (v ∷ row) bytes rest in
    subst P (sym (append_assoc (param_value_bytes (with_indicator v)) (row_bytes row) rest))
    (v, row_bytes row ++ rest, value_round_trips place column v a.0 (row_bytes row ++ rest), (row, rest, row_again (place + 1) columns row a.1 rest, (refl, refl)))
row_again place columns row a rest = absurd a

row_some : (columns : List BulkColumn) (row : List Content) → columns ≢ [] → AgreesWith columns row → 0 < length (row_bytes row)
unfolding le_bytes
row_some [] row n a = absurd (n refl)
row_some (column ∷ columns) [] n a = absurd a
row_some (column ∷ columns) (v ∷ row) n a = omega arith

-- the bytes of the values are those of the rows
pub bytes_of_rows : (rows : List (List Content)) → flat_map row_bytes rows ≡ values_bytes (map with_indicator (rows_in rows))
bytes_of_rows [] = refl
bytes_of_rows (row ∷ rows) =
    ap (λ (b : List ℕ). row_bytes row ++ b) (bytes_of_rows rows)
    ∙ sym (ap values_bytes (map-append with_indicator row (rows_in rows)) ∙ flat_map-append param_value_bytes (map with_indicator row) (map with_indicator (rows_in rows)))

rows_again : (columns : List BulkColumn) (rows : List (List Content)) → columns ≢ [] → All (AgreesWith columns) rows → (many (row_of_columns columns)).Spells rows (values_bytes (map with_indicator (rows_in rows))) []
rows_again columns rows n a =
    let P : List ℕ → Type 0 = λ bytes. (many (row_of_columns columns)).Spells rows bytes [] in
    subst P (bytes_of_rows rows) (many-again (AgreesWith columns) (row_of_columns columns) row_bytes (row_again 0 columns) (λ row w. row_some columns row n w) rows a)

-- ---- the request

head-again : (columns : List BulkColumn) (h : BulkHead) (rest : List ℕ) → h.stmt_id < 2 ^ 32 → h.bulk_flags.0 < 2 ^ 16 → TypesFor (sends_types h.bulk_flags) (length columns) h.types
    → (head.form (length columns)).Spells h (head.bytes h ++ rest) rest
unfolding head
head-again columns h rest id flags types = head.again (length columns) h rest (tt, (id, (flags, (types, tt))))

-- one row of values
pub one_row-again : (columns : List BulkColumn) (request : BulkRequest) → RequestFits columns request → IsSpelling (bulk_request columns) request (request_bytes request)
one_row-again columns request f rest =
    let values = values-again 0 (value_columns columns (head_of request)) request.values f.values in
    let P : List ℕ → Type 0 = λ bytes. (bulk_request columns).Spells request bytes rest in
    let same : head.bytes (head_of request) ++ (values_bytes request.values ++ rest) ≡ request_bytes request ++ rest =
    ap (λ (l : List ℕ). head.bytes (head_of request) ++ (l ++ rest)) (sym (append-nil (values_bytes request.values))) ∙ sym (append_assoc (head.bytes (head_of request)) (values_bytes request.values ++ []) rest) in
    subst P same (
      head_of request,
      values_bytes request.values ++ rest,
      head-again columns (head_of request) (values_bytes request.values ++ rest) f.stmt_id f.bulk_flags f.types,
      (request.values, rest, values rest, (refl, refl)),
    )

pub request_again : (columns : List BulkColumn) (request : BulkRequest) (rows : List (List Content)) → RowsFit columns request rows → (bulk_rows columns).Spells rows (request_bytes request) []
request_again columns request rows f =
    let columns_some = sent_some (sends_types request.bulk_flags) request.types columns f.some f.types in
    let P : List ℕ → Type 0 = λ bytes. (bulk_rows columns).Spells rows bytes [] in
    let V : List ParamValue → Type 0 = λ values. (many (row_of_columns (value_columns columns (head_of request)))).Spells rows (values_bytes values) [] in
    subst P (ap (λ (l : List ℕ). head.bytes (head_of request) ++ l) (sym (append-nil (values_bytes request.values)))) (
      head_of request,
      values_bytes request.values,
      head-again columns (head_of request) (values_bytes request.values) f.stmt_id f.bulk_flags f.types,
      subst V (sym f.values) (rows_again (value_columns columns (head_of request)) rows columns_some f.agree),
    )
  where
    sent_some : (sent : Bool) (types : List ParamType) (columns : List BulkColumn) → columns ≢ [] → TypesFor sent (length columns) types → (if sent then map column_of_type types else columns) ≢ []
    sent_some true types columns n e = λ none. n (nil_from_length columns (sym e.0 ∙ sym (length-map types column_of_type) ∙ ap length none))
    sent_some false types columns n e = n

-- ---- the request of a builder

pub has_types : (types results : Bool) → sends_types (request_flags types results) ≡ types
has_types true true = refl
has_types true false = refl
has_types false true = refl
has_types false false = refl

pub flags_small : (types results : Bool) → (request_flags types results).0 < 2 ^ 16
flags_small true true = omega arith
flags_small true false = omega arith
flags_small false true = omega arith
flags_small false false = omega arith

typed_small : (b : Bool) → (if b then UNSIGNED else 0) < 2 ^ 8
typed_small true = omega arith
typed_small false = omega arith

type_small : (first : Content) (values : List Content) → (type_from first values).flags.0 < 2 ^ 8
type_small (Int x) values = typed_small (list_any is_uint values)
type_small (UInt x) values = typed_small (list_any is_uint values)
type_small first values = omega arith

-- a declarable type has at most one flag
pub declarable_small : (kind : ParamType) → is_declarable kind ≡ true → kind.flags.0 < 2 ^ 8
declarable_small kind e =
    let flags = (and_parts (is_declarable_type kind.column_type) (kind.flags.0 == 0 || (kind.flags.0 == UNSIGNED && is_longlong (kind_of kind.column_type))) e).1 in
    elim (eqb_tells kind.flags.0 0) [
      | inl none ↦ omega (arith, none.1)
      | inr some ↦ let unsigned = eqb-true kind.flags.0 UNSIGNED (and_parts (kind.flags.0 == UNSIGNED) (is_longlong (kind_of kind.column_type)) (rw some.0 at flags)).0 in omega (arith, unsigned)
    ]

types_small : (rows : List (List Content)) → All (λ t. t.flags.0 < 2 ^ 8) (declared_types rows)
types_small rows =
    All-map (λ (t : ParamType). t.flags.0 < 2 ^ 8) (λ i. declared_type (column_values rows i)) (range_with_len 0 (first_length rows)) (λ k d lt. type_small (first_not_null (column_values rows _)) (column_values rows _))

all_small : (declared : Option (List ParamType)) (rows : List (List Content)) → IfSome declared (λ types. All (λ kind. IsTrue (is_declarable kind)) types) → All (λ t. t.flags.0 < 2 ^ 8) (types_of_rows declared rows)
all_small None rows d = types_small rows
all_small (Some types) [] d = All-nil (λ (t : ParamType). t.flags.0 < 2 ^ 8)
all_small (Some types) (row ∷ rows) d = All-weaker (λ (kind : ParamType). IsTrue (is_declarable kind)) (λ (t : ParamType). t.flags.0 < 2 ^ 8) declarable_small types d

pub sent_types : (b : Bool) (declared : Option (List ParamType)) (rows : List (List Content)) (count : ℕ) → count ≡ first_length rows → All (TakesTypes declared) rows
    → IfSome declared (λ types. All (λ kind. IsTrue (is_declarable kind)) types) → TypesFor b count (if b then types_of_rows declared rows else [])
sent_types true declared rows count e taken d = (length-types_of_rows declared rows taken ∙ sym e, all_small declared rows d)
sent_types false declared rows count e taken d = refl

sent_or_passed : (b : Bool) (types : List ParamType) (columns : List BulkColumn) → (if b then map column_of_type (if b then types else []) else columns) ≡ (if b then map column_of_type types else columns)
sent_or_passed true types columns = refl
sent_or_passed false types columns = refl

pub part_fits : (s : BuilderState) (columns : List BulkColumn) (rows : List (List Content)) (request : BulkRequest) → IsRequest s rows request → PartAgrees s columns rows → RowsFit columns request rows
part_fits s columns rows request r p =
    let b = s.types_due in
    let sends : sends_types request.bulk_flags ≡ b = ap sends_types r.flags ∙ has_types b s.results in
    let same : value_columns columns (head_of request) ≡ columns_read_by s columns rows =
    ap (λ c. if c then map column_of_type request.types else columns) sends ∙ ap (λ types. if b then map column_of_type types else columns) r.types ∙ sent_or_passed b (types_of_rows s.columns rows) columns in
    record {
      stmt_id = rw r.id p.stmt_id;
      bulk_flags = rw r.flags (flags_small b s.results);
      some = p.some;
      types = rw (sends, r.types) (sent_types b s.columns rows (length columns) p.long r.taken p.declarable);
      values = r.values;
      agree = rw same p.agree;
    }
