-- Columns with extended metadata, and their attributes.
use Rattle.std.proofs.Common.{◌≡◌, ◌↔◌, ◌<◌, ◌^◌, ℕ, List, ◌++◌, length, Option, Some, None, Ok, Err, Bool, true, false, Decides, IsTrue, refl, sym, subst, ap, ◌∙◌}
use Rattle.std.proofs.lemmas.Bool.Decides.{Decides-and}
use Rattle.mysql_wire.specs.CodecFits.{option_fits}
use Rattle.mysql_wire.specs.Codecs.{const_bytes, string_lenenc}
use Rattle.mysql_wire.specs.Flags.{MariadbCapabilities}
use Rattle.mysql_wire.specs.Form.{Form, when}
use Rattle.mysql_wire.specs.LenEnc.{lenenc_string}
use Rattle.mysql_wire.specs.Reading.{Reading, then_read}
use Rattle.mysql_wire.specs.declared.const_bytes.ConstBytes.{ConstBytes}
use Rattle.mysql_replies.specs.Column.{catalog_bytes, column}
use Rattle.mysql_replies.specs.ColumnAttribute.{attribute_code, attribute_text, attribute_of, column_attribute}
use Rattle.mysql_replies.specs.ColumnFields.{column_fields}
use Rattle.mysql_replies.specs.ColumnNames.{column_meta}
use Rattle.mysql_replies.specs.ExtendedColumn.{ExtendedColumnFits, MetadataFits, extended, extended_column, has_text, metadata_of, reads_text, sends_metadata, without_metadata}
use Rattle.mysql_replies.specs.contracts.column_attribute.ColumnAttributePartialEq.TheImpl as derived_attribute
use Rattle.mysql_replies.specs.contracts.extended_column.ExtendedColumnPartialEq.TheImpl as derived_column
use Rattle.mysql_replies.specs.declared.column.Catalog.{Catalog}
use Rattle.mysql_replies.specs.declared.column.Column.{Column}
use Rattle.mysql_replies.specs.declared.column_attribute.ColumnAttribute.{ColumnAttribute}
use Rattle.mysql_replies.specs.declared.column_fields.ColumnFields.{ColumnFields}
use Rattle.mysql_replies.specs.declared.column_names.ColumnMeta.{ColumnMeta}
use Rattle.mysql_replies.specs.declared.extended_column.ExtendedColumn.{ExtendedColumn}
use Rattle.mysql_replies.proofs.EqualColumns.{columns-same}
use Rattle.mysql_session.proofs.Same.{and-true, numbers-same, bytes-same, options-same}

-- a column that was read has a text, so it allocates
pub read-takes : (read : Reading ExtendedColumn) (c : ExtendedColumn) (rest : List ℕ) → read ≡ Ok (c, rest) → IsTrue (has_text c) → IsTrue (reads_text read)
read-takes read c rest e h = subst (λ r. IsTrue (reads_text r)) (sym e) h

pub ruleset texts = (read-takes)

-- ---- the round trip

metadata-fits : (capabilities : MariadbCapabilities) (sends : Bool) (metadata : Option (List ℕ)) (rest : List ℕ) → MetadataFits sends metadata → option_fits string_lenenc sends capabilities metadata rest
metadata-fits capabilities sends None rest fits = fits
metadata-fits capabilities sends (Some bytes) rest fits = fits

pub extended_column-fits : (capabilities : MariadbCapabilities) (c : ExtendedColumn) (rest : List ℕ) → ExtendedColumnFits capabilities c → extended_column.fits capabilities c rest
unfolding extended_column column_meta column_fields
extended_column-fits capabilities c rest h = (
  refl,
  (
    (h.column.schema, (h.column.table, (h.column.org_table, (h.column.name, (h.column.org_name, tt))))),
    (
      metadata-fits capabilities (sends_metadata capabilities) (metadata_of c) _ h.metadata,
      ((tt, (h.column.character_set, (h.column.column_length, (tt, (h.column.flags, (h.column.decimals, (tt, tt))))))), tt),
    ),
  ),
)

pub extended_column-plain : (capabilities : MariadbCapabilities) (c : ExtendedColumn) (rest : List ℕ) → ExtendedColumnFits capabilities c
    → (extended_column.form capabilities).Spells c (extended_column.bytes c ++ rest) rest
extended_column-plain capabilities c rest h = extended_column.again capabilities c rest (extended_column-fits capabilities c rest h)

pub column_attribute-plain : (a : ColumnAttribute) (rest : List ℕ) → attribute_code a < 2 ^ 8 → length (attribute_text a) < 2 ^ 64
    → (column_attribute.form tt).Spells a (column_attribute.bytes a ++ rest) rest
unfolding column_attribute
column_attribute-plain a rest code text = column_attribute.again tt a rest (code, (text, tt))

pub ruleset extended_columns = (extended_column-plain, column_attribute-plain)

-- ---- without the flag it is a plain column

-- what is read after the names, and after the metadata
abbrev fields_read : ConstBytes Catalog 4 → ColumnMeta → Option (List ℕ) → Reading ColumnFields → Reading ExtendedColumn
fields_read catalog meta metadata r = then_read r (λ fields rest. Ok (extended (record { catalog = catalog; meta = meta; fields = fields }) metadata, rest))

abbrev metadata_read : ConstBytes Catalog 4 → ColumnMeta → Reading (Option (List ℕ)) → Reading ExtendedColumn
metadata_read catalog meta r = then_read r (λ metadata rest. fields_read catalog meta metadata ((column_fields.form (tt {0})).reads rest))

abbrev names_read : Bool → ConstBytes Catalog 4 → Reading ColumnMeta → Reading ExtendedColumn
names_read sends catalog r = then_read r (λ meta rest. metadata_read catalog meta ((when sends lenenc_string).reads rest))

abbrev catalog_read : Bool → Reading (ConstBytes Catalog 4) → Reading ExtendedColumn
catalog_read sends r = then_read r (λ catalog rest. names_read sends catalog ((column_meta.form (tt {0})).reads rest))

-- and of a column
abbrev fields_of_column : ConstBytes Catalog 4 → ColumnMeta → Reading ColumnFields → Reading Column
fields_of_column catalog meta r = then_read r (λ fields rest. Ok (record { catalog = catalog; meta = meta; fields = fields }, rest))

abbrev names_of_column : ConstBytes Catalog 4 → Reading ColumnMeta → Reading Column
names_of_column catalog r = then_read r (λ meta rest. fields_of_column catalog meta ((column_fields.form (tt {0})).reads rest))

abbrev column_read : Reading (ConstBytes Catalog 4) → Reading Column
column_read r = then_read r (λ catalog rest. names_of_column catalog ((column_meta.form (tt {0})).reads rest))

same-fields : (catalog : ConstBytes Catalog 4) (meta : ColumnMeta) (r : Reading ColumnFields) → fields_read catalog meta None r ≡ without_metadata (fields_of_column catalog meta r)
same-fields catalog meta (Ok x) = refl
same-fields catalog meta (Err k) = refl

same-names : (catalog : ConstBytes Catalog 4) (r : Reading ColumnMeta) → names_read false catalog r ≡ without_metadata (names_of_column catalog r)
same-names catalog (Ok x) = same-fields catalog x.0 ((column_fields.form (tt {0})).reads x.1)
same-names catalog (Err k) = refl

same-catalog : (r : Reading (ConstBytes Catalog 4)) → catalog_read false r ≡ without_metadata (column_read r)
same-catalog (Ok x) = same-names x.0 ((column_meta.form (tt {0})).reads x.1)
same-catalog (Err k) = refl

catalog_form : Form (ConstBytes Catalog 4)
catalog_form = (const_bytes {T = Catalog} 4 catalog_bytes).form (tt {0})

extended-read : (capabilities : MariadbCapabilities) (bytes : List ℕ) → (extended_column.form capabilities).reads bytes ≡ catalog_read (sends_metadata capabilities) (catalog_form.reads bytes)
unfolding extended_column catalog_form
extended-read capabilities bytes = refl

column-read : (bytes : List ℕ) → (column.form (tt {0})).reads bytes ≡ column_read (catalog_form.reads bytes)
unfolding column catalog_form
column-read bytes = refl

pub without-flag : (capabilities : MariadbCapabilities) (bytes : List ℕ) → sends_metadata capabilities ≡ false
    → (extended_column.form capabilities).reads bytes ≡ without_metadata ((column.form (tt {0})).reads bytes)
without-flag capabilities bytes e =
    extended-read capabilities bytes ∙ (ap (λ sends. catalog_read sends (catalog_form.reads bytes)) e
    ∙ (same-catalog (catalog_form.reads bytes) ∙ sym (ap without_metadata (column-read bytes))))

pub column-bytes : (c : Column) → extended_column.bytes (extended c None) ≡ column.bytes c
unfolding extended_column column
column-bytes c = refl

pub ruleset without_the_flag = (without-flag, column-bytes)

-- ---- equality

attribute-each : (a b : ColumnAttribute) → Decides (derived_attribute.ghosts.eq a b) ((a.code.0 ≡ b.code.0) × (a.text ≡ b.text))
attribute-each a b = Decides-and _ _ (and-true _ (numbers-same a.code.0 b.code.0)) (bytes-same a.text b.text)

pub attributes-same : (a b : ColumnAttribute) → IsTrue (derived_attribute.ghosts.eq a b) ↔ (a ≡ b)
attributes-same a b = (
  λ e. let s = (attribute-each a b).0 e in λ i. attribute_of (s.0 i) (s.1 i),
  λ e. subst (λ (c : ColumnAttribute). derived_attribute.ghosts.eq a c ≡ true) e ((attribute-each a a).1 (refl, refl)),
)

column-each : (a b : ExtendedColumn) → Decides (derived_column.ghosts.eq a b) ((a.column ≡ b.column) × (a.metadata ≡ b.metadata))
column-each a b = Decides-and _ _ (columns-same a.column b.column) (options-same bytes-same a.metadata b.metadata)

pub extended_columns-same : (a b : ExtendedColumn) → IsTrue (derived_column.ghosts.eq a b) ↔ (a ≡ b)
extended_columns-same a b = (
  λ e. let s = (column-each a b).0 e in λ i. extended (s.0 i) (s.1 i),
  λ e. subst (λ (c : ExtendedColumn). derived_column.ghosts.eq a c ≡ true) e ((column-each a a).1 (refl, refl)),
)

pub ruleset equal_extended_columns = (attributes-same, extended_columns-same)
