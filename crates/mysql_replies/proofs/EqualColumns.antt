-- Columns compare equal exactly if they are equal.
use Rattle.std.proofs.Common.{◌≡◌, ◌↔◌, Decides, IsTrue, true, refl, rules, subst}
use Rattle.std.proofs.lemmas.Bool.Decides.{Decides-and}
use Rattle.mysql_wire.specs.contracts.codes.column_type.ColumnType.{the_type}
use Rattle.mysql_replies.specs.contracts.column.ColumnPartialEq.TheImpl as derived
use Rattle.mysql_replies.specs.contracts.column_fields.ColumnFieldsPartialEq.TheImpl as derived_fields
use Rattle.mysql_replies.specs.contracts.column_names.ColumnMetaPartialEq.TheImpl as derived_names
use Rattle.mysql_replies.specs.declared.column.Column.{Column}
use Rattle.mysql_replies.specs.declared.column_fields.ColumnFields.{ColumnFields}
use Rattle.mysql_replies.specs.declared.column_names.ColumnMeta.{ColumnMeta}
use Rattle.mysql_replies.specs.ColumnFields.{fields_of}
use Rattle.mysql_replies.specs.ColumnNames.{meta_of}
use Rattle.mysql_session.proofs.Same.{and-true, numbers-same, bytes-same, codes-same}

abbrev SameNames : ColumnMeta → ColumnMeta → Type 0
SameNames a b = (a.schema ≡ b.schema) × ((a.table ≡ b.table) × ((a.org_table ≡ b.org_table) × ((a.name ≡ b.name) × (a.org_name ≡ b.org_name))))

names-each : (a b : ColumnMeta) → Decides (derived_names.ghosts.eq a b) (SameNames a b)
names-each a b =
    Decides-and _ _ (bytes-same a.schema b.schema) (Decides-and _ _ (bytes-same a.table b.table)
    (Decides-and _ _ (bytes-same a.org_table b.org_table) (Decides-and _ _ (bytes-same a.name b.name) (bytes-same a.org_name b.org_name))))

names-same : (a b : ColumnMeta) → Decides (derived_names.ghosts.eq a b) (a ≡ b)
names-same a b = (
  λ e. let s = (names-each a b).0 e in λ i. meta_of (s.0 i) (s.1.0 i) (s.1.1.0 i) (s.1.1.1.0 i) (s.1.1.1.1 i),
  λ e. subst (λ (c : ColumnMeta). derived_names.ghosts.eq a c ≡ true) e ((names-each a a).1 (refl, (refl, (refl, (refl, refl))))),
)

abbrev SameFields : ColumnFields → ColumnFields → Type 0
SameFields a b = (a.character_set.0 ≡ b.character_set.0) × ((a.column_length.0 ≡ b.column_length.0) × ((a.column_type.0 ≡ b.column_type.0) × ((a.flags.0.0 ≡ b.flags.0.0) × (a.decimals.0 ≡ b.decimals.0))))

fields-each : (a b : ColumnFields) → Decides (derived_fields.ghosts.eq a b) (SameFields a b)
fields-each a b =
    Decides-and _ _ (and-true _ (numbers-same a.character_set.0 b.character_set.0)) (Decides-and _ _ (and-true _ (numbers-same a.column_length.0 b.column_length.0))
    (Decides-and _ _ (and-true _ (codes-same the_type (search rules) a.column_type.0 b.column_type.0))
    (Decides-and _ _ (and-true _ (and-true _ (numbers-same a.flags.0.0 b.flags.0.0))) (and-true _ (and-true _ (numbers-same a.decimals.0 b.decimals.0))))))

fields-same : (a b : ColumnFields) → Decides (derived_fields.ghosts.eq a b) (a ≡ b)
fields-same a b = (
  λ e. let s = (fields-each a b).0 e in λ i. fields_of (s.0 i) (s.1.0 i) (s.1.1.0 i) (record { 0 = s.1.1.1.0 i; 1 = record {} }) (s.1.1.1.1 i),
  λ e. subst (λ (c : ColumnFields). derived_fields.ghosts.eq a c ≡ true) e ((fields-each a a).1 (refl, (refl, (refl, (refl, refl))))),
)

both : (a b : Column) → Decides (derived.ghosts.eq a b) ((a.meta ≡ b.meta) × (a.fields ≡ b.fields))
both a b = Decides-and _ _ (names-same a.meta b.meta) (fields-same a.fields b.fields)

pub columns-same : (a b : Column) → IsTrue (derived.ghosts.eq a b) ↔ (a ≡ b)
columns-same a b = (
  λ e. let s = (both a b).0 e in λ i. record { catalog = record { 0 = record {} }; meta = s.0 i; fields = s.1 i },
  λ e. subst (λ (c : Column). derived.ghosts.eq a c ≡ true) e ((both a a).1 (refl, refl)),
)

pub ruleset equal_columns = (columns-same)
