-- Column definitions that answer COM_FIELD_LIST.
use Rattle.std.proofs.Common.{◌≡◌, ◌<◌, ◌^◌, ◌∙◌, ℕ, List, [], ◌∷◌, ◌++◌, length, append_assoc, Option, Some, None, Bool, true, false, cond, refl, ap, arith}
use Rattle.std.specs.Prelude.{◌==◌, nat_lt}
use Rattle.std.proofs.lemmas.Bool.{ltb-true, ne_eqb}
use Rattle.mysql_wire.specs.Flags.{MariadbCapabilities}
use Rattle.mysql_wire.specs.LenEnc.{lenenc_bytes, lenenc_string_bytes}
use Rattle.mysql_wire.specs.Writing.{le_bytes}
use Rattle.mysql_replies.specs.FieldListColumn.{Definition, DefaultFits, FieldListColumnFits, column_of, default_of, field_list_column, nullable_string, starts_null}
use Rattle.mysql_replies.proofs.ExtendedColumns.{extended_column-fits}

-- ---- no length-encoded string begins with fb

chosen : (b : Bool) (x y rest : List ℕ) → (b ≡ true → starts_null (x ++ rest) ≡ false) → starts_null (y ++ rest) ≡ false → starts_null (cond b x y ++ rest) ≡ false
chosen true x y rest f g = f refl
chosen false x y rest f g = g

small : (n : ℕ) → nat_lt n 251 ≡ true → (n == 251) ≡ false
small n h = let below : n < 251 = ltb-true n 251 h in ne_eqb n 251 (λ e. omega arith)

number-is_none : (n : ℕ) (rest : List ℕ) → starts_null (lenenc_bytes n ++ rest) ≡ false
unfolding lenenc_bytes
number-is_none n rest =
    let wide : List ℕ = 254 ∷ le_bytes 8 n in
    let longer : List ℕ = cond (nat_lt n (2 ^ 24)) (253 ∷ le_bytes 3 n) wide in
    let long : List ℕ = cond (nat_lt n (2 ^ 16)) (252 ∷ le_bytes 2 n) longer in
    chosen (nat_lt n 251) (n ∷ []) long rest (small n)
    (chosen (nat_lt n (2 ^ 16)) (252 ∷ le_bytes 2 n) longer rest (λ h. refl)
    (chosen (nat_lt n (2 ^ 24)) (253 ∷ le_bytes 3 n) wide rest (λ h. refl) refl))

string-is_none : (text rest : List ℕ) → starts_null (lenenc_string_bytes text ++ rest) ≡ false
unfolding lenenc_string_bytes
string-is_none text rest = ap starts_null (append_assoc (lenenc_bytes (length text)) text rest) ∙ number-is_none (length text) (text ++ rest)

-- ---- the round trip

nullable-fits : (capabilities : MariadbCapabilities) (text : Option (List ℕ)) (rest : List ℕ) → DefaultFits text → nullable_string.fits capabilities text rest
nullable-fits capabilities None rest h = (refl, refl)
nullable-fits capabilities (Some text) rest h = (string-is_none text rest, h)

pub field_list_column-plain : (capabilities : MariadbCapabilities) (d : Definition) (rest : List ℕ) → FieldListColumnFits capabilities d
    → (field_list_column.form capabilities).Spells d (field_list_column.bytes d ++ rest) rest
unfolding field_list_column
field_list_column-plain capabilities d rest h =
    field_list_column.again capabilities d rest (extended_column-fits capabilities (column_of d) _ h.column, (nullable-fits capabilities (default_of d) _ h.default_value, tt))

pub ruleset field_list_columns = (field_list_column-plain)
