-- The forms of stored values.
use Rattle.std.proofs.Common.{◌≡◌, ◌∙◌, sym, refl, ℕ, List, Bool, true, false, Ok, Err}
use Rattle.mysql_wire.specs.Form.{bytes, either}
use Rattle.mysql_wire.specs.Reading.{Reading, then_read, done-value}
use Rattle.mysql_values.specs.declared.value_ref.ValueRef.{ValueRef}
use Rattle.mysql_values.specs.declared.value_ref.ValueRef.TheVariants as value
use Rattle.mysql_values.specs.Value.{Content, NULL}
use Rattle.mysql_values.specs.ValueRef.{ref_content}
use Rattle.mysql_values.specs.ValueDeserializer.{null_text, starts_null, string_value, text_value, value_of_kind}
use Rattle.mysql_values.specs.declared.value_kind.ValueKind.{ValueKind}
use Rattle.mysql_values.specs.declared.value_kind.ValueKind.TheVariants as kind
use Rattle.mysql_stmt.specs.declared.stored_form.StoredForm.{StoredForm}
use Rattle.mysql_stmt.specs.StoredRow.{IsStoredAs, form_of}

pub not-null : (v : ValueRef) → (v ≡ value.NULL → ⊥) → ref_content v ≡ NULL → ⊥
not-null value.NULL h e = h refl
not-null (value.Bytes b) h e = cc
not-null (value.Int n) h e = cc
not-null (value.UInt n) h e = cc
not-null (value.Float n) h e = cc
not-null (value.Double n) h e = cc
not-null (value.Date a b c d e f g) h p = cc
not-null (value.Time a b c d e f) h p = cc

only-null : (r : Reading (List ℕ)) (x : Content) (rest : List ℕ) → then_read r (λ _ after. Ok (NULL, after)) ≡ Ok (x, rest) → NULL ≡ x
only-null (Ok y) x rest h = done-value NULL x y.1 rest h
only-null (Err e) x rest h = absurd (cc)

by-flag : (is_null : Bool) (input rest : List ℕ) (x : Content) → (x ≡ NULL → ⊥) → (either is_null null_text string_value).reads input ≡ Ok (x, rest) → string_value.reads input ≡ Ok (x, rest)
by-flag true input rest x there h = absurd (there (sym (only-null ((bytes 1).reads input) x rest h)))
by-flag false input rest x there h = h

-- a text value other than NULL is a string
pub text-string : (input rest : List ℕ) (x : Content) → (x ≡ NULL → ⊥) → text_value.reads input ≡ Ok (x, rest) → string_value.reads input ≡ Ok (x, rest)
unfolding text_value
text-string input rest x there h = by-flag (starts_null input) input rest x there h

-- a value is read in the stored form of its kind
pub stored-as : (k : ValueKind) (u : Bool) (f : StoredForm) (input rest : List ℕ) (x : Content) → IsStoredAs k u f → (value_of_kind k u).reads input ≡ Ok (x, rest) → (form_of f).reads input ≡ Ok (x, rest)
stored-as kind.String u f input rest x h e = h input ∙ e
stored-as kind.Tiny u f input rest x h e = h input ∙ e
stored-as kind.Short u f input rest x h e = h input ∙ e
stored-as kind.Long u f input rest x h e = h input ∙ e
stored-as kind.LongLong u f input rest x h e = h input ∙ e
stored-as kind.Float u f input rest x h e = h input ∙ e
stored-as kind.Double u f input rest x h e = h input ∙ e
stored-as kind.Date u f input rest x h e = h input ∙ e
stored-as kind.DateTime u f input rest x h e = h input ∙ e
stored-as kind.Time u f input rest x h e = h input ∙ e
stored-as kind.Null u f input rest x h e = h input ∙ e
stored-as kind.Unsupported u f input rest x h e = absurd (cc)
