-- Whether bytes are UTF-8, and their form in JSON.
use Rattle.std.proofs.Common.{◌≡◌, ℕ, List, Bool, true, false, refl, String, Global, string_bytes, rules}
use Rattle.std.proofs.lemmas.Str.{is_utf8-from_IsUtf8, IsUtf8-from_is_utf8}
use Rattle.std.specs.Str.{IsUtf8, is_utf8}
use Rattle.serde_json.proofs.Views.{view-Object}
use Rattle.serde_json.specs.Data.{string}
use Rattle.serde_json.specs.View.{view}
use Rattle.serde_json.specs.declared.value.Value as Value
use Rattle.serde_json.specs.declared.value.Value.{the_lemmas}
use Rattle.mysql_show.specs.FieldObject.{bytes_data, digits_data}

pub is-text : (bytes : List ℕ) → IsUtf8 bytes → bytes_data bytes ≡ string bytes
is-text bytes h = rw (is_utf8-from_IsUtf8 bytes h)

by-bool : (is : Bool) (bytes : List ℕ) → is_utf8 bytes ≡ is → ¬ (IsUtf8 bytes) → is ≡ false
by-bool true bytes e h = absurd (h (IsUtf8-from_is_utf8 bytes e))
by-bool false bytes e h = refl

pub no-text : (bytes : List ℕ) → ¬ (IsUtf8 bytes) → bytes_data bytes ≡ digits_data bytes
no-text bytes h = rw (by-bool (is_utf8 bytes) bytes refl h)

pub view-text : (text : String Global) → view (Value.String text) ≡ string (string_bytes text)
view-text text = search (rules, the_lemmas)

pub ruleset texts = (is-text, no-text, view-text)

pub ruleset views = (view-Object)
