-- Objects of fields have no float.
use Rattle.std.proofs.Common.{◌≡◌, ℕ, List, [], ◌∷◌, ◌++◌, append_assoc, ap, ◌∙◌, is_ok, OnOk, Result, Ok, Err, Some, None, Bool, true, false, Ordering, Less, Equal, Greater, refl, true≢false, if◌then◌else◌, pos, negsuc, codes}
use Rattle.std.specs.Ordering.{nat_cmp, match_ordering}
use Rattle.std.specs.Cmp.Lexicographic.{slice_cmp}
use Rattle.std.specs.Str.{is_utf8}
use Rattle.std.proofs.lemmas.Bool.{or_parts}
use Rattle.serde_json.specs.Data.{Data, string, array, Members, no_members, member, put}
use Rattle.serde_json.specs.View.{items_of}
use Rattle.mysql_values.specs.Value.{Content}
use Rattle.mysql_values.specs.Value as value
use Rattle.mysql_show.specs.Fields.{Held, Number, Bytes, Digits, Word, Flag, Value, WithOffset, OptionalNumber, OptionalBytes, Said, is_float, have_float, value_is_float}
use Rattle.mysql_show.specs.FieldObject.{bytes_data, digits_data, value_data, held_data, is_item, has_name, with_members, items_named, with_items, with_list, with_lists, object_of, object_line}
use Rattle.serde_json.specs.Written.{compact_text, has_float, items_have_float, members_have_float}

text-or-digits : (is : Bool) (bytes : List ℕ) → has_float (if is then string bytes else digits_data bytes) ≡ false
text-or-digits true bytes = refl
text-or-digits false bytes = refl

bytes-none : (bytes : List ℕ) → has_float (bytes_data bytes) ≡ false
bytes-none bytes = text-or-digits (is_utf8 bytes) bytes

value-none : (v : Content) → value_is_float v ≡ false → has_float (value_data v) ≡ false
value-none (value.Bytes bytes) h = bytes-none bytes
value-none (value.Int (pos n)) h = refl
value-none (value.Float bits) h = absurd (true≢false h)
value-none (value.Double bits) h = absurd (true≢false h)
value-none _ h = refl

held-none : (s : Held) → is_float s ≡ false → has_float (held_data s) ≡ false
held-none (Bytes bytes) h = bytes-none bytes
held-none (Value v) h = value-none v h
held-none (OptionalNumber (Some n)) h = refl
held-none (OptionalBytes (Some bytes)) h = bytes-none bytes
held-none _ h = refl

put-at : (o : Ordering) (k l : List ℕ) (d e : Data) (ms : Members) → has_float d ≡ false → has_float e ≡ false → members_have_float ms ≡ false → members_have_float (put k d ms) ≡ false
    → members_have_float (match_ordering o (member k d (member l e ms)) (member l d ms) (member l e (put k d ms))) ≡ false
put-at Less k l d e ms hd he hm later = rw (hd, he) hm
put-at Equal k l d e ms hd he hm later = rw hd hm
put-at Greater k l d e ms hd he hm later = rw he later

put-none : (k : List ℕ) (d : Data) (ms : Members) → has_float d ≡ false → members_have_float ms ≡ false → members_have_float (put k d ms) ≡ false
put-none k d no_members hd hm = rw hd
put-none k d (member l e ms) hd hm =
    let parts = or_parts (has_float e) (members_have_float ms) hm in
    put-at (slice_cmp nat_cmp k l) k l d e ms hd parts.0 parts.1 (put-none k d ms hd parts.1)

one-none : (is : Bool) (k : List ℕ) (d : Data) (ms : Members) → has_float d ≡ false → members_have_float ms ≡ false → members_have_float (if is then ms else put k d ms) ≡ false
one-none true k d ms hd hm = hm
one-none false k d ms hd hm = put-none k d ms hd hm

members-none : (fields : List Said) (ms : Members) → have_float fields ≡ false → members_have_float ms ≡ false → members_have_float (with_members fields ms) ≡ false
members-none [] ms h hm = hm
members-none (field ∷ fields) ms h hm =
    let parts = or_parts (is_float field.held) (have_float fields) h in
    members-none fields _ parts.1 (one-none (is_item field) field.name (held_data field.held) ms (held-none field.held parts.0) hm)

kept-none : (is : Bool) (d : Data) (ds : List Data) → has_float d ≡ false → items_have_float (items_of ds) ≡ false → items_have_float (items_of (if is then d ∷ ds else ds)) ≡ false
kept-none true d ds hd h = rw hd h
kept-none false d ds hd h = h

items-none : (name : List ℕ) (fields : List Said) → have_float fields ≡ false → items_have_float (items_of (items_named name fields)) ≡ false
items-none name [] h = refl
items-none name (field ∷ fields) h =
    let parts = or_parts (is_float field.held) (have_float fields) h in
    kept-none (has_name name field) _ _ (held-none field.held parts.0) (items-none name fields parts.1)

array-none : (name : List ℕ) (ds : List Data) (ms : Members) → items_have_float (items_of ds) ≡ false → members_have_float ms ≡ false → members_have_float (with_items name ds ms) ≡ false
array-none name [] ms h hm = hm
array-none name (d ∷ ds) ms h hm = put-none name (array (items_of (d ∷ ds))) ms h hm

list-none : (name : List ℕ) (fields : List Said) (ms : Members) → have_float fields ≡ false → members_have_float ms ≡ false → members_have_float (with_list name fields ms) ≡ false
unfolding with_list
list-none name fields ms h hm = array-none name (items_named name fields) ms (items-none name fields h) hm

lists-none : (fields : List Said) (ms : Members) → have_float fields ≡ false → members_have_float ms ≡ false → members_have_float (with_lists fields ms) ≡ false
unfolding with_lists
lists-none fields ms h hm =
    list-none _ fields _ h (list-none _ fields _ h (list-none _ fields _ h (list-none _ fields _ h (list-none _ fields _ h (list-none _ fields _ h (list-none _ fields ms h hm))))))

pub object-none : (head fields : List Said) → have_float head ≡ false → have_float fields ≡ false → has_float (object_of head fields) ≡ false
unfolding object_of
object-none head fields h g = lists-none fields _ g (members-none fields _ g (members-none head no_members h refl))

-- the arrays in order
pub lists-in-turn : (fields : List Said) (none one two three four five six seven : Members)
    → one ≡ with_list (codes "attribute") fields none → two ≡ with_list (codes "attribute_value") fields one → three ≡ with_list (codes "parameter") fields two
    → four ≡ with_list (codes "value") fields three → five ≡ with_list (codes "variable") fields four → six ≡ with_list (codes "variable_value") fields five
    → seven ≡ with_list (codes "expected") fields six → seven ≡ with_lists fields none
unfolding with_lists
lists-in-turn fields none one two three four five six seven a b c d e f g = rw (g, f, e, d, c, b, a) refl

-- the text of an object, and a line feed
pub wrote-object : {T E : Type 0} (r : Result T E) (whole : Data) (head fields : List Said) (old text mid new : List ℕ) → whole ≡ object_of head fields
    → (has_float whole ≡ false → text ≡ compact_text whole) → mid ≡ old ++ text → new ≡ (if is_ok r then mid ++ codes "\n" else mid)
    → OnOk r (have_float head ≡ false → have_float fields ≡ false → new ≡ old ++ object_line head fields)
wrote-object (Ok x) whole head fields old text mid new is written e n = λ h g.
    let none : has_float whole ≡ false = ap has_float is ∙ object-none head fields h g in
    let shown : text ≡ compact_text (object_of head fields) = written none ∙ ap compact_text is in
    n ∙ ap (λ (m : List ℕ). m ++ codes "\n") e ∙ append_assoc old text (codes "\n") ∙ ap (λ (t : List ℕ). old ++ (t ++ codes "\n")) shown
wrote-object (Err x) whole head fields old text mid new is written e n = tt

pub ruleset in_turn = (lists-in-turn)

pub ruleset no_float_in = (object-none)
