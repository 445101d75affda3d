-- Fields as a JSON object.
use Rattle.std.specs.Prelude.{◌≡◌, ◌≤◌, ℕ, ◌||◌, Bool, List, [], ◌∷◌, ◌++◌, Option, Some, None, codes, if◌then◌else◌}
use Rattle.std.specs.Str.{is_utf8, bytes_eq}
use Rattle.hex.specs.Hex.{encode_lower}
use Rattle.serde_json.specs.Data.{Data, null, boolean, number, string, array, object, unsigned, Members, no_members, member, put, depth}
use Rattle.serde_json.specs.Find.{of_integer}
use Rattle.serde_json.specs.View.{items_of}
use Rattle.serde_json.specs.Read.{max_depth, read}
use Rattle.serde_json.specs.Written.{compact_text, IsInOrder}
use Rattle.mysql_values.specs.Value.{Content}
use Rattle.mysql_values.specs.Value as value
use Rattle.mysql_show.specs.Fields.{Held, Number, Bytes, Digits, Word, Flag, Value, WithOffset, OptionalNumber, OptionalBytes, Said}
use Rattle.mysql_show.specs.FieldText.{date_text, offset_date_text, time_text}
use Rattle.mysql_show.specs.Floats.{float_data, float_in, double_in}

-- digits, as the only member of an object
abbrev pub digits_data : List ℕ → Data
digits_data bytes = object (member (codes "hex") (string (encode_lower bytes)) no_members)

-- bytes: a text if they are UTF-8, otherwise their hexadecimal digits
abbrev pub bytes_data : List ℕ → Data
bytes_data bytes = if is_utf8 bytes then string bytes else digits_data bytes

-- a value; a date and a time are texts, as in a line
abbrev pub value_data : Content → Data
value_data value.NULL = null
value_data (value.Bytes bytes) = bytes_data bytes
value_data (value.Int n) = number (of_integer n)
value_data (value.UInt n) = number (unsigned n)
value_data (value.Float bits) = float_data (float_in bits)
value_data (value.Double bits) = float_data (double_in bits)
value_data (value.Date date) = string (date_text date)
value_data (value.Time time) = string (time_text time)

abbrev pub or_null : {A : Type 0} → (A → Data) → Option A → Data
or_null shown None = null
or_null shown (Some value) = shown value

abbrev pub held_data : Held → Data
held_data (Number n) = number (unsigned n)
held_data (Bytes bytes) = bytes_data bytes
held_data (Digits bytes) = string (encode_lower bytes)
held_data (Word word) = string word
held_data (Flag flag) = boolean flag
held_data (Value value) = value_data value
held_data (WithOffset date) = string (offset_date_text date)
held_data (OptionalNumber n) = or_null (λ (k : ℕ). number (unsigned k)) n
held_data (OptionalBytes bytes) = or_null bytes_data bytes

abbrev pub has_name : List ℕ → Said → Bool
has_name name field = bytes_eq field.name name

-- the fields of which a packet may have several with one name
abbrev pub is_item : Said → Bool
is_item field =
    has_name (codes "attribute") field || (has_name (codes "attribute_value") field || (has_name (codes "parameter") field
    || (has_name (codes "value") field || (has_name (codes "variable") field || (has_name (codes "variable_value") field
    || has_name (codes "expected") field)))))

-- a member for each field that is not an item
abbrev pub with_members : List Said → Members → Members
with_members [] members = members
with_members (field ∷ fields) members = with_members fields (if is_item field then members else put field.name (held_data field.held) members)

-- the contents of the fields with this name
abbrev pub items_named : List ℕ → List Said → List Data
items_named name [] = []
items_named name (field ∷ fields) = if has_name name field then held_data field.held ∷ items_named name fields else items_named name fields

-- an array, if there is an item
abbrev pub with_items : List ℕ → List Data → Members → Members
with_items name [] members = members
with_items name (first ∷ more) members = put name (array (items_of (first ∷ more))) members

unfoldable pub with_list : List ℕ → List Said → Members → Members
with_list name fields members = with_items name (items_named name fields) members

-- arrays of items
unfoldable pub with_lists : List Said → Members → Members
with_lists fields members =
    with_list (codes "expected") fields (with_list (codes "variable_value") fields (with_list (codes "variable") fields (with_list (codes "value") fields
    (with_list (codes "parameter") fields (with_list (codes "attribute_value") fields (with_list (codes "attribute") fields members))))))

-- the fields of a head, those that are not items, and the arrays of items
unfoldable pub object_of : List Said → List Said → Data
object_of head fields = object (with_lists fields (with_members fields (with_members head no_members)))

-- the object and a line feed
abbrev pub object_line : List Said → List Said → List ℕ
object_line head fields = compact_text (object_of head fields) ++ codes "\n"

-- With floats, whose digits no clause specifies: the text has the object's members, each once and in order, and parses as the object.
abbrev pub IsObjectText : List Said → List Said → List ℕ → Type 0
IsObjectText head fields text = IsInOrder text (object_of head fields) × (depth (object_of head fields) ≤ max_depth → read text ≡ Some (object_of head fields))

-- such an object and a line feed are appended
abbrev pub AppendsObject : List Said → List Said → (old new : List ℕ) → Type 0
AppendsObject head fields old new = (text : List ℕ) × IsObjectText head fields text × (new ≡ old ++ (text ++ codes "\n"))
