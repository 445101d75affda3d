-- A NULL bitmap in the bytes.
use Rattle.std.specs.Prelude.{◌≡◌, ℕ, ◌+◌, ◌^◌, List, None, Bool, true, false, nat_lt, refl}
use Rattle.mysql_wire.specs.declared.fault.FaultKind.TheVariants as kind
use Rattle.mysql_wire.specs.Form.{Form, map, either, refuse_with}
use Rattle.mysql_wire.specs.Bare.{bare}
use Rattle.mysql_stmt.specs.Bitmap.{Bitmap, bytes_for}

-- more bytes than there can be
abbrev pub missing : {A : Type 0} → Form A
missing = refuse_with kind.UnexpectedEof

abbrev pub borrowed : List ℕ → Bitmap
borrowed bytes = record { bytes = bytes; owned = false }

-- the bytes for a given number of bits; too many bits for a usize never have bytes
unfoldable pub null_bitmap : ℕ → ℕ → Form Bitmap
null_bitmap offset count = either (nat_lt (count + 7 + offset) (2 ^ 64)) (map borrowed (bare (bytes_for offset count))) missing

size-either : {A : Type 0} (b : Bool) (f g : Form A) → f.size ≡ None → g.size ≡ None → (either b f g).size ≡ None
size-either true f g p q = p
size-either false f g p q = q

pub size-null_bitmap : (offset count : ℕ) → (null_bitmap offset count).size ≡ None
unfolding null_bitmap
size-null_bitmap offset count = size-either (nat_lt (count + 7 + offset) (2 ^ 64)) _ _ refl refl
