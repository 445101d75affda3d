-- A bitmap of NULLs is read back.
use Rattle.std.proofs.Common.{◌≡◌, ℕ, ◌+◌, ◌<◌, ◌^◌, List, length, refl}
use Rattle.std.proofs.lemmas.Bool.{lt-ltb}
use Rattle.mysql_wire.specs.BytesAgain.{bytes-again}
use Rattle.mysql_wire.specs.Spelling.{IsSpelling}
use Rattle.mysql_stmt.specs.Bitmap.{bytes_for}
use Rattle.mysql_stmt.specs.NullBitmap.{null_bitmap, borrowed}

pub null_bitmap-again : (offset count : ℕ) (bytes : List ℕ) → count + 7 + offset < 2 ^ 64 → length bytes ≡ bytes_for offset count
    → IsSpelling (null_bitmap offset count) (borrowed bytes) bytes
unfolding null_bitmap
null_bitmap-again offset count bytes fits len rest = rw (lt-ltb _ _ fits) (bytes, refl, bytes-again (bytes_for offset count) bytes len rest)
