-- Bytes as text.
use Rattle.std.specs.Prelude.{◌≡◌, ℕ, List, Option, Some, None, Result, true, is_ok, IfOk, IfSome, IsUtf8, encode_utf8_all}
use Rattle.std.specs.Cow.{IsOwnedStr, cow_str_bytes}
use Rattle.std.specs.declared.borrow.CowStr.{CowStr}
use Rattle.bstr.specs.Utf8.{lossy_chars}

-- the text of the bytes, with U+FFFD for invalid UTF-8
abbrev pub lossy_text : List ℕ → List ℕ
lossy_text bytes = encode_utf8_all (lossy_chars bytes)

-- For UTF-8 the text is returned and borrowed, without allocation.
abbrev pub BorrowsUtf8 : {Z E : Type 0} → List ℕ → Result (CowStr Z) E → Type 0
BorrowsUtf8 bytes result = IsUtf8 bytes → (is_ok result ≡ true) × IfOk result (λ text. IsOwnedStr text → ⊥)

-- The text of the bytes is returned if there is memory for it; for UTF-8 it is borrowed.
abbrev pub GivesText : {Z E : Type 0} → List ℕ → Result (CowStr Z) E → Type 0
GivesText bytes result = IfOk result (λ text. cow_str_bytes text ≡ lossy_text bytes) × BorrowsUtf8 bytes result

-- BorrowsUtf8 for optional bytes: without them there is no text, and no allocation.
abbrev pub OptionBorrowsUtf8 : {Z E : Type 0} → Option (List ℕ) → Result (Option (CowStr Z)) E → Type 0
OptionBorrowsUtf8 None result = is_ok result ≡ true
OptionBorrowsUtf8 (Some bytes) result = IsUtf8 bytes → (is_ok result ≡ true) × IfOk result (λ text. IfSome text (λ t. IsOwnedStr t → ⊥))
