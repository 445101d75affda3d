-- Lemmas for the reader and the writer of a server's identifier.
use Rattle.std.proofs.Common.{◌≡◌, ℕ, ◌+◌, ◌<◌, List, length, drop, Err, refl, ap, ◌∙◌}
use Rattle.std.proofs.lemmas.Bool.{lt-ltb}
use Rattle.std.proofs.lemmas.List.{drop-drop}
use Rattle.mysql_wire.proofs.Numbers.{bytes-there}
use Rattle.mysql_wire.specs.Form.{bytes}
use Rattle.mysql_wire.specs.declared.fault.FaultKind.TheVariants as kind

-- fewer than sixteen bytes
pub id-short : (old : List ℕ) → length old < 16 → (bytes 16).reads old ≡ Err kind.UnexpectedEof
unfolding bytes
id-short old lt = rw (lt-ltb _ _ lt) refl

pub ruleset ids = (id-short, bytes-there)

-- one more byte is written, and no longer follows the buffer
pub byte-less : (k : ℕ) (before now next : List ℕ) → next ≡ drop 1 now → now ≡ drop k before → next ≡ drop (k + 1) before
byte-less k before now next e f = e ∙ ap (drop 1) f ∙ drop-drop 1 k before
