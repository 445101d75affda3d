-- A given number of bytes are taken.
use Rattle.std.proofs.Common.{◌≡◌, ◌+◌, ℕ, List, length, Ok}
use Rattle.mysql_wire.specs.Form.{bytes}
use Rattle.mysql_wire.specs.FormLaws.{bytes-sized}

pub bytes_exact : (n : ℕ) (old taken rest : List ℕ) → (bytes n).reads old ≡ Ok (taken, rest) → length old ≡ n + length rest
unfolding bytes
bytes_exact n old taken rest e = (bytes-sized n).exact taken old rest e

pub ruleset exact_bytes = (bytes_exact)
