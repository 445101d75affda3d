-- The last lines for a packet.
use Rattle.std.specs.Prelude.{ℕ, List, [], ◌∷◌, codes}
use Rattle.mysql_show.specs.Fields.{Said, said, Number, Digits}
use Rattle.mysql_show.specs.FieldText.{lines_of}

-- the number of bytes after the packet, and the packet as it is written
abbrev pub end_lines : (rest : ℕ) → (written : List ℕ) → List ℕ
end_lines rest written = lines_of (said (codes "rest") (Number rest) ∷ said (codes "bytes") (Digits written) ∷ [])
