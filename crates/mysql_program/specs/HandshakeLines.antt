-- The command `handshake`.
use Rattle.std.specs.Prelude.{◌≡◌, ℕ, List, ◌∷◌, [], ◌++◌, length, Option, Some, None, Ok, Err, codes, decimal}
use Rattle.mysql_wire.specs.Reading.{Reading}
use Rattle.mysql_auth.specs.Handshake.{HandshakePacket, handshake, server_version}
use Rattle.mysql_auth.specs.Version.{HasVersion, IsMariadbVersion}
use Rattle.mysql_show.specs.Fields.{said, Word}
use Rattle.mysql_show.specs.FieldText.{lines_of, or_none}
use Rattle.mysql_show.specs.Logins.{greeting_fields, version_fields}
use Rattle.mysql_program.specs.Lines.{end_lines}
use Rattle.mysql_program.specs.Answer.{Answer, done, refused}

-- three numbers separated by dots
abbrev pub version_text : ℕ × ℕ × ℕ → List ℕ
version_text v = decimal v.0 ++ (codes "." ++ (decimal v.1 ++ (codes "." ++ decimal v.2)))

-- the version in the text; none if the text has none
abbrev pub IsVersionIn : (List ℕ → ℕ × ℕ × ℕ → Type 0) → List ℕ → Option (ℕ × ℕ × ℕ) → Type 0
IsVersionIn Has text None = (v : ℕ × ℕ × ℕ) → Has text v → ⊥
IsVersionIn Has text (Some v) = Has text v

abbrev pub version_line : List ℕ → Option (ℕ × ℕ × ℕ) → List ℕ
version_line name version = lines_of (said name (Word (or_none version_text version)) ∷ [])

-- the lines of the fields, with the version numbers of the server's text
abbrev pub handshake_lines : HandshakePacket → Option (ℕ × ℕ × ℕ) → Option (ℕ × ℕ × ℕ) → List ℕ
handshake_lines p version mariadb_version =
    ((lines_of (version_fields p) ++ version_line (codes "version") version) ++ version_line (codes "mariadb_version") mariadb_version) ++ lines_of (greeting_fields p)

-- the lines of a handshake, with the versions of its text
pub record ShowsHandshake (p : HandshakePacket) (rest : ℕ) (answer : Answer) : Type 0 where
  pub version : Option (ℕ × ℕ × ℕ)
  pub has_version : IsVersionIn HasVersion (server_version p) version
  pub mariadb_version : Option (ℕ × ℕ × ℕ)
  pub has_mariadb_version : IsVersionIn IsMariadbVersion (server_version p) mariadb_version
  pub shown : answer ≡ done (handshake_lines p version mariadb_version ++ end_lines rest (handshake.bytes p))

abbrev pub AnswersReading : Reading HandshakePacket → Answer → Type 0
AnswersReading (Ok x) answer = ShowsHandshake x.0 (length x.1) answer
AnswersReading (Err k) answer = answer ≡ refused [] k

abbrev pub IsHandshakeAnswer : List ℕ → Answer → Type 0
IsHandshakeAnswer bytes answer = AnswersReading ((handshake.form tt).reads bytes) answer
