-- The request for a local file.
use Rattle.std.specs.Prelude.{ℕ, List, refl}
use Rattle.mysql_wire.specs.Codecs.{Codec, Fields, ◌>>=◌, give, field, packet, const_u8, string_eof}
use Rattle.mysql_replies.specs.declared.local_infile.LocalInfilePacket.{LocalInfilePacket}

-- the bytes of the file name
abbrev pub file_name : LocalInfilePacket → List ℕ
file_name p = p.file_name

-- the request for the file with this name
abbrev pub request_for : List ℕ → LocalInfilePacket
request_for name = record { header = record { 0 = record {} }; file_name = name }

-- fb, and the file name to the end
abbrev pub local_infile_fields : Fields (Unit {0}) LocalInfilePacket LocalInfilePacket
local_infile_fields = do
  header ← field (λ p. p.header) (const_u8 0xfb)
  file_name ← field file_name string_eof
  give (record { header = header; file_name = file_name })

unfoldable pub local_infile : Codec (Unit {0}) LocalInfilePacket
local_infile = packet local_infile_fields (λ p. refl)
