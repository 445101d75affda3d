-- The request for a file of the client, in C.
use Rattle.std.specs.Prelude.{◌≡◌, ℕ, List}
use Rattle.mysql_replies.specs.LocalInfile.{file_name}
use Rattle.mysql_replies.specs.declared.local_infile.LocalInfilePacket.{LocalInfilePacket}
use Rattle.mysql_packets_c.specs.declared.text.CBytes.{CBytes}

-- the file name
abbrev pub IsInfile : LocalInfilePacket → List ℕ → CBytes → Type 0
IsInfile p rest out = out.bytes.now ≡ file_name p
