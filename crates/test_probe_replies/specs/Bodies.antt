-- The bodies of a user's kinds of OK packets.
use Rattle.std.specs.Prelude.{[], ◌∷◌, Ok, Err}
use Rattle.mysql_wire.specs.Reading.{Reading}
use Rattle.mysql_wire.specs.Flags.{CapabilityFlags}
use Rattle.mysql_wire.specs.Form.{Form, ◌>>=◌, give, refuse}
use Rattle.mysql_wire.specs.Int.{byte}
use Rattle.mysql_replies.specs.declared.ok_kind.OkPacketBody.{OkPacketBody}
use Rattle.mysql_replies.specs.OkKind.{old_eof_body}

-- a byte of any value, and the body of an old end
abbrev pub after_a_byte : CapabilityFlags → Form OkPacketBody
after_a_byte capabilities = do
  first ← byte
  old_eof_body capabilities

-- no bytes spell it
abbrev pub never : CapabilityFlags → Form OkPacketBody
never capabilities = refuse

-- what was read elsewhere, of no bytes here
abbrev pub given : Reading OkPacketBody → Form OkPacketBody
given (Ok read) = give read.0
given (Err e) = refuse

-- no bytes, and the body of an old end of zeros
abbrev pub nothing : CapabilityFlags → Form OkPacketBody
nothing capabilities = given ((old_eof_body capabilities).reads (0 ∷ 0 ∷ 0 ∷ 0 ∷ []))
