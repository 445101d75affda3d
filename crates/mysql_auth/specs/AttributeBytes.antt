-- The most pairs that the bytes of a packet's attributes can hold. If they can hold any, reading allocates.
use Rattle.std.specs.Prelude.{ℕ, ◌/◌, Bool, length}
use Rattle.mysql_wire.specs.CodecFits.{is_there}
use Rattle.mysql_wire.specs.Flags.{CapabilityFlags}
use Rattle.mysql_wire.specs.Form.{Form, ◌>>=◌, either, give, looking, map}
use Rattle.mysql_wire.specs.LenEnc.{lenenc_string}
use Rattle.mysql_auth.specs.ComChangeUser.{sends_attributes}
use Rattle.mysql_auth.specs.ComChangeUserRef as change
use Rattle.mysql_auth.specs.HandshakeResponse as response
use Rattle.mysql_auth.specs.HandshakeResponseRef.{before_attributes}

-- a key and a value take at least one byte each
abbrev pub pairs_room : (len : ℕ) → ℕ
pairs_room len = len / 2

-- of the bytes after a length
abbrev pub attributes_room : Form ℕ
attributes_room = map (λ content. pairs_room (length content)) lenenc_string

-- of the bytes after a length if attributes are sent, and otherwise none
abbrev pub sent_room : (sent : Bool) → Form ℕ
sent_room sent = either sent attributes_room (give 0)

-- in a handshake response
abbrev pub in_response : Form ℕ
in_response = do
  p ← before_attributes
  sent_room (response.sends_attributes p.head)

-- in more data
abbrev pub in_more_data : CapabilityFlags → Form ℕ
in_more_data capabilities = do
  p ← change.before_attributes capabilities
  sent_room (sends_attributes capabilities)

-- in more data, if present
abbrev pub in_last_part : CapabilityFlags → Form ℕ
in_last_part capabilities = looking (λ bytes. either (is_there bytes) (in_more_data capabilities) (give 0))

-- in a change of user
abbrev pub in_change_user : CapabilityFlags → Form ℕ
in_change_user capabilities = do
  p ← change.before_more_data
  in_last_part capabilities
