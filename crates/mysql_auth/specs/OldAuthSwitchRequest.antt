-- The switch to the oldest plugin.
use Rattle.std.specs.Prelude.{◌≡◌, Some, refl}
use Rattle.mysql_wire.specs.Form.{size-block}
use Rattle.mysql_wire.specs.Codec.{Codec, Fields}
use Rattle.mysql_wire.specs.Codecs.{◌>>=◌, give, field, block, packet, const_u8}
use Rattle.mysql_auth.specs.declared.old_auth_switch_request.OldAuthSwitchRequest.{OldAuthSwitchRequest}

abbrev pub the_request : OldAuthSwitchRequest
the_request = record { header = record { 0 = record {} } }

-- fe
abbrev pub old_auth_switch_request_fields : Fields (Unit {0}) OldAuthSwitchRequest OldAuthSwitchRequest
old_auth_switch_request_fields = do
  header ← field (λ p. p.header) (const_u8 0xfe)
  give (record { header = header })

unfoldable pub old_auth_switch_request : Codec (Unit {0}) OldAuthSwitchRequest
old_auth_switch_request = packet (block 1 old_auth_switch_request_fields (λ p. refl)) (λ p. refl)

pub size-old_auth_switch_request : (old_auth_switch_request.form tt).size ≡ Some 1
unfolding old_auth_switch_request
size-old_auth_switch_request = size-block 1 (old_auth_switch_request_fields.form tt)
