-- A server's packets before the login ends, by their first byte.
use Rattle.std.specs.Prelude.{◌≡◌, ◌==◌, ℕ, List, [], ◌∷◌, length, Bool, None, refl}
use Rattle.mysql_wire.specs.FlagMasks.{MULTI_FACTOR_AUTHENTICATION}
use Rattle.mysql_wire.specs.Flags.{CapabilityFlags, has}
use Rattle.mysql_wire.specs.Form.{Form, all_left, either, looking, map}
use Rattle.mysql_auth.specs.AuthMoreData.{auth_more_data}
use Rattle.mysql_auth.specs.AuthNextFactor.{auth_next_factor}
use Rattle.mysql_auth.specs.AuthSwitchRequest.{auth_switch_request}
use Rattle.mysql_auth.specs.OldAuthSwitchRequest.{old_auth_switch_request}
use Rattle.mysql_auth.specs.declared.auth_reply.AuthReply.{AuthReply}
use Rattle.mysql_auth.specs.declared.auth_reply.AuthReply.TheVariants as reply

-- both sides know further factors
abbrev pub asks_factors : CapabilityFlags → Bool
asks_factors capabilities = has capabilities.0 MULTI_FACTOR_AUTHENTICATION

-- a single fe is the old switch
abbrev pub switch_reply : List ℕ → Form AuthReply
switch_reply payload = either (length payload == 1) (map (λ request. reply.OldSwitch) (old_auth_switch_request.form tt)) (map reply.Switch (auth_switch_request.form tt))

-- the next factor if both sides know factors, otherwise data of a plugin
abbrev pub factor_reply : (asks : Bool) → Form AuthReply
factor_reply asks = either asks (map reply.NextFactor (auth_next_factor.form tt)) (map reply.PluginData all_left)

-- 00 is an OK packet, ff an error, fe a switch, 01 more data, and 02 the next factor if both sides know factors. A packet with another
-- first byte, or an empty one, is data of a plugin.
abbrev pub reply_by : (asks : Bool) → List ℕ → Form AuthReply
reply_by asks [] = map reply.PluginData all_left
reply_by asks (first ∷ others) =
    either (first == 0x00) (map reply.OkPacket all_left)
    (either (first == 0xff) (map reply.ErrPacket all_left)
    (either (first == 0xfe) (switch_reply (first ∷ others))
    (either (first == 0x01) (map reply.MoreData (auth_more_data.form tt))
    (either (first == 0x02) (factor_reply asks)
    (map reply.PluginData all_left)))))

unfoldable pub auth_reply : CapabilityFlags → Form AuthReply
auth_reply capabilities = looking (λ payload. reply_by (asks_factors capabilities) payload)

pub size-auth_reply : (capabilities : CapabilityFlags) → (auth_reply capabilities).size ≡ None
unfolding auth_reply
size-auth_reply capabilities = refl
