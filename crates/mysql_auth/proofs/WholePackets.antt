-- The small packets round-trip.
use Rattle.std.proofs.Common.{◌≡◌, ℕ, List, [], ◌++◌, refl, subst}
use Rattle.std.proofs.lemmas.List.{append-nil}
use Rattle.mysql_wire.specs.Codec.{Codec}
use Rattle.mysql_wire.specs.Null.{HasNoZero}
use Rattle.mysql_auth.specs.AuthMoreData.{auth_more_data}
use Rattle.mysql_auth.specs.AuthNextFactor as factor
use Rattle.mysql_auth.specs.AuthNextFactor.{auth_next_factor}
use Rattle.mysql_auth.specs.AuthPlugin.{auth_plugin, plugin_name, plugin_named, named-again}
use Rattle.mysql_auth.specs.AuthSwitchRequest as switch
use Rattle.mysql_auth.specs.AuthSwitchRequest.{auth_switch_request}
use Rattle.mysql_auth.specs.PluginRequest.{plugin_request}
use Rattle.mysql_auth.specs.OldAuthSwitchRequest.{old_auth_switch_request}
use Rattle.mysql_auth.specs.PublicKeyRequest.{public_key_request}
use Rattle.mysql_auth.specs.PublicKeyResponse.{public_key_response}
use Rattle.mysql_auth.specs.SslRequest.{ssl_request, SslRequestFits}
use Rattle.mysql_auth.specs.EofName.{without_last_zero}
use Rattle.mysql_auth.specs.declared.auth_more_data.AuthMoreData.{AuthMoreData}
use Rattle.mysql_auth.specs.AuthNextFactor.{AuthNextFactor}
use Rattle.mysql_auth.specs.declared.auth_plugin.AuthPlugin.{AuthPlugin}
use Rattle.mysql_auth.specs.AuthSwitchRequest.{AuthSwitchRequest}
use Rattle.mysql_auth.specs.declared.old_auth_switch_request.OldAuthSwitchRequest.{OldAuthSwitchRequest}
use Rattle.mysql_auth.specs.declared.public_key_request.PublicKeyRequest.{PublicKeyRequest}
use Rattle.mysql_auth.specs.declared.public_key_response.PublicKeyResponse.{PublicKeyResponse}
use Rattle.mysql_auth.specs.declared.ssl_request.SslRequest.{SslRequest}

-- if nothing follows
at-end : {A : Type 0} (f : Codec (Unit {0}) A) (p : A) → f.fits tt p [] → (f.form tt).Spells p (f.bytes p) []
at-end f p h = subst (λ (t : List ℕ). (f.form tt).Spells p t []) (append-nil (f.bytes p)) (f.again tt p [] h)

pub plugin-again : (p : AuthPlugin) → plugin_named (plugin_name p) ≡ p → (auth_plugin.form tt).Spells p (auth_plugin.bytes p) []
unfolding auth_plugin
plugin-again p h = at-end auth_plugin p (h, refl)

-- a plugin that was read is the one with its name
pub read_plugin-again : (p : AuthPlugin) (bytes rest : List ℕ) → (auth_plugin.form tt).Spells p bytes rest → (auth_plugin.form tt).Spells p (auth_plugin.bytes p) []
unfolding auth_plugin
read_plugin-again p bytes rest s =
    plugin-again p (subst (λ (q : AuthPlugin). plugin_named (plugin_name q) ≡ q) s.1 (named-again (without_last_zero s.0)))

pub more_data-again : (p : AuthMoreData) → (auth_more_data.form tt).Spells p (auth_more_data.bytes p) []
unfolding auth_more_data
more_data-again p = at-end auth_more_data p (tt, (refl, tt))

pub key_request-again : (p : PublicKeyRequest) (rest : List ℕ) → (public_key_request.form tt).Spells p (public_key_request.bytes p ++ rest) rest
unfolding public_key_request
key_request-again p rest = public_key_request.again tt p rest (tt, tt)

pub key-again : (p : PublicKeyResponse) → (public_key_response.form tt).Spells p (public_key_response.bytes p) []
unfolding public_key_response
key-again p = at-end public_key_response p (tt, (refl, tt))

pub old_switch-again : (p : OldAuthSwitchRequest) (rest : List ℕ) → (old_auth_switch_request.form tt).Spells p (old_auth_switch_request.bytes p ++ rest) rest
unfolding old_auth_switch_request
old_switch-again p rest = old_auth_switch_request.again tt p rest (tt, tt)

pub switch-again : (p : AuthSwitchRequest) → HasNoZero (switch.plugin_name p) → (auth_switch_request.form tt).Spells p (auth_switch_request.bytes p) []
unfolding plugin_request
switch-again p h = at-end auth_switch_request p (tt, (h, (refl, tt)))

pub factor-again : (p : AuthNextFactor) → HasNoZero (factor.plugin_name p) → (auth_next_factor.form tt).Spells p (auth_next_factor.bytes p) []
unfolding plugin_request
factor-again p h = at-end auth_next_factor p (tt, (h, (refl, tt)))

pub request-again : (p : SslRequest) (rest : List ℕ) → SslRequestFits p → (ssl_request.form tt).Spells p (ssl_request.bytes p ++ rest) rest
unfolding ssl_request
request-again p rest h = ssl_request.again tt p rest (h.capabilities, (h.max_packet_size, (h.character_set, (tt, (h.mariadb_capabilities, tt)))))

pub ruleset whole_packets = (plugin-again, read_plugin-again, more_data-again, key_request-again, key-again, old_switch-again, switch-again, factor-again, request-again)
