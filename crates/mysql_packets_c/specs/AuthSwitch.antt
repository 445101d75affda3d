-- The switch to another plugin, and the request for the next factor, in C.
use Rattle.std.specs.Prelude.{◌≡◌, ℕ, List}
use Rattle.mysql_auth.specs.PluginRequest.{PluginRequest, plugin_name, plugin_data}
use Rattle.mysql_packets_c.specs.declared.auth_switch.CAuthSwitch.{CAuthSwitch}

-- the plugin's name and data
abbrev pub IsRequest : {T : Type 0} {first : ℕ} → PluginRequest T first → List ℕ → CAuthSwitch → Type 0
IsRequest p rest out = (out.plugin_name.now ≡ plugin_name p) × (out.plugin_data.now ≡ plugin_data p)
