-- The switch to another plugin.
use Rattle.mysql_wire.specs.Codec.{Codec}
use Rattle.mysql_auth.specs.declared.faults.InvalidAuthSwitchRequestHeader.{InvalidAuthSwitchRequestHeader}
use Rattle.mysql_auth.specs.PluginRequest.{PluginRequest, plugin_request}
pub use Rattle.mysql_auth.specs.PluginRequest.{plugin_name, plugin_data, request_of as switch_to}

abbrev pub AuthSwitchRequest : Type 0
AuthSwitchRequest = PluginRequest InvalidAuthSwitchRequestHeader 0xfe

abbrev pub auth_switch_request : Codec (Unit {0}) AuthSwitchRequest
auth_switch_request = plugin_request 0xfe
