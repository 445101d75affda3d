-- The request for the next authentication factor.
use Rattle.mysql_wire.specs.Codec.{Codec}
use Rattle.mysql_auth.specs.declared.faults.InvalidAuthNextFactorHeader.{InvalidAuthNextFactorHeader}
use Rattle.mysql_auth.specs.PluginRequest.{PluginRequest, plugin_request}
pub use Rattle.mysql_auth.specs.PluginRequest.{plugin_name, plugin_data, request_of as next_factor_by}

abbrev pub AuthNextFactor : Type 0
AuthNextFactor = PluginRequest InvalidAuthNextFactorHeader 0x02

abbrev pub auth_next_factor : Codec (Unit {0}) AuthNextFactor
auth_next_factor = plugin_request 0x02
