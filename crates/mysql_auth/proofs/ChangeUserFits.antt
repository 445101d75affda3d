-- The plain conditions of a change of user are enough.
use Rattle.std.proofs.Common.{ℕ, List, ◌++◌, Option, Some, None, Bool}
use Rattle.mysql_wire.specs.CodecFits.{option_fits}
use Rattle.mysql_wire.specs.Codecs.{without_context}
use Rattle.mysql_wire.specs.Flags.{CapabilityFlags}
use Rattle.mysql_auth.specs.Attributes.{Attribute, AttributesFit, attributes}
use Rattle.mysql_auth.specs.HandshakeResponse.{PartFits}
use Rattle.mysql_auth.specs.PluginName.{plugin_null}
use Rattle.mysql_auth.specs.declared.auth_plugin.AuthPlugin.{AuthPlugin}
use Rattle.mysql_auth.specs.declared.com_change_user.ComChangeUser.{ComChangeUser}
use Rattle.mysql_auth.specs.declared.com_change_user_more_data.ComChangeUserMoreData.{ComChangeUserMoreData}
use Rattle.mysql_auth.specs.ComChangeUser.{change_user, last_part, more_data, named_plugin, sent_attributes, session_change_user, session_last_part, session_more_data, sends_plugin, sends_attributes, auth_plugin, connect_attributes, more_data_in, NamedFits, MoreFits, MoreDataFits, ChangeUserFits, SessionMoreDataFits, SessionChangeUserFits}

named-fits : (c : CapabilityFlags) (sent : Bool) (plugin : Option AuthPlugin) (rest : List ℕ) → NamedFits sent plugin
    → option_fits (without_context {C = CapabilityFlags} plugin_null) sent c plugin rest
unfolding plugin_null
named-fits c sent None rest h = h
named-fits c sent (Some p) rest h = h

pub more_data-fits : (c : CapabilityFlags) (p : ComChangeUserMoreData) (rest : List ℕ) → MoreDataFits c p → more_data.fits c p rest
unfolding more_data named_plugin sent_attributes
more_data-fits c p rest h = (h.0, (named-fits c (sends_plugin c) (auth_plugin p) _ h.1.auth_plugin, (h.1.connect_attributes, tt)))

last-fits : (c : CapabilityFlags) (more : Option ComChangeUserMoreData) (rest : List ℕ) → MoreFits (MoreDataFits c) more rest → last_part.fits c more rest
unfolding last_part
last-fits c None rest h = h
last-fits c (Some p) rest h = more_data-fits c p rest h

pub change-fits : (c : CapabilityFlags) (p : ComChangeUser) (rest : List ℕ) → ChangeUserFits c p rest → change_user.fits c p rest
unfolding change_user
change-fits c p rest h = (tt, (h.user, (h.auth_plugin_data, (h.database, (last-fits c (more_data_in p) rest h.more_data, tt)))))

-- ---- as a session writes it

session_named-fits : (sent : Bool) (plugin : Option AuthPlugin) (rest : List ℕ) → NamedFits sent plugin → option_fits plugin_null sent tt plugin rest
unfolding plugin_null
session_named-fits sent None rest h = h
session_named-fits sent (Some p) rest h = h

session_given-fits : (sent : Bool) (given : Option (List Attribute)) (rest : List ℕ) → PartFits AttributesFit sent given → option_fits attributes sent tt given rest
unfolding attributes
session_given-fits sent None rest h = h
session_given-fits sent (Some pairs) rest h = h

session_data-fits : (c : CapabilityFlags) (p : ComChangeUserMoreData) (rest : List ℕ) → SessionMoreDataFits c p → (session_more_data c).fits tt p rest
unfolding session_more_data
session_data-fits c p rest h = (h.0, (session_named-fits (sends_plugin c) (auth_plugin p) _ h.1.auth_plugin, (session_given-fits (sends_attributes c) (connect_attributes p) _ h.1.connect_attributes, tt)))

session_last-fits : (c : CapabilityFlags) (more : Option ComChangeUserMoreData) (rest : List ℕ) → MoreFits (SessionMoreDataFits c) more rest → (session_last_part c).fits tt more rest
unfolding session_last_part
session_last-fits c None rest h = h
session_last-fits c (Some p) rest h = session_data-fits c p rest h

session_change-fits : (c : CapabilityFlags) (p : ComChangeUser) (rest : List ℕ) → SessionChangeUserFits c p rest → (session_change_user c).fits tt p rest
unfolding session_change_user
session_change-fits c p rest h = (tt, (h.user, (h.auth_plugin_data, (h.database, (session_last-fits c (more_data_in p) rest h.more_data, tt)))))

-- a session reads the same fields
pub session_data-again : (c : CapabilityFlags) (p : ComChangeUserMoreData) (rest : List ℕ) → SessionMoreDataFits c p → (more_data.form c).Spells p ((session_more_data c).bytes p ++ rest) rest
unfolding more_data named_plugin sent_attributes session_more_data
session_data-again c p rest h = (session_more_data c).again tt p rest (session_data-fits c p rest h)

pub session_change-again : (c : CapabilityFlags) (p : ComChangeUser) (rest : List ℕ) → SessionChangeUserFits c p rest → (change_user.form c).Spells p ((session_change_user c).bytes p ++ rest) rest
unfolding change_user last_part more_data named_plugin sent_attributes session_change_user session_last_part session_more_data
session_change-again c p rest h = (session_change_user c).again tt p rest (session_change-fits c p rest h)

pub ruleset changes = (more_data-fits, change-fits, session_data-again, session_change-again)
