-- The change of a session's user, in C.
use Rattle.std.specs.Prelude.{Some, ◌≡◌, ◌<◌, ℕ, Bool, not, ◌&&◌, ◌||◌, ◌==◌, List, Option, None, if◌then◌else◌, option_map}
use Rattle.mysql_wire.specs.FlagMasks.{CLIENT_CONNECT_ATTRS, CLIENT_PLUGIN_AUTH}
use Rattle.mysql_wire.specs.Flags.{has}
use Rattle.mysql_auth.specs.Attributes.{Attribute}
use Rattle.mysql_auth.specs.AuthPlugin.{plugin_name, plugin_of}
use Rattle.mysql_auth.specs.ConnectAttributesRef.{ArePairs, pairs_in}
use Rattle.mysql_auth.specs.declared.auth_plugin.AuthPlugin.{AuthPlugin}
use Rattle.mysql_auth.specs.ComChangeUser as change
use Rattle.mysql_auth.specs.declared.com_change_user.ComChangeUser.{ComChangeUser}
use Rattle.mysql_auth.specs.declared.com_change_user_more_data.ComChangeUserMoreData.{ComChangeUserMoreData}
use Rattle.mysql_packets_c.specs.Attributes.{are_texts, merged_pairs}
use Rattle.mysql_packets_c.specs.Given.{SaysSent, if_set}
use Rattle.mysql_packets_c.specs.Input.{used_of}
use Rattle.mysql_packets_c.specs.declared.attributes.CAttribute.{CAttribute}
use Rattle.mysql_packets_c.specs.declared.change_user.CChangeUser.{CChangeUser}

-- the plugin, which a session with CLIENT_PLUGIN_AUTH names
abbrev pub named_plugin : ℕ → CChangeUser → Option AuthPlugin
named_plugin capabilities c = if has capabilities CLIENT_PLUGIN_AUTH then Some (plugin_of c.auth_plugin_name.now) else None

-- attributes are sent: in a session with CLIENT_CONNECT_ATTRS, after the character set
abbrev pub sends_attributes : ℕ → CChangeUser → Bool
sends_attributes capabilities c = not (c.has_character_set == 0) && has capabilities CLIENT_CONNECT_ATTRS

-- what follows the schema, with such attributes
abbrev pub more_data_with : ℕ → CChangeUser → Option (List Attribute) → Option ComChangeUserMoreData
more_data_with capabilities c attributes =
    if c.has_character_set == 0 then None else Some (change.more_data_of c.character_set (named_plugin capabilities c) attributes)

-- the packet with these fields and such attributes
abbrev pub change_with : ℕ → CChangeUser → Option (List Attribute) → ComChangeUser
change_with capabilities c attributes =
    change.change_of c.user.now c.auth_response.now c.database.now (more_data_with capabilities c attributes)

-- the packet with these fields and attributes, by the flags of both sides
abbrev pub change_of : ℕ → List CAttribute → CChangeUser → ComChangeUser
change_of capabilities given c = change_with capabilities c (if sends_attributes capabilities c then Some (merged_pairs given) else None)

-- whether the attributes that are sent are UTF-8
abbrev pub change_texts : ℕ → List CAttribute → CChangeUser → Bool
change_texts capabilities given c = not (sends_attributes capabilities c) || are_texts given

-- the character set, the plugin and the attributes, if they were sent
abbrev pub more_held : CChangeUser → Option ComChangeUserMoreData
more_held out =
    if out.has_character_set == 0 then None
    else Some (change.more_data_of out.character_set (option_map plugin_of (if_set out.has_auth_plugin_name out.auth_plugin_name.now)) (option_map pairs_in (if_set out.has_attributes out.attributes.now)))

-- the bytes of the plugin's name, if one was sent
abbrev pub name_sent : Option ComChangeUserMoreData → Option (List ℕ)
name_sent None = None
name_sent (Some more) = option_map plugin_name (change.auth_plugin more)

-- 1 if it was sent, otherwise 0
pub record SaysMore (out : CChangeUser) : Type 0 where
  pub flag : out.has_character_set < 2
  pub none : out.has_character_set ≡ 0 → (out.character_set ≡ 0) × (out.has_auth_plugin_name ≡ 0) × (out.has_attributes ≡ 0)
  pub auth_plugin_name : SaysSent out.has_auth_plugin_name out.auth_plugin_name.now
  pub attributes : SaysSent out.has_attributes out.attributes.now

-- the other fields of the struct are unchanged
pub record KeepsOthers (old new : CChangeUser) : Type 0 where
  pub user : new.user.now ≡ old.user.now
  pub auth_response : new.auth_response.now ≡ old.auth_response.now
  pub database : new.database.now ≡ old.database.now
  pub used : new.used ≡ old.used

pub record HoldsChange (packet : List ℕ) (p : ComChangeUser) (rest : List ℕ) (out : CChangeUser) : Type 0 where
  pub user : out.user.now ≡ change.user p
  pub auth_response : out.auth_response.now ≡ change.auth_plugin_data p
  pub database : out.database.now ≡ change.database p
  pub more_data : more_held out ≡ change.more_data_in p
  pub auth_plugin_bytes : if_set out.has_auth_plugin_name out.auth_plugin_name.now ≡ name_sent (change.more_data_in p)
  pub whole_attributes : ArePairs out.attributes.now
  pub has_more_data : SaysMore out
  pub used : out.used ≡ used_of packet rest
