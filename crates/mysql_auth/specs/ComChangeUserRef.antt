-- The change of a session's user, in parts.
use Rattle.std.specs.Prelude.{None}
use Rattle.mysql_wire.specs.CommandCodes.{COM_CHANGE_USER}
use Rattle.mysql_wire.specs.Constant.{const_byte}
use Rattle.mysql_wire.specs.CountedBytes.{u8_string}
use Rattle.mysql_wire.specs.Flags.{CapabilityFlags}
use Rattle.mysql_wire.specs.Form.{Form, ◌>>=◌, give}
use Rattle.mysql_wire.specs.Int.{le_u16}
use Rattle.mysql_wire.specs.Null.{null_string}
use Rattle.mysql_wire.specs.declared.constant.ConstU8.{ConstU8}
use Rattle.mysql_auth.specs.ComChangeUser.{named_plugin}
use Rattle.mysql_auth.specs.declared.com_change_user.ComChangeUser.{ComChangeUser}
use Rattle.mysql_auth.specs.declared.faults.InvalidComChangeUserHeader.{InvalidComChangeUserHeader}
use Rattle.mysql_auth.specs.declared.com_change_user_more_data.ComChangeUserMoreData.{ComChangeUserMoreData}

abbrev pub change_header : Form (ConstU8 InvalidComChangeUserHeader COM_CHANGE_USER)
change_header = const_byte COM_CHANGE_USER

-- the part before more data: the change without it
abbrev pub before_more_data : Form ComChangeUser
before_more_data = do
  header ← change_header
  user ← null_string
  auth_plugin_data ← u8_string
  database ← null_string
  give (record { header = header; user = user; auth_plugin_data = auth_plugin_data; database = database; more_data = None })

-- the part before the attributes of more data: more data without them
abbrev pub before_attributes : CapabilityFlags → Form ComChangeUserMoreData
before_attributes capabilities = do
  character_set ← le_u16
  auth_plugin ← named_plugin.form capabilities
  give (record { character_set = character_set; auth_plugin = auth_plugin; connect_attributes = None })
