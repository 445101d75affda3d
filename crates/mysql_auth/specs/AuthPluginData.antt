-- A client's answer to a scramble.
use Rattle.std.specs.Prelude.{ℕ, List, [], ◌∷◌, ◌++◌}
use Rattle.mysql_auth.specs.declared.auth_plugin_data.AuthPluginData.{AuthPluginData}
use Rattle.mysql_auth.specs.declared.auth_plugin_data.AuthPluginData.TheVariants as answer

abbrev pub data_bytes : AuthPluginData → List ℕ
data_bytes (answer.Old bytes) = bytes
data_bytes (answer.Native bytes) = bytes
data_bytes (answer.Sha2 bytes) = bytes
data_bytes (answer.Clear password) = password
data_bytes (answer.Ed25519 bytes) = bytes
data_bytes (answer.Parsec bytes) = bytes

-- the bytes, with a terminating zero for the oldest plugin and for a password
abbrev pub auth_plugin_data_bytes : AuthPluginData → List ℕ
auth_plugin_data_bytes (answer.Old bytes) = bytes ++ 0 ∷ []
auth_plugin_data_bytes (answer.Clear password) = password ++ 0 ∷ []
auth_plugin_data_bytes other = data_bytes other

-- the bytes of a password that it stores
abbrev pub kept_password : AuthPluginData → List ℕ
kept_password (answer.Clear password) = password
kept_password _ = []

-- a fixed number of bytes
abbrev pub IsFixed : AuthPluginData → Type 0
IsFixed (answer.Clear password) = ⊥
IsFixed _ = Unit {0}
