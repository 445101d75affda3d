-- More data of an authentication, in C.
use Rattle.std.specs.Prelude.{◌≡◌, ℕ, List}
use Rattle.mysql_auth.specs.AuthMoreData.{more_data}
use Rattle.mysql_auth.specs.declared.auth_more_data.AuthMoreData.{AuthMoreData}
use Rattle.mysql_packets_c.specs.declared.text.CBytes.{CBytes}

-- the plugin's data
abbrev pub IsMoreData : AuthMoreData → List ℕ → CBytes → Type 0
IsMoreData p rest out = out.bytes.now ≡ more_data p
