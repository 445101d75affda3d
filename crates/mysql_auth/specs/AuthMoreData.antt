-- More data of an authentication.
use Rattle.std.specs.Prelude.{◌≡◌, ℕ, List, None, refl}
use Rattle.mysql_wire.specs.Codec.{Codec, Fields}
use Rattle.mysql_wire.specs.Codecs.{◌>>=◌, give, field, packet, const_u8, string_eof}
use Rattle.mysql_auth.specs.declared.auth_more_data.AuthMoreData.{AuthMoreData}

-- the plugin's data
abbrev pub more_data : AuthMoreData → List ℕ
more_data p = p.«data»

-- the packet with this data
abbrev pub more_data_of : List ℕ → AuthMoreData
more_data_of content = record { header = record { 0 = record {} }; «data» = content }

-- 01, and the data to the end
abbrev pub auth_more_data_fields : Fields (Unit {0}) AuthMoreData AuthMoreData
auth_more_data_fields = do
  header ← field (λ p. p.header) (const_u8 0x01)
  content ← field more_data string_eof
  give (record { header = header; «data» = content })

unfoldable pub auth_more_data : Codec (Unit {0}) AuthMoreData
auth_more_data = packet auth_more_data_fields (λ p. refl)

pub size-auth_more_data : (auth_more_data.form tt).size ≡ None
unfolding auth_more_data
size-auth_more_data = refl
