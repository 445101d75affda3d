-- Requests for a plugin: the switch to it, and the next factor with it.
use Rattle.std.specs.Prelude.{◌≡◌, ℕ, List, None, Bool, ◌&&◌, nat_eq, refl}
use Rattle.std.specs.Cmp.Lexicographic.{pointwise}
use Rattle.mysql_wire.specs.Codec.{Codec, Fields}
use Rattle.mysql_wire.specs.Codecs.{◌>>=◌, give, field, packet, const_u8, string_null, string_eof}
use Rattle.mysql_auth.specs.declared.plugin_request.PluginRequestOf.{PluginRequestOf}

-- the owned and the borrowed form in a clause
abbrev pub PluginRequest : Type 0 → ℕ → Type 0
PluginRequest T first = PluginRequestOf (List ℕ) (List ℕ) T first

-- the plugin name and data, as they are in the packet
abbrev pub plugin_name : {T : Type 0} {first : ℕ} → PluginRequest T first → List ℕ
plugin_name p = p.auth_plugin

abbrev pub plugin_data : {T : Type 0} {first : ℕ} → PluginRequest T first → List ℕ
plugin_data p = p.plugin_data

-- the packet with these fields
abbrev pub request_of : {T : Type 0} {first : ℕ} → List ℕ → List ℕ → PluginRequest T first
request_of name content = record { header = record { 0 = record {} }; auth_plugin = name; plugin_data = content }

-- the same name with the same data
abbrev pub request_eq : {T : Type 0} {first : ℕ} → PluginRequest T first → PluginRequest T first → Bool
request_eq p q = pointwise nat_eq p.auth_plugin q.auth_plugin && pointwise nat_eq p.plugin_data q.plugin_data

-- the first byte, the plugin name with a zero, and the plugin data to the end
abbrev pub plugin_request_fields : {T : Type 0} (first : ℕ) → Fields (Unit {0}) (PluginRequest T first) (PluginRequest T first)
plugin_request_fields first = do
  header ← field (λ p. p.header) (const_u8 first)
  name ← field plugin_name string_null
  content ← field plugin_data string_eof
  give (record { header = header; auth_plugin = name; plugin_data = content })

unfoldable pub plugin_request : {T : Type 0} (first : ℕ) → Codec (Unit {0}) (PluginRequest T first)
plugin_request first = packet (plugin_request_fields first) (λ p. refl)

pub size-plugin_request : (T : Type 0) (first : ℕ) → ((plugin_request {T = T} first).form tt).size ≡ None
unfolding plugin_request
size-plugin_request T first = refl
