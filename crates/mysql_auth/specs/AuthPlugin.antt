-- Authentication plugins.
use Rattle.std.specs.Prelude.{◌≡◌, ℕ, List, [], ◌∷◌, ◌++◌, length, replicate, codes, Bool, true, false, Option, Some, None, option_map, nat_eq, if◌then◌else◌, refl}
use Rattle.std.proofs.Common.{ap, ◌∙◌}
use Rattle.std.proofs.lemmas.List.{append-nil}
use Rattle.std.specs.Cmp.Lexicographic.{pointwise}
use Rattle.mysql_wire.specs.Codec.{Codec}
use Rattle.mysql_wire.specs.Form.{map, all_left}
use Rattle.mysql_auth.specs.EofName.{without_last_zero, zero-off}
use Rattle.mysql_auth.specs.Parsec.{parsec_salt}
use Rattle.mysql_auth.specs.declared.auth_plugin.AuthPlugin.{AuthPlugin}
use Rattle.mysql_auth.specs.declared.auth_plugin.AuthPlugin.TheVariants as plugin

-- the name of a plugin
abbrev pub plugin_name : AuthPlugin → List ℕ
plugin_name plugin.MysqlOldPassword = codes "mysql_old_password"
plugin_name plugin.MysqlClearPassword = codes "mysql_clear_password"
plugin_name plugin.MysqlNativePassword = codes "mysql_native_password"
plugin_name plugin.CachingSha2Password = codes "caching_sha2_password"
plugin_name plugin.Ed25519 = codes "client_ed25519"
plugin_name (plugin.MariadbParsec iterations ext_salt) = codes "parsec"
plugin_name (plugin.Other name) = name

-- parsec before the server sent its parameters
abbrev pub new_parsec : AuthPlugin
new_parsec = plugin.MariadbParsec 0 (replicate 18 0)

abbrev is : List ℕ → List ℕ → Bool
is name known = pointwise nat_eq name known

-- the plugin with exactly this name
unfoldable pub plugin_named : List ℕ → AuthPlugin
plugin_named name =
    if is name (codes "caching_sha2_password") then plugin.CachingSha2Password
    else if is name (codes "mysql_native_password") then plugin.MysqlNativePassword
    else if is name (codes "mysql_old_password") then plugin.MysqlOldPassword
    else if is name (codes "mysql_clear_password") then plugin.MysqlClearPassword
    else if is name (codes "client_ed25519") then plugin.Ed25519
    else if is name (codes "parsec") then new_parsec
    else plugin.Other name

step : (name known : List ℕ) (one other : AuthPlugin) → plugin_named (plugin_name one) ≡ one → (is name known ≡ false → plugin_named (plugin_name other) ≡ other)
    → plugin_named (plugin_name (if is name known then one else other)) ≡ (if is name known then one else other)
step name known one other h k = by (is name known) k
  where
    by : (t : Bool) → (t ≡ false → plugin_named (plugin_name other) ≡ other) → plugin_named (plugin_name (if t then one else other)) ≡ (if t then one else other)
    by true k = h
    by false k = k refl

-- the plugin of a plugin's name is that plugin
pub named-again : (name : List ℕ) → plugin_named (plugin_name (plugin_named name)) ≡ plugin_named name
unfolding plugin_named
named-again name =
    step name (codes "caching_sha2_password") _ _ refl (λ no1.
    step name (codes "mysql_native_password") _ _ refl (λ no2.
    step name (codes "mysql_old_password") _ _ refl (λ no3.
    step name (codes "mysql_clear_password") _ _ refl (λ no4.
    step name (codes "client_ed25519") _ _ refl (λ no5.
    step name (codes "parsec") _ _ refl (λ no6. rw (no1, no2, no3, no4, no5, no6) refl))))))

-- the plugin with a name; one zero at its end is ignored
abbrev pub plugin_of : List ℕ → AuthPlugin
plugin_of bytes = plugin_named (without_last_zero bytes)

-- the plugin, if it has its own variant
abbrev pub known : AuthPlugin → Option AuthPlugin
known (plugin.Other name) = None
known p = Some p

-- a plugin with its own variant, which stores no bytes of a name
abbrev pub IsKnown : AuthPlugin → Type 0
IsKnown (plugin.Other name) = ⊥
IsKnown _ = Unit {0}

-- the bytes of a name that it stores
abbrev pub kept_name : AuthPlugin → List ℕ
kept_name (plugin.Other name) = name
kept_name _ = []

-- parsec with its rounds and salt
abbrev pub with_salt : AuthPlugin → List ℕ → Option AuthPlugin
with_salt (plugin.MariadbParsec iterations ext_salt) payload = option_map (λ given. plugin.MariadbParsec given.0 given.1) (parsec_salt payload)
with_salt _ payload = None

-- ---- the plugin as its name: the rest of the bytes, written with a terminating zero

abbrev pub name_bytes : AuthPlugin → List ℕ
name_bytes p = plugin_name p ++ 0 ∷ []

pub auth_plugin-again : (p : AuthPlugin) (rest : List ℕ) → (plugin_named (plugin_name p) ≡ p) × (rest ≡ []) → (map plugin_of all_left).Spells p (name_bytes p ++ rest) rest
auth_plugin-again p rest h = rw (h.1, append-nil) (name_bytes p, ap plugin_named (zero-off (plugin_name p)) ∙ h.0, (refl, refl))

unfoldable pub auth_plugin : Codec (Unit {0}) AuthPlugin
auth_plugin = record {
  form = λ c. map plugin_of all_left;
  bytes = name_bytes;
  len = λ p. length (name_bytes p);
  fits = λ c p rest. (plugin_named (plugin_name p) ≡ p) × (rest ≡ []);
  exact = λ c p rest h. refl;
  again = λ c p rest h. auth_plugin-again p rest h;
}

pub size-auth_plugin : (auth_plugin.form tt).size ≡ None
unfolding auth_plugin
size-auth_plugin = refl
