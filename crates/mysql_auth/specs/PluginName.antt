-- A plugin name, terminated by a zero.
use Rattle.std.specs.Prelude.{◌≡◌, ℕ, zero, suc, List, [], ◌∷◌, ◌++◌, length, Bool, true, false, refl}
use Rattle.std.proofs.Common.{append_assoc}
use Rattle.mysql_wire.specs.Codec.{Codec}
use Rattle.mysql_wire.specs.Form.{Form, map, all_left, looking, either}
use Rattle.mysql_wire.specs.Null.{HasNoZero, null_string}
use Rattle.mysql_auth.specs.AuthPlugin.{auth_plugin, plugin_name, plugin_of}
use Rattle.mysql_auth.specs.declared.auth_plugin.AuthPlugin.{AuthPlugin}

-- a plugin that its name identifies: the name contains no zero, and the plugin is the one with that name
pub record PluginFits (p : AuthPlugin) : Type 0 where
  pub no_zero : HasNoZero (plugin_name p)
  pub named : plugin_of (plugin_name p) ≡ p

-- the plugin with a name that is read so; it is written with a terminating zero
abbrev named : (names : Form (List ℕ)) → ((p : AuthPlugin) (rest : List ℕ) → PluginFits p → (map plugin_of names).Spells p (auth_plugin.bytes p ++ rest) rest) → Codec (Unit {0}) AuthPlugin
named names again = record {
  form = λ c. map plugin_of names;
  bytes = auth_plugin.bytes;
  len = λ p. length (auth_plugin.bytes p);
  fits = λ c p rest. PluginFits p;
  exact = λ c p rest h. refl;
  again = λ c p rest h. again p rest h;
}

-- ---- with a terminating zero

pub plugin_null-again : (p : AuthPlugin) (rest : List ℕ) → PluginFits p → (map plugin_of null_string).Spells p (auth_plugin.bytes p ++ rest) rest
unfolding auth_plugin null_string
plugin_null-again p rest h = (plugin_name p, h.named, (h.no_zero, append_assoc (plugin_name p) (0 ∷ []) rest))

-- the plugin with a name that ends in a zero
unfoldable pub plugin_null : Codec (Unit {0}) AuthPlugin
plugin_null = named null_string plugin_null-again

-- ---- with a terminating zero, or to the end without one

abbrev pub has_zero : List ℕ → Bool
has_zero [] = false
has_zero (zero ∷ bytes) = true
has_zero (suc b ∷ bytes) = has_zero bytes

-- the bytes up to a zero, which is consumed; without one, the rest of the bytes
abbrev pub name_to_zero_or_end : Form (List ℕ)
name_to_zero_or_end = looking (λ bytes. either (has_zero bytes) null_string all_left)

zero-there : (content rest : List ℕ) → has_zero ((content ++ 0 ∷ []) ++ rest) ≡ true
zero-there [] rest = refl
zero-there (zero ∷ content) rest = refl
zero-there (suc b ∷ content) rest = zero-there content rest

pub plugin_null_or_eof-again : (p : AuthPlugin) (rest : List ℕ) → PluginFits p → (map plugin_of name_to_zero_or_end).Spells p (auth_plugin.bytes p ++ rest) rest
unfolding auth_plugin null_string
plugin_null_or_eof-again p rest h =
    rw (zero-there (plugin_name p) rest) (plugin_name p, h.named, (h.no_zero, append_assoc (plugin_name p) (0 ∷ []) rest))

-- the plugin with a name that ends in a zero or at the end of the bytes
unfoldable pub plugin_null_or_eof : Codec (Unit {0}) AuthPlugin
plugin_null_or_eof = named name_to_zero_or_end plugin_null_or_eof-again
