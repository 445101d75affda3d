-- Plugins with a variant of their own, and others by name.
use Rattle.std.proofs.Common.{◌≡◌, Option, Some, None, refl}
use Rattle.mysql_auth.specs.AuthPlugin.{IsKnown, known, plugin_name}
use Rattle.mysql_auth.specs.declared.auth_plugin.AuthPlugin.{AuthPlugin}
use Rattle.mysql_auth.specs.declared.auth_plugin.AuthPlugin.TheVariants as plugin

same : (p q : AuthPlugin) → ◌≡◌ {A = Option AuthPlugin} (Some p) (Some q) → q ≡ p
same p q h = cc

pub known-same : (p q : AuthPlugin) → known p ≡ Some q → q ≡ p
known-same plugin.MysqlOldPassword q h = same _ q h
known-same plugin.MysqlClearPassword q h = same _ q h
known-same plugin.MysqlNativePassword q h = same _ q h
known-same plugin.CachingSha2Password q h = same _ q h
known-same plugin.Ed25519 q h = same _ q h
known-same (plugin.MariadbParsec iterations ext_salt) q h = same _ q h
known-same (plugin.Other name) q h = absurd cc

pub other-named : (p : AuthPlugin) → known p ≡ None → p ≡ plugin.Other (plugin_name p)
other-named plugin.MysqlOldPassword h = absurd cc
other-named plugin.MysqlClearPassword h = absurd cc
other-named plugin.MysqlNativePassword h = absurd cc
other-named plugin.CachingSha2Password h = absurd cc
other-named plugin.Ed25519 h = absurd cc
other-named (plugin.MariadbParsec iterations ext_salt) h = absurd cc
other-named (plugin.Other name) h = refl

pub known-is : (p : AuthPlugin) → IsKnown p → known p ≡ None → ⊥
known-is plugin.MysqlOldPassword k h = cc
known-is plugin.MysqlClearPassword k h = cc
known-is plugin.MysqlNativePassword k h = cc
known-is plugin.CachingSha2Password k h = cc
known-is plugin.Ed25519 k h = cc
known-is (plugin.MariadbParsec iterations ext_salt) k h = cc
known-is (plugin.Other name) k h = k

pub ruleset known_plugins = (known-same, other-named, known-is)
