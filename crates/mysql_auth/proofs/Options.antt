-- Three flags, each set or cleared independently.
use Rattle.std.proofs.Common.{◌≡◌, ◌≢◌, ◌∙◌, ℕ, ◌<◌, Bool, arith}
use Rattle.std.specs.Int.{bit_at}
use Rattle.mysql_wire.specs.FlagMasks.{CLIENT_CONNECT_WITH_DB, CLIENT_PLUGIN_AUTH, CLIENT_CONNECT_ATTRS}
use Rattle.mysql_wire.specs.Flags.{has, switched}
use Rattle.mysql_wire.proofs.FlagBits.{has-switched, has-other, bit-switched}

module _ (database plugin attributes : Bool) (flags : ℕ) where
  abbrev pub first : ℕ
  first = switched 32 database CLIENT_CONNECT_WITH_DB flags

  abbrev pub second : ℕ
  second = switched 32 plugin CLIENT_PLUGIN_AUTH first

  abbrev pub switched_options : ℕ
  switched_options = switched 32 attributes CLIENT_CONNECT_ATTRS second

  pub has-database : has switched_options CLIENT_CONNECT_WITH_DB ≡ database
  has-database =
      has-other 32 20 3 attributes second (omega arith) (omega arith) (omega arith)
      ∙ has-other 32 19 3 plugin first (omega arith) (omega arith) (omega arith) ∙ has-switched 32 3 database flags (omega arith)

  pub has-plugin : has switched_options CLIENT_PLUGIN_AUTH ≡ plugin
  has-plugin = has-other 32 20 19 attributes second (omega arith) (omega arith) (omega arith) ∙ has-switched 32 19 plugin first (omega arith)

  pub has-attributes : has switched_options CLIENT_CONNECT_ATTRS ≡ attributes
  has-attributes = has-switched 32 20 attributes second (omega arith)

  pub other-bits : (i : ℕ) → i < 32 → i ≢ 3 → i ≢ 19 → i ≢ 20 → bit_at switched_options i ≡ bit_at flags i
  other-bits i small no_database no_plugin no_attributes =
      bit-switched 32 20 i attributes second (omega arith) small no_attributes
      ∙ bit-switched 32 19 i plugin first (omega arith) small no_plugin ∙ bit-switched 32 3 i database flags (omega arith) small no_database

pub ruleset options = (has-database, has-plugin, has-attributes, other-bits)
