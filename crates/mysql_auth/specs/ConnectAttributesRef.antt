-- Borrowed connection attributes.
use Rattle.std.specs.Prelude.{ℕ, List}
use Rattle.mysql_wire.specs.Many.{items_in, AreItems}
use Rattle.mysql_auth.specs.Attributes.{Attribute, attribute}
pub use Rattle.mysql_wire.specs.Many.{NextItem as NextPair, items_read as pairs_read}

-- the pairs that the bytes encode, if they encode any
abbrev pub pairs_in : List ℕ → List Attribute
pairs_in = items_in (attribute.form tt)

-- the bytes encode pairs, up to their end
abbrev pub ArePairs : List ℕ → Type 0
ArePairs = AreItems (attribute.form tt)
