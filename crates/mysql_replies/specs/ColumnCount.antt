-- The column count at the beginning of a result.
use Rattle.std.specs.Prelude.{◌≡◌, ℕ, ◌<◌, ◌^◌, Option, Some, None, Bool, true, false, not, ◌==◌, ◌||◌, if◌then◌else◌, refl}
use Rattle.mysql_wire.specs.Codecs.{Codec, Fields, ◌>>=◌, give, field, packet, when, u8, int_lenenc, raw_int}
use Rattle.mysql_wire.specs.FlagMasks.{CLIENT_OPTIONAL_RESULTSET_METADATA, MARIADB_CLIENT_CACHE_METADATA}
use Rattle.mysql_wire.specs.Flags.{has}
use Rattle.mysql_wire.specs.declared.int.RawInt.{RawInt}
use Rattle.mysql_replies.specs.declared.session_capabilities.SessionCapabilities.{SessionCapabilities}
use Rattle.mysql_replies.specs.declared.column_count.ColumnCount.{ColumnCount}

abbrev pub count : ColumnCount → ℕ
count c = c.count.0

-- definitions follow unless a byte says otherwise
abbrev pub follow : Option (RawInt ℕ ℕ) → Bool
follow None = true
follow (Some b) = not (b.0 == 0)

abbrev pub metadata_follows : ColumnCount → Bool
metadata_follows c = follow c.metadata_follows

-- a number of columns, without a byte that says whether definitions follow
abbrev pub columns : ℕ → ColumnCount
columns n = record { count = raw_int n; metadata_follows = None }

-- a byte says whether definitions follow: 1 or 0
abbrev pub with_metadata_follows : Bool → ColumnCount → ColumnCount
with_metadata_follows follows c = record c { metadata_follows = Some (raw_int (if follows then 1 else 0)) }

-- a flag adds the byte that says whether definitions follow: MySQL's, or MariaDB's
abbrev pub says_follow : SessionCapabilities → Bool
says_follow capabilities = has capabilities.mysql.0 CLIENT_OPTIONAL_RESULTSET_METADATA || has capabilities.mariadb.0 MARIADB_CLIENT_CACHE_METADATA

-- the count, length-encoded, and the byte under either flag
abbrev pub column_count_fields : Fields SessionCapabilities ColumnCount ColumnCount
column_count_fields = do
  count ← field (λ c. c.count) int_lenenc
  follows ← field (λ c. c.metadata_follows) (when says_follow u8)
  give (record { count = count; metadata_follows = follows })

unfoldable pub column_count : Codec SessionCapabilities ColumnCount
column_count = packet column_count_fields (λ c. refl)

-- ---- when a count is read back, in plain words

-- the byte is present exactly under a flag
abbrev pub IsSaid : Bool → Option (RawInt ℕ ℕ) → Type 0
IsSaid says None = says ≡ false
IsSaid says (Some b) = says ≡ true

-- it is a byte
abbrev pub SaysByte : Option (RawInt ℕ ℕ) → Type 0
SaysByte None = Unit {0}
SaysByte (Some b) = b.0 < 256

-- the byte of a count is present exactly under the flags
abbrev pub SuitsSession : SessionCapabilities → ColumnCount → Type 0
SuitsSession capabilities c = IsSaid (says_follow capabilities) c.metadata_follows

-- numbers within their widths, as they always are, and the byte exactly under the flags
pub record ColumnCountFits (capabilities : SessionCapabilities) (c : ColumnCount) : Type 0 where
  pub count : count c < 2 ^ 64
  pub byte : SaysByte c.metadata_follows
  pub matches_type : SuitsSession capabilities c
