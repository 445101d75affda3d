-- A server's transactions, in both wire formats.
use Rattle.std.specs.Prelude.{◌≡◌, ℕ, ◌<◌, ◌^◌, List, [], ◌∷◌, ◌++◌, length, Option, Some, None, Bool, true, false, refl}
use Rattle.mysql_wire.specs.Codec.{Codec, Fields}
use Rattle.mysql_wire.specs.Codecs.{◌>>=◌, give, field, packet, byte_array, from_context, u64_counted_list}
use Rattle.mysql_repl.specs.declared.gno_interval.GnoInterval.{GnoInterval}
use Rattle.mysql_repl.specs.declared.sid.Sid.{Sid}
use Rattle.mysql_repl.specs.GnoInterval.{interval, start, end}
use Rattle.mysql_repl.specs.TagString.{optional_tag, OptionalTag}

-- ---- values

abbrev pub new_sid : List ℕ → Sid
new_sid bytes = record { uuid = bytes; tag = None; intervals = [] }

abbrev pub uuid : Sid → List ℕ
uuid s = s.uuid

abbrev pub tag : Sid → Option (List ℕ)
tag s = s.tag

abbrev pub intervals : Sid → List GnoInterval
intervals s = s.intervals

abbrev pub with_interval : GnoInterval → Sid → Sid
with_interval i s = record s { intervals = s.intervals ++ i ∷ [] }

abbrev pub with_intervals : List GnoInterval → Sid → Sid
with_intervals is s = record s { intervals = is }

abbrev pub with_tag : List ℕ → Sid → Sid
with_tag text s = record s { tag = Some text }

-- ---- the two layouts

-- sixteen bytes, and the intervals after their count; a tag has no bytes
abbrev pub sid_fields : Fields (Unit {0}) Sid Sid
sid_fields = do
  id ← field uuid (byte_array 16)
  no_tag ← field tag (from_context (λ c. None))
  list ← field intervals (u64_counted_list interval)
  give (record { uuid = id; tag = no_tag; intervals = list })

unfoldable pub sid : Codec (Unit {0}) Sid
sid = packet sid_fields (λ s. refl)

pub size-sid : (sid.form tt).size ≡ None
unfolding sid
size-sid = refl

-- sixteen bytes, the tag after its length, and the intervals after their count
abbrev pub tagged_sid_fields : Fields (Unit {0}) Sid Sid
tagged_sid_fields = do
  id ← field uuid (byte_array 16)
  name ← field tag optional_tag
  list ← field intervals (u64_counted_list interval)
  give (record { uuid = id; tag = name; intervals = list })

unfoldable pub tagged_sid : Codec (Unit {0}) Sid
tagged_sid = packet tagged_sid_fields (λ s. refl)

-- the layout with tags or the one without
abbrev pub sid_as : Bool → Codec (Unit {0}) Sid
sid_as true = tagged_sid
sid_as false = sid

-- ---- when a sid is read back, in plain words

-- numbers within their widths
abbrev pub AreIntervals : List GnoInterval → Type 0
AreIntervals [] = Unit {0}
AreIntervals (i ∷ is) = (start i < 2 ^ 64) × (end i < 2 ^ 64) × AreIntervals is

-- a uuid of sixteen bytes, a valid tag, and numbers within their widths, as they always are
pub record IsSid (s : Sid) : Type 0 where
  pub uuid : length (uuid s) ≡ 16
  pub tag : OptionalTag (tag s)
  pub count : length (intervals s) < 2 ^ 64
  pub numbers : AreIntervals (intervals s)

abbrev pub AreSids : List Sid → Type 0
AreSids [] = Unit {0}
AreSids (s ∷ sids) = IsSid s × AreSids sids
