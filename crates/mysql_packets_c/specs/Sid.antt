-- A server's transactions, in C.
use Rattle.std.specs.Prelude.{◌≡◌, ℕ, ◌<◌, ◌≤◌, List, [], ◌∷◌, length, map, take, Option, Some, None, Result, Ok, Err, if◌then◌else◌, nat_le}
use Rattle.std.specs.Option.{unwrap_or}
use Rattle.mysql_repl.specs.GnoInterval as gno
use Rattle.mysql_repl.specs.GnoInterval.{interval}
use Rattle.mysql_repl.specs.InPlace.{StandIn}
use Rattle.mysql_repl.specs.Sid as lib
use Rattle.mysql_repl.specs.TagString.{tag_of}
use Rattle.mysql_repl.specs.declared.gno_interval.GnoInterval.{GnoInterval}
use Rattle.mysql_repl.specs.declared.sid.Sid.{Sid}
use Rattle.mysql_repl.specs.declared.sid_text.InvalidSid.{InvalidSid}
use Rattle.mysql_wire.specs.Reading.{Reading}
use Rattle.mysql_packets_c.specs.Code.{kind_code}
use Rattle.mysql_packets_c.specs.declared.sid.CInterval.{CInterval}
use Rattle.mysql_packets_c.specs.declared.sid.CSid.{CSid}
use Rattle.mysql_packets_c.specs.declared.sid.CSidPlaces.{CSidPlaces}
use Rattle.mysql_packets_c.specs.declared.text.CBytes.{CBytes}

abbrev pub interval_of : CInterval → GnoInterval
interval_of i = gno.interval_of i.start i.end

abbrev pub intervals_of : List CInterval → List GnoInterval
intervals_of list = map interval_of list

-- no tag if its length is 0; none is valid if the bytes are no tag, or the length is more than 32
unfoldable pub tag_held : CSid → Option (Option (List ℕ))
tag_held s = if nat_le s.tag_length 32 then tag_of (take s.tag_length s.tag) else None

abbrev pub sid_with : CSid → Option (Option (List ℕ)) → Option Sid
sid_with s None = None
sid_with s (Some tag) = Some (record { uuid = s.uuid; tag = tag; intervals = intervals_of s.intervals.now })

-- the sid, unless its tag is invalid
unfoldable pub sid_held : CSid → Option Sid
sid_held s = sid_with s (tag_held s)

abbrev pub with_first : Option Sid → Option (List Sid) → Option (List Sid)
with_first None more = None
with_first (Some s) None = None
with_first (Some s) (Some sids) = Some (s ∷ sids)

-- the tag, or none if its bytes are none
abbrev pub tag_or : CSid → Option (List ℕ)
tag_or s = unwrap_or (tag_held s) None

abbrev pub sid_or : CSid → Sid
sid_or s = record { uuid = s.uuid; tag = tag_or s; intervals = intervals_of s.intervals.now }

abbrev pub sids_or : List CSid → List Sid
sids_or sids = map sid_or sids

-- all of them, unless one has an invalid tag
abbrev pub sids_held : List CSid → Option (List Sid)
sids_held [] = Some []
sids_held (s ∷ sids) = with_first (sid_held s) (sids_held sids)

-- the struct is the sid
pub record HoldsSid (s : Sid) (out : CSid) : Type 0 where
  pub uuid : out.uuid ≡ lib.uuid s
  pub tag : tag_held out ≡ Some (lib.tag s)
  pub intervals : intervals_of out.intervals.now ≡ lib.intervals s

-- A sid whose intervals fit is stored: code 0. With too few elements the struct is unchanged: code 5. In both cases the number of intervals
-- is returned.
pub record PutsSid (s : Sid) (places answer : ℕ) (old new : CSid) (needed : ℕ) : Type 0 where
  pub fits : length (lib.intervals s) ≤ places → (answer ≡ 0) × HoldsSid s new
  pub small : places < length (lib.intervals s) → (answer ≡ 5) × (new ≡ old)
  pub count : needed ≡ length (lib.intervals s)

-- The same if the struct does not have the intervals yet: they are in the first elements. With too few elements these are unchanged too.
pub record PutsParts (s : Sid) (answer : ℕ) (old new : CSid) (before after : List CInterval) (needed : ℕ) : Type 0 where
  pub fits : length (lib.intervals s) ≤ length before → (answer ≡ 0) × (new.uuid ≡ lib.uuid s) × (tag_held new ≡ Some (lib.tag s)) × (intervals_of (take needed after) ≡ lib.intervals s)
  pub small : length before < length (lib.intervals s) → (answer ≡ 5) × (new ≡ old)
  pub count : needed ≡ length (lib.intervals s)

-- the code for a text that is no sid
pub record RefusesText (answer : ℕ) (old new : CSid) (needed : ℕ) : Type 0 where
  pub code : answer ≡ 2
  pub out : new ≡ old
  pub count : needed ≡ 0

abbrev pub SidInto : Result Sid InvalidSid → (places answer : ℕ) (old new : CSid) (needed : ℕ) → Type 0
SidInto (Ok s) places answer old new needed = PutsSid s places answer old new needed
SidInto (Err e) places answer old new needed = RefusesText answer old new needed

-- no bytes mean no tag
abbrev pub tag_in : List ℕ → Option (List ℕ)
tag_in [] = None
tag_in (b ∷ bytes) = Some (b ∷ bytes)

pub record HoldsPlaces (s : Sid) (out : CSidPlaces) : Type 0 where
  pub uuid : out.uuid ≡ lib.uuid s
  pub tag : tag_in out.tag.now ≡ lib.tag s
  pub intervals : StandIn (interval.form tt) out.n_intervals out.intervals.now (lib.intervals s)

-- the first sid, and the bytes after it; or the code of its first fault, and everything is unchanged
abbrev pub NextSid : Reading Sid → (code : ℕ) (rest_old rest_new : CBytes) (old new : CSidPlaces) → Type 0
NextSid (Ok x) code rest_old rest_new old new = (code ≡ 0) × HoldsPlaces x.0 new × (rest_new.bytes.now ≡ x.1)
NextSid (Err k) code rest_old rest_new old new = (code ≡ kind_code k) × (rest_new ≡ rest_old) × (new ≡ old)

-- the same for an interval
abbrev pub NextInterval : Reading GnoInterval → (code : ℕ) (rest_old rest_new : CBytes) (old new : CInterval) → Type 0
NextInterval (Ok x) code rest_old rest_new old new = (code ≡ 0) × (new.start ≡ gno.start x.0) × (new.end ≡ gno.end x.0) × (rest_new.bytes.now ≡ x.1)
NextInterval (Err k) code rest_old rest_new old new = (code ≡ kind_code k) × (rest_new ≡ rest_old) × (new ≡ old)
