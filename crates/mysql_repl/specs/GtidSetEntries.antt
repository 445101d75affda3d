-- The sids and intervals of a GTID set's text, one after another.
use Rattle.std.specs.Prelude.{ℕ, ◌+◌, List, [], ◌∷◌, ◌++◌, Option, Some, None, Result, Ok, Err, map, nat_lt, option_map, if◌then◌else◌}
use Rattle.std.specs.Char.{to_ascii_lowercase}
use Rattle.uuid.specs.Text.{parsed}
use Rattle.mysql_repl.specs.declared.gno_interval.GnoInterval.{GnoInterval}
use Rattle.mysql_repl.specs.declared.gtid_set_entries.GtidSetEntry.{GtidSetEntry}
use Rattle.mysql_repl.specs.declared.gtid_set_entries.GtidSetEntry.TheVariants as entry
use Rattle.mysql_repl.specs.declared.sid.Sid.{Sid}
use Rattle.mysql_repl.specs.declared.sid_text.InvalidSid.{InvalidSid}
use Rattle.mysql_repl.specs.declared.sid_text.InvalidSid.TheVariants as fault
use Rattle.mysql_repl.specs.GtidSetText.{Found, is_interval, server_interval, server_tag, trimmed, words}
use Rattle.mysql_repl.specs.SidText.{after, before, colon, comma, has}

-- an entry, or the error of a word or piece
abbrev pub Entry : Type 0
Entry = Result GtidSetEntry InvalidSid

-- a sid, before a given number of its intervals
abbrev pub sid : (id : List ℕ) (tag : Option (List ℕ)) (count : ℕ) → Entry
sid id tag count = Ok (entry.Sid (record { uuid = id; tag = tag; intervals = count }))

-- the number of intervals before the first tag
abbrev pub lead : List (List ℕ) → ℕ
lead [] = 0
lead (word ∷ more) = if is_interval word then lead more + 1 else 0

abbrev pub interval_entry : Result GnoInterval InvalidSid → Entry
interval_entry (Ok i) = Ok (entry.Interval i)
interval_entry (Err e) = Err e

-- the tag is the word itself, in its original case
abbrev pub tag_entry : (id word : List ℕ) → Result (List ℕ) InvalidSid → (count : ℕ) → Entry
tag_entry id word (Ok tag) count = sid id (Some word) count
tag_entry id word (Err e) count = Err e

abbrev pub word_entries : (id : List ℕ) → List (List ℕ) → List Entry
word_entries id [] = []
word_entries id (word ∷ more) =
    (if is_interval word then interval_entry (server_interval word) else tag_entry id word (server_tag word more) (lead more)) ∷ word_entries id more

-- a sid without a tag is present if it has an interval
abbrev pub first_entry : (id : List ℕ) (count : ℕ) → List Entry
first_entry id count = if nat_lt 0 count then sid id None count ∷ [] else []

abbrev pub uuid_entries : Option (List ℕ) → List (List ℕ) → List Entry
uuid_entries None list = Err fault.Uuid ∷ []
uuid_entries (Some id) list = first_entry id (lead list) ++ word_entries id list

unfoldable pub piece_entries : List ℕ → List Entry
piece_entries [] = []
piece_entries (c ∷ cs) =
    if has colon (c ∷ cs) then uuid_entries (parsed (trimmed (before colon (c ∷ cs)))) (words colon (after colon (c ∷ cs)))
    else Err fault.NoColon ∷ []

abbrev pub pieces_entries : List (List ℕ) → List Entry
pieces_entries [] = []
pieces_entries (piece ∷ pieces) = piece_entries piece ++ pieces_entries pieces

unfoldable pub text_entries : List ℕ → List Entry
text_entries text = pieces_entries (words comma text)

-- ---- the sids of entries, with tags in lower case

abbrev pub lower_tag : Option (List ℕ) → Option (List ℕ)
lower_tag tag = option_map (map to_ascii_lowercase) tag

abbrev pub with_entry : GtidSetEntry → Result Found InvalidSid → Result Found InvalidSid
with_entry x (Err e) = Err e
with_entry (entry.Interval i) (Ok found) = Ok (i ∷ found.0, found.1)
with_entry (entry.Sid s) (Ok found) = Ok ([], record { uuid = s.uuid; tag = lower_tag s.tag; intervals = found.0 } ∷ found.1)

-- the intervals before the first sid, and the sids, each with the intervals that follow it; or the first error
abbrev pub sids_of : List Entry → Result Found InvalidSid
sids_of [] = Ok ([], [])
sids_of (Err e ∷ more) = Err e
sids_of (Ok x ∷ more) = with_entry x (sids_of more)

-- the number of intervals after each sid
abbrev pub counts : List Entry → List ℕ
counts [] = []
counts (Err e ∷ more) = counts more
counts (Ok (entry.Interval i) ∷ more) = counts more
counts (Ok (entry.Sid s) ∷ more) = s.intervals ∷ counts more

-- only sids, without an interval before them
abbrev pub alone : Result (List Sid) InvalidSid → Result Found InvalidSid
alone (Err e) = Err e
alone (Ok sids) = Ok ([], sids)
