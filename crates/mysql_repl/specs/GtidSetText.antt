-- How a GTID set's text is read.
use Rattle.std.specs.Prelude.{ℕ, ◌-◌, List, [], ◌∷◌, ◌++◌, length, take, drop, map, Option, Some, None, is_some, Result, Ok, Err, Bool, true, false, ◌||◌, ◌==◌, nat_lt, if◌then◌else◌}
use Rattle.std.specs.Char.{is_ascii_digit, is_ascii_whitespace, to_ascii_lowercase}
use Rattle.std.specs.List.{slice_split, prefix_len, suffix_len}
use Rattle.uuid.specs.Text.{parsed}
use Rattle.mysql_repl.specs.declared.binlog_dump_gtid.ComBinlogDumpGtid.{ComBinlogDumpGtid}
use Rattle.mysql_repl.specs.declared.gno_interval.GnoInterval.{GnoInterval}
use Rattle.mysql_repl.specs.declared.sid.Sid.{Sid}
use Rattle.mysql_repl.specs.declared.sid_text.InvalidSid.{InvalidSid}
use Rattle.mysql_repl.specs.declared.sid_text.InvalidSid.TheVariants as fault
use Rattle.mysql_repl.specs.declared.tag.InvalidTag.{InvalidTag}
use Rattle.mysql_repl.specs.BinlogDumpGtid.{with_sids}
use Rattle.mysql_repl.specs.Sid.{intervals, tag}
use Rattle.mysql_repl.specs.SidText.{colon, hyphen, comma, is, has, before, after, number_of, checked, numbers_by}
use Rattle.mysql_repl.specs.Tag.{tag_fault}

-- ---- words

abbrev pub trimmed_start : List ℕ → List ℕ
trimmed_start text = drop (prefix_len is_ascii_whitespace text) text

abbrev pub trimmed_end : List ℕ → List ℕ
trimmed_end text = take (length text - suffix_len is_ascii_whitespace text) text

-- without ASCII white space at either end
unfoldable pub trimmed : List ℕ → List ℕ
trimmed text = trimmed_end (trimmed_start text)

-- the texts between the separators, trimmed
unfoldable pub words : (separator : ℕ) → List ℕ → List (List ℕ)
words separator text = map trimmed (slice_split (is separator) text)

-- ---- intervals

-- one or more digits, of at most 64 bits
unfoldable pub plain_number : List ℕ → Option ℕ
plain_number [] = None
plain_number (c ∷ cs) = if c == 43 then None else number_of (c ∷ cs)

-- from the first number to the last, which is at most 2^63 - 2
abbrev pub server_checked : (first last : ℕ) → Result GnoInterval InvalidSid
server_checked first last = if nat_lt 9223372036854775806 last then Err fault.TooLarge else checked first last

abbrev pub server_numbers : Option ℕ → Option ℕ → Result GnoInterval InvalidSid
server_numbers first last = numbers_by server_checked first last

-- a number, or two with a hyphen between them
unfoldable pub server_interval : List ℕ → Result GnoInterval InvalidSid
server_interval text =
    if has hyphen text then
    (if has hyphen (after hyphen text) then Err fault.Parts
    else server_numbers (plain_number (trimmed (before hyphen text))) (plain_number (trimmed (after hyphen text))))
    else server_numbers (plain_number text) (plain_number text)

-- ---- tags

-- an interval begins with a digit; any other word is a tag
abbrev pub is_interval : List ℕ → Bool
is_interval [] = false
is_interval (c ∷ cs) = is_ascii_digit c

abbrev pub interval_follows : List (List ℕ) → Bool
interval_follows [] = false
interval_follows (word ∷ more) = is_interval word

abbrev pub tag_or : Option InvalidTag → List ℕ → (follows : Bool) → Result (List ℕ) InvalidSid
tag_or (Some e) tag follows = Err (fault.Tag e)
tag_or None tag false = Err fault.NoIntervals
tag_or None tag true = Ok tag

-- a tag in either case, followed by an interval
unfoldable pub server_tag : List ℕ → (following : List (List ℕ)) → Result (List ℕ) InvalidSid
server_tag [] following = Err fault.Empty
server_tag (c ∷ cs) following =
    tag_or (tag_fault (map to_ascii_lowercase (c ∷ cs))) (map to_ascii_lowercase (c ∷ cs)) (interval_follows following)

-- ---- the sids of a uuid

-- the sids of these words: intervals up to the first tag, and a sid for each tag
abbrev pub Found : Type 0
Found = List GnoInterval × List Sid

abbrev pub with_interval : Result GnoInterval InvalidSid → Result Found InvalidSid → Result Found InvalidSid
with_interval (Err e) more = Err e
with_interval (Ok i) (Err e) = Err e
with_interval (Ok i) (Ok found) = Ok (i ∷ found.0, found.1)

-- the intervals that follow belong to the tag
abbrev pub with_tag : (id : List ℕ) → Result (List ℕ) InvalidSid → Result Found InvalidSid → Result Found InvalidSid
with_tag id (Err e) more = Err e
with_tag id (Ok tag) (Err e) = Err e
with_tag id (Ok tag) (Ok found) = Ok ([], record { uuid = id; tag = Some tag; intervals = found.0 } ∷ found.1)

abbrev pub found_in : (id : List ℕ) → List (List ℕ) → Result Found InvalidSid
found_in id [] = Ok ([], [])
found_in id (word ∷ more) =
    if is_interval word then with_interval (server_interval word) (found_in id more)
    else with_tag id (server_tag word more) (found_in id more)

-- a sid without a tag is present if it has an interval
abbrev pub kept : Sid → List Sid
kept s = if is_some (tag s) || nat_lt 0 (length (intervals s)) then s ∷ [] else []

abbrev pub sids_found : (id : List ℕ) → Result Found InvalidSid → Result (List Sid) InvalidSid
sids_found id (Err e) = Err e
sids_found id (Ok found) = Ok (kept (record { uuid = id; tag = None; intervals = found.0 }) ++ found.1)

-- ---- the whole text

abbrev pub read_uuid : Option (List ℕ) → List ℕ → Result (List Sid) InvalidSid
read_uuid None text = Err fault.Uuid
read_uuid (Some id) text = sids_found id (found_in id (words colon text))

-- a uuid and its words, each after a colon; a blank piece has no sid
unfoldable pub read_piece : List ℕ → Result (List Sid) InvalidSid
read_piece [] = Ok []
read_piece (c ∷ cs) =
    if has colon (c ∷ cs) then read_uuid (parsed (trimmed (before colon (c ∷ cs)))) (after colon (c ∷ cs))
    else Err fault.NoColon

abbrev pub joined : Result (List Sid) InvalidSid → Result (List Sid) InvalidSid → Result (List Sid) InvalidSid
joined (Err e) more = Err e
joined (Ok sids) (Err e) = Err e
joined (Ok sids) (Ok more) = Ok (sids ++ more)

abbrev pub read_pieces : List (List ℕ) → Result (List Sid) InvalidSid
read_pieces [] = Ok []
read_pieces (piece ∷ pieces) = joined (read_piece piece) (read_pieces pieces)

-- the sids, or the first error
unfoldable pub read_sids : List ℕ → Result (List Sid) InvalidSid
read_sids text = read_pieces (words comma text)

-- a dump with its sids replaced by these
abbrev pub with_read_sids : Result (List Sid) InvalidSid → ComBinlogDumpGtid → Result ComBinlogDumpGtid InvalidSid
with_read_sids (Err e) p = Err e
with_read_sids (Ok sids) p = Ok (with_sids sids p)
