-- The rest of a GTID set's text, as a reader advances.
use Rattle.std.specs.Prelude.{◌≡◌, ℕ, List, [], ◌∷◌, ◌++◌, Option, Some, None, Result, Ok, Err}
use Rattle.std.specs.Global.{Vec}
use Rattle.mysql_repl.specs.declared.gtid_set_text.Building.{Building}
use Rattle.mysql_repl.specs.declared.sid.Sid.{Sid}
use Rattle.mysql_repl.specs.declared.sid_text.InvalidSid.{InvalidSid}
use Rattle.mysql_repl.specs.declared.sid_text.InvalidSid.TheVariants as fault
use Rattle.mysql_repl.specs.GtidSetText.{Found, words, found_in, kept}
use Rattle.mysql_repl.specs.Sid.{intervals}

abbrev pub left_words : (separator : ℕ) → Option (List ℕ) → List (List ℕ)
left_words separator None = []
left_words separator (Some text) = words separator text

abbrev pub sids_read : Result (Vec Sid) InvalidSid → Result (List Sid) InvalidSid
sids_read (Ok v) = Ok v.items
sids_read (Err e) = Err e

-- what is read, after what was read before
abbrev pub with_front : List Sid → Result (List Sid) InvalidSid → Result (List Sid) InvalidSid
with_front front (Ok sids) = Ok (front ++ sids)
with_front front (Err e) = Err e

-- the final result, if these sids were read and this one is being read
abbrev pub finished : List Sid → Sid → Result Found InvalidSid → Result (List Sid) InvalidSid
finished front sid (Err e) = Err e
finished front sid (Ok found) = Ok (front ++ (kept (record sid { intervals = intervals sid ++ found.0 }) ++ found.1))

-- a word is consumed: the final result is unchanged
abbrev pub Takes : (id : List ℕ) → List Sid → Sid → Result Building InvalidSid → (word : List ℕ) → (more : List (List ℕ)) → Type 0
Takes id front sid (Ok b) word more = finished b.sids.items b.sid (found_in id more) ≡ finished front sid (found_in id (word ∷ more))
Takes id front sid (Err fault.Memory) word more = Unit {0}
Takes id front sid (Err e) word more = found_in id (word ∷ more) ≡ Err e
