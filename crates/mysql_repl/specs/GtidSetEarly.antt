-- What a GTID set's text shows before any allocation.
use Rattle.std.specs.Prelude.{ℕ, List, [], ◌∷◌, Option, Some, None, option_map, Result, Ok, Err, if◌then◌else◌}
use Rattle.uuid.specs.Text.{parsed}
use Rattle.mysql_repl.specs.declared.sid.Sid.{Sid}
use Rattle.mysql_repl.specs.declared.sid_text.InvalidSid.{InvalidSid}
use Rattle.mysql_repl.specs.declared.sid_text.InvalidSid.TheVariants as fault
use Rattle.mysql_repl.specs.GtidSetText.{trimmed, words, server_interval, is_interval}
use Rattle.mysql_repl.specs.SidText.{colon, comma, has, before, after, refusal_in}

-- a tag that is not empty is allocated
abbrev pub early_tag : List ℕ → Option InvalidSid
early_tag [] = Some fault.Empty
early_tag (c ∷ cs) = None

-- a valid interval is allocated
abbrev pub early_word : List ℕ → Option InvalidSid
early_word word = if is_interval word then refusal_in (server_interval word) else early_tag word

-- of the words after a uuid: the first one
abbrev pub early_words : List (List ℕ) → Option InvalidSid
early_words [] = None
early_words (word ∷ more) = early_word word

abbrev pub early_uuid : Option (List ℕ) → List ℕ → Option InvalidSid
early_uuid None text = Some fault.Uuid
early_uuid (Some id) text = early_words (words colon text)

-- the error of a piece between commas; a blank piece has none
unfoldable pub early_piece : List ℕ → Option InvalidSid
early_piece [] = None
early_piece (c ∷ cs) =
    if has colon (c ∷ cs) then early_uuid (parsed (trimmed (before colon (c ∷ cs)))) (after colon (c ∷ cs))
    else Some fault.NoColon

-- blank pieces alone mean no sid; otherwise the first piece that is not blank is refused or allocated
abbrev pub early_pieces : List (List ℕ) → Option (Result (List Sid) InvalidSid)
early_pieces [] = Some (Ok [])
early_pieces ([] ∷ pieces) = early_pieces pieces
early_pieces ((c ∷ cs) ∷ pieces) = option_map Err (early_piece (c ∷ cs))

-- the answer that needs no memory, if there is one
unfoldable pub early_answer : List ℕ → Option (Result (List Sid) InvalidSid)
early_answer text = early_pieces (words comma text)
