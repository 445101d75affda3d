-- The rest of a GTID set's text.
use Rattle.std.specs.Prelude.{List, ◌++◌, option_map}
use Rattle.mysql_repl.specs.declared.gtid_set_entries.Left.{Left}
use Rattle.mysql_repl.specs.GtidSetEntries.{Entry, word_entries, pieces_entries}
use Rattle.mysql_repl.specs.GtidSetTextParts.{left_words}
use Rattle.mysql_repl.specs.SidText.{colon, comma}

abbrev pub entries_left : Left → List Entry
entries_left it =
    word_entries it.uuid (left_words colon (option_map (λ t. t.now) it.words)) ++ pieces_entries (left_words comma (option_map (λ t. t.now) it.pieces))
