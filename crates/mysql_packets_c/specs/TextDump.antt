-- How the sids of a text are written.
use Rattle.std.specs.Prelude.{◌≡◌, ◌+◌, ◌%◌, ◌^◌, List, Ok, false, ◌||◌, nat_lt}
use Rattle.std.specs.List.{list_any}
use Rattle.mysql_repl.specs.GtidSetEntries.{Entry}
use Rattle.mysql_repl.specs.declared.gtid_set_entries.GtidSetEntry.{GtidSetEntry}
use Rattle.mysql_packets_c.specs.GtidEntries.{has_tag, heads, is_refused, one_if_head}
use Rattle.mysql_packets_c.specs.declared.text_dump.Layout.{Layout}

-- the text is valid: whether there is a sid, whether one has a tag, and how many there are
pub record IsLayout (l : Layout) (list : List Entry) : Type 0 where
  pub read : list_any is_refused list ≡ false
  pub some : l.some ≡ nat_lt 0 (heads list)
  pub tagged : l.tagged ≡ list_any has_tag list
  pub count : l.count ≡ heads list % 2 ^ 64

-- the same with one more of them
pub record Adds (old : Layout) (x : GtidSetEntry) (new : Layout) : Type 0 where
  pub some : new.some ≡ (old.some || nat_lt 0 (one_if_head (Ok x)))
  pub tagged : new.tagged ≡ (old.tagged || has_tag (Ok x))
  pub count : new.count ≡ (old.count + one_if_head (Ok x)) % 2 ^ 64
