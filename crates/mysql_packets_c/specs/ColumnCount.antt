-- The column count at the beginning of a result, in C.
use Rattle.std.specs.Prelude.{◌≡◌, if◌then◌else◌, ℕ, List}
use Rattle.mysql_replies.specs.ColumnCount.{columns, count, metadata_follows, says_follow, with_metadata_follows}
use Rattle.mysql_replies.specs.declared.column_count.ColumnCount.{ColumnCount}
use Rattle.mysql_replies.specs.declared.session_capabilities.SessionCapabilities.{SessionCapabilities}
use Rattle.mysql_packets_c.specs.Given.{is_set}
use Rattle.mysql_packets_c.specs.Input.{used_of}
use Rattle.mysql_packets_c.specs.declared.column_count.CColumnCount.{CColumnCount}

pub record IsCount (packet : List ℕ) (c : ColumnCount) (rest : List ℕ) (out : CColumnCount) : Type 0 where
  pub count : out.count ≡ count c
  pub metadata_follows : out.metadata_follows ≡ (if metadata_follows c then 1 else 0)
  pub used : out.used ≡ used_of packet rest

-- MySQL's flags, and MariaDB's own
abbrev pub session_of : ℕ → ℕ → SessionCapabilities
session_of capabilities mariadb = record { mysql = record { 0 = capabilities; 1 = record {} }; mariadb = record { 0 = mariadb; 1 = record {} } }

-- the count with these fields: if a byte says it, 1 means that definitions follow, and 0 that none do
abbrev pub count_given : SessionCapabilities → CColumnCount → ColumnCount
count_given capabilities c = if says_follow capabilities then with_metadata_follows (is_set c.metadata_follows) (columns c.count) else columns c.count
