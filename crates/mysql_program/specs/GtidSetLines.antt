-- The command `gtidset`.
use Rattle.std.specs.Prelude.{ℕ, List, [], ◌∷◌, ◌++◌, Option, Some, None, Result, Ok, Err, Bool, true, ◌&&◌, nat_eq, codes}
use Rattle.std.specs.Cmp.Lexicographic.{pointwise, slice_cmp}
use Rattle.std.specs.List.{flat_map}
use Rattle.std.specs.declared.cmp.Ordering.{Ordering}
use Rattle.std.specs.declared.cmp.Ordering.TheVariants.{Less, Equal, Greater}
use Rattle.std.specs.Ordering.{is_lt, nat_cmp, ordering_then}
use Rattle.mysql_repl.specs.declared.sid.Sid.{Sid}
use Rattle.mysql_repl.specs.declared.sid_text.InvalidSid.{InvalidSid}
use Rattle.mysql_repl.specs.GtidSetText.{read_sids}
use Rattle.mysql_repl.specs.GtidSetWritten.{set_text}
use Rattle.mysql_repl.specs.ServerSids.{are_as_servers_write}
use Rattle.mysql_repl.specs.Sid.{uuid, tag}
use Rattle.mysql_show.specs.Fields.{said, Flag}
use Rattle.mysql_show.specs.FieldText.{lines_of}
use Rattle.mysql_program.specs.Answer.{Answer, done, refused_by}
use Rattle.mysql_program.specs.Gtid.{sid_line}
use Rattle.mysql_program.specs.SidLines.{sid_refusal_name}

-- sorted by their bytes; no tag precedes each tag
abbrev pub order_of_tags : (before after : Option (List ℕ)) → Ordering
order_of_tags None None = Equal
order_of_tags None (Some after) = Less
order_of_tags (Some before) None = Greater
order_of_tags (Some before) (Some after) = slice_cmp nat_cmp before after

-- sorted by uuid, and then by tag
abbrev pub comes_before : (before after : Sid) → Bool
comes_before before after = is_lt (ordering_then (slice_cmp nat_cmp (uuid before) (uuid after)) (order_of_tags (tag before) (tag after)))

abbrev pub are_after : Sid → List Sid → Bool
are_after before [] = true
are_after before (s ∷ sids) = comes_before before s && are_after s sids

-- each follows the one before it
abbrev pub are_in_order : List Sid → Bool
are_in_order [] = true
are_in_order (s ∷ sids) = are_after s sids

-- the text is the one that servers write for these sids: it is their text, they are sorted, and so are the intervals of each
abbrev pub is_as_servers_write : List ℕ → List Sid → Bool
is_as_servers_write text sids = pointwise nat_eq text (set_text sids) && (are_in_order sids && are_as_servers_write sids)

-- a line for each sid, and whether servers write this text
abbrev pub gtid_set_lines : List ℕ → List Sid → List ℕ
gtid_set_lines text sids =
    flat_map sid_line sids ++ lines_of (said (codes "as_servers_write") (Flag (is_as_servers_write text sids)) ∷ [])

-- the sids, or the error's name
abbrev pub gtid_set_text_answer : List ℕ → Result (List Sid) InvalidSid → Answer
gtid_set_text_answer text (Ok sids) = done (gtid_set_lines text sids)
gtid_set_text_answer text (Err e) = refused_by [] (sid_refusal_name e)

abbrev pub gtid_set_answer : List ℕ → Answer
gtid_set_answer text = gtid_set_text_answer text (read_sids text)
