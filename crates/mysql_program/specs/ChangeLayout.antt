-- The layouts of session changes.
use Rattle.std.specs.Prelude.{ℕ, List, Option, Some, None, codes, nat_eq, if◌then◌else◌}
use Rattle.std.specs.Cmp.Lexicographic.{pointwise}
use Rattle.mysql_wire.specs.Reading.{Reading}
use Rattle.mysql_session.specs.declared.session_state_change.SessionStateChange.{SessionStateChange}
use Rattle.mysql_replies.specs.SessionStateChanges.{decoded_as_sent}
use Rattle.mysql_replies.specs.SessionStateInfo.{decoded}
use Rattle.mysql_replies.specs.declared.session_state_info.SessionStateInfo.{SessionStateInfo}
use Rattle.mysql_program.specs.declared.commands.change_layout.ChangeLayout.{ChangeLayout}
use Rattle.mysql_program.specs.declared.commands.change_layout.ChangeLayout.TheVariants as layout

-- the layout with that name
abbrev pub layout_of : List ℕ → Option ChangeLayout
layout_of name = if pointwise nat_eq name (codes "as-sent") then Some layout.AsSent else None

-- the change of an entry, in that layout
abbrev pub decoded_in : ChangeLayout → SessionStateInfo → Reading SessionStateChange
decoded_in layout.Documented info = decoded info
decoded_in layout.AsSent info = decoded_as_sent info
