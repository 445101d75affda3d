use Rattle.std.proofs.Common.{◌≡◌, drop}
use Rattle.serde_json.specs.View.{members_view}
use Rattle.mysql_show.specs.FieldObject.{with_members}
use Rattle.mysql_show.proofs.json.put_members.Given as goal

-- the members so far, followed by the remaining ones
abbrev pub invariant-loop-field : goal.invariant-loop-field
invariant-loop-field l = with_members (drop l.field-index l.fields) (members_view l.object.entries) ≡ with_members l.fields (members_view l.initial.object.entries)
