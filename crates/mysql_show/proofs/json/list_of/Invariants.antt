use Rattle.std.proofs.Common.{◌≡◌, ◌++◌, drop, map}
use Rattle.serde_json.specs.View.{view}
use Rattle.mysql_show.specs.FieldObject.{items_named}
use Rattle.mysql_show.proofs.json.list_of.Given as goal

-- the items so far, followed by the remaining ones
abbrev pub invariant-loop-field : goal.invariant-loop-field
invariant-loop-field l = map view l.list.items ++ items_named l.name (drop l.field-index l.fields) ≡ items_named l.name l.fields
