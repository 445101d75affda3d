use Rattle.std.proofs.Common.{[], ◌∷◌, ap, codes, ◌∙◌}
use Rattle.mysql_replies.specs.FieldListColumn.{column_of, default_of}
use Rattle.mysql_show.specs.Fields.{Value, said}
use Rattle.mysql_recorder.specs.ServerFields.{column_fields, default_content}
use Rattle.mysql_recorder.proofs.Appended.{appended_on_ok}
use Rattle.mysql_recorder.proofs.server_fields.append_field_list_column.Goals as goal

pub returns : goal.returns
returns c = record {
  ok = appended_on_ok c.append.result c.args.fields.now.items c.append_column.new.fields.items c.append.new.fields.items (column_fields (column_of c.args.column.now))
      (said (codes "default_value") (Value (default_content (default_of c.args.column.now))) ∷ []) (column_fields c.column.result.now) (c.value.result ∷ [])
      (ap column_fields c.column.ensures.value) (ap (λ x. x ∷ []) (c.value.ensures.value ∙ ap (λ v. said (codes "default_value") (Value v)) c.default_value.ensures))
      c.in_ok-append_column.ensures.ok c.append.ensures.ok;
}
