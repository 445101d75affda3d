use Rattle.std.proofs.Common.{[], ◌∷◌, ◌++◌, ap, append-nil, refl, sym, ◌∙◌}
use Rattle.mysql_replies.specs.ExtendedColumn.{column_of, metadata_of}
use Rattle.mysql_show.specs.Columns.{column_names, column_numbers}
use Rattle.mysql_recorder.specs.ServerFields.{metadata_fields}
use Rattle.mysql_recorder.proofs.Appended.{appended_on_ok, appended_then}
use Rattle.mysql_recorder.proofs.server_fields.append_column.Goals as goal

pub returns-in-Some : goal.returns-in-Some
returns-in-Some c =
    let column = column_of c.args.extended.now in record {
      ok = appended_on_ok c.append.result c.args.fields.now.items c.add_fields-2.new.fields.items c.append.new.fields.items (column_names column ++ column_numbers column) (metadata_fields (metadata_of c.args.extended.now))
          (column_names column ++ column_numbers column) (c.bytes.result ∷ []) refl (ap (λ x. x ∷ []) c.bytes.ensures.value ∙ ap metadata_fields c.in-Some.ensures.value)
          (appended_then c.args.fields.now.items c.add_fields.new.fields.items c.add_fields-2.new.fields.items (column_names column) (column_numbers column) c.column_names.result c.column_numbers.result
          (c.column_names.ensures.value ∙ ap column_names c.column.ensures.value) (c.column_numbers.ensures.value ∙ ap column_numbers c.column-2.ensures.value) c.in_ok-add_fields.ensures.ok c.in_ok-add_fields-2.ensures.ok)
          c.append.ensures.ok;
    }

pub returns-in-None : goal.returns-in-None
returns-in-None c =
    let column = column_of c.args.extended.now in record {
      ok = appended_then c.args.fields.now.items c.add_fields-2.new.fields.items c.add_fields-2.new.fields.items (column_names column ++ column_numbers column) (metadata_fields (metadata_of c.args.extended.now))
          (column_names column ++ column_numbers column) [] refl (ap metadata_fields c.in-None.ensures.value)
          (appended_then c.args.fields.now.items c.add_fields.new.fields.items c.add_fields-2.new.fields.items (column_names column) (column_numbers column) c.column_names.result c.column_numbers.result
          (c.column_names.ensures.value ∙ ap column_names c.column.ensures.value) (c.column_numbers.ensures.value ∙ ap column_numbers c.column-2.ensures.value) c.in_ok-add_fields.ensures.ok c.in_ok-add_fields-2.ensures.ok)
          (sym (append-nil c.add_fields-2.new.fields.items));
    }
