use Rattle.std.proofs.Common.{[], ◌∷◌, ap, sym, ◌∙◌}
use Rattle.mysql_recorder.specs.ClientFields.{count_flag}
use Rattle.mysql_recorder.proofs.Appended.{appended_as}
use Rattle.mysql_recorder.proofs.command_fields.append_count_flag.Goals as goal

pub returns-then-has_parameter_count : goal.returns-then-has_parameter_count
returns-then-has_parameter_count c = record {
  ok = appended_as c.append.result c.args.fields.now.items c.append.new.fields.items (count_flag c.args.has_parameter_count) (c.flag.result ∷ [])
      (ap (λ x. x ∷ []) c.flag.ensures.value ∙ ap count_flag (sym c.if-has_parameter_count.true)) c.append.ensures.ok;
}
