use Rattle.std.proofs.Common.{[], ◌∷◌, ap, codes, sym, ◌∙◌}
use Rattle.mysql_show.specs.Fields.{Flag, said}
use Rattle.mysql_recorder.specs.ClientFields.{option_fields}
use Rattle.mysql_recorder.proofs.Appended.{appended_as}
use Rattle.mysql_recorder.proofs.command_fields.append_option.Goals as goal

pub returns-in-Some : goal.returns-in-Some
returns-in-Some c = record {
  ok = appended_as c.append.result c.args.fields.now.items c.append.new.fields.items (option_fields c.args.option) (c.flag.result ∷ [])
      (ap (λ x. x ∷ []) (c.flag.ensures.value ∙ ap (λ b. said (codes "multi_statements") (Flag b)) c.is_on.ensures) ∙ ap option_fields (sym c.in-Some.is)) c.append.ensures.ok;
}
