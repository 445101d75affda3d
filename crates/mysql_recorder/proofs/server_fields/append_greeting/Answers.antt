use Rattle.mysql_show.specs.Logins.{greeting_fields, version_fields}
use Rattle.mysql_recorder.proofs.Appended.{appended_on_ok}
use Rattle.mysql_recorder.proofs.server_fields.append_greeting.Goals as goal

pub returns : goal.returns
returns c = record {
  ok = appended_on_ok c.add_fields-2.result c.args.fields.now.items c.add_fields.new.fields.items c.add_fields-2.new.fields.items (version_fields c.args.greeting.now) (greeting_fields c.args.greeting.now)
      c.version_fields.result c.greeting_fields.result c.version_fields.ensures.value c.greeting_fields.ensures.value c.in_ok-add_fields.ensures.ok c.add_fields-2.ensures.ok;
}
