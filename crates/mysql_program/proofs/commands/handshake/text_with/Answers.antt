use Rattle.std.proofs.Common.{refl}
use Rattle.mysql_program.proofs.commands.handshake.text_with.Goals as goal

pub returns : goal.returns
returns c = record {
  value =
      rw (
        c.in_ok-append_lines.ensures.ok,
        c.in_ok-append_version-2.ensures.ok,
        c.in_ok-append_version.ensures.ok,
        c.in_ok-text.ensures.value,
        c.greeting_fields.ensures.value,
        c.version_fields.ensures.value,
      )
      refl;
}
