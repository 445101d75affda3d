use Rattle.std.proofs.Common.{ap, sym, ◌∙◌}
use Rattle.serde_json.specs.Data.{string}
use Rattle.mysql_show.proofs.Texts.{is-text, view-text}
use Rattle.mysql_show.proofs.json.bytes_value.Goals as goal

pub returns-in_ok-from_str-in-Ok : goal.returns-in_ok-from_str-in-Ok
returns-in_ok-from_str-in-Ok c =
    let found = c.in-Ok.ensures.cases in
    record { ok = view-text _ ∙ ap string (c.in_ok-from_str-in-Ok.ensures.ok ∙ found.0) ∙ sym (is-text _ found.1) }
