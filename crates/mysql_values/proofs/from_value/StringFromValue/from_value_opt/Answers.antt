use Rattle.std.proofs.lemmas.Str.{IsUtf8-string_bytes}
use Rattle.mysql_values.proofs.from_value.StringFromValue.from_value_opt.Goals as goal

pub returns-in-Ok-clause-ok : goal.returns-in-Ok-clause-ok
returns-in-Ok-clause-ok c = rw c.in-Bytes.is (c.in-Ok.ensures.ok, rw (← c.in-Ok.ensures.ok) (IsUtf8-string_bytes c.in-Ok.text))
