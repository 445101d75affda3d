use Rattle.mysql_values.proofs.Numerals.{signed_is_text}
use Rattle.mysql_values.proofs.from_value.parse_i64.Goals as goal

pub returns-in-Err : goal.returns-in-Err
returns-in-Err c = λ x h. c.in-Err.ensures.cases.0 (signed_is_text c.args.bytes.now x h)
