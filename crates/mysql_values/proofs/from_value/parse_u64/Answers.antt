use Rattle.mysql_values.proofs.Numerals.{unsigned_is_text}
use Rattle.mysql_values.proofs.from_value.parse_u64.Goals as goal

pub returns-in-Err : goal.returns-in-Err
returns-in-Err c = λ n h. c.in-Err.ensures.cases.0 (unsigned_is_text c.args.bytes.now n h)
