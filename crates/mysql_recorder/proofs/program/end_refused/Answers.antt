use Rattle.mysql_recorder.proofs.Written.{error_fails, error_sums}
use Rattle.mysql_recorder.proofs.program.end_refused.Goals as goal

pub returns-then-is_written : goal.returns-then-is_written
returns-then-is_written g c = error_sums c.args.shown_in c.args.sums c.write_error-is_written.result c.args.error _ _ _ _ c.if-is_written.true c.write_error-is_written.ensures c.end_with_sums.ensures.ends

pub returns-else-is_written : goal.returns-else-is_written
returns-else-is_written g c = error_fails c.args.shown_in c.args.sums c.write_error-is_written.result c.args.error _ _ c.if-is_written.false c.write_error-is_written.ensures
