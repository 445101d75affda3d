use Rattle.std.proofs.Common.{◌++◌}
use Rattle.mysql_stmt.specs.NullBitmap.{null_bitmap, borrowed}
use Rattle.mysql_stmt.proofs.BitmapAgain.{null_bitmap-again}
use Rattle.mysql_stmt.proofs.laws.null_bitmap_round_trips.Goals as goal

pub returns-clause-spelled : goal.returns-clause-spelled
returns-clause-spelled c offset count bytes rest fits len = null_bitmap-again offset count bytes fits len rest

pub returns-clause-read : goal.returns-clause-read
returns-clause-read c offset count bytes rest fits len =
    (null_bitmap offset count).only (borrowed bytes) (bytes ++ rest) rest (null_bitmap-again offset count bytes fits len rest)
