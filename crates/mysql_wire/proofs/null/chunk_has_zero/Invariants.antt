use Rattle.std.proofs.Common.{◌≡◌, take, false}
use Rattle.mysql_wire.specs.Null.{HasNoZero}
use Rattle.mysql_wire.proofs.null.chunk_has_zero.Given as goal

abbrev pub invariant-loop-byte : goal.invariant-loop-byte
invariant-loop-byte g l = l.found ≡ false → HasNoZero (take l.byte-index l.chunk)
