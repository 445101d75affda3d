use Rattle.std.proofs.Common.{◌≡◌, ◌+◌, suc, nat_eq, slice_index_or, arith}
use Rattle.std.proofs.lemmas.Bool.{or_parts}
use Rattle.mysql_wire.proofs.Zeros.{no-zero-next}
use Rattle.mysql_wire.proofs.null.chunk_has_zero.Goals as goal

pub loop-byte-preserved : goal.loop-byte-preserved
loop-byte-preserved g c = λ none.
    let parts = or_parts c.loop-byte.found (nat_eq (slice_index_or c.args.chunk.now c.loop-byte.byte-index 0) 0) none in
    let more : c.loop-byte.byte-index + 1 ≡ suc c.loop-byte.byte-index = omega arith in
    rw more (no-zero-next c.loop-byte.byte-index c.args.chunk.now (c.loop-byte.invariant parts.0) parts.1)
