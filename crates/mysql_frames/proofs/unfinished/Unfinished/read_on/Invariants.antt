use Rattle.std.proofs.Common.{◌≡◌, ◌+◌, ◌++◌, ◌≤◌, length}
use Rattle.std.specs.Prelude.{vec_capacity}
use Rattle.mysql_frames.specs.Unfinished.{held, IsReading}
use Rattle.mysql_frames.proofs.unfinished.Unfinished.read_on.Given as goal

abbrev pub invariant-frames : goal.invariant-frames
invariant-frames l = record {
  reading : IsReading l.self;
  first : l.self.first ≡ l.fn.self.first;
  limit : l.self.limit ≡ l.fn.self.limit;
  less : length l.input.now ≤ length l.fn.input.now;
  capacity : vec_capacity l.fn.self.payload ≤ vec_capacity l.self.payload;
  kept : held l.self ++ l.input.now ≡ held l.fn.self ++ l.fn.input.now;
}

abbrev pub decreases-frames : goal.decreases-frames
decreases-frames l = length l.input.now + length l.self.head.items
