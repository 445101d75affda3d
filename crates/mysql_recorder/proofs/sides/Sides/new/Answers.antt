use Rattle.std.proofs.Common.{◌≡◌, ℕ, ◌≤◌, [], None, ap, arith, length, refl, sym}
use Rattle.mysql_frames.proofs.Peel.{four}
use Rattle.mysql_frames.specs.Frames.{most}
use Rattle.mysql_recorder.specs.Sides.{InStep}
use Rattle.mysql_recorder.specs.declared.stream.Stream.{Stream}
use Rattle.mysql_recorder.proofs.sides.Sides.new.Goals as goal

-- a stream that holds nothing
in_step : (s : Stream) (longest : ℕ) → s.reader.held ≡ [] → s.reader.limit ≡ longest → s.passed ≡ None → InStep s longest
in_step s longest held limit passed =
    let empty : length s.reader.held ≡ 0 = ap length held in record {
      numbered = λ long. absurd (omega (arith, empty, long));
      limit = limit;
      none = λ number payload after rest f.
          let long : 4 ≤ length s.reader.held = four most f.0 number payload after s.reader.held rest f.1 in absurd (omega (arith, empty, long));
      none_passed = passed;
    }

pub returns-clause-stand : goal.returns-clause-stand
returns-clause-stand c = record {
  come = (refl, sym c.new.ensures.held, sym c.new-2.ensures.held);
  client = in_step c.new.result c.args.longest c.new.ensures.held c.new.ensures.limit (c.new.ensures.passed refl);
  server = in_step c.new-2.result c.args.longest c.new-2.ensures.held c.new-2.ensures.limit (c.new-2.ensures.passed refl);
  observed = c.new-3.ensures.observed;
  nothing_lost = refl;
}
