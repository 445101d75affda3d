-- Intervals of transaction numbers.
use Rattle.std.specs.Prelude.{◌≡◌, ℕ, Some, refl}
use Rattle.mysql_wire.specs.Form.{size-block}
use Rattle.mysql_wire.specs.Codec.{Codec, Fields}
use Rattle.mysql_wire.specs.Codecs.{◌>>=◌, give, field, block, packet, u64}
use Rattle.mysql_wire.specs.Int.{raw_int}
use Rattle.mysql_repl.specs.declared.gno_interval.GnoInterval.{GnoInterval}

abbrev pub interval_of : (from to : ℕ) → GnoInterval
interval_of from to = record { start = from; end = to }

abbrev pub start : GnoInterval → ℕ
start i = i.start

abbrev pub end : GnoInterval → ℕ
end i = i.end

abbrev pub interval_fields : Fields (Unit {0}) GnoInterval GnoInterval
interval_fields = do
  first ← field (λ i. raw_int i.start) u64
  after ← field (λ i. raw_int i.end) u64
  give (interval_of first.0 after.0)

-- two numbers, in sixteen bytes
unfoldable pub interval : Codec (Unit {0}) GnoInterval
interval = packet (block 16 interval_fields (λ i. refl)) (λ i. refl)

pub size-interval : (interval.form tt).size ≡ Some 16
unfolding interval
size-interval = size-block 16 (interval_fields.form tt)
