use Rattle.std.proofs.Common.{◌≡◌, ◌∷◌, ◌++◌, ◌<◌, ◌+◌, length, take, drop, replicate, rules, arith}
use Rattle.std.specs.Int.{w64, from_le_bytes}
use Rattle.std.proofs.lemmas.List.{length-take}
use Rattle.mysql_wire.proofs.Varlens.{few_ones, short_fails, short_read, value-padded}
use Rattle.mysql_wire.proofs.varlen.read_varlen_uint.Goals as goal

pub returns-in_default-checked_eat-clause-value : goal.returns-in_default-checked_eat-clause-value
returns-in_default-checked_eat-clause-value c =
    let split : c.args.buf.now ≡ c.in-Some.first ∷ c.checked_eat_u8.new.self = search rules in
    let fits : c.in-Some.first < 256 = search rules in
    short_fails c.args.buf.now c.checked_eat_u8.new.self c.in-Some.first c.trailing_ones.result split fits c.if-first.false c.trailing_ones.ensures c.in_default-checked_eat.ensures.value.0

pub returns-clause-value : goal.returns-clause-value
returns-clause-value c =
    let old = c.args.buf.now in
    let split : c.args.buf.now ≡ c.in-Some.first ∷ c.checked_eat_u8.new.self = search rules in
    let fits : c.in-Some.first < 256 = search rules in
    let there = c.in-Some-checked_eat.ensures.value in
    let size = c.trailing_ones.result + 1 in
    let few = few_ones old c.checked_eat_u8.new.self c.in-Some.first c.trailing_ones.result split fits c.if-first.false c.trailing_ones.ensures in
    let taken : length (take size old) ≡ size = omega (arith, length-take size old, there.0) in
    let padded : c.from_le_bytes.result ≡ from_le_bytes w64 (take size old ++ drop size (replicate 8 0)) = rw (← there.1, ← c.copy_from_slice.ensures.after) c.from_le_bytes.ensures in
    let value = value-padded (take size old) size c.from_le_bytes.result taken (omega (arith, few)) padded in
    rw there.2 (short_read old c.checked_eat_u8.new.self c.in-Some.first c.trailing_ones.result split fits c.if-first.false c.trailing_ones.ensures c.from_le_bytes.result there.0 value)
