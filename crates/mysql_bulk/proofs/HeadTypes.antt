-- The types of a request are read from a block of two bytes for each.
use Rattle.std.proofs.Common.{◌≡◌, ℕ, zero, suc, ◌+◌, ◌*◌, ◌<◌, Bool, true, List, [], length, Ok, Err, refl, ap, arith}
use Rattle.std.proofs.lemmas.Bool.{le-ltb}
use Rattle.mysql_wire.proofs.Blocks.{block_length, ended_whole}
use Rattle.mysql_wire.specs.declared.fault.FaultKind.TheVariants as kind
use Rattle.mysql_wire.specs.Form.{bytes, give}
use Rattle.mysql_wire.specs.Seq.{counted, seq}
use Rattle.mysql_values.specs.declared.param_type.ParamType.{ParamType}
use Rattle.mysql_values.specs.ParamType.{param_type}
use Rattle.mysql_bulk.specs.HeadTypes.{types_block}

one_takes : (t : ParamType) (old rest : List ℕ) → (param_type.form tt).Spells t old rest → length old ≡ 2 + length rest
unfolding param_type bytes
one_takes t old rest s = (param_type.form tt).sized.exact t old rest ((param_type.form tt).only t old rest s)

-- a given number of types take two bytes each
all_take : (count : ℕ) (types : List ParamType) (old rest : List ℕ) → (counted count (param_type.form tt)).Spells types old rest → length old ≡ 2 * count + length rest
unfolding counted
all_take zero types old rest s = omega (arith, ap length s.1)
all_take (suc count) types old rest s =
    let first = one_takes s.0 old s.1 s.2 in
    let others = all_take count s.3.0 s.1 s.3.1 s.3.2 in
    let end : s.3.1 ≡ rest = s.3.3.1 in
    omega (arith, first, others, ap length end)

pub types_read : (count : ℕ) (old block rest left : List ℕ) (types : List ParamType) → (bytes (2 * count)).reads old ≡ Ok (block, rest) → (seq (give count) (param_type.form tt)).reads block ≡ Ok (types, left)
    → (types_block true count).reads old ≡ Ok (types, rest)
types_read count old block rest left types e q =
    let long = block_length (2 * count) old block rest e in
    let takes = all_take count types block left ((counted count (param_type.form tt)).found types block left q) in
    rw (e, q) (ended_whole types left rest (omega (arith, long, takes)))

pub types_short : (count : ℕ) (old : List ℕ) → length old < 2 * count → (types_block true count).reads old ≡ Err kind.UnexpectedEof
unfolding bytes
types_short count old lt = rw ((bytes (2 * count)).sized.short old lt) refl

-- for no column there is no type
no_types : (old : List ℕ) → (types_block true 0).reads old ≡ Ok ([], old)
unfolding bytes counted
no_types old = rw (le-ltb (length old) 0 (omega arith)) refl

pub no_types_sent : (sent : Bool) (count : ℕ) (types : List ParamType) (old : List ℕ) → sent ≡ true → count ≡ 0 → types ≡ [] → (types_block sent count).reads old ≡ Ok (types, old)
no_types_sent sent count types old is none empty = rw (is, none, empty) (no_types old)
