use Rattle.std.proofs.Common.{◌≡◌, List, Ok, arith, subst, sym}
use Rattle.mysql_wire.specs.Form.{give}
use Rattle.mysql_wire.specs.Seq.{seq}
use Rattle.mysql_values.specs.declared.param_type.ParamType.{ParamType}
use Rattle.mysql_values.specs.ParamType.{param_type}
use Rattle.mysql_bulk.proofs.HeadTypes.{types_read, types_short}
use Rattle.mysql_bulk.proofs.head.read_types.Goals as goal

pub returns-then-len-count : goal.returns-then-len-count
returns-then-len-count c = record { value = types_short c.args.count c.args.buf.now (omega (arith, c.len.ensures, c.if-len-count.true)) }

pub returns : goal.returns
returns c =
    let R : List ParamType → Type 0 = λ types. (seq (give c.args.count) (param_type.form tt)).reads c.in_ok-block.block ≡ Ok (types, c.parse-2.new.self) in
    record { value = types_read c.args.count c.args.buf.now c.in_ok-block.block c.parse.new.self _ c.in_ok-owned_types.field-0.items c.in_ok-block.ensures.value (subst R (sym c.in_ok-owned_types.ensures) c.in_ok-types.ensures.value) }
