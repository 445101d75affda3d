use Rattle.std.proofs.Common.{rules, IsTrue, ◌≡◌, ◌+◌, ◌≤◌, length, ap, ◌∙◌, arith, length-append, vec_len, vec_capacity, true, false, not, sym}
use Rattle.std.proofs.lemmas.List.{length-map}
use Rattle.mysql_wire.specs.Writing.{saturated}
use Rattle.mysql_values.specs.ValueRef.{ref_content}
use Rattle.mysql_stmt.specs.BinaryRow.{takes_values}
use Rattle.mysql_stmt.specs.Bitmap.{bytes_for}
use Rattle.mysql_stmt.specs.ExecuteParam.{ref_param}
use Rattle.mysql_stmt.proofs.RowBytes.{taken-contents}
use Rattle.mysql_stmt.proofs.binary_row.write_binary_row.Goals as goal

pub append_values-requires-clause-capacity : goal.append_values-requires-clause-capacity
unfolding saturated
append_values-requires-clause-capacity g c =
    let values = c.args.values.now in
    let nulls = c.append_nulls.ensures.items in
    let marked : length nulls.0 ≡ bytes_for 2 (length values) = nulls.1.len ∙ ap (bytes_for 2) (length-map values ref_content) in
    let there : vec_len c.args.out.now + c.saturating_add-len.result ≤ vec_capacity c.reserve.new.self = search rules in
    omega (
      arith,
      ap length nulls.2,
      length-append c.push_reserved.new.self.items nulls.0,
      marked,
      there,
      c.reserve.ensures.len,
      c.push_reserved.ensures.len,
      c.push_reserved.ensures.capacity,
      c.append_nulls.ensures.capacity,
      c.saturating_add-len.ensures,
      c.values_len.ensures,
      c.bitmap_len-front.ensures.value,
      c.append_nulls.new.out.ok,
      c.push_reserved.new.self.ok,
      c.reserve.new.self.ok,
      c.reserve.new.self.small,
    )

pub returns-then-is_err-clause-no_memory : goal.returns-then-is_err-clause-no_memory
unfolding saturated
returns-then-is_err-clause-no_memory g c = λ fits same.
    let values = c.args.values.now in
    let len = c.saturating_add-len.result in
    let there : vec_len c.args.out.now + len ≤ vec_capacity c.args.out.now =
    omega (
      arith,
      fits,
      length-map values ref_content,
      ap (bytes_for 2) (length-map values ref_content),
      c.saturating_add-len.ensures,
      c.values_len.ensures,
      c.bitmap_len-front.ensures.value,
      c.args.out.now.small,
    ) in
    let both : true ≡ false = sym (c.reserve.ensures.succeeds there) ∙ c.is_err.ensures.negation ∙ ap not c.if-is_err.true in
    absurd cc

pub returns-clause-taken : goal.returns-clause-taken
returns-clause-taken g c =
    let taken : IsTrue (takes_values g.C.TypedColumn.type_of g.C.TypedColumn.unsigned ref_param c.args.columns.now c.args.values.now) = search rules in
    taken-contents g.C.TypedColumn.type_of g.C.TypedColumn.unsigned ref_param c.args.columns.now c.args.values.now taken
