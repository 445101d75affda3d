use Rattle.std.proofs.Common.{◌≢◌, ◌∙◌, sym, arith}
use Rattle.mysql_stmt.proofs.SentTypes.{never, none-in, takes}
use Rattle.mysql_stmt.proofs.sent_types.SentParamTypes.take_type.Goals as goal

pub invariant_of-self : goal.invariant_of-self
invariant_of-self c =
    let v = c.self.inside in
    let some : v.left ≢ 0 = λ e. c.requires.some (sym c.self.view_is ∙ none-in v.has_names v.left v.bytes e) in
    (takes v.has_names v.left v.bytes c.rest-bytes.result c.in-Ok.first c.read_type-read.new.buf c.self.invariant some c.rest-bytes.ensures c.in-Ok.ensures.value).more

pub returns : goal.returns
returns c =
    let v = c.self.inside in
    let some : v.left ≢ 0 = λ e. c.requires.some (sym c.self.view_is ∙ none-in v.has_names v.left v.bytes e) in
    record { value = sym c.self.view_is ∙ (takes v.has_names v.left v.bytes c.rest-bytes.result c.in-Ok.first c.read_type-read.new.buf c.self.invariant some c.rest-bytes.ensures c.in-Ok.ensures.value).parts }

pub unreachable-requires : goal.unreachable-requires
unreachable-requires c =
    let v = c.self.inside in
    let some : v.left ≢ 0 = λ e. c.requires.some (sym c.self.view_is ∙ none-in v.has_names v.left v.bytes e) in
    never v.has_names v.left v.bytes c.rest-bytes.result c.in-Err.field-0 c.self.invariant some c.rest-bytes.ensures c.in-Err.ensures.value

pub overflow_sub-self : goal.overflow_sub-self
overflow_sub-self c =
    let v = c.self.inside in
    let some : v.left ≢ 0 = λ e. c.requires.some (sym c.self.view_is ∙ none-in v.has_names v.left v.bytes e) in
    omega (arith, some)
