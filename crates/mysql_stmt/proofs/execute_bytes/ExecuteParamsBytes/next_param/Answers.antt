use Rattle.std.proofs.Common.{rules, arith, sym, subst, refl, ◌≢◌, ◌-◌, ◌+◌, ◌∷◌}
use Rattle.std.proofs.lemmas.Result.{err_from_is_err_and}
use Rattle.mysql_stmt.specs.ExecuteParam.{param_of}
use Rattle.mysql_stmt.specs.ExecuteRead.{Gives, ParamsBytes, RefusesParam, TypedParam, left_of, params_left}
use Rattle.mysql_stmt.specs.SentTypes.{NamedType}
use Rattle.mysql_stmt.proofs.ParamViews.{gives, in-force, refuses}
use Rattle.mysql_stmt.proofs.execute_bytes.ExecuteParamsBytes.next_param.Goals as goal

pub returns-in_err-param : goal.returns-in_err-param
returns-in_err-param c =
    let v = c.self.inside in
    let p = c.args.bound in
    let more = c.next_type-named_type.new.types in
    let t : NamedType = record { param_type = c.named_type.inside.param_type; name = c.named_type.inside.name.now } in
    let some : v.left ≢ 0 = search rules in
    let takes = in-force v.sends_types p.param_type more c.again-types.ensures.value (sym c.named_type.view_is) c.next_type-named_type.ensures.value in
    let fault = c.in_err-param.field-0.0 in
    let q = err_from_is_err_and c.from_residual.result c.from_residual.ensures.1 in
    record {
      value = λ others is.
          let refused = refuses v.nulls v.place v.sends_types p others v.types more t v.buf v.left (v.left - 1) (omega (arith, some)) c.self.invariant.suffice takes c.is_null_at-is_null.result c.is_null_at-is_null.ensures.value c.rest-rest.result c.rest-rest.ensures fault c.in_err-param.ensures.value in
          rw (q.1, q.2) (subst (λ (b : ParamsBytes). RefusesParam fault (left_of b (p ∷ others))) c.self.view_is refused, refl);
    }

pub returns : goal.returns
returns c =
    let v = c.self.inside in
    let p = c.args.bound in
    let more = c.next_type-named_type.new.types in
    let t : NamedType = record { param_type = c.named_type.inside.param_type; name = c.named_type.inside.name.now } in
    let some : v.left ≢ 0 = search rules in
    let takes = in-force v.sends_types p.param_type more c.again-types.ensures.value (sym c.named_type.view_is) c.next_type-named_type.ensures.value in
    let x = param_of c.in_ok-param.param in
    let after = c.read_param.new.buf in
    record {
      value = λ others is.
          let given = gives v.nulls v.place v.sends_types p others v.types more t v.buf v.left (v.left - 1) (omega (arith, some)) c.self.invariant.suffice takes c.is_null_at-is_null.result c.is_null_at-is_null.ensures.value c.rest-rest.result c.rest-rest.ensures x after c.in_ok-param.ensures.value in
          let one : TypedParam = record { named_type = t; param = x } in
          subst (λ (b : ParamsBytes). Gives (left_of b (p ∷ others)) one (params_left v.sends_types (v.left - 1) v.nulls (v.place + 1) others more after)) c.self.view_is given;
    }
