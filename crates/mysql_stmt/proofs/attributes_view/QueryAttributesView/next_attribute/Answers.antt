use Rattle.std.proofs.Common.{add-one, ◌≡◌, ◌∙◌, suc, ◌∷◌, ◌+◌, length, sym, ap, subst, refl, false}
use Rattle.std.proofs.lemmas.Result.{err_from_is_err_and}
use Rattle.mysql_wire.specs.Reading.{Faults, IsTail}
use Rattle.mysql_values.specs.ParamValue.{param_content}
use Rattle.mysql_stmt.specs.Attributes.{AttributesLeft, IsPast, attributes_left, more, value_of, values}
use Rattle.mysql_stmt.specs.SentTypes.{NamedType}
use Rattle.mysql_stmt.proofs.AttributeViews.{first-read, first-refused}
use Rattle.mysql_stmt.proofs.attributes_view.QueryAttributesView.next_attribute.Goals as goal

pub returns-in_err-value : goal.returns-in_err-value
returns-in_err-value c =
    let v = c.self.inside in
    let fault = c.in_err-value.field-0.0 in
    let t : NamedType = record { param_type = c.named_type.inside.param_type; name = c.named_type.inside.name.now } in
    let starts : v.types ≡ t ∷ c.next_type.new.self = sym c.again-types.ensures.value ∙ c.in-Some.ensures.value ∙ ap (λ (x : NamedType). x ∷ c.next_type.new.self) (sym c.named_type.view_is) in
    let refused = first-refused v.nulls v.place t c.next_type.new.self v.types v.values c.is_marked-is_null.result starts c.is_marked-is_null.ensures.value fault (rw c.rest-rest.ensures at c.in_err-value.ensures.value) in
    let p = err_from_is_err_and c.from_residual.result c.from_residual.ensures.1 in
    record {
      value = rw (p.1, p.2) (subst (λ (left : AttributesLeft). Faults false fault left.all) c.self.view_is refused, refl);
      past = rw p.1 refl;
    }

pub returns : goal.returns
returns c =
    let v = c.self.inside in
    let t : NamedType = record { param_type = c.named_type.inside.param_type; name = c.named_type.inside.name.now } in
    let ts = c.next_type.new.self in
    let starts : v.types ≡ t ∷ ts = sym c.again-types.ensures.value ∙ c.in-Some.ensures.value ∙ ap (λ (x : NamedType). x ∷ ts) (sym c.named_type.view_is) in
    let read = first-read v.nulls v.place t ts v.types v.values c.is_marked-is_null.result starts c.is_marked-is_null.ensures.value (param_content c.in_ok-value.value) c.read_value.new.buf (rw c.rest-rest.ensures at c.in_ok-value.ensures.value) in
    let later = (values v.nulls (v.place + 1) ts).reads c.read_value.new.buf in
    let after = c.read_value.new.buf in
    let front : IsTail after v.values = (value_of c.is_marked-is_null.result t.param_type).front (param_content c.in_ok-value.value) v.values after (rw c.rest-rest.ensures at c.in_ok-value.ensures.value) in
    record {
      value = (
        subst (λ (left : AttributesLeft). left.left ≡ suc (length ts)) c.self.view_is (ap length starts),
        subst (λ (left : AttributesLeft). left.all ≡ more (record { named_type = t; value = param_content c.in_ok-value.value }) later) c.self.view_is read,
      );
      past = subst (λ (left : AttributesLeft). IsPast left (attributes_left v.nulls (v.place + 1) ts after)) c.self.view_is (record { nulls = refl; place = add-one v.place; rest = front });
    }
