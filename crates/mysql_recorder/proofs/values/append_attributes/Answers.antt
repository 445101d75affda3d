use Rattle.std.proofs.Common.{◌≡◌, ◌∷◌, []}
use Rattle.mysql_stmt.specs.Attributes.{attribute_of}
use Rattle.mysql_recorder.specs.ValueFields.{attribute_fields}
use Rattle.mysql_recorder.proofs.ValuesShown.{attributes_end, attributes_faulty, attributes_step, attributes_unread}
use Rattle.mysql_recorder.proofs.values.append_attributes.Goals as goal

pub attributes-preserved : goal.attributes-preserved
attributes-preserved c =
    let is : c.bytes.result ∷ c.param.result ∷ [] ≡ attribute_fields (attribute_of c.in-Ok-Some.attribute ∷ []) = cc (c.in-Ok-Some.attribute-is) in
    let given = rw c.in-Ok-Some.field-0-is at c.in-Ok-Some.ensures.value in
    attributes_step c.args.attributes c.attributes.attributes c.next_attribute.new.self (attribute_of c.in-Ok-Some.attribute) c.args.fields.now.items c.attributes.fields.items c.push.new.self.items c.push-in-Ok-Some.new.self.items
    c.bytes.result c.param.result c.attributes.invariant given.1 c.in_ok-push-in-Ok-Some.ensures.items c.in_ok-push-in-Ok-Some-2.ensures.items is

pub returns-in-Ok-None : goal.returns-in-Ok-None
returns-in-Ok-None c =
    let given = rw c.in-Ok-None.field-0-is at c.in-Ok-None.ensures.value in record {
      ok = attributes_end c.args.is_refused c.args.attributes c.attributes.attributes c.args.fields.now.items c.attributes.fields.items c.rest-rest.result c.attributes.invariant (c.rest-rest.ensures.done given.0);
    }

pub returns-in-Err : goal.returns-in-Err
returns-in-Err c = record {
  ok = attributes_unread c.append_unread.result c.args.is_refused c.args.attributes c.attributes.attributes c.in-Err.field-0 c.args.fields.now.items c.attributes.fields.items c.append_unread.new.fields.items c.eat_all.result.now
      c.attributes.invariant c.in-Err.ensures.value.0 c.if-is_refused.true c.append_unread.ensures.ok;
}

pub returns-in-Err-2 : goal.returns-in-Err-2
returns-in-Err-2 c = record {
  ok = attributes_faulty c.append_refused.result c.args.is_refused c.args.attributes c.attributes.attributes c.in-Err.field-0 c.args.fields.now.items c.attributes.fields.items c.append_refused.new.fields.items c.eat_all-in-Err-2.result.now
      c.attributes.invariant c.in-Err.ensures.value.0 c.if-is_refused.false c.append_refused.ensures.ok;
}
