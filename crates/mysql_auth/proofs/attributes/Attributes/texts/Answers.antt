use Rattle.std.proofs.Common.{◌∙◌, ap, map}
use Rattle.mysql_auth.specs.Attributes.{text_pair, lossy_pair}
use Rattle.mysql_auth.proofs.Merging.{texts-next}
use Rattle.mysql_auth.proofs.attributes.Attributes.texts.Goals as goal

pub loop-attribute-preserved : goal.loop-attribute-preserved
loop-attribute-preserved c =
    let pairs = c.deref-attribute-items.result.now in
    let texts = c.loop-attribute.texts.entries in
    let same = c.in_ok-key.ensures.value ∙ ap lossy_pair c.attribute-item.is in
    ap (map text_pair) c.in_ok-insert.ensures.entries
    ∙ texts-next pairs c.loop-attribute.attribute-index c.attribute-item.result texts c.in_ok-key.key c.in_ok-key.value c.loop-attribute-test.true c.loop-attribute.invariant same
