use Rattle.std.proofs.Common.{◌∙◌, ap, subst, sym}
use Rattle.mysql_auth.specs.ConnectAttributesRef.{ArePairs, pairs_in}
use Rattle.mysql_auth.proofs.PairsMerged.{no-pairs}
use Rattle.mysql_auth.proofs.connect_attributes_ref.ConnectAttributesRef.to_attributes.Goals as goal

pub returns-in-Err-clause-no_memory : goal.returns-in-Err-clause-no_memory
returns-in-Err-clause-no_memory c none =
    let given = c.as_bytes-bytes.ensures in
    let same = ap pairs_in c.new.ensures ∙ given.value in
    absurd (no-pairs c.args.self.now c.new.result c.in-Err.field-0 same (subst ArePairs (sym c.new.ensures) given.spelled) none c.in-Err.ensures.value)
