-- Values compare equal if their contents are equal.
use Rattle.std.proofs.Common.{◌≡◌, rules}
use Rattle.mysql_values.specs.declared.value.Value.{Value}
use Rattle.mysql_values.specs.contracts.value.ValuePartialEq.TheImpl as derived
use Rattle.mysql_values.specs.Value.{content_of}
use Rattle.mysql_values.specs.ContentEq.{content_eq}

pub same_content : (a b : Value) → derived.ghosts.eq a b ≡ content_eq (content_of a) (content_of b)
same_content a b = search rules
