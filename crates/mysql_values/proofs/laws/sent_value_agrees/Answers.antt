use Rattle.mysql_values.proofs.ValueAgain.{sent-agrees}
use Rattle.mysql_values.proofs.laws.sent_value_agrees.Goals as goal

pub returns : goal.returns
returns c = sent-agrees
