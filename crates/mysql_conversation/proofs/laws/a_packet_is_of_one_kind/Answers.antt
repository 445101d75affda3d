use Rattle.mysql_conversation.proofs.Begun.{one_kind}
use Rattle.mysql_conversation.proofs.laws.a_packet_is_of_one_kind.Goals as goal

pub returns : goal.returns
returns c = λ a o items side p j k g h. one_kind a o items side p j k g h
