use Rattle.mysql_conversation.proofs.SessionKinds.{session_one_kind}
use Rattle.mysql_conversation.proofs.laws.a_session_packet_is_of_one_kind.Goals as goal

pub returns : goal.returns
returns c = λ items side p j k m n g h. session_one_kind items side p j k m n g h
