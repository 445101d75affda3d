use Rattle.mysql_conversation.proofs.Stood.{pipe_one_kind}
use Rattle.mysql_conversation.proofs.laws.a_pipelined_packet_is_of_one_kind.Goals as goal

pub returns : goal.returns
returns c = λ d o items side p j k m n g h. pipe_one_kind d o items side p j k m n g h
