use Rattle.mysql_conversation.proofs.SessionEnds.{taken_is_beginning}
use Rattle.mysql_conversation.proofs.laws.what_a_session_took_is_a_beginning.Goals as goal

pub returns : goal.returns
returns c = λ s items h. taken_is_beginning s.phase items h
