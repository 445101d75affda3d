use Rattle.mysql_conversation.proofs.Stood.{conversation_is_pipelined}
use Rattle.mysql_conversation.proofs.laws.a_conversation_is_pipelined.Goals as goal

pub returns : goal.returns
returns c = λ d o items h. conversation_is_pipelined d o items h
