use Rattle.mysql_conversation.proofs.Order.{pipelined_is_interleaved}
use Rattle.mysql_conversation.proofs.laws.a_pipelined_conversation_is_interleaved.Goals as goal

pub returns : goal.returns
returns c = λ d o items h. pipelined_is_interleaved d o items h
