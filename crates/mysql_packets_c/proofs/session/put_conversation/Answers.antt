use Rattle.mysql_packets_c.proofs.Conversations.{begun_at}
use Rattle.mysql_packets_c.proofs.session.put_conversation.Goals as goal

pub returns-clause-taken : goal.returns-clause-taken
returns-clause-taken c = begun_at c.keep.new.numbers c.new.result c.keep.ensures.opening c.keep.ensures.state c.new.ensures.taken
