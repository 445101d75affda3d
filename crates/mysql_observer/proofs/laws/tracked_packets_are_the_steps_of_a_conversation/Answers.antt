use Rattle.mysql_observer.proofs.Chain.{chain_of_steps}
use Rattle.mysql_observer.proofs.laws.tracked_packets_are_the_steps_of_a_conversation.Goals as goal

pub returns : goal.returns
returns c = λ a front x rest limits waiting f logged tracked. chain_of_steps a front x rest limits waiting f logged tracked
