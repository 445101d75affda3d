use Rattle.mysql_recorder.specs.Refused.{MayCome}
use Rattle.mysql_recorder.proofs.Wholes.{first_comes, second_comes}
use Rattle.mysql_recorder.proofs.packets.Packets.may_receive.Goals as goal

pub returns-then-may_receive : goal.returns-then-may_receive
unfolding MayCome
returns-then-may_receive c = λ items h. first_comes c.may_receive.result (c.may_receive.ensures items h) c.if-may_receive.true

pub returns-else-may_receive : goal.returns-else-may_receive
unfolding MayCome
returns-else-may_receive c = λ items h.
    second_comes c.may_receive.result c.may_receive-else-may_receive.result (c.may_receive.ensures items h) (c.may_receive-else-may_receive.ensures items h) c.if-may_receive.false
