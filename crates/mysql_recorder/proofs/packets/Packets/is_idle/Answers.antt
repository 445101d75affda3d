use Rattle.mysql_recorder.proofs.packets.Packets.is_idle.Goals as goal

pub returns-clause-rests : goal.returns-clause-rests
returns-clause-rests c = λ t. (λ items o. (c.is_idle.ensures.session items o).0 t, λ a before items o. (c.is_idle.ensures.resumed a before items o).0 t)
