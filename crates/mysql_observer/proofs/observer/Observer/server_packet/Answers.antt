use Rattle.mysql_conversation.proofs.Stood.{lift_ok, lift_err}
use Rattle.mysql_observer.proofs.Known.{resumed_context}
use Rattle.mysql_observer.proofs.observer.Observer.server_packet.Goals as goal

pub returns-clause-resumed : goal.returns-clause-resumed
returns-clause-resumed c = lift_ok c.server_packet.result (λ p h a before items o. (c.context-context.result, resumed_context c.args.self.now a before items c.args.kind c.args.payload.now c.context-context.result c.context-context.ensures.resumed c.context-context.ensures.count c.context-context.ensures.columns c.context-context.ensures.semi_sync o, h.0, h.1)) c.server_packet.ensures.packet

pub returns-clause-resumed_fault : goal.returns-clause-resumed_fault
returns-clause-resumed_fault c = lift_err c.server_packet.result (λ e h a before items o. (c.context-context.result, resumed_context c.args.self.now a before items c.args.kind c.args.payload.now c.context-context.result c.context-context.ensures.resumed c.context-context.ensures.count c.context-context.ensures.columns c.context-context.ensures.semi_sync o, h)) c.server_packet.ensures.fault
