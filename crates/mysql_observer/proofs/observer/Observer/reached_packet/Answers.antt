use Rattle.std.proofs.Common.{subst}
use Rattle.mysql_conversation.proofs.Stood.{lift_ok, lift_err}
use Rattle.mysql_conversation.specs.declared.packet_kind.PacketKind.TheVariants.{Command}
use Rattle.mysql_observer.specs.Records.{IsClientFault, IsClientRecord, reached_params}
use Rattle.mysql_observer.proofs.observer.Observer.reached_packet.Goals as goal

pub returns-clause-resumed : goal.returns-clause-resumed
returns-clause-resumed c = lift_ok c.read_client.result
    (λ r h a before items o. subst (λ g. IsClientRecord g (reached_params c.args.self.now.tracked.reached) (Command 0x17) c.args.payload.now r) (c.agreed_in_session-agreed.ensures.resumed a items o.0)
    (subst (λ ps. IsClientRecord c.agreed_in_session-agreed.result ps (Command 0x17) c.args.payload.now r) c.reached_params.ensures h))
    c.read_client.ensures.packet

pub returns-clause-resumed_fault : goal.returns-clause-resumed_fault
returns-clause-resumed_fault c = lift_err c.read_client.result
    (λ e h a before items o. subst (λ g. IsClientFault g (reached_params c.args.self.now.tracked.reached) (Command 0x17) c.args.payload.now e) (c.agreed_in_session-agreed.ensures.resumed a items o.0)
    (subst (λ ps. IsClientFault c.agreed_in_session-agreed.result ps (Command 0x17) c.args.payload.now e) c.reached_params.ensures h))
    c.read_client.ensures.fault
