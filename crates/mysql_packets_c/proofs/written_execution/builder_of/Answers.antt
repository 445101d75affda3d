use Rattle.std.proofs.Common.{◌==◌, refl}
use Rattle.mysql_packets_c.specs.Parameter.{if_agreed, sent}
use Rattle.mysql_packets_c.specs.WrittenExecution.{flags_sent, iterations_sent}
use Rattle.mysql_packets_c.proofs.WrittenExecutions.{same-asked}
use Rattle.mysql_packets_c.proofs.written_execution.builder_of.Goals as goal

pub returns : goal.returns
returns c = λ params.
    let options = c.args.options.now in
    same-asked (sent params) _ c.args.statement_id (flags_sent c.args.capabilities options.flags) (iterations_sent options.iteration_count) (options.omits_types == 0)
    (if_agreed c.args.capabilities c.args.attributes.now) refl c.flags_sent.ensures.value c.iterations_sent.ensures refl c.if_agreed.ensures
