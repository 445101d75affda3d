use Rattle.std.proofs.Common.{refl}
use Rattle.mysql_packets_c.proofs.Executions.{given-at, left-with, others_at, refused-at}
use Rattle.mysql_packets_c.proofs.execution.param_at.Goals as goal

pub returns-clause-given : goal.returns-clause-given
returns-clause-given c =
    let ps = c.args.params.now in
    let old = c.args.sent.now in
    let i = c.args.place in
    let len = left-with old ps i _ _ c.bound_of.result c.requires.here c.requires.count refl c.bound_of.ensures.value in
    given-at old ps i _ _ c.bound_of.result c.requires.here c.requires.count refl c.bound_of.ensures.value c.next_param.result c.next_param.new.self (c.next_param.ensures.value (others_at ps i) len)

pub returns-clause-refused : goal.returns-clause-refused
returns-clause-refused c =
    let ps = c.args.params.now in
    let old = c.args.sent.now in
    let i = c.args.place in
    let len = left-with old ps i _ _ c.bound_of.result c.requires.here c.requires.count refl c.bound_of.ensures.value in
    refused-at old ps i _ _ c.bound_of.result c.requires.here c.requires.count refl c.bound_of.ensures.value c.next_param.result c.next_param.new.self (c.next_param.ensures.value (others_at ps i) len)
