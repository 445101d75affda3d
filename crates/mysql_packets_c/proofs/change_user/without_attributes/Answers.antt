use Rattle.std.proofs.Common.{◌≡◌, rules, arith, false}
use Rattle.mysql_wire.proofs.FlagBits.{has-switched, has-other}
use Rattle.mysql_wire.specs.FlagMasks.{CLIENT_CONNECT_ATTRS}
use Rattle.mysql_wire.specs.Flags.{switched}
use Rattle.mysql_packets_c.proofs.change_user.without_attributes.Goals as goal

pub returns-clause-plugin : goal.returns-clause-plugin
returns-clause-plugin c =
    let value : c.set.new.self.0 ≡ switched 32 false CLIENT_CONNECT_ATTRS c.args.capabilities.0 = search rules in
    rw value (has-other 32 20 19 false c.args.capabilities.0 (omega arith) (omega arith) (omega arith))

pub returns-clause-attributes : goal.returns-clause-attributes
returns-clause-attributes c =
    let value : c.set.new.self.0 ≡ switched 32 false CLIENT_CONNECT_ATTRS c.args.capabilities.0 = search rules in
    rw value (has-switched 32 20 false c.args.capabilities.0 (omega arith))
