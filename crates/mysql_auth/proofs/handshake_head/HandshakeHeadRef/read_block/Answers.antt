use Rattle.std.proofs.Common.{rules}
use Rattle.mysql_wire.specs.ConstantValue.{coded}
use Rattle.mysql_wire.specs.Int.{raw}
use Rattle.mysql_auth.specs.Handshake.{handshake_block}
use Rattle.mysql_auth.proofs.handshake_head.HandshakeHeadRef.read_block.Goals as goal

pub returns-clause-value : goal.returns-clause-value
unfolding handshake_block raw coded
returns-clause-value c =
    rw (
      c.take-connection_id.ensures.value,
      c.eat-scramble_1.ensures.value,
      c.take-filler.ensures.value,
      c.take-capabilities_low.ensures.value,
      c.take-default_collation.ensures.value,
      c.take.ensures.value,
      c.take-capabilities_high.ensures.value,
      c.take-data_length.ensures.value,
      c.take-2.ensures.value,
      c.take-3.ensures.value,
    )
    (search rules)
