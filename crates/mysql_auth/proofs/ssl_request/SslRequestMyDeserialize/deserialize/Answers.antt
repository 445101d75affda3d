use Rattle.std.proofs.Common.{rules, arith}
use Rattle.mysql_wire.proofs.Blocks.{block_length}
use Rattle.mysql_wire.specs.ConstantValue.{coded}
use Rattle.mysql_wire.specs.Int.{raw}
use Rattle.mysql_auth.specs.SslRequest.{ssl_request}
use Rattle.mysql_auth.proofs.Ended.{ended-as}
use Rattle.mysql_auth.proofs.ssl_request.SslRequestMyDeserialize.deserialize.Goals as goal

pub returns-clause-value : goal.returns-clause-value
unfolding ssl_request raw coded
returns-clause-value c =
    rw (c.in_ok-fields.ensures.value, c.take.ensures.value, c.take-2.ensures.value, c.take-3.ensures.value, c.take-4.ensures.value, c.take-5.ensures.value)
    (ended-as _ _ _ _ (omega (arith, block_length 32 _ _ _ c.in_ok-fields.ensures.value)) (search rules))
