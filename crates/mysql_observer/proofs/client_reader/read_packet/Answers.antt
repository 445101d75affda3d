use Rattle.std.proofs.Common.{false, sym, subst}
use Rattle.mysql_wire.specs.Reading.{Answers}
use Rattle.mysql_observer.proofs.Queries.{query_is_read}
use Rattle.mysql_observer.proofs.client_reader.read_packet.Goals as goal

pub returns-then-is_query : goal.returns-then-is_query
returns-then-is_query c = record {
  value = subst (λ r. Answers false c.read_query.result c.read_query.new.buf r) (sym (query_is_read c.args.agreed c.args.kind c.args.buf.now (c.is_query.ensures c.if-is_query.true))) c.read_query.ensures.value;
}
