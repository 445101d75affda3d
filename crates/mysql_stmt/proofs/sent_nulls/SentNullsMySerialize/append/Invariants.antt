use Rattle.std.proofs.Common.{◌≡◌, ◌++◌, ◌≤◌, ◌*◌, drop}
use Rattle.mysql_stmt.specs.NullMarks.{packed}
use Rattle.mysql_stmt.specs.SentNulls.{bits_with}
use Rattle.mysql_stmt.proofs.sent_nulls.SentNullsMySerialize.append.Given as goal

abbrev pub invariant-loop : goal.invariant-loop
invariant-loop g l = record {
  bits : bits_with g.V.AsExecuteParam.param g.A.AsExecuteParam.param l.bits.params.now l.bits.attributes.now ≡ drop (8 * l.counter) (bits_with g.V.AsExecuteParam.param g.A.AsExecuteParam.param l.self.params.now l.self.attributes.now);
  items : g.O.Buffer.held l.bytes ≡ g.O.Buffer.held l.fn.out ++ packed l.counter (bits_with g.V.AsExecuteParam.param g.A.AsExecuteParam.param l.self.params.now l.self.attributes.now);
  after : g.O.Buffer.after l.bytes ≡ drop l.counter (g.O.Buffer.after l.fn.out);
  capacity : g.O.Buffer.capacity l.fn.out ≤ g.O.Buffer.capacity l.bytes;
  kept : g.O.Buffer.kept l.bytes ≡ g.O.Buffer.kept l.fn.out;
}
