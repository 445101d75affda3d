use Rattle.std.proofs.Common.{◌≡◌, ◌++◌, ◌≤◌, length, take, drop}
use Rattle.mysql_values.specs.Value.{contents_of}
use Rattle.mysql_bulk.specs.ParamValue.{values_bytes}
use Rattle.mysql_bulk.specs.SentValues.{sent_values}
use Rattle.mysql_bulk.proofs.sent_values.SentValuesMySerialize.append.Given as goal

abbrev pub invariant-loop-place : goal.invariant-loop-place
invariant-loop-place g l =
    let written = values_bytes (take l.place (sent_values l.self.indicators.now (contents_of l.self.values.now))) in
    record {
      items : g.O.Buffer.held l.bytes ≡ g.O.Buffer.held l.fn.out ++ written;
      after : g.O.Buffer.after l.bytes ≡ drop (length written) (g.O.Buffer.after l.fn.out);
      capacity : g.O.Buffer.capacity l.fn.out ≤ g.O.Buffer.capacity l.bytes;
      kept : g.O.Buffer.kept l.bytes ≡ g.O.Buffer.kept l.fn.out;
    }
