use Rattle.std.proofs.Common.{sym, ◌∙◌, ap}
use Rattle.mysql_wire.specs.Writing.{saturated}
use Rattle.mysql_values.specs.Value.{contents_of}
use Rattle.mysql_bulk.specs.Row.{row_size}
use Rattle.mysql_bulk.specs.SentValues.{sent_values}
use Rattle.mysql_bulk.proofs.RequestBytes.{length-values}
use Rattle.mysql_bulk.proofs.SentValues.{contents_of_sent}
use Rattle.mysql_bulk.proofs.sent_values.SentValuesMySerialize.defined_len.Goals as goal

pub returns : goal.returns
returns c =
    let indicators = c.args.self.now.indicators.now in
    let values = contents_of c.args.self.now.values.now in
    c.sent_len.ensures ∙ sym (ap saturated (length-values (sent_values indicators values) ∙ ap row_size (contents_of_sent indicators values)))
