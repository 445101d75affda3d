use Rattle.std.proofs.Common.{length, sym, ap, ◌∙◌}
use Rattle.mysql_packets_c.proofs.WrittenRows.{text-cells}
use Rattle.mysql_packets_c.proofs.text_row.put_cells.Goals as goal

pub put_over-requires : goal.put_over-requires
put_over-requires c = c.requires ∙ ap length (sym (text-cells c.args.values.now))

pub returns : goal.returns
returns c = c.put_over.ensures ∙ text-cells c.args.values.now
