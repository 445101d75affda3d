use Rattle.std.proofs.Common.{length}
use Rattle.mysql_packets_c.proofs.ReadBulkRows.{block-answers, block-filled, missing-block}
use Rattle.mysql_packets_c.proofs.bulk_row.fill_types.Goals as goal

pub returns : goal.returns
returns c =
    record {
      value = block-answers (length c.args.types.now) c.args.buf.now c.in_ok-block.block c.parse.new.self c.fill_block.new.block c.fill_block.new.types c.fill_block.result c.in_ok-block.ensures.value c.fill_block.ensures.value;
      places = block-filled (length c.args.types.now) c.args.buf.now c.in_ok-block.block c.parse.new.self c.args.types.now c.fill_block.new.types c.in_ok-block.ensures.value c.fill_block.ensures.places;
    }

pub returns-in_err-block-clause-places : goal.returns-in_err-block-clause-places
returns-in_err-block-clause-places c = missing-block (length c.args.types.now) c.args.buf.now c.args.types.now c.in_err-block.field-0.0 c.in_err-block.ensures.value
