use Rattle.std.proofs.Common.{rules, ◌<◌, ◌^◌, length, true, false}
use Rattle.mysql_repl.specs.BinlogDumpGtid.{gtid_dump, GtidDumpFits, flag_bits, server_id, pos, sids}
use Rattle.mysql_repl.specs.Sid.{AreSids}
use Rattle.mysql_repl.proofs.DumpFits.{dump-parts}
use Rattle.mysql_repl.proofs.SidFits.{gtid_dump-fits}
use Rattle.mysql_repl.proofs.laws.values.this_binlog_dump_gtid_round_trips.Goals as goal

pub returns : goal.returns
returns c =
    let p = c.args.dump.now in
    let flags : flag_bits p < 2 ^ 16 = search rules in
    let number : server_id p < 2 ^ 32 = search rules in
    let position : pos p < 2 ^ 64 = search rules in
    let list : AreSids (sids p) = search rules in
    let fits : length (gtid_dump.bytes p) < 2 ^ 32 → GtidDumpFits p = λ short. let parts = dump-parts p short in record {
      flags = flags;
      server_id = number;
      filename = parts.0;
      pos = position;
      sids = list;
      block = parts.1;
    } in
    record {
      lenient = λ rest short. gtid_dump.again false p rest (gtid_dump-fits false p rest (fits short));
      strict = λ rest short. gtid_dump.again true p rest (gtid_dump-fits true p rest (fits short));
    }
