use Rattle.std.proofs.Common.{List, ℕ, subst}
use Rattle.mysql_repl.specs.GtidSetText.{read_sids}
use Rattle.mysql_packets_c.specs.GtidDump.{dump_with}
use Rattle.mysql_packets_c.specs.GtidText.{PutsSpelled}
use Rattle.mysql_packets_c.proofs.TextDumpsRead.{spelled-put, spelled-refused}
use Rattle.mysql_packets_c.proofs.gtid_text.myp_gtid_dump_from_text.Goals as goal

pub returns-in-Some-clause-value : goal.returns-in-Some-clause-value
returns-in-Some-clause-value c = λ utf8.
    subst (λ (t : List ℕ). PutsSpelled (read_sids t) (dump_with c.args.dump.now) c.put_packet.result c.args.out.now c.put_packet.new.out c.put_packet.new.written) c.in-Ok.ensures.cases.0
    (spelled-put c.in-Ok.text.now c.args.dump.now c.in-Some.layout c.put_packet.result c.args.out.now c.put_packet.new.out c.put_packet.new.written c.in-Some.ensures.value c.put_packet.ensures)

pub returns-in-None-clause-value : goal.returns-in-None-clause-value
returns-in-None-clause-value c = λ utf8.
    subst (λ (t : List ℕ). PutsSpelled (read_sids t) (dump_with c.args.dump.now) 2 c.args.out.now c.args.out.now 0) c.in-Ok.ensures.cases.0
    (spelled-refused c.in-Ok.text.now (dump_with c.args.dump.now) c.args.out.now c.in-None.ensures.value)
