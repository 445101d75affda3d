use Rattle.std.proofs.Common.{List, subst}
use Rattle.mysql_repl.specs.GtidSetWritten.{set_text}
use Rattle.mysql_repl.specs.declared.sid.Sid.{Sid}
use Rattle.mysql_packets_c.specs.Output.{PutsUnlessTooLong}
use Rattle.mysql_packets_c.proofs.GtidTexts.{held-are}
use Rattle.mysql_packets_c.proofs.gtid_text.myp_sids_to_text.Goals as goal

pub returns-clause-value : goal.returns-clause-value
returns-clause-value c = λ list e.
    subst (λ (l : List Sid). PutsUnlessTooLong (set_text l) c.put_packet.result c.args.out.now c.put_packet.new.out c.put_packet.new.written) (held-are c.args.sids.now list e) c.put_packet.ensures
