-- Results without an error.
use Rattle.std.proofs.Common.{rules, ◌≡◌, false}
use Rattle.std.specs.Prelude.{IsTrue}
use Rattle.mysql_replies.specs.ErrPacket.{ErrPacket, is_error, is_progress_report}
use Rattle.mysql_replies.specs.declared.err_packet.ErrPacketOf.TheVariants as err

pub report-else : (p : ErrPacket) → is_error p ≡ false → IsTrue (is_progress_report p)
report-else (err.Error e) h = absurd cc
report-else (err.Progress r) h = search rules

pub ruleset answers = (report-else)
