use Rattle.std.proofs.Common.{◌≡◌, take, None, option_map}
use Rattle.std.specs.Fmt.{HasWritten, IsPlainFormatter}
use Rattle.mysql_repl.specs.GtidSetWritten.{texts_after}
use Rattle.mysql_repl.proofs.GtidSetWritings.{last_from}
use Rattle.mysql_repl.proofs.gtid_set_written.GtidSetTextDisplay.fmt.Given as goal

abbrev pub invariant-loop-sid : goal.invariant-loop-sid
invariant-loop-sid g l =
    record {
      before : option_map (λ t. t.now) l.before ≡ last_from None (take l.sid-index l.sid-items);
      written : IsPlainFormatter l.initial.f → HasWritten g.W.Write.write_str_gives l.initial.f (texts_after None (take l.sid-index l.sid-items)) l.f;
    }
