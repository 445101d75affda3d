use Rattle.std.proofs.Common.{◌≡◌, ◌+◌, List, None, option_map, take, refl, sym, subst, arith}
use Rattle.std.specs.Fmt.{HasWritten}
use Rattle.std.proofs.lemmas.Grind.{put_two}
use Rattle.std.proofs.lemmas.List.{take_all}
use Rattle.mysql_repl.specs.GtidSetWritten.{texts_after, next_text, set_text}
use Rattle.mysql_repl.proofs.GtidSetWritings.{last-next, texts-next}
use Rattle.mysql_repl.proofs.gtid_set_written.GtidSetTextDisplay.fmt.Goals as goal

pub loop-sid-preserved : goal.loop-sid-preserved
loop-sid-preserved g c =
    let sids = c.args.self.now.0.now in
    let k = c.loop-sid.sid-index in
    let s = c.sid-item.result in
    record {
      before = sym (last-next sids k s c.loop-sid-test.true c.sid-item.is);
      written = λ plain.
          let so_far = c.loop-sid.invariant.written plain in
          put_two g.W.Write.write_str_gives c.args.f.now c.loop-sid.f c.write.new.self (texts_after None (take k sids)) (next_text (option_map (λ t. t.now) c.loop-sid.before) s)
          (texts_after None (take (k + 1) sids)) so_far (c.in_ok-write.ensures.writes so_far.plain refl) (texts-next sids k s (option_map (λ t. t.now) c.loop-sid.before) c.loop-sid-test.true c.sid-item.is c.loop-sid.invariant.before);
    }

pub returns-clause-writes : goal.returns-clause-writes
unfolding set_text
returns-clause-writes g c = λ plain. λ ok.
    let sids = c.args.self.now.0.now in
    let all : take c.loop-sid.sid-index sids ≡ sids = take_all c.loop-sid.sid-index sids (omega (arith, c.loop-sid-test.false)) in
    subst (λ (t : List _). HasWritten g.W.Write.write_str_gives c.args.f.now (texts_after None t) c.loop-sid.f) all (c.loop-sid.invariant.written plain)
