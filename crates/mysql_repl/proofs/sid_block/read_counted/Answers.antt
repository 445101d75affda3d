use Rattle.std.proofs.Common.{arith}
use Rattle.std.proofs.lemmas.Result.{err_from_is_err_and}
use Rattle.mysql_wire.specs.Seq.{counts_any}
use Rattle.mysql_wire.proofs.Counted.{next-item, fails, all-read}
use Rattle.mysql_repl.specs.Space.{space_in_sid}
use Rattle.mysql_repl.specs.Sid.{sid_as}
use Rattle.mysql_repl.proofs.SpaceRead.{answered-as, sid-space, sid-takes, space-for_one}
use Rattle.mysql_repl.proofs.sid_block.read_counted.Goals as goal

pub returns-in_err-sid : goal.returns-in_err-sid
returns-in_err-sid c =
    let tagged = c.args.tagged in
    let f = (sid_as tagged).form tt in
    let p = err_from_is_err_and c.from_residual-in_err-sid.result c.from_residual-in_err-sid.ensures.1 in
    let fault = fails f _ c.loop.sids.items c.in_err-sid.field-0.0 c.args.count c.loop.counter c.loop.block _ c.loop-test.true c.in_err-sid.ensures.value c.loop.invariant.read in
    let takes = counts_any ((space_in_sid tagged).reads c.loop.block) in
    record {
      value = rw (p.1, p.2) (answered-as takes _ c.in_err-sid.field-0.0 (f.reads c.loop.block) _
          (λ may. space-for_one tagged c.args.count c.loop.counter c.loop.block c.args.block.now c.loop-test.true c.loop.invariant.left (sid-space tagged c.loop.block may))
          c.in_err-sid.ensures.value fault);
    }

pub returns-in_err-push : goal.returns-in_err-push
returns-in_err-push c =
    let tagged = c.args.tagged in
    let p = err_from_is_err_and c.from_residual-in_err-push.result c.from_residual-in_err-push.ensures.1 in
    let held = sid-takes tagged c.in_ok-sid.sid c.loop.block c.read_sid.new.buf c.in_ok-sid.ensures.value in
    record { value = rw (p.1, p.2) (space-for_one tagged c.args.count c.loop.counter c.loop.block c.args.block.now c.loop-test.true c.loop.invariant.left (omega (arith, held))) }

pub loop-preserved : goal.loop-preserved
loop-preserved c =
    let tagged = c.args.tagged in
    record {
      read = rw c.in_ok-push.ensures.items (next-item ((sid_as tagged).form tt) c.loop.sids.items c.in_ok-sid.sid c.args.count c.loop.counter c.loop.block c.read_sid.new.buf _ c.loop-test.true c.in_ok-sid.ensures.value c.loop.invariant.read);
      left = omega (arith, sid-takes tagged c.in_ok-sid.sid c.loop.block c.read_sid.new.buf c.in_ok-sid.ensures.value, c.loop.invariant.left);
    }

pub returns : goal.returns
returns c = record { value = all-read ((sid_as c.args.tagged).form tt) c.loop.sids.items c.args.count c.loop.counter c.loop.block _ c.loop-test.false c.loop.invariant.read }
