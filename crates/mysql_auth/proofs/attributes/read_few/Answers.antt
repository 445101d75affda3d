use Rattle.std.proofs.Common.{rules, ◌≡◌, ◌≢◌, ◌∙◌, [], false, arith}
use Rattle.std.specs.Cmp.Lexicographic.{pointwise}
use Rattle.std.specs.List.{list_any}
use Rattle.std.specs.Prelude.{nat_eq}
use Rattle.std.proofs.lemmas.Result.{err_from_is_err_and}
use Rattle.mysql_auth.proofs.Merging.{new-once}
use Rattle.mysql_auth.proofs.PairsRead.{new-pair, pair-shorter, any-held}
use Rattle.mysql_auth.proofs.attributes.read_few.Goals as goal

pub loop-inside-preserved : goal.loop-inside-preserved
loop-inside-preserved c =
    let entries = c.loop-inside.list.items in
    let pair = c.in_ok-attribute.attribute in
    let some : c.loop-inside.rest ≢ [] = search rules in
    let new : list_any (λ e. pointwise nat_eq pair.0 e.0) entries ≡ false = search rules in
    rw c.in_ok-push.ensures.items (record {
      pairs = new-pair entries pair c.loop-inside.rest c.read.new.buf some c.in_ok-attribute.ensures.value new ∙ c.loop-inside.invariant.pairs;
      left = omega (arith, pair-shorter pair c.loop-inside.rest c.read.new.buf c.in_ok-attribute.ensures.value, c.loop-inside.invariant.left);
      once = new-once entries pair c.loop-inside.invariant.once new;
    })

pub returns-then-len-eq-FEW : goal.returns-then-len-eq-FEW
returns-then-len-eq-FEW c =
    let held = any-held c.in_ok-attribute.attribute c.loop-inside.rest c.read.new.buf c.args.inside c.loop-inside.invariant.left c.in_ok-attribute.ensures.value in
    record { value = rw held c.read_many.ensures.value }

pub returns-in_err-push : goal.returns-in_err-push
returns-in_err-push c =
    let held = any-held c.in_ok-attribute.attribute c.loop-inside.rest c.read.new.buf c.args.inside c.loop-inside.invariant.left c.in_ok-attribute.ensures.value in
    let p = err_from_is_err_and c.from_residual-in_err-push.result c.from_residual-in_err-push.ensures.1 in
    record { value = rw (p.1, p.2) held }
