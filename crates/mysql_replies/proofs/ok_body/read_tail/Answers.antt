use Rattle.std.proofs.Common.{◌≡◌, ◌&&◌, Bool, true, false, [], Ok, refl, rules}
use Rattle.mysql_wire.specs.Flags.{CapabilityFlags, StatusFlags}
use Rattle.mysql_replies.specs.OkKind.{ok_tail, tail_of, tracks}
use Rattle.mysql_replies.proofs.ok_body.read_tail.Goals as goal

and-false : (b : Bool) → (b && false) ≡ false
and-false true = refl
and-false false = refl

no-tail : (capabilities : CapabilityFlags) (status : StatusFlags) → (ok_tail capabilities status).reads [] ≡ Ok (tail_of [] [], [])
unfolding ok_tail
no-tail capabilities status = rw (and-false (tracks capabilities)) refl

pub returns-then-is_empty-clause-value : goal.returns-then-is_empty-clause-value
returns-then-is_empty-clause-value c =
    let nothing : c.args.buf.now ≡ [] = search rules in
    rw (c.none.ensures.value, c.none-then-is_empty.ensures.value, nothing) (no-tail c.args.capabilities c.args.status_flags)
