use Rattle.std.proofs.Common.{rules, ◌≡◌, length, sym, arith}
use Rattle.std.proofs.lemmas.Bool.Decides.{nat_tests}
use Rattle.mysql_packets_c.proofs.SidHeld.{held-none, held-not_utf8, held-fault, held-tag}
use Rattle.mysql_packets_c.proofs.gtid_dump.tag_in.Goals as goal

pub returns-then-is_empty : goal.returns-then-is_empty
returns-then-is_empty c =
    let none : length c.args.bytes.now ≡ 0 = first_of (search rules, grind (arith, nat_tests)) in
    record { value = sym (held-none c.args.bytes.now none) }

pub returns-in_default : goal.returns-in_default
returns-in_default c =
    let some : length c.args.bytes.now ≡ 0 → ⊥ = first_of (search rules, grind (arith, nat_tests)) in
    record { value = sym (held-not_utf8 c.args.bytes.now some c.in_default.ensures.cases.0) }

pub returns-in-Ok-new : goal.returns-in-Ok-new
returns-in-Ok-new c =
    let some : length c.args.bytes.now ≡ 0 → ⊥ = first_of (search rules, grind (arith, nat_tests)) in
    record { value = sym (held-tag c.args.bytes.now c.in-Ok.text.now c.in-Ok-new.tag some c.in-Ok.ensures.cases.1 c.in-Ok.ensures.cases.0 c.in-Ok-new.ensures.ok.0 c.in-Ok-new.ensures.ok.1) }

pub returns-in-Err : goal.returns-in-Err
returns-in-Err c =
    let some : length c.args.bytes.now ≡ 0 → ⊥ = first_of (search rules, grind (arith, nat_tests)) in
    record { value = sym (held-fault c.args.bytes.now c.in-Ok.text.now _ some c.in-Ok.ensures.cases.0 c.in-Err.ensures.err) }
