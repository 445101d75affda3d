use Rattle.std.proofs.Common.{rules, ◌≡◌, length, arith}
use Rattle.std.proofs.lemmas.Bool.Decides.{nat_tests}
use Rattle.mysql_repl.proofs.Tags.{reads-none, refuses-not_utf8, refuses-fault, reads-tag}
use Rattle.mysql_repl.proofs.tag_field.tag_of.Goals as goal

pub returns-then-is_empty : goal.returns-then-is_empty
returns-then-is_empty c =
    let none : length c.args.bytes.now ≡ 0 = first_of (search rules, grind (arith, nat_tests)) in
    record { value = λ rest. reads-none c.args.bytes.now rest none }

pub returns-in_default : goal.returns-in_default
returns-in_default c =
    let some : length c.args.bytes.now ≡ 0 → ⊥ = first_of (search rules, grind (arith, nat_tests)) in
    record { value = λ rest. refuses-not_utf8 c.args.bytes.now rest some c.in_default.ensures.cases.0 }

pub returns-in-Ok-new : goal.returns-in-Ok-new
returns-in-Ok-new c =
    let some : length c.args.bytes.now ≡ 0 → ⊥ = first_of (search rules, grind (arith, nat_tests)) in
    record { value = λ rest. reads-tag c.args.bytes.now c.in-Ok.text.now c.in-Ok-new.tag rest some c.in-Ok.ensures.cases.1 c.in-Ok.ensures.cases.0 c.in-Ok-new.ensures.ok.0 c.in-Ok-new.ensures.ok.1 }

pub returns-in-Err : goal.returns-in-Err
returns-in-Err c =
    let some : length c.args.bytes.now ≡ 0 → ⊥ = first_of (search rules, grind (arith, nat_tests)) in
    record { value = λ rest. refuses-fault c.args.bytes.now c.in-Ok.text.now rest _ some c.in-Ok.ensures.cases.0 c.in-Err.ensures.err }
