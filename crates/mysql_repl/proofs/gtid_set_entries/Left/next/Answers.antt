use Rattle.std.proofs.Common.{rules, ◌≡◌, ◌∙◌, length, option_map, arith}
use Rattle.std.proofs.lemmas.Bool.Decides.{nat_tests}
use Rattle.mysql_repl.specs.GtidSetTextParts.{left_words}
use Rattle.mysql_repl.specs.SidText.{comma}
use Rattle.mysql_repl.proofs.GtidEntries.{blank-step}
use Rattle.mysql_repl.proofs.gtid_set_entries.Left.next.Goals as goal

pub loop-self-preserved : goal.loop-self-preserved
loop-self-preserved c =
    let word = c.first_piece-first.result.word.now in
    let more = left_words comma (option_map (λ t. t.now) c.first_piece-first.result.left) in
    let all = left_words comma (option_map (λ t. t.now) c.loop-self.self.pieces) in
    let none : length word ≡ 0 = first_of (search rules, grind (arith, nat_tests)) in
    record { none = c.loop-self.invariant.none; left = c.loop-self.invariant.left ∙ blank-step all word more (rw c.in-Some-pieces.is c.first_piece-first.ensures.words) none }
