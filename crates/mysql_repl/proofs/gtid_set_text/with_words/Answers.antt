use Rattle.std.proofs.Common.{◌≡◌, ◌∷◌, ◌∙◌, Result, Err, IfSome, ap, subst, sym, option_map}
use Rattle.std.specs.Global.{Vec}
use Rattle.std.proofs.lemmas.Result.{err_from_is_err_and}
use Rattle.mysql_repl.specs.declared.gtid_set_text.Building.{Building}
use Rattle.mysql_repl.specs.declared.sid.Sid.{Sid}
use Rattle.mysql_repl.specs.declared.sid_text.InvalidSid.{InvalidSid}
use Rattle.mysql_repl.specs.GtidSetEarly.{early_words}
use Rattle.mysql_repl.specs.GtidSetText.{words}
use Rattle.mysql_repl.specs.GtidSetTextParts.{left_words}
use Rattle.mysql_repl.specs.SidText.{colon}
use Rattle.mysql_repl.proofs.EarlyAnswers.{IsLeft, word-refused}
use Rattle.mysql_repl.proofs.gtid_set_text.with_words.Goals as goal

pub returns-in_err-building-clause-early : goal.returns-in_err-building-clause-early
returns-in_err-building-clause-early c =
    let whole = early_words (words colon c.args.text.now) in
    let word = c.first_word-first.result.word.now in
    let more = left_words colon (option_map (λ t. t.now) c.first_word-first.result.left) in
    let left : left_words colon (option_map (λ t. t.now) c.loop-left.left) ≡ word ∷ more = rw c.in-Some.is c.first_word-first.ensures.words in
    let early : IsLeft whole (early_words (word ∷ more)) = rw left at c.loop-left.invariant.early in
    let p = err_from_is_err_and c.from_residual.result c.from_residual.ensures.1 in
    let P : Result (Vec Sid) InvalidSid → Type 0 = λ r. IfSome whole (λ e. r ≡ Err e) in
    subst P (sym (p.1 ∙ ap Err p.2)) (word-refused Building (Vec Sid) whole (early_words (word ∷ more)) c.in_err-building.field-0.0 early c.in_err-building.ensures.early)
