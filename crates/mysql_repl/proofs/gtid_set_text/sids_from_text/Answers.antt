use Rattle.std.proofs.Common.{◌≡◌, ◌∷◌, ◌∙◌, Result, Err, IfSome, ap, subst, sym, option_map}
use Rattle.std.specs.Global.{Vec}
use Rattle.std.proofs.lemmas.Result.{err_from_is_err_and}
use Rattle.mysql_repl.specs.declared.sid.Sid.{Sid}
use Rattle.mysql_repl.specs.declared.sid_text.InvalidSid.{InvalidSid}
use Rattle.mysql_repl.specs.GtidSetEarly.{early_pieces, early_answer}
use Rattle.mysql_repl.specs.GtidSetText.{words}
use Rattle.mysql_repl.specs.GtidSetTextParts.{left_words, sids_read}
use Rattle.mysql_repl.specs.SidText.{comma}
use Rattle.mysql_repl.proofs.EarlyAnswers.{piece-is-first}
use Rattle.mysql_repl.proofs.gtid_set_text.sids_from_text.Goals as goal

pub returns-in_err-sids-clause-early : goal.returns-in_err-sids-clause-early
unfolding early_answer
returns-in_err-sids-clause-early c =
    let whole = early_pieces (words comma c.args.text.now) in
    let piece = c.first_piece-first.result.word.now in
    let more = left_words comma (option_map (λ t. t.now) c.first_piece-first.result.left) in
    let all = left_words comma (option_map (λ t. t.now) c.loop-left.left) in
    let left : all ≡ piece ∷ more = rw c.in-Some.is c.first_piece-first.ensures.words in
    let p = err_from_is_err_and c.from_residual.result c.from_residual.ensures.1 in
    let P : Result (Vec Sid) InvalidSid → Type 0 = λ r. IfSome whole (λ read. sids_read r ≡ read) in
    subst P (sym (p.1 ∙ ap Err p.2)) (piece-is-first whole c.loop-left.sids piece more all c.in_err-sids.field-0.0 c.loop-left.invariant.early left c.in_err-sids.ensures.blank c.in_err-sids.ensures.early)
