use Rattle.std.proofs.Common.{◌≡◌, List, Option, Result, Err, IfSome, refl, sym, ap, subst}
use Rattle.mysql_repl.specs.declared.sid.Sid.{Sid}
use Rattle.mysql_repl.specs.declared.sid_text.InvalidSid.{InvalidSid}
use Rattle.mysql_repl.specs.GtidSetTextParts.{sids_read, with_front}
use Rattle.mysql_repl.specs.SidText.{Answered}
use Rattle.mysql_repl.proofs.EarlyAnswers.{uuid-early, uuid-goes_on, cut-some}
use Rattle.mysql_repl.proofs.GtidSetTexts.{uuid-refused, uuid-read}
use Rattle.mysql_repl.proofs.gtid_set_text.with_piece.Goals as goal

pub returns-in_default-uuid_of : goal.returns-in_default-uuid_of
returns-in_default-uuid_of c =
    let cut = c.in-Some.ensures.value in
    record {
      value = ap (with_front c.args.sids.items) (uuid-refused c.args.piece.now c.in-Some.uuid.now c.trimmed.result.now cut.0 cut.1 c.trimmed.ensures.value c.in_default-uuid_of.ensures.value);
      early = rw (uuid-early c.args.piece.now c.in-Some.uuid.now c.trimmed.result.now cut.0 cut.1 c.trimmed.ensures.value c.in_default-uuid_of.ensures.value) refl;
      blank = λ none. absurd (cut-some c.args.piece.now cut.0 none);
    }

pub returns : goal.returns
returns c =
    let cut = c.in-Some.ensures.value in
    let P : Result (List Sid) InvalidSid → Type 0 = λ r. Answered (sids_read c.with_words.result) (with_front c.args.sids.items r) in
    let read = uuid-read c.args.piece.now c.in-Some.uuid.now c.trimmed.result.now c.in-Some.text.now c.in-Some-uuid_of.uuid cut.0 cut.1 c.trimmed.ensures.value c.in-Some-uuid_of.ensures.value cut.2 in
    let goes_on = uuid-goes_on c.args.piece.now c.in-Some.uuid.now c.trimmed.result.now c.in-Some.text.now c.in-Some-uuid_of.uuid cut.0 cut.1 c.trimmed.ensures.value c.in-Some-uuid_of.ensures.value cut.2 in
    let E : Option InvalidSid → Type 0 = λ o. IfSome o (λ e. c.with_words.result ≡ Err e) in
    record {
      value = subst P (sym read) c.with_words.ensures.value;
      early = subst E (sym goes_on) c.with_words.ensures.early;
      blank = λ none. absurd (cut-some c.args.piece.now cut.0 none);
    }
