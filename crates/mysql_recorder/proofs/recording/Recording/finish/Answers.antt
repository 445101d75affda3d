use Rattle.std.proofs.Common.{◌≡◌, Err, IfErr, refl, sym, subst, string_bytes}
use Rattle.std.proofs.lemmas.Result.{err_from_is_err_and}
use Rattle.mysql_conversation.specs.declared.packet_kind_tag.TheConstants.PacketKindTag.{ALL}
use Rattle.mysql_recorder.proofs.Losses.{end_loses, then_loses}
use Rattle.mysql_recorder.proofs.Seen.{finishes}
use Rattle.mysql_recorder.proofs.Stopped.{text_stops}
use Rattle.mysql_recorder.specs.Stops.{TextStops}
use Rattle.mysql_recorder.proofs.recording.Recording.finish.Goals as goal

pub returns-clause-finishes : goal.returns-clause-finishes
returns-clause-finishes c =
    finishes c.args.self.now c.end_line.new.self (string_bytes c.args.out.now) (string_bytes c.end_line.new.out) (string_bytes c.say_unheard.new.out)
    c.in_ok-end_line.ensures.goes c.end_line.ensures.place c.in_ok-say_unheard.ensures.none

pub returns-clause-loses : goal.returns-clause-loses
returns-clause-loses c =
    then_loses ALL (Unit {0}) c.args.self.now c.end_line.new.self c.end_line.new.self (string_bytes c.args.out.now) (string_bytes c.end_line.new.out) (string_bytes c.say_unheard.new.out)
    (end_loses ALL (Unit {0}) c.args.self.now c.end_line.new.self (string_bytes c.args.out.now) (string_bytes c.end_line.new.out) c.end_line.ensures.loses tt)
    refl c.say_unheard.ensures.stays

pub returns-in_err-end_line-clause-loses : goal.returns-in_err-end_line-clause-loses
returns-in_err-end_line-clause-loses c =
    end_loses ALL (Unit {0}) c.args.self.now c.end_line.new.self (string_bytes c.args.out.now) (string_bytes c.end_line.new.out) c.end_line.ensures.loses tt

pub returns-in_err-say_unheard-clause-loses : goal.returns-in_err-say_unheard-clause-loses
returns-in_err-say_unheard-clause-loses c =
    then_loses ALL (Unit {0}) c.args.self.now c.end_line.new.self c.end_line.new.self (string_bytes c.args.out.now) (string_bytes c.end_line.new.out) (string_bytes c.say_unheard.new.out)
    (end_loses ALL (Unit {0}) c.args.self.now c.end_line.new.self (string_bytes c.args.out.now) (string_bytes c.end_line.new.out) c.end_line.ensures.loses tt)
    refl c.say_unheard.ensures.stays

pub returns-in_err-end_line-clause-refused : goal.returns-in_err-end_line-clause-refused
returns-in_err-end_line-clause-refused c =
    let p = err_from_is_err_and c.from_residual.result c.from_residual.ensures.1 in
    let same : c.in_err-end_line.field-0.0 ≡ p.0 = cc p.2 in
    subst (λ r. IfErr r (λ e. TextStops ALL c.args.self.now e (string_bytes c.args.out.now) (string_bytes c.end_line.new.out))) (sym p.1)
    (subst (λ e. TextStops ALL c.args.self.now e (string_bytes c.args.out.now) (string_bytes c.end_line.new.out)) same
    (text_stops (Err c.in_err-end_line.field-0.0) ALL c.args.self.now (string_bytes c.args.out.now) (string_bytes c.end_line.new.out) c.in_err-end_line.ensures.refused))

pub returns-clause-left : goal.returns-clause-left
returns-clause-left c = (string_bytes c.end_line.new.out, c.in_ok-end_line.ensures.keeps.text, c.in_ok-say_unheard.ensures.left)
