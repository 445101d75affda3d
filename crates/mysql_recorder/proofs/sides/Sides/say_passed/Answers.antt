use Rattle.std.proofs.Common.{◌∷◌, [], ap, string_bytes}
use Rattle.mysql_observer.specs.Observed.{last_exchange}
use Rattle.mysql_recorder.specs.Steps.{notice_exchange}
use Rattle.mysql_recorder.proofs.Notices.{passed_appended}
use Rattle.mysql_recorder.proofs.sides.Sides.say_passed.Goals as goal

pub returns-clause-text : goal.returns-clause-text
returns-clause-text c =
    passed_appended c.append_notice.result c.args.self.now.packets.layout c.args.side (notice_exchange c.args.kind.now c.args.side (last_exchange c.args.self.now.packets.observer)) c.args.kind.now c.number-field.result c.args.passed
    (string_bytes c.args.out.now) (string_bytes c.append_notice.new.out) (ap (λ f. f ∷ []) c.number-field.ensures.value) c.append_notice.ensures.text
