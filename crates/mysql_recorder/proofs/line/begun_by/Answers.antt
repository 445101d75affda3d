use Rattle.std.proofs.Common.{◌≡◌, ◌⊎◌, rules}
use Rattle.mysql_conversation.specs.declared.packet_kind.Side.TheVariants as side
use Rattle.mysql_recorder.proofs.Lines.{begins_signed, begins_bare}
use Rattle.mysql_recorder.proofs.line.begun_by.Goals as goal

pub returns-in-62-clause-begins : goal.returns-in-62-clause-begins
returns-in-62-clause-begins c = λ line before h. begins_signed side.Client c.args.byte line before c.in-62.is h

pub returns-in-60-clause-begins : goal.returns-in-60-clause-begins
returns-in-60-clause-begins c = λ line before h. let s : (c.args.byte ≡ 60) ⊎ (c.args.byte ≡ 9) = search rules in begins_signed side.Server c.args.byte line before s h

pub returns-in-Some-clause-begins : goal.returns-in-Some-clause-begins
returns-in-Some-clause-begins c = λ line before h. begins_bare c.args.byte c.in-Some.high line before c.in-Some.ensures.digit.0 c.in-Some.ensures.digit.1 h
