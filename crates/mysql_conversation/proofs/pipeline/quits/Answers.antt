use Rattle.std.proofs.Common.{sym, ap, ◌∙◌, ◌++◌}
use Rattle.mysql_conversation.specs.Standing.{is_quit, quits}
use Rattle.mysql_conversation.proofs.PipeSteps.{quits_last, quit_is}
use Rattle.mysql_conversation.proofs.pipeline.quits.Goals as goal

pub returns-in-Quit : goal.returns-in-Quit
returns-in-Quit c = sym (ap quits (sym c.iter.ensures.rest ∙ c.in-Some.ensures.steps) ∙ quits_last (c.next_back.new.self.head.now ++ c.next_back.new.self.wrapped.now) c.in-Some.last.now ∙ ap is_quit c.in-Quit.is)

pub returns-in_default : goal.returns-in_default
returns-in_default c = sym (ap quits (sym c.iter.ensures.rest ∙ c.in-Some.ensures.steps) ∙ quits_last (c.next_back.new.self.head.now ++ c.next_back.new.self.wrapped.now) c.in-Some.last.now ∙ quit_is c.in-Some.last.now.command.answer c.in_default.not-Quit)
