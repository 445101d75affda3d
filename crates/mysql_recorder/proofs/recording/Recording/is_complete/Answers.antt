use Rattle.mysql_recorder.proofs.recording.Recording.is_complete.Goals as goal

pub returns-clause-recorded : goal.returns-clause-recorded
returns-clause-recorded c = λ text items h. c.is_complete.ensures.stand h.pieces items h.stand

pub returns-clause-finished : goal.returns-clause-finished
returns-clause-finished c = λ text items h. c.is_complete.ensures.stand h.shown.pieces items h.stand
