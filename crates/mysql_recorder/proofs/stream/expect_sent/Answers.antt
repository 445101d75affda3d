use Rattle.mysql_recorder.proofs.Streams.{sent-number}
use Rattle.mysql_recorder.proofs.stream.expect_sent.Goals as goal

pub returns : goal.returns
returns c =
    let found = c.resync_sequence.ensures in
    sent-number _ _ _ found.held found.number found.same found.limit
