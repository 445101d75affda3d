use Rattle.mysql_repl.specs.Sid.{intervals}
use Rattle.mysql_repl.proofs.MergedFits.{fits-merged}
use Rattle.mysql_repl.proofs.Merging.{apart-servers}
use Rattle.mysql_repl.proofs.laws.merged_intervals_are_as_servers_write.Goals as goal

pub returns : goal.returns
returns c = record {
  servers = λ s h k. apart-servers (intervals s) h k;
  fit = λ merged given apart fit same. fits-merged merged given fit apart same;
}
