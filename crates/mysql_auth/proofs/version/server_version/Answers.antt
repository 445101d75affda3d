use Rattle.mysql_auth.proofs.Scanner.{scans-some, scans-none}
use Rattle.mysql_auth.specs.Version.{version}
use Rattle.mysql_auth.proofs.version.server_version.Goals as goal

pub returns-in-Some-clause-some : goal.returns-in-Some-clause-some
returns-in-Some-clause-some c = scans-some version c.args.text.now c.in-Some.found.0 c.in-Some.found.1.now c.in-Some.ensures.value

pub returns-in-None-clause-none : goal.returns-in-None-clause-none
returns-in-None-clause-none c = scans-none version c.args.text.now c.in-None.ensures.value
