use Rattle.mysql_auth.proofs.Scanner.{after-none}
use Rattle.mysql_auth.proofs.version.mariadb_version_after.Goals as goal

pub returns-in-Some-clause-none : goal.returns-in-Some-clause-none
returns-in-Some-clause-none c = after-none c.args.text.now c.in-Some.rest.now c.mariadb_version_at.result c.in-Some.ensures.value c.mariadb_version_at.ensures.none
