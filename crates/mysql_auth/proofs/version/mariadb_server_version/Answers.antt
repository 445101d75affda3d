use Rattle.mysql_auth.proofs.Scanner.{neither}
use Rattle.mysql_auth.proofs.version.mariadb_server_version.Goals as goal

pub returns-in-None-clause-none : goal.returns-in-None-clause-none
returns-in-None-clause-none c = neither c.args.text.now c.mariadb_version_at.result c.in-None.ensures.none c.mariadb_version_at.ensures.none
