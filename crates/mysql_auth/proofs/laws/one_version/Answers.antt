use Rattle.mysql_auth.proofs.Once.{version-once, mariadb_version-once}
use Rattle.mysql_auth.proofs.laws.one_version.Goals as goal

pub returns-clause-one : goal.returns-clause-one
returns-clause-one c = version-once

pub returns-clause-one_mariadb : goal.returns-clause-one_mariadb
returns-clause-one_mariadb c = mariadb_version-once
