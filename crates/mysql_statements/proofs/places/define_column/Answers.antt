use Rattle.mysql_statements.proofs.Numbers.{changed_at}
use Rattle.mysql_statements.proofs.places.define_column.Goals as goal

pub returns-in_ok-define_column-clause-ok : goal.returns-in_ok-define_column-clause-ok
returns-in_ok-define_column-clause-ok c = changed_at _ _ _ _ _ _ _ c.place_of.ensures.value c.in-Some.is c.index-statements-place.is c.in_ok-define_column.ensures.ok
