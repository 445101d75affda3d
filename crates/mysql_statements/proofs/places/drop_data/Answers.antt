use Rattle.mysql_statements.proofs.Numbers.{changed_at}
use Rattle.mysql_statements.proofs.places.drop_data.Goals as goal

pub returns-in-Some : goal.returns-in-Some
returns-in-Some c = changed_at _ _ _ _ _ _ _ c.place_of.ensures.value c.in-Some.is c.index-statements-place.is c.drop_data.ensures
