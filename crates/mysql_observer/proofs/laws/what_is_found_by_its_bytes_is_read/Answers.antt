use Rattle.mysql_observer.proofs.Found.{ok_is_read, end_is_read, definitions_end_is_read, count_is_read, prepared_is_read, greeting_is_read}
use Rattle.mysql_observer.proofs.laws.what_is_found_by_its_bytes_is_read.Goals as goal

pub returns-clause-ok : goal.returns-clause-ok
returns-clause-ok g c = ok_is_read g.C.TypedColumn.type_of g.C.TypedColumn.unsigned

pub returns-clause-end : goal.returns-clause-end
returns-clause-end g c = end_is_read g.C.TypedColumn.type_of g.C.TypedColumn.unsigned

pub returns-clause-definitions_end : goal.returns-clause-definitions_end
returns-clause-definitions_end g c = definitions_end_is_read g.C.TypedColumn.type_of g.C.TypedColumn.unsigned

pub returns-clause-count : goal.returns-clause-count
returns-clause-count g c = count_is_read g.C.TypedColumn.type_of g.C.TypedColumn.unsigned

pub returns-clause-prepared : goal.returns-clause-prepared
returns-clause-prepared g c = prepared_is_read g.C.TypedColumn.type_of g.C.TypedColumn.unsigned

pub returns-clause-greeting : goal.returns-clause-greeting
returns-clause-greeting g c = greeting_is_read g.C.TypedColumn.type_of g.C.TypedColumn.unsigned
