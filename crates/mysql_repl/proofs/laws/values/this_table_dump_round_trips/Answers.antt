use Rattle.mysql_repl.specs.TableDump.{table_dump}
use Rattle.mysql_repl.proofs.Fits.{table_dump-fits}
use Rattle.mysql_repl.proofs.laws.values.this_table_dump_round_trips.Goals as goal

pub returns : goal.returns
returns c = record { spelled = λ rest database table. table_dump.again tt c.args.request.now rest (table_dump-fits c.args.request.now rest (record { database = database; table = table })) }
