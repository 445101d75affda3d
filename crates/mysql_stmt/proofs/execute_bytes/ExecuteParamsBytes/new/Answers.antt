use Rattle.mysql_stmt.specs.ExecuteHead.{cursor_flags}
use Rattle.mysql_stmt.proofs.ParamViews.{read-counted}
use Rattle.mysql_stmt.proofs.execute_bytes.ExecuteParamsBytes.new.Goals as goal

pub returns-clause-read : goal.returns-clause-read
returns-clause-read c = λ params len.
    let f = c.front.inside in
    read-counted c.args.capabilities (cursor_flags c.args.head.now) params c.args.buf c.args.count len (record { nulls = f.nulls; sends_types = f.sends_types; types = f.types }) c.read_front.new.buf (rw c.front.view_is c.in_ok-front.ensures.value)
