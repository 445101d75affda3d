use Rattle.mysql_stmt.proofs.ExecutionBytes.{is-long, not-long}
use Rattle.mysql_stmt.proofs.execute_with_options.ComStmtExecuteOptionsBuilder.measured.Goals as goal

pub returns-then-len-le-MAX_PAYLOAD_LEN-clause-as_long_data : goal.returns-then-len-le-MAX_PAYLOAD_LEN-clause-as_long_data
returns-then-len-le-MAX_PAYLOAD_LEN-clause-as_long_data g c =
    not-long _ _ _ _ c.request-whole.ensures.as_long_data c.request-whole.ensures.made c.defined_len-len.ensures c.if-len-le-MAX_PAYLOAD_LEN.true

pub returns-clause-as_long_data : goal.returns-clause-as_long_data
returns-clause-as_long_data g c =
    is-long _ _ _ _ c.request-short.ensures.as_long_data c.request-whole.ensures.made c.defined_len-len.ensures c.if-len-le-MAX_PAYLOAD_LEN.false
