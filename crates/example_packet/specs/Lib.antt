pub mod StmtReset
