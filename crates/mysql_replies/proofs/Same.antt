-- Tests of equality that hold exactly if the values are equal, re-exported for the crates above.
pub use Rattle.mysql_session.proofs.Same.{and-true, numbers-same, bytes-same}
