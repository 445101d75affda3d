-- Tests of equality that hold exactly if the values are equal.
pub use Rattle.mysql_wire.proofs.Same.{and-true, numbers-same, bytes-same, codes-same, options-same}
