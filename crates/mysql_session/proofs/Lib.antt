pub mod Same
pub mod EqualChanges
pub mod PlainFits
pub mod SessionStateChangeAgain
pub mod SystemVariablesFit
