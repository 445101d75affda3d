pub mod SessionText
pub mod SystemVariable
pub mod SystemVariables
pub mod SessionStateChange
pub mod SystemVariablesRef
pub mod SessionStateChangeRef
