pub mod Objects
pub mod Outputs
pub mod Texts
pub mod TextLines
