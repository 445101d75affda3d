pub mod Audit
pub mod Report
pub mod Stream
pub mod Refused
pub mod InOrder
