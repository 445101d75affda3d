pub mod Places
pub mod Sessions
pub mod Steps
pub mod Sets
pub mod Followed
