pub mod Cut
pub mod Fewest
