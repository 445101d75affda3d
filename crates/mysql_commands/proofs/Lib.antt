pub mod LastPart
pub mod CommandAgain
pub mod QueryAgain
pub mod SentAlike
pub mod AsRead
pub mod PacketsAsRead
pub mod CommandsAsRead
