mod Known
mod Rounds
pub mod Ended
mod HandshakeFits
mod HandshakeResponseFits
mod ChangeUserFits
mod Scanner
mod Once
mod Merging
mod Options
pub mod ReadParts
pub mod NameRead
mod LastPart
mod EachKeyOnce
mod ResponseRead
mod ChangeRead
pub mod PairsRead
pub mod PairsMerged
pub mod PairsWritten
pub mod ResponseEnds
mod WholePackets
mod ValuesFit
mod ReadPackets
pub mod EqualPackets
