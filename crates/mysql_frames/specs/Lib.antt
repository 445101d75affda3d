pub mod FrameHeader
pub mod FrameReader
pub mod Frames
pub mod Places
pub mod Unfinished
