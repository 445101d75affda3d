pub mod Numbers
pub mod Params
pub mod Refused
pub mod Bounds
pub mod Runs
pub mod Results
pub mod Fronts
