pub mod SliceBytes
