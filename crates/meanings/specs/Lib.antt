pub mod Every
pub mod Packed
pub mod Sets
pub mod Peaks
pub mod Onces
pub mod Versions
pub mod Lifts
pub mod Pairs
