pub mod Bounds
pub mod Naming
pub mod Packing
pub mod Playing
pub mod Quiet
pub mod Reading
pub mod Telling
