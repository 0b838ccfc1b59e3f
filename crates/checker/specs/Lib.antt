pub mod Changes
pub mod Grids
pub mod Scans
