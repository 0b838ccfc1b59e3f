pub mod Corners
pub mod Residues
