pub mod Checks
pub mod Claims
pub mod Faults
pub mod Safety
pub mod Tables
pub mod Ways
