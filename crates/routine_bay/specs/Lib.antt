pub mod Fields
pub mod Named
pub mod Records
pub mod Plays
