pub mod Imp
pub mod Inputs
pub mod Kinds
pub mod Runs
pub mod Steps
pub mod Words
