pub mod Fitting
pub mod Forks
pub mod Kept
pub mod Landed
pub mod Meeting
pub mod Reading
pub mod Secured
