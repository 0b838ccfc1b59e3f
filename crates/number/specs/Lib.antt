pub mod Codes
pub mod Exact
pub mod Means
pub mod Signs
