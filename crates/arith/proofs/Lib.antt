pub mod Quotients
pub mod Bounds
pub mod Products
pub mod Remainders
