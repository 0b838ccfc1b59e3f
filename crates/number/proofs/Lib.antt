pub mod Order
pub mod Meaning
