pub mod Model
pub mod Laws
pub mod Carrier
pub mod Nothing
