pub mod Shipped
pub mod Examples
pub mod Names
pub mod Lawful
pub mod Domains
pub mod Words
