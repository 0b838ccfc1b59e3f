pub mod Accepted
pub mod Formed
pub mod Laying
pub mod Spelled
pub mod Written
pub mod Sounding
pub mod Records
pub mod Limits
