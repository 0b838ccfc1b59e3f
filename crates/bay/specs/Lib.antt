pub mod Calls
pub mod Calm
pub mod Model
pub mod Stands
pub mod Tables
pub mod Views
pub mod Words
