pub mod Morning
pub mod Sheet
