pub mod Cells
pub mod Shipped
pub mod Numbers
pub mod Words
