pub mod KindRead
pub mod Reached
pub mod Rules
pub mod Tells
