pub mod Widened
pub mod Pairing
pub mod Writes
pub mod Answers
