pub mod Evals
pub mod Sheets
pub mod Sound
