pub mod Pairs
pub mod Marks
pub mod Piles
pub mod NonzeroLaws
pub mod PairLaws
