pub mod Fitting
pub mod Divisors
pub mod Strides
pub mod Rules
pub mod StrideLaws
pub mod Multiples
pub mod Made
