pub mod Joined
pub mod Laid
