pub mod Counted
pub mod Drafts
