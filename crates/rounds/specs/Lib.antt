pub mod Sharing
pub mod Sized
pub mod Work
pub mod Round
pub mod Run
pub mod Budgets
pub mod Increments
