-- Definitions, to be read in this order: numbers, places and what a call leaves (Answers), the three calls (Calls), the same for C (Exports), and the
-- demands of the bench (Demands).
pub mod Answers
pub mod Calls
pub mod Exports
pub mod Demands
-- What the functions between the calls promise one another.
pub mod Taken
pub mod Slacks
pub mod Budgeting
pub mod Reading
pub mod Spreading
