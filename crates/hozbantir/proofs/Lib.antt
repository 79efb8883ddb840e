-- What the calls say: each contract determines its outcome, what analyse and budget write, the demands.
pub mod AnswerOne
pub mod Determined
pub mod AnalyseLaws
pub mod BudgetLaws
pub mod DemandLaws
pub mod NineLaws
-- How the code meets them.
pub mod AnswerLaws
pub mod TakenLaws
pub mod CallLaws
pub mod SlacksLaws
pub mod BudgetingLaws
pub mod ReadingLaws
pub mod Fair
pub mod SendLaws
