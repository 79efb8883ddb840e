-- Laws of the theory: from the equations and a rank alone.
pub mod SlackLaws
pub mod DelayLaws
pub mod GiftLaws
pub mod SegmentLaws
pub mod RoundLaws
pub mod ShareLaws
pub mod RangeLaws
-- Laws that join the functions to it.
pub mod ListLaws
pub mod SeekLaws
pub mod ServedLaws
pub mod SweepLaws
pub mod TimesLaws
pub mod OrderLaws
pub mod LateLaws
pub mod ClockLaws
pub mod SafeLaws
pub mod DescentLaws
pub mod ChoiceLaws
pub mod StepLaws
pub mod WalkLaws
pub mod DeliveryLaws
pub mod RunLaws
-- What a budget says.
pub mod FinalLaws
pub mod BelowLaws
pub mod BudgetLaws
pub mod OutcomeLaws
pub mod TableLaws
