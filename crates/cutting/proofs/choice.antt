-- Laws of `src/choice.rt`.
pub mod BestWays
pub mod ChoiceSteps
pub mod WayLists
pub mod WaysGiveChosen
