-- What the demands say of the functions that ship.
mod StateBytes
pub mod BlockLines
pub mod KnownInputs
pub mod LineOrder
pub mod OldPanels
pub mod PanelDemand3
pub mod WrittenBlocks
pub mod CaseA
pub mod SlowBlocks
