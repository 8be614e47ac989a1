-- Lists of exported calls, demand 3 of them, the functions that take a sheet, and blocks that were widened.
pub mod ExportedCalls
pub mod KnownInputs
pub mod LineOrder
pub mod OldPanels
pub mod PanelDemand3
