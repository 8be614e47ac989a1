-- Laws of the definitions. The crates of the layer may cite those that are `pub`, the layers above those of Promises alone.
pub mod AcceptedSheet
pub mod AllMerges
pub mod ChiLines
pub mod ClassCount
pub mod CofactorColumns
pub mod ColumnChi
pub mod ColumnNumbers
pub mod ColumnsBelow
pub mod CompatiblePlaces
pub mod CoverPartition
pub mod DescentReaches
pub mod DescentSteps
pub mod DiagramWalks
mod Examples
pub mod HeightsInOrder
pub mod LentAfter
pub mod LineOrder
pub mod MergeAnd
pub mod MergeKeeps
pub mod MergeKeepsOrderRule
pub mod NodeChildren
mod NodePlaces
pub mod NodeWords
pub mod Numbering
pub mod OneMerge
pub mod OneRound
pub mod Promises
pub mod ReductionCases
pub mod SameLinksSameCover
pub mod VariableBits
pub mod WalkSteps
pub mod WidthsBelow
