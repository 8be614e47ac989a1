-- Evaluation of stored cascades (document 02, §5), in the order to read the definitions.
pub mod Emits
pub mod Known
pub mod RailSets
