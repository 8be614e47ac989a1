-- What the functions of `panel_calls` cite.
pub mod Exported
pub mod StateBytes
