-- What the functions of `panel` cite beside the layers' definitions.
pub mod Release
