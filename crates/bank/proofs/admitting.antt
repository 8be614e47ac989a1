-- Laws of `src/admitting.rt`.
pub mod AdmissionCases
