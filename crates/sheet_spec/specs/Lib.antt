-- Document 01's sheet, job and refusals 1 to 6, in the order to read them.
pub mod Limits
pub mod Records
pub mod Job
pub mod Given
pub mod Values
pub mod Refusals
pub mod Accepted
pub mod Table
pub mod Characteristic
pub mod SameRecords
pub mod Example
pub mod Opened
