-- Laws that more than one source file needs, or that other crates may cite: those are `pub`. Laws of one source file stand in its folder.
mod BookTraces
pub mod ListClaim
mod LoopSteps
mod OneCall
pub mod Promises
mod Reading
mod Refusals
mod Traces
pub mod Written
