-- Laws that more than one source file needs, or that other crates may cite: those are `pub`. Laws of one source file stand in its folder.
pub mod CallLaws
pub mod LineCases
pub mod LineLaws
mod TidyLaws
mod UnreadLaws
pub mod Scans
mod WordLaws
