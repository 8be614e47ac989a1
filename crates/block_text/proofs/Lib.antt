-- Laws that more than one source file needs, or that other crates may cite: those are `pub`. Laws of one source file stand in its folder.
pub mod BytesBack
pub mod LineBack
pub mod LineTidied
pub mod Coded
pub mod Promises
pub mod WriteLaws
