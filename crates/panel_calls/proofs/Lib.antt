-- Laws that more than one source file needs, or that other crates may cite: those are `pub`. Laws of one source file stand in its folder.
mod LentBytes
mod LentOutputs
mod LentWidths
