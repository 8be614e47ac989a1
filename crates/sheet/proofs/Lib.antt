-- Laws that more than one source file needs. Laws of one source file stand in its folder.
mod RefusalTests
mod Shifts
