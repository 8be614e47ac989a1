-- Laws of lists, tests, counts, bits and numbers.
pub mod Bits
pub mod Cases
pub mod Counts
pub mod DifferentWords
pub mod Filled
pub mod Find
pub mod Lists
pub mod Marks
pub mod Masks
pub mod Parts
pub mod Permutations
pub mod Picked
pub mod PickedBits
pub mod Powers
pub mod Puts
pub mod Tests
pub mod Turns
