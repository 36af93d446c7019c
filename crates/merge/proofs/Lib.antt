-- What belongs to no one function: the theorems, and laws over plain variables that the proofs cite.
pub mod Pieces
pub mod Fronts
pub mod Merges
pub mod Theorems
