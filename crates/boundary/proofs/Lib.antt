-- What belongs to no one function: laws over plain variables that the proofs cite.
pub mod Arrays
