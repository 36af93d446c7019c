pub mod Reading
pub mod Decoding
pub mod Refused
pub mod Padding
pub mod Theorems
