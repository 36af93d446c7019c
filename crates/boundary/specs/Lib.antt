-- The definitions that the contracts cite.
pub mod Maps
pub mod Pointers
pub mod Rows
pub mod Tables
