-- The marked examples, as one statement.
pub mod Marked
