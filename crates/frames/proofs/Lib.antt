-- What belongs to no one function: the theorems with the laws they stand on, and laws over plain variables.
mod Theorems
mod ScanLaws
mod PointLaws
mod GrowthLaws
mod CountLaws
mod Back
mod Written
mod Moved
mod Walking
mod Short
mod Sums
mod Fields
mod Mapped
mod AnswerLaws
mod PlainLaws
mod FinishLaws
