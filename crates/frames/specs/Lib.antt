-- Read first: Layout, Cut, Refusals, Shape, Write, Scan, Point, Held, which are document 01; Said, what `{}` prints of a refusal; then Runs, Scans, Theorems.
-- The others are laws that other crates' proofs cite, and what they stand on.
pub mod Layout
pub mod Cut
pub mod Refusals
pub mod Shape
pub mod Write
pub mod Scan
pub mod Point
pub mod Held
pub mod Said
pub mod Runs
pub mod Scans
pub mod Ran
pub mod Theorems
pub mod LayoutLaws
pub mod WriteLaws
pub mod StepLaws
pub mod GrownLaws
pub mod CallLaws
pub mod RunLaws
