-- Laws on plain numbers and lists that the proofs share.
mod Bytes
mod Cases
mod Chunks
mod Classes
mod FirstEight
mod Gather
mod JoinedLarge
mod Joint
mod Lanes
mod Loops
mod Parts
mod Seam
mod Small
mod Stripes
mod Theorems
mod Turns
mod Whole
