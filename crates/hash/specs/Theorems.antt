-- What holds of the definition: published vectors, one of each class of lengths, and that both halves are words. Its one value is in proofs/Theorems.antt.
use Rattle.std.specs.Prelude.{◌≡◌, ℕ, zero, suc, ◌/◌, ◌^◌, ◌<◌, List, [], ◌∷◌}
use Rattle.hash.specs.Notation.{mul64, PRIME32_1}
use Rattle.hash.specs.XXH3.{xxh3_128}

-- the input of xxHash's published test vectors: each byte is the top byte of a number, which is multiplied after it; n bytes from the number g on
unfoldable pub top_bytes : ℕ → ℕ → List ℕ
top_bytes zero g = []
top_bytes (suc n) g = g / 2 ^ 56 ∷ top_bytes n (mul64 g 0x9e3779b185ebca8d)

abbrev pub published_input : ℕ → List ℕ
published_input n = top_bytes n PRIME32_1

-- a published vector: length, lower half, higher half
abbrev pub Vector : ℕ → ℕ → ℕ → Type 0
Vector n low high = xxh3_128 (published_input n) ≡ record { low = low; high = high }

-- both halves are words, for any list
abbrev pub Halves : Type 0
Halves = (input : List ℕ) → ((xxh3_128 input).low < 2 ^ 64) × ((xxh3_128 input).high < 2 ^ 64)

pub record Theorems : Type 0 where
  pub vector0 : Vector 0 0x6001c324468d497f 0x99aa06d3014798d8
  pub vector3 : Vector 3 0x54247382a8d6b94d 0x20efc49ff02422ea
  pub vector8 : Vector 8 0x64c69cab4bb21dc5 0x47a7f080d82bb456
  pub vector16 : Vector 16 0x562980258a998629 0xc68c368ecf8a9c05
  pub vector128 : Vector 128 0xebb15e34a7fb5ab1 0x39992220e045260a
  pub vector240 : Vector 240 0x5c9aae94c8ebe5a0 0xaa4202daa2769dc8
  pub vector241 : Vector 241 0xc5a639ecd2030e5e 0x99a80ecf0ecfc647
  pub halves : Halves
