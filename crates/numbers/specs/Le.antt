-- Numbers as bytes, least first, at any width.
use Rattle.std.specs.Prelude.{ℕ, zero, suc, ◌+◌, ◌*◌, ◌/◌, ◌%◌, ◌<◌, List, [], ◌∷◌, slice_index}

-- the low n bytes of x
unfoldable pub le : ℕ → ℕ → List ℕ
le zero x = []
le (suc n) x = (x % 256) ∷ le n (x / 256)

-- the number that the first n bytes of a list are; what is missing counts 0
unfoldable pub num : ℕ → List ℕ → ℕ
num zero l = 0
num (suc n) [] = 0
num (suc n) (b ∷ bs) = b + 256 * num n bs

-- the first n bytes of a list; what is missing is 0
unfoldable pub padded : ℕ → List ℕ → List ℕ
padded zero l = []
padded (suc n) [] = 0 ∷ padded n []
padded (suc n) (b ∷ bs) = b ∷ padded n bs

-- a list of bytes
abbrev pub Octets : List ℕ → Type 0
Octets l = (k : ℕ) → slice_index l k < 256
