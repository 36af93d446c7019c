-- A length in binary32 and the ratio of two (document 01, "both lengths rounded to binary32 (nearest, ties to even), then one division"; IEEE 754).
use Rattle.std.specs.Prelude.{ℕ, ◌-◌, ◌^◌, pos, Float}
use Rattle.std.specs.Float.{binary32}
use Rattle.std.specs.Float.Ieee.{of_int, div, size}
use Rattle.std.specs.Float.Ieee.Nearest.{closest}
use Rattle.garbage.specs.declared.ratio.Rounded.{Rounded}

-- how many bits a number loses on the way to 24
abbrev pub lost : ℕ → ℕ
lost x = size x - 24

-- the nearest multiple of 2 ^ k, of two as near the even one, counted in 2 ^ k
abbrev pub rounded : ℕ → ℕ → ℕ
rounded k x = closest x (2 ^ k)

abbrev pub round24_of : ℕ → Rounded
round24_of x = record { mantissa = rounded (lost x) x; shift = lost x }

-- IEEE 754's own rounding of both lengths, and its division
abbrev pub ratio_of : ℕ → ℕ → Float
ratio_of part whole = div binary32 (of_int binary32 (pos part)) (of_int binary32 (pos whole))
