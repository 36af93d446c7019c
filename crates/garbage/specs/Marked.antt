-- Document 01's marked examples T9 to T12.
use Rattle.std.specs.Prelude.{ℕ, ◌*◌, ◌^◌, ◌≡◌, refl, [], ◌∷◌}
use Rattle.std.specs.Float.Ieee.{size}
use Rattle.numbers.specs.Le.{le}
use Rattle.garbage.specs.Maps.{rows, empty_map}
use Rattle.garbage.specs.Stored.{entries_bytes, stored_form}
use Rattle.garbage.specs.Ratio.{lost, rounded}

-- a number rounded to 24 bits, as a number again
abbrev pub whole24 : ℕ → ℕ
whole24 x = rounded (lost x) x * 2 ^ lost x

pub marked-garbage :
    (whole24 16777217 ≡ 16777216)
    × (whole24 16777219 ≡ 16777220)
    × (whole24 18446744073709551615 ≡ 2 ^ 64)
    × (stored_form empty_map ≡ 0 ∷ 0 ∷ 0 ∷ 0 ∷ [])
unfolding size le rows entries_bytes stored_form
marked-garbage = (refl, refl, refl, refl)
