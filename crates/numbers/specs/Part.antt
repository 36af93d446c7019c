-- Where a part of lent bytes lies.
use Rattle.std.specs.Prelude.{ℕ, ◌+◌}

-- in the same block, n bytes behind
unfoldable pub behind : ℕ × ℕ → ℕ → ℕ × ℕ
behind place n = (place.0, place.1 + n)
