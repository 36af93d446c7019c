-- The order of keys: document 01, "The merge and the drain".
use Rattle.std.specs.Prelude.{ℕ, List, [], ◌∷◌, ltb}
use Rattle.std.specs.declared.cmp.Ordering.{Ordering}
use Rattle.std.specs.declared.cmp.Ordering.TheVariants.{Less, Equal, Greater}
use Rattle.numbers.specs.Pick.{pick}

-- "as byte strings with a prefix before the longer"
unfoldable pub order_of : List ℕ → List ℕ → Ordering
order_of [] [] = Equal
order_of [] (y ∷ b) = Less
order_of (x ∷ a) [] = Greater
order_of (x ∷ a) (y ∷ b) = pick (ltb x y) Less (pick (ltb y x) Greater (order_of a b))
