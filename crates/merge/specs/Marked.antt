-- T7 and T8 of document 01's marked examples, of the definitions.
use Rattle.std.specs.Prelude.{ℕ, ◌≡◌, refl, [], ◌∷◌, true, false}
use Rattle.numbers.specs.Pick.{pick}
use Rattle.std.specs.declared.cmp.Ordering.TheVariants.{Less, Equal}
use Rattle.merge.specs.Order.{order_of}
use Rattle.merge.specs.Merge.{ranked}

-- T7 key "10" precedes "9"; T8 of one key, seqno 10 precedes 9, whatever the parts, and not the other way round
pub marked_merge : (order_of (49 ∷ 48 ∷ []) (57 ∷ []) ≡ Less) × ((p q : ℕ) → (ranked Equal 10 p 9 q ≡ true) × (ranked Equal 9 p 10 q ≡ false))
unfolding order_of ranked pick
marked_merge = (refl, λ p q. (refl, refl))
