-- Document 01's marked examples T1 to T6.
use Rattle.std.specs.Prelude.{◌≡◌, ℕ, ◌+◌, ◌-◌, ◌/◌, ◌%◌, ◌^◌, ◌≤◌, List, [], ◌∷◌}
use Rattle.std.proofs.Common.{ap, ◌∙◌, lit<, lit≤}
use Rattle.numbers.specs.Leb128.{shortest}
use Rattle.numbers.specs.Leb128Laws.{shortest-one, shortest-more}
use Rattle.numbers.specs.Handle.{handle_bytes}

-- a group that another follows
and_then : (x : ℕ) {bs : List ℕ} → 128 ≤ x → shortest (x / 128) ≡ bs → shortest x ≡ (x % 128 + 128) ∷ bs
and_then x h e = shortest-more x h ∙ ap (λ (l : List ℕ). (x % 128 + 128) ∷ l) e

t3 : shortest 128 ≡ 0x80 ∷ 0x01 ∷ []
t3 = and_then 128 (lit≤ tt) (shortest-one 1 (lit< tt))

t4 : shortest 300 ≡ 0xac ∷ 0x02 ∷ []
t4 = and_then 300 (lit≤ tt) (shortest-one 2 (lit< tt))

t5 : shortest (2 ^ 32 - 1) ≡ 0xff ∷ 0xff ∷ 0xff ∷ 0xff ∷ 0x0f ∷ []
t5 =
    and_then (2 ^ 32 - 1) (lit≤ tt)
    (and_then (2 ^ 25 - 1) (lit≤ tt)
    (and_then (2 ^ 18 - 1) (lit≤ tt)
    (and_then (2 ^ 11 - 1) (lit≤ tt)
    (shortest-one 15 (lit< tt)))))

t6 : handle_bytes (record { offset = 300; file = 9; size = 128 }) ≡ 0xac ∷ 0x02 ∷ 0x09 ∷ 0x80 ∷ 0x01 ∷ []
unfolding handle_bytes
t6 = rw (t4, shortest-one 9 (lit< tt), t3)

pub marked-numbers :
    (shortest 0 ≡ 0x00 ∷ [])
    × (shortest 127 ≡ 0x7f ∷ [])
    × (shortest 128 ≡ 0x80 ∷ 0x01 ∷ [])
    × (shortest 300 ≡ 0xac ∷ 0x02 ∷ [])
    × (shortest (2 ^ 32 - 1) ≡ 0xff ∷ 0xff ∷ 0xff ∷ 0xff ∷ 0x0f ∷ [])
    × (handle_bytes (record { offset = 300; file = 9; size = 128 }) ≡ 0xac ∷ 0x02 ∷ 0x09 ∷ 0x80 ∷ 0x01 ∷ [])
marked-numbers = (shortest-one 0 (lit< tt), shortest-one 127 (lit< tt), t3, t4, t5, t6)
