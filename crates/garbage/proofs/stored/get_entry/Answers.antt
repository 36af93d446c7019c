-- Each field stands at its own place past the first.
use Prim.Native.Nat.{ℕ, ◌+◌}
use mathlib.Core.Path.{◌≡◌}
use mathlib.Core.List.{List}
use lib.ListN.{drop}
use lib.Seq.{drop-drop}
use Rattle.numbers.specs.Le.{num}
use Rattle.garbage.specs.Entries.{Entry}
use Rattle.garbage.specs.Stored.{entry_in}
use Rattle.garbage.proofs.stored.get_entry.Goals as goal

fields : (s : List ℕ) (at i f a d : ℕ) → i ≡ num 8 (drop at s) → f ≡ num 4 (drop (at + 8) s) → a ≡ num 8 (drop (at + 12) s) → d ≡ num 8 (drop (at + 20) s)
    → ◌≡◌ {A = Entry} (record { id = i; frames = f; stated = a; disk = d }) (entry_in (drop at s))
unfolding entry_in
fields s at i f a d p q r t = simp drop-drop (cc)

pub returns : goal.returns
returns c = let p = c.args in
    fields p.s.now p.at _ _ _ _ c.get.ensures c.get-2.ensures c.get-3.ensures c.get-4.ensures
