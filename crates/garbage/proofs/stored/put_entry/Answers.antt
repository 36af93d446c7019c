-- Four runs of stores, each where the one before it stopped, over the whole of a part of 28 bytes.
use Rattle.std.proofs.Common.{◌≡◌, ℕ, ◌+◌, ◌-◌, ◌≤◌, List, ◌++◌, length, take, drop, refl, sym, ap, ◌∙◌, arith, append_assoc, append-nil, length-append, length-take, length-drop, take_all, drop_of_length-le}
use Rattle.std.proofs.lemmas.List.Edits.{sets, sets-eq}
use Rattle.numbers.specs.Le.{le}
use Rattle.numbers.specs.LeLaws.{length-le, sets_then, overwritten}
use Rattle.garbage.specs.Entries.{Entry}
use Rattle.garbage.specs.Stored.{entry_bytes}
use Rattle.garbage.proofs.stored.put_entry.Goals as goal

runs : (b₀ b₁ b₂ b₃ b₄ : List ℕ) (at : ℕ) (e : Entry) → b₁ ≡ sets b₀ at (le 8 e.id) → b₂ ≡ sets b₁ (at + 8) (le 4 e.frames) → b₃ ≡ sets b₂ (at + 12) (le 8 e.stated) → b₄ ≡ sets b₃ (at + 20) (le 8 e.disk)
    → b₄ ≡ sets b₀ at (entry_bytes e)
unfolding entry_bytes
runs b₀ b₁ b₂ b₃ b₄ at e p q r s =
    let i = le 8 e.id in
    let f = le 4 e.frames in
    let a = le 8 e.stated in
    let d = le 8 e.disk in
    let l₂ : length (i ++ f) ≡ 12 = length-append i f ∙ omega (arith, length-le 8 e.id, length-le 4 e.frames) in
    let l₃ : length ((i ++ f) ++ a) ≡ 20 = length-append (i ++ f) a ∙ omega (arith, length-le 8 e.stated) in
    let x₂ = sets_then b₀ b₁ b₂ i f at (at + 8) p q (omega (arith, length-le 8 e.id)) in
    let x₃ = sets_then b₀ b₂ b₃ (i ++ f) a at (at + 12) x₂ r (omega arith) in
    sets_then b₀ b₃ b₄ ((i ++ f) ++ a) d at (at + 20) x₃ s (omega arith)
    ∙ ap (sets b₀ at) (append_assoc (i ++ f) a d ∙ append_assoc i f (a ++ d))

length-entry : (e : Entry) → length (entry_bytes e) ≡ 28
unfolding entry_bytes
length-entry e =
    let a = le 8 e.stated in
    let d = le 8 e.disk in
    let f = le 4 e.frames in
    let l₁ : length (a ++ d) ≡ 16 = length-append a d ∙ omega (arith, length-le 8 e.stated, length-le 8 e.disk) in
    let l₂ : length (f ++ (a ++ d)) ≡ 20 = length-append f (a ++ d) ∙ omega (arith, length-le 4 e.frames) in
    length-append (le 8 e.id) (f ++ (a ++ d)) ∙ omega (arith, length-le 8 e.id)

whole : (l vs : List ℕ) → length l ≡ length vs → sets l 0 vs ≡ vs
whole l vs h =
    sets-eq vs l 0 (omega arith) ∙ rw (drop_of_length-le l {i = 0 + length vs} (omega arith)) (append-nil vs)

placed : (l b₁ b₂ b₃ b₄ : List ℕ) (at : ℕ) (e : Entry) → at + 28 ≤ length l
    → b₁ ≡ sets (take (at + 28 - at) (drop at l)) 0 (le 8 e.id) → b₂ ≡ sets b₁ 8 (le 4 e.frames) → b₃ ≡ sets b₂ 12 (le 8 e.stated) → b₄ ≡ sets b₃ 20 (le 8 e.disk)
    → take at l ++ (b₄ ++ drop (at + 28 - at) (drop at l)) ≡ sets l at (entry_bytes e)
placed l b₁ b₂ b₃ b₄ at e h p q r s =
    let part = take (at + 28 - at) (drop at l) in
    let n : length part ≡ 28 = length-take (at + 28 - at) (drop at l) ∙ (rw (length-drop at l) (omega arith)) in
    let k = length-entry e in
    let y : b₄ ≡ entry_bytes e = runs part b₁ b₂ b₃ b₄ 0 e p q r s ∙ whole part (entry_bytes e) (n ∙ sym k) in
    overwritten l (entry_bytes e) b₄ (entry_bytes e) at at at (at + 28 - at) 28 (omega arith) (omega (arith, k)) refl (omega arith) y (sym (take_all 28 (entry_bytes e) (omega (arith, k))))

pub returns : goal.returns
returns c = let p = c.args in
    placed p.buf.now _ _ _ _ p.at p.e c.requires c.put.ensures c.put-2.ensures c.put-3.ensures c.put-4.ensures
