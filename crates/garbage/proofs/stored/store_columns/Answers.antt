-- The count, then the entries where the count ends.
use Rattle.std.proofs.Common.{rules, ◌≡◌, ◌≤◌, ◌<◌, ◌+◌, ◌*◌, ℕ, true, false, List, length, Result, Ok, Err, sym, ap, ◌∙◌, arith}
use Rattle.std.proofs.lemmas.List.Edits.{sets}
use borrow.Author.Tests.{le-leb, lt-leb}
use Rattle.numbers.specs.Pick.{pick}
use Rattle.numbers.specs.Le.{le}
use Rattle.numbers.specs.LeLaws.{length-le, sets_then}
use Rattle.garbage.specs.declared.map.FragmentationMap.{FragmentationMap}
use Rattle.garbage.specs.declared.stored.StoreRefusal.{StoreRefusal}
use Rattle.garbage.specs.declared.stored.StoreRefusal.TheVariants.{MapFull, NoRoom}
use Rattle.garbage.specs.Maps.{map_of, entries_of, well_formed}
use Rattle.garbage.specs.Stored.{entries_bytes, stored_form, store_answer, store_bytes}
use Rattle.garbage.proofs.Sound.{cols, ordered}
use Rattle.garbage.proofs.Storing.{length-stored}
use Rattle.garbage.proofs.stored.store_columns.Goals as goal

module _ (m : FragmentationMap) (b : List ℕ) where
  malformed : well_formed m ≡ false → (◌≡◌ {A = Result ℕ StoreRefusal} (Err MapFull) (store_answer m b)) × (b ≡ store_bytes m b)
  unfolding store_answer store_bytes pick
  malformed h = (sym (rw h), sym (rw h))

  module _ (h : well_formed m ≡ true) where
    no_room : length b < 4 + 28 * m.count → (◌≡◌ {A = Result ℕ StoreRefusal} (Err NoRoom) (store_answer m b)) × (b ≡ store_bytes m b)
    unfolding store_answer store_bytes pick
    no_room q =
        let k : length b < length (stored_form m) = omega (arith, length-stored m) in
        (sym (rw (h, lt-leb (length (stored_form m)) (length b) k)), sym (rw (h, lt-leb (length (stored_form m)) (length b) k)))

    laid : (b₁ b₂ : List ℕ) → 4 + 28 * m.count ≤ length b → b₁ ≡ sets b 0 (le 4 m.count) → b₂ ≡ sets b₁ 4 (entries_bytes (entries_of m))
        → (◌≡◌ {A = Result ℕ StoreRefusal} (Ok (4 + 28 * m.count)) (store_answer m b)) × (b₂ ≡ store_bytes m b)
    unfolding store_answer store_bytes stored_form pick
    laid b₁ b₂ q p r =
        let k : length (stored_form m) ≤ length b = omega (arith, length-stored m) in (
          ap (λ (n : ℕ). Ok n) (sym (length-stored m)) ∙ sym (rw (h, le-leb (length (stored_form m)) (length b) k)),
          sets_then b b₁ b₂ (le 4 m.count) (entries_bytes (entries_of m)) 0 4 p r (omega (arith, length-le 4 m.count)) ∙ sym (rw (h, le-leb (length (stored_form m)) (length b) k)),
        )

pub returns-then-not-in_order : goal.returns-then-not-in_order
returns-then-not-in_order c =
    let m = map_of c.args.count (cols c.args.ids.now c.args.frames.now c.args.stated.now c.args.disk.now) in
    malformed m c.args.buf.now (sym (ordered m (search rules, search rules, search rules, search rules)) ∙ sym c.in_order.ensures ∙ c.if-not-in_order.true)

pub returns-then-buf-need : goal.returns-then-buf-need
returns-then-buf-need c =
    let m = map_of c.args.count (cols c.args.ids.now c.args.frames.now c.args.stated.now c.args.disk.now) in
    no_room m c.args.buf.now (sym (ordered m (search rules, search rules, search rules, search rules)) ∙ sym c.in_order.ensures ∙ c.if-not-in_order.false) c.if-buf-need.true

pub returns : goal.returns
returns c =
    let m = map_of c.args.count (cols c.args.ids.now c.args.frames.now c.args.stated.now c.args.disk.now) in
    laid m c.args.buf.now (sym (ordered m (search rules, search rules, search rules, search rules)) ∙ sym c.in_order.ensures ∙ c.if-not-in_order.false) _ _
    c.if-buf-need.false c.put.ensures c.put_entries.ensures
