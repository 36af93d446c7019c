-- What is left fits exactly when all does.
use Rattle.std.proofs.Common.{◌≡◌, ◌<◌, ◌≤◌, ◌+◌, ◌-◌, ℕ, List, Bool, true, ◌&&◌, sym, ap, ◌∙◌, arith}
use Rattle.garbage.specs.declared.map.FragmentationMap.{FragmentationMap}
use Rattle.garbage.specs.Entries.{Entry, plus, fits}
use Rattle.garbage.specs.Maps.{columns_of, entry_at, rows, entries_of}
use Rattle.garbage.specs.Columns.{total_of, sums_fit}
use Rattle.garbage.proofs.Holding.{rows_open, rows_out}
use Rattle.garbage.proofs.map.FragmentationMap.takes_all.Goals as goal

module _ (m : FragmentationMap) (l : List Entry) (i : ℕ) where
  next : (e : Entry) (b : Bool) → i < m.count → e ≡ entry_at (columns_of m) i → b ≡ fits (plus (total_of e.id l) e)
      → sums_fit (rows (columns_of m) i (m.count - i)) l ≡ (b && sums_fit (rows (columns_of m) (i + 1) (m.count - (i + 1))) l)
  unfolding sums_fit
  next e b h q p =
      ap (λ (es : List Entry). sums_fit es l) (rows_open (columns_of m) i m.count h)
      ∙ ap (λ (x : Entry). fits (plus (total_of x.id l) x) && sums_fit (rows (columns_of m) (i + 1) (m.count - (i + 1))) l) (sym q)
      ∙ ap (λ (x : Bool). x && sums_fit (rows (columns_of m) (i + 1) (m.count - (i + 1))) l) (sym p)

  abbrev more : Bool
  more = sums_fit (rows (columns_of m) (i + 1) (m.count - (i + 1))) l

  over : m.count ≤ i → true ≡ sums_fit (rows (columns_of m) i (m.count - i)) l
  unfolding sums_fit
  over h = sym (ap (λ (es : List Entry). sums_fit es l) (rows_out (columns_of m) i m.count h))

pub loop-i-init : goal.loop-i-init
loop-i-init c =
    let z : c.args.source.now.count - 0 ≡ c.args.source.now.count = omega arith in
    ap (λ (n : ℕ). sums_fit (rows (columns_of c.args.source.now) 0 n) (entries_of c.args.self.now)) z

pub returns-then-not-takes : goal.returns-then-not-takes
returns-then-not-takes c =
    let k = next c.args.source.now (entries_of c.args.self.now) c.loop-i.i c.entry.result c.takes.result c.loop-i-test.true c.entry.ensures c.takes.ensures in
    sym (sym c.loop-i.invariant ∙ k ∙ ap (λ (b : Bool). b && more c.args.source.now (entries_of c.args.self.now) c.loop-i.i) c.if-not-takes.true)

pub loop-i-preserved : goal.loop-i-preserved
loop-i-preserved c =
    let k = next c.args.source.now (entries_of c.args.self.now) c.loop-i.i c.entry.result c.takes.result c.loop-i-test.true c.entry.ensures c.takes.ensures in
    sym (ap (λ (b : Bool). b && more c.args.source.now (entries_of c.args.self.now) c.loop-i.i) c.if-not-takes.false) ∙ sym k ∙ c.loop-i.invariant

pub returns : goal.returns
returns c = over c.args.source.now (entries_of c.args.self.now) c.loop-i.i (omega arith) ∙ c.loop-i.invariant
