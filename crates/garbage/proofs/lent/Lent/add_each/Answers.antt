-- So far the map holds what the entries so far made, and what is left comes to the whole.
use Rattle.std.proofs.Common.{rules, ◌≡◌, ◌<◌, ◌+◌, ◌-◌, ℕ, ◌∷◌, sym, ap, ◌∙◌, arith}
use Rattle.garbage.specs.Entries.{Entry}
use Rattle.garbage.specs.declared.map.FragmentationMap.{FragmentationMap}
use Rattle.garbage.specs.Maps.{columns_of, entry_at, rows, entries_of}
use Rattle.garbage.specs.Columns.{held}
use Rattle.garbage.proofs.Holding.{rows_open, rows_out}
use Rattle.garbage.proofs.Turning.{turned-first, turned-ready, turned-on, turned-out, turned-last, turned-list, ends-as}
use Rattle.garbage.proofs.lent.Lent.add_each.Goals as goal

next : (m : FragmentationMap) (i : ℕ) (e : Entry) → i < m.count → e ≡ entry_at (columns_of m) i
    → rows (columns_of m) i (m.count - i) ≡ e ∷ rows (columns_of m) (i + 1) (m.count - (i + 1))
next m i e h q = rows_open (columns_of m) i m.count h ∙ ap (λ (x : Entry). x ∷ rows (columns_of m) (i + 1) (m.count - (i + 1))) (sym q)

pub loop-i-init : goal.loop-i-init
loop-i-init c =
    let z : c.args.source.now.count ≡ c.args.source.now.count - 0 = omega arith in
    record {
      same = search rules;
      turned = turned-list (held c.args.self.now) (held c.args.self.now) _ _ _ (ap (λ (n : ℕ). rows (columns_of c.args.source.now) 0 n) z) (turned-first (held c.args.self.now) (entries_of c.args.source.now) c.requires.1);
    }

pub add-requires : goal.add-requires
add-requires c = turned-ready _ _ _ _ c.loop-i.invariant.turned

pub returns-in_err-add-clause-ends : goal.returns-in_err-add-clause-ends
returns-in_err-add-clause-ends c =
    let t = turned-list (held c.args.self.now) (held c.loop-i.self) _ _ _ (next c.args.source.now c.loop-i.i c.entry.result c.loop-i-test.true c.entry.ensures) c.loop-i.invariant.turned in
    ends-as (held c.args.self.now) _ _ _ (held c.add.new.self) (search rules) (turned-out (held c.args.self.now) (held c.loop-i.self) _ _ _ t c.in_err-add.field-0.0 (held c.add.new.self) (c.in_err-add.ensures {u = tt}).is)

pub loop-i-preserved : goal.loop-i-preserved
loop-i-preserved c =
    let t = turned-list (held c.args.self.now) (held c.loop-i.self) _ _ _ (next c.args.source.now c.loop-i.i c.entry.result c.loop-i-test.true c.entry.ensures) c.loop-i.invariant.turned in
    record { same = search rules; turned = turned-on (held c.args.self.now) (held c.loop-i.self) _ _ _ t (held c.add.new.self) (c.in_ok-add.ensures {u = tt}).is }

pub returns-clause-ends : goal.returns-clause-ends
returns-clause-ends c =
    let t = c.loop-i.invariant.turned in
    let e = rows_out (columns_of c.args.source.now) c.loop-i.i c.args.source.now.count (omega arith) in
    turned-last (held c.args.self.now) (held c.loop-i.self) _ (turned-list (held c.args.self.now) (held c.loop-i.self) _ _ _ e t)
