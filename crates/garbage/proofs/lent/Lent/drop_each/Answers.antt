-- So far the map holds what the pointers so far made, and what is left comes to the whole.
use Rattle.std.proofs.Common.{rules, ◌≡◌, ◌<◌, ◌+◌, ℕ, List, ◌∷◌, length, get_or, drop, map, sym, ap, ◌∙◌, arith, add-one, drop-cons}
use Rattle.std.proofs.lemmas.List.{at_drop_all}
use Rattle.numbers.specs.declared.handle.BlobIndirection.{BlobIndirection}
use Rattle.garbage.specs.Entries.{Entry}
use Rattle.garbage.specs.Drops.{one}
use Rattle.garbage.specs.Columns.{held}
use Rattle.garbage.proofs.Turning.{turned-first, turned-ready, turned-on, turned-out, turned-last, turned-list, ends-as}
use Rattle.garbage.proofs.lent.Lent.drop_each.Goals as goal

next : (ps : List BlobIndirection) (i : ℕ) (d : BlobIndirection) → i < length ps → map one (drop i ps) ≡ one (get_or ps i d) ∷ map one (drop (i + 1) ps)
next ps i d h = ap (map one) (drop-cons ps i d h) ∙ ap (λ (k : ℕ). one (get_or ps i d) ∷ map one (drop k ps)) (sym (add-one i))

pub loop-p-init : goal.loop-p-init
loop-p-init c = record { same = search rules; turned = turned-first (held c.args.self.now) (map one c.args.pointers.now) c.requires }

pub add-requires : goal.add-requires
add-requires c = turned-ready _ _ _ _ c.loop-p.invariant.turned

pub returns-in_err-add-clause-ends : goal.returns-in_err-add-clause-ends
returns-in_err-add-clause-ends c =
    let e = next c.args.pointers.now c.loop-p.p-index _ c.loop-p-test.true ∙ ap (λ (x : Entry). x ∷ map one (drop (c.loop-p.p-index + 1) c.args.pointers.now)) (sym c.one_of.ensures) in
    let t = turned-list (held c.args.self.now) (held c.loop-p.self) _ _ _ e c.loop-p.invariant.turned in
    ends-as (held c.args.self.now) _ _ _ (held c.add.new.self) (search rules) (turned-out (held c.args.self.now) (held c.loop-p.self) _ _ _ t c.in_err-add.field-0.0 (held c.add.new.self) (c.in_err-add.ensures {u = tt}).is)

pub loop-p-preserved : goal.loop-p-preserved
loop-p-preserved c =
    let e = next c.args.pointers.now c.loop-p.p-index _ c.loop-p-test.true ∙ ap (λ (x : Entry). x ∷ map one (drop (c.loop-p.p-index + 1) c.args.pointers.now)) (sym c.one_of.ensures) in
    let t = turned-list (held c.args.self.now) (held c.loop-p.self) _ _ _ e c.loop-p.invariant.turned in
    record { same = search rules; turned = turned-on (held c.args.self.now) (held c.loop-p.self) _ _ _ t (held c.add.new.self) (c.in_ok-add.ensures {u = tt}).is }

pub returns-clause-ends : goal.returns-clause-ends
returns-clause-ends c =
    let t = c.loop-p.invariant.turned in
    let e = at_drop_all (λ (x : List BlobIndirection). map one x) c.args.pointers.now c.loop-p.p-index (omega arith) in
    turned-last (held c.args.self.now) (held c.loop-p.self) _ (turned-list (held c.args.self.now) (held c.loop-p.self) _ _ _ e t)
