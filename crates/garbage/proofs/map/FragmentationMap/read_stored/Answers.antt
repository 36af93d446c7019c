-- An empty map's columns hold what was read.
use Rattle.std.proofs.Common.{rules, ◌≡◌, ◌∙◌, sym, ap, arith, ◌+◌, ◌*◌, ℕ, drop, [], Result, Ok, Err, refl, subst}
use Rattle.garbage.specs.declared.map.FragmentationMap.{FragmentationMap}
use Rattle.garbage.specs.declared.stored.LoadRefusal.{LoadRefusal}
use Rattle.garbage.specs.Maps.{columns_of, empty_map, holding}
use Rattle.garbage.specs.Columns.{Whole}
use Rattle.garbage.specs.Stored.{entries_in, instead_all, loaded_by}
use Rattle.garbage.proofs.Storing.{counted}
use Rattle.garbage.proofs.map.FragmentationMap.read_stored.Goals as goal

empty : (m : FragmentationMap) → m ≡ empty_map → Whole (columns_of m) × (m.count ≡ 0)
empty m e = subst (λ (x : FragmentationMap). Whole (columns_of x) × (x.count ≡ 0)) (sym e) ((refl, refl, refl, refl), refl)

pub read-requires : goal.read-requires
read-requires c =
    let k = counted c.args.s.now c.in_ok-count.count (sym (c.in_ok-count.ensures {u = tt})) in
    let e = empty c.args.self.now c.requires in
    (k.0, k.1, e.0, e.1)

pub overflow_mul-result : goal.overflow_mul-result
overflow_mul-result c = let k = counted c.args.s.now c.in_ok-count.count (sym (c.in_ok-count.ensures {u = tt})) in omega (arith, k.0)

pub overflow_add-result : goal.overflow_add-result
overflow_add-result c = let k = counted c.args.s.now c.in_ok-count.count (sym (c.in_ok-count.ensures {u = tt})) in omega (arith, k.0)

pub returns : goal.returns
returns c =
    ap (λ (m : FragmentationMap). record { answer = Ok (4 + 28 * c.in_ok-count.count); map = m })
    (c.read.ensures.is ∙ ap (λ (m : FragmentationMap). holding m (instead_all (entries_in c.in_ok-count.count (drop 4 c.args.s.now)) [])) c.requires)
    ∙ ap (loaded_by c.args.s.now) (c.in_ok-count.ensures {u = tt})

pub returns-in_err-count : goal.returns-in_err-count
returns-in_err-count c =
    let r : c.from_residual.result ≡ Err c.in_err-count.field-0.0 = search rules in
    ap (λ (a : Result ℕ LoadRefusal). record { answer = a; map = c.args.self.now }) r
    ∙ ap (λ (m : FragmentationMap). record { answer = Err c.in_err-count.field-0.0; map = m }) c.requires
    ∙ ap (loaded_by c.args.s.now) (c.in_err-count.ensures {u = tt})
