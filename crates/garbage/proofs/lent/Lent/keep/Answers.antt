-- So far the map holds what is kept of the entries so far.
use Rattle.std.proofs.Common.{rules, ◌≡◌, ◌<◌, ◌+◌, Bool, true, false, List, eqb, sym, ap, ◌∙◌, arith, ℕ}
use Rattle.std.specs.List.{list_any}
use Rattle.garbage.specs.declared.map.FragmentationMap.{FragmentationMap}
use Rattle.garbage.specs.Maps.{columns_of, entry_at, rows, holding}
use Rattle.garbage.specs.Merges.{listed_in, kept_of}
use Rattle.garbage.specs.Columns.{held, Whole, pushed}
use Rattle.garbage.specs.Entries.{Entry}
use Rattle.garbage.proofs.Pruning.{listed, keep_none, room-left, keep_more, keep_on}
use Rattle.garbage.proofs.lent.Lent.keep.Goals as goal
use Rattle.garbage.proofs.lent.Lent.keep.Goals.{then-contains, else-contains}

pub loop-i-init : goal.loop-i-init
loop-i-init c = record { same = search rules; kept = c.requires.2 ∙ keep_none c.args.listing.now c.args.map.now }

pub push-requires : goal.push-requires
push-requires c = room-left c.args.listing.now c.args.map.now (held c.loop-i.self) c.requires.1 c.loop-i.i (omega (arith, c.requires.0)) c.loop-i.invariant.kept

-- one entry, kept or not, as the map's own slot has it
module _ (ids : List ℕ) (m d : FragmentationMap) (w : Whole (columns_of m)) (i : ℕ) (h : i < 64) (p : d ≡ holding m (kept_of ids (rows (columns_of m) 0 i))) (e : Entry)
    (q : e ≡ entry_at (columns_of m) i) (b : Bool) (v : b ≡ list_any (λ (x : ℕ). eqb x e.id) ids) where
  is_listed : b ≡ listed_in (entry_at (columns_of m) i).id ids
  is_listed = v ∙ listed e.id ids ∙ ap (λ (x : Entry). listed_in x.id ids) q

  kept : b ≡ true → (d' : FragmentationMap) → d' ≡ pushed d e → d' ≡ holding m (kept_of ids (rows (columns_of m) 0 (i + 1)))
  kept t d' r = r ∙ ap (pushed d) q ∙ keep_more ids m d w i h p (sym is_listed ∙ t)

  left : b ≡ false → d ≡ holding m (kept_of ids (rows (columns_of m) 0 (i + 1)))
  left t = keep_on ids m d w i h p (sym is_listed ∙ t)

pub loop-i-preserved : goal.loop-i-preserved
loop-i-preserved c =
    let k = c.loop-i in
    let small : k.i < 64 = omega (arith, c.requires.0, c.loop-i-test.true) in
    elim c.if-contains.branch [
      | then-contains w ↦ record {
        same = search rules;
        kept =
            ap held w.self-is
            ∙ kept c.args.listing.now c.args.map.now (held k.self) c.requires.1 k.i small k.invariant.kept c.entry-e.result c.entry-e.ensures c.contains.result c.contains.ensures.value
            w.if-contains.true (held w.push.new.self) w.push.ensures.is;
      }
      | else-contains w ↦ record {
        same = search rules;
        kept =
            ap held w.self-is
            ∙ left c.args.listing.now c.args.map.now (held k.self) c.requires.1 k.i small k.invariant.kept c.entry-e.result c.entry-e.ensures c.contains.result c.contains.ensures.value
            w.if-contains.false;
      }
    ]

pub returns-clause-is : goal.returns-clause-is
returns-clause-is c =
    let e : c.loop-i.i ≡ c.args.map.now.count = omega arith in
    c.loop-i.invariant.kept ∙ ap (λ (k : ℕ). holding c.args.map.now (kept_of c.args.listing.now (rows (columns_of c.args.map.now) 0 k))) e
