-- What goes first of the parts is the least of the fronts of what their scans give.
use Prim.Native.Nat.{ℕ, zero, suc, ◌+◌}
use mathlib.Core.Path.{◌≡◌, refl, sym, ap, subst, ◌∙◌}
use mathlib.Core.List.{List, [], ◌∷◌}
use mathlib.Core.Bool.{Bool, true, false}
use native.Mathlib.Omega.{arith}
use lib.ListN.{get_or, set}
use Rattle.numbers.specs.Pick.{pick}
use Rattle.frames.specs.declared.steps.Scanner.{Scanner}
use Rattle.frames.specs.declared.steps.ScanEntry.{ScanEntry}
use Rattle.frames.specs.declared.steps.Step.TheVariants as scanned
use Rattle.merge.specs.declared.parts.Part.{Part}
use Rattle.merge.specs.declared.heads.MergeEntry.{MergeEntry}
use Rattle.merge.specs.Parts.{moved, no_part}
use Rattle.std.specs.Prelude.{Some, None, Ok}
use Rattle.merge.specs.declared.heads.Head.{Head}
use Rattle.merge.specs.Merge.{scan_at, entry_of, ahead, Foremost, shown, head_of, first, foremost}
use Rattle.merge.specs.Sorted.{Leq, by_part}
use Rattle.merge.specs.SortedLaws.{leq_trans, ahead_leq, behind_leq}
use Rattle.merge.specs.Theorems.{Reads, ended, found, ReadsAll, empty, part}

-- all lists are empty, or the least front is taken from the list of its part
pub data Front (image : List ℕ) (i : ℕ) (ps : List Part) (ls : List (List MergeEntry)) : Foremost → Type 0 where
  blank : ((j : ℕ) → get_or ls j [] ≡ []) → Front image i ps ls (Ok None)
  taken : {x : Head} {l : List MergeEntry} (j : ℕ) → get_or ls j [] ≡ x.entry ∷ l → x.entry.part ≡ i + j
      → ((n : ℕ) (y : MergeEntry) (r : List MergeEntry) → get_or ls n [] ≡ y ∷ r → Leq image x.entry y)
      → ReadsAll image i (set ps j (moved x.next (get_or ps j no_part))) (set ls j l) → Front image i ps ls (Ok (Some x))

leq_refl : (image : List ℕ) (x : MergeEntry) → Leq image x x
leq_refl image x = by_part refl refl (omega arith)

no_front : (y : MergeEntry) (r : List MergeEntry) → ◌≡◌ {A = List MergeEntry} [] (y ∷ r) → ⊥
no_front y r e = let c : ◌≡◌ {A = ℕ} 0 1 = cc in omega arith

module _ (image : List ℕ) (i : ℕ) (p : Part) (ps : List Part) (ls : List (List MergeEntry)) where
  -- the lower part has ended
  past-none : (f : Foremost) → Reads image i p [] → Front image (suc i) ps ls f → Front image i (p ∷ ps) ([] ∷ ls) (first image (Ok None) f)
  unfolding first
  past-none f r (blank e) = blank (λ j. elim j as (λ k. get_or ([] ∷ ls) k [] ≡ []) [ zero ↦ refl | suc k ↦ e k ])
  past-none f r (taken {x} {l} j g n least t) =
      let z : suc i + j ≡ i + suc j = omega arith in
      taken (suc j) g (n ∙ z) (λ m y s. elim m as (λ k. get_or ([] ∷ ls) k [] ≡ y ∷ s → Leq image x.entry y) [ zero ↦ λ e. absurd (no_front y s e) | suc h ↦ least h y s ]) (part r t)

  -- the lower part has an entry
  module _ (e : ScanEntry) (n : Scanner) (l : List MergeEntry) (q : scan_at image p ≡ scanned.Entry e n) (r : Reads image i (moved n.at p) l) (all : ReadsAll image (suc i) ps ls) where
    abbrev h : Head
    h = record { entry = entry_of i p e; next = n.at }

    this_one : ((m : ℕ) (y : MergeEntry) (s : List MergeEntry) → get_or ls m [] ≡ y ∷ s → Leq image (entry_of i p e) y) → Front image i (p ∷ ps) ((entry_of i p e ∷ l) ∷ ls) (Ok (Some h))
    this_one least =
        let z : i ≡ i + 0 = omega arith in
        taken 0 refl z (λ m y s. elim m as (λ k. get_or ((entry_of i p e ∷ l) ∷ ls) k [] ≡ y ∷ s → Leq image (entry_of i p e) y) [ zero ↦ λ g. let d : entry_of i p e ≡ y = cc in subst (Leq image (entry_of i p e)) d (leq_refl image (entry_of i p e)) | suc h ↦ least h y s ]) (part r all)

    past_by : (x : Head) (b : Bool) → ahead image (entry_of i p e) x.entry ≡ b → Front image (suc i) ps ls (Ok (Some x))
        → Front image i (p ∷ ps) ((entry_of i p e ∷ l) ∷ ls) (pick b (Ok (Some h)) (Ok (Some x)))
    unfolding pick
    past_by x true a (taken j g m least t) = this_one (λ h y s d. leq_trans (ahead_leq image (entry_of i p e) x.entry a) (least h y s d))
    past_by x false a (taken j g m least t) =
        let z : suc i + j ≡ i + suc j = omega arith in
        taken (suc j) g (m ∙ z)
        (λ h y s. elim h as (λ k. get_or ((entry_of i p e ∷ l) ∷ ls) k [] ≡ y ∷ s → Leq image x.entry y) [ zero ↦ λ d. let c : entry_of i p e ≡ y = cc in subst (Leq image x.entry) c (behind_leq image x.entry (entry_of i p e) a) | suc v ↦ least v y s ])
        (part (found q r) t)

    past-some : (f : Foremost) → Front image (suc i) ps ls f → Front image i (p ∷ ps) ((entry_of i p e ∷ l) ∷ ls) (first image (Ok (Some h)) f)
    unfolding first
    past-some f (blank d) = this_one (λ h y s g. absurd (no_front y s (sym (d h) ∙ g)))
    past-some f (taken {x} j g m least t) = past_by x _ refl (taken j g m least t)

shown-end : (i : ℕ) (p : Part) (at : ℕ) (n : Scanner) → shown i p (scanned.End at n) ≡ Ok None
unfolding shown
shown-end i p at n = refl

shown-entry : (i : ℕ) (p : Part) (e : ScanEntry) (n : Scanner) → shown i p (scanned.Entry e n) ≡ Ok (Some (record { entry = entry_of i p e; next = n.at }))
unfolding shown
shown-entry i p e n = refl

one_more : (image : List ℕ) (i : ℕ) (p : Part) (ps : List Part) (l : List MergeEntry) (ls : List (List MergeEntry)) → Reads image i p l → ReadsAll image (suc i) ps ls → (f : Foremost) → Front image (suc i) ps ls f
    → Front image i (p ∷ ps) (l ∷ ls) (first image (shown i p (scan_at image p)) f)
one_more image i p ps l ls (ended {at = at} {n = n} q) all f w = subst (λ (s : Foremost). Front image i (p ∷ ps) ([] ∷ ls) (first image s f)) (sym (ap (shown i p) q ∙ shown-end i p at n)) (past-none image i p ps ls f (ended q) w)
one_more image i p ps _ ls (found {e = e} {n = n} {l = l} q r) all f w =
    subst (λ (s : Foremost). Front image i (p ∷ ps) ((entry_of i p e ∷ l) ∷ ls) (first image s f)) (sym (ap (shown i p) q ∙ shown-entry i p e n)) (past-some image i p ps ls e n l q r all f w)

pub fronts : {image : List ℕ} {i : ℕ} {ps : List Part} {ls : List (List MergeEntry)} → ReadsAll image i ps ls → Front image i ps ls (foremost image i ps)
unfolding foremost head_of
fronts empty = blank (λ j. refl)
fronts {image} {i} (part {p = p} {ps = ps} {l = l} {ls = ls} r all) = one_more image i p ps l ls r all (foremost image (suc i) ps) (fronts all)
