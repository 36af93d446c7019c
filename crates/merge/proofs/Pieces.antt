-- What a scan finds in the piece of the bytes that it is given, and an array mapped, over plain variables.
use Rattle.std.proofs.Common.{◌≡◌, ℕ, ◌<◌, List, length, map, take, drop, sym, ◌∙◌, arith}
use Rattle.std.proofs.lemmas.List.{ext_get_or, get_or-map, length-map}
use Rattle.std.specs.Array.{IsMapOf}
use Rattle.std.specs.Fn.{Called}
use denote.Param.Members.{Mut}
use Rattle.frames.specs.Scan.{going, step_of}
use Rattle.frames.specs.Scan.{Scanned}
use Rattle.merge.specs.Merge.{scan_at}
use Rattle.merge.specs.declared.parts.Part.{Part}

-- a step on the part's bytes, at its position
pub scan_law : (image file : List ℕ) (p : Part) (r : Scanned) → file ≡ take p.length (drop p.start image) → r ≡ step_of file (going p.at) → r ≡ scan_at image p
unfolding scan_at
scan_law image file p r e h = rw (h, e)

-- a map of an array, by what one call of its closure gives
pub mapped : {F A B : Type 0} (g : Mut F (A × Unit {0}) B) (f : F) (xs : List A) (ys : List B) (n : ℕ) (h : A → B) (d : A) → IsMapOf g f xs ys n → length xs ≡ n
    → ((p q : F) (x : A) (y : B) → Called g p (x, tt) y q → y ≡ h x) → ys ≡ map h xs
mapped g f xs ys n h d m l each =
    ext_get_or (h d) ys (map h xs) (m.long ∙ sym (length-map xs h ∙ l)) (λ i k.
    let q = m.long in
    let z : i < n = omega arith in
    let c = m.at i d (h d) z in
    each c.0 c.1 _ _ c.2 ∙ sym (get_or-map h xs i d (h d) (omega arith)))
