-- What is left to copy, written on what is there, gives what is to be written on what was there.
use Rattle.std.proofs.Common.{◌≡◌, ℕ, ◌+◌, ◌-◌, ◌<◌, ◌≤◌, min, Bool, true, false, leb, List, [], length, get_or, drop, set, sym, refl, ◌∙◌, add-zero, add-one, arith, drop_of_length-le, drop-cons, rules, leb-false, leb-true}
use lib.Seq.{sets}
use Rattle.numbers.specs.LeLaws.{sets-out}
use Rattle.numbers.proofs.bytes.copy.Goals as goal

turn : (b s : List ℕ) (at i : ℕ) → i < length s → sets (set b (at + i) (get_or s i 0)) (at + (i + 1)) (drop (i + 1) s) ≡ sets b (at + i) (drop i s)
turn b s at i h =
    let e : at + (i + 1) ≡ at + i + 1 = omega arith in
    rw e (simp add-one (rw (drop-cons s i 0)))

-- nothing is left, or nothing of it lies inside
over : (b s : List ℕ) (at i : ℕ) → min (length s) (length b - at) ≤ i → sets b (at + i) (drop i s) ≡ b
over b s at i h = go (leb (length s) i) refl
  where
    go : (t : Bool) → leb (length s) i ≡ t → sets b (at + i) (drop i s) ≡ b
    go true t = let e : drop i s ≡ [] = drop_of_length-le s (leb-true (length s) i t) in rw e
    go false t = sets-out (drop i s) b (at + i) (let k = leb-false (length s) i t in omega arith)

pub loop-i-init : goal.loop-i-init
loop-i-init c = (rw (add-zero c.args.at), refl, search rules)

pub loop-i-preserved : goal.loop-i-preserved
loop-i-preserved c = let l = c.loop-i in
    let a = c.args in
    (turn l.buf a.src.now a.at l.i (search rules) ∙ l.invariant.0, search rules, search rules)

pub returns : goal.returns
returns c = let l = c.loop-i in
    let a = c.args in
    sym (over l.buf a.src.now a.at l.i (search rules)) ∙ l.invariant.0
