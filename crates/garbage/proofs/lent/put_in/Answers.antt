-- The element put in is carried upwards from its place: below j the list with it stands already, from j on what was there.
use Prim.Native.Nat.{ℕ, zero, suc, ◌+◌, ◌≤◌, ◌<◌}
use mathlib.Core.Path.{◌≡◌, refl, ◌∙◌, ap}
use mathlib.Core.List.{List, [], ◌∷◌, ◌++◌}
use lib.ListN.{length, take, drop, get_or}
use native.Mathlib.Omega.{arith}
use Rattle.garbage.proofs.Insert.{put, put_start, put_first, again}
use Rattle.garbage.proofs.lent.put_in.Goals as goal

any_default : {A : Type 0} (xs : List A) (j : ℕ) (d e : A) → j < length xs → get_or xs j d ≡ get_or xs j e
any_default [] j d e h = absurd (omega arith)
any_default (x ∷ xs) zero d e h = refl
any_default (x ∷ xs) (suc j) d e h = any_default xs j d e (omega arith)

pub loop-j-init : goal.loop-j-init
loop-j-init g c = let h : c.args.i ≤ length c.args.column.now = omega arith in
    (put_start c.args.column.now c.args.i c.args.x c.args.x h, put_first c.args.column.now c.args.i c.args.x c.args.x h)

pub loop-j-preserved : goal.loop-j-preserved
loop-j-preserved g c = let s = c.args in
    let l = c.loop-j in
    let r = again s.column.now s.i s.x s.x l.column l.carried l.j (omega arith) (omega arith) (omega arith) l.invariant.0 l.invariant.1 in
    (r.0, c.index-column-j.is ∙ any_default l.column l.j c.index-column-j.result s.x (omega arith) ∙ r.1)

pub returns : goal.returns
returns g c = let s = c.args in
    let e : c.loop-j.j ≡ s.n + 1 = omega arith in
    c.loop-j.invariant.0 ∙ ap (λ (k : ℕ). take k (put s.column.now s.i s.x) ++ drop k s.column.now) e
