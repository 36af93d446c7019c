-- The two runs of stores fill the array with the part around the seam (across-seam).
use Rattle.std.proofs.Common.{◌-◌, length, replicate, sym, refl, arith, length-take-le}
use Rattle.hash.proofs.Gather.{across-seam}
use Rattle.hash.proofs.joined.across.Goals as goal

pub slice_bounds-copy-length-2 : goal.slice_bounds-copy-length-2
slice_bounds-copy-length-2 c = let a = c.args in sym (length-take-le (64 - (length a.s.now.key.now - a.i)) a.s.now.value.now (omega arith))

pub returns : goal.returns
returns c = let s = c in let a = s.args in across-seam a.s.now.key.now a.s.now.value.now a.i (length a.s.now.key.now - a.i) refl s.requires.0 s.requires.1 s.requires.2 (replicate 64 0) _ _ refl c.copy.ensures c.copy-2.ensures
