-- What is stored is the joined string (gathered), and its hash the callee's.
use Rattle.std.proofs.Common.{◌≡◌, ℕ, ◌+◌, ◌≤◌, List, ◌++◌, length, take, replicate, sym, refl, ap, ◌∙◌, arith, length-append}
use lib.Seq.{sets}
use Rattle.hash.specs.XXH3.{xxh3_128}
use Rattle.hash.proofs.Gather.{gathered}
use Rattle.hash.proofs.joined.gathered.Goals as goal

-- after both copies
stored : (k v b₁ b₂ : List ℕ) → b₁ ≡ sets (replicate 16 0) 0 k → b₂ ≡ sets b₁ (length k) v → length k + length v ≤ 16
    → take (length k + length v) b₂ ≡ k ++ v
stored k v b₁ b₂ p q h = gathered (replicate 16 0) b₁ b₂ k v (length k) p q (length k + length v) refl refl h

length-stored : (k v b₁ b₂ : List ℕ) → b₁ ≡ sets (replicate 16 0) 0 k → b₂ ≡ sets b₁ (length k) v → length k + length v ≤ 16
    → length (take (length k + length v) b₂) ≡ length k + length v
length-stored k v b₁ b₂ p q h = ap length (stored k v b₁ b₂ p q h) ∙ length-append k v

pub slice_bounds-upto_16-end : goal.slice_bounds-upto_16-end
slice_bounds-upto_16-end c = sym (length-stored c.args.key.now c.args.value.now c.copy.new.buf c.copy-2.new.buf c.copy.ensures c.copy-2.ensures c.requires)

pub upto_16-requires-2 : goal.upto_16-requires-2
upto_16-requires-2 c =
    omega (arith, length-stored c.args.key.now c.args.value.now c.copy.new.buf c.copy-2.new.buf c.copy.ensures c.copy-2.ensures c.requires)

pub returns : goal.returns
returns c =
    c.upto_16-2.ensures
    ∙ ap xxh3_128 (stored c.args.key.now c.args.value.now c.copy.new.buf c.copy-2.new.buf c.copy.ensures c.copy-2.ensures c.requires)
