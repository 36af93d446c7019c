-- More than 240 bytes of key and value: the accumulation of Whole, with the length of the joined string spelled as a sum.
use Rattle.std.proofs.Common.{◌≡◌, ℕ, ◌+◌, ◌-◌, ◌/◌, ◌<◌, List, ◌++◌, length, sym, ap, ◌∙◌, arith, length-append}
use Rattle.hash.specs.Notation.{u64s}
use Rattle.hash.specs.Secret.{secret_length}
use Rattle.hash.specs.Large.{acc_large, accumulate}
use Rattle.hash.specs.ShapeLong.{stripes_of, finish_of}
use Rattle.hash.specs.XXH3.{xxh3_128}
use Rattle.hash.specs.declared.Hash128.{Hash128}
use Rattle.hash.proofs.Classes.{is-more}
use Rattle.hash.proofs.Whole.{merged_law}

module _ (k v : List ℕ) where
  pub large-joined : (n : ℕ) (a b : List ℕ) (r : Hash128) → 240 < length k + length v → n ≡ length (k ++ v) → a ≡ stripes_of (k ++ v) 0 0 ((length k + length v - 1) / 64) acc_large → b ≡ accumulate (u64s (k ++ v) (length k + length v - 64)) (secret_length - 71) a
      → r ≡ finish_of n b → r ≡ xxh3_128 (k ++ v)
  large-joined n a b r m en ea eb er =
      let e : n ≡ length k + length v = en ∙ length-append k v in
      is-more (k ++ v) r (omega (arith, length-append k v)) (merged_law (k ++ v) (length k + length v) a b r (sym (length-append k v)) ea eb (er ∙ ap (λ (o : ℕ). finish_of o b) e))
