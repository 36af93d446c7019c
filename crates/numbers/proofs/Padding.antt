-- A padded list, byte by byte.
use Rattle.std.specs.Prelude.{◌≡◌, ℕ, zero, suc, ◌<◌, List, [], ◌∷◌, length, get_or, map, refl}
use Rattle.std.proofs.Common.{ap, arith}
use Rattle.std.specs.List.{range_with_len}
use Rattle.std.proofs.lemmas.List.FromFn.{fill_by_all}
use Rattle.numbers.specs.Le.{padded}

length-padded : (n : ℕ) (l : List ℕ) → length (padded n l) ≡ n
unfolding padded
length-padded zero l = refl
length-padded (suc n) [] = ap suc (length-padded n [])
length-padded (suc n) (b ∷ bs) = ap suc (length-padded n bs)

byte-at : (n k : ℕ) (l : List ℕ) → k < n → get_or (padded n l) k 0 ≡ get_or l k 0
unfolding padded
byte-at zero k l h = absurd (omega arith)
byte-at (suc n) zero [] h = refl
byte-at (suc n) zero (b ∷ bs) h = refl
byte-at (suc n) (suc k) [] h = byte-at n k [] (omega arith)
byte-at (suc n) (suc k) (b ∷ bs) h = byte-at n k bs (omega arith)

pub padded_at : (n : ℕ) (l : List ℕ) → padded n l ≡ map (λ i. get_or l i 0) (range_with_len 0 n)
padded_at n l = fill_by_all (λ i. get_or l i 0) (padded n l) n 0 (length-padded n l) (λ k h. byte-at n k l h)
