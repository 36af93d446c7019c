-- A word that lies in a part of a list is a word of the part; so lists that agree on a part have the same words there.
use Rattle.std.proofs.Common.{◌≡◌, ℕ, zero, suc, ◌+◌, ◌*◌, ◌≤◌, List, [], ◌∷◌, take, drop, sym, refl, ap, ◌∙◌, not-suc-le-zero, arith, drop-drop}
use Rattle.numbers.specs.Le.{num}

pub num-take : (n m : ℕ) (l : List ℕ) → n ≤ m → num n (take m l) ≡ num n l
unfolding num
num-take zero m l h = refl
num-take (suc n) zero l h = absurd (not-suc-le-zero h)
num-take (suc n) (suc m) [] h = refl
num-take (suc n) (suc m) (b ∷ bs) h = ap (λ (x : ℕ). b + 256 * x) (num-take n m bs (omega arith))

word_take : (k n : ℕ) (l : List ℕ) → k + 8 ≤ n → num 8 (drop k (take n l)) ≡ num 8 (drop k l)
word_take zero n l h = num-take 8 n l (omega arith)
word_take (suc k) zero l h = absurd (omega arith)
word_take (suc k) (suc n) [] h = refl
word_take (suc k) (suc n) (b ∷ bs) h = word_take k n bs (omega arith)

pub same_words : (a b : List ℕ) (i j n : ℕ) → take n (drop i a) ≡ take n (drop j b) → (k : ℕ) → k + 8 ≤ n → num 8 (drop (i + k) a) ≡ num 8 (drop (j + k) b)
same_words a b i j n e k h =
    ap (num 8) (sym (drop-drop k i a))
    ∙ sym (word_take k n (drop i a) h)
    ∙ ap (λ (l : List ℕ). num 8 (drop k l)) e
    ∙ word_take k n (drop j b) h
    ∙ ap (num 8) (drop-drop k j b)
