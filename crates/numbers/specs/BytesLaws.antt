-- The library's bytes of a number, at any width, are those of `le`, and its number of bytes is that of `num`.
use Rattle.std.specs.Prelude.{◌≡◌, ℕ, zero, suc, ◌+◌, ◌*◌, ◌/◌, ◌%◌, ◌^◌, List, [], ◌∷◌, slice_index, refl}
use Rattle.std.proofs.Common.{sym, ap, ◌∙◌, arith, pow-suc, div-one}
use Rattle.std.proofs.Math.Nat.{div-div-eq-div-mul}
use Rattle.std.proofs.lemmas.List.Edits.{sets}
use Rattle.std.specs.Int.{w16, w32, w64, from_le_bytes, byte_at, byte_worth, bytes_low_first, sum_through}
use Rattle.numbers.specs.Le.{le, num, padded}
use Rattle.numbers.specs.LeLaws.{num_nil}

-- one byte more, the highest
num_last : (n : ℕ) (s : List ℕ) → num (suc n) s ≡ num n s + slice_index s n * 256 ^ n
unfolding num
num_last zero [] = refl
num_last zero (b ∷ bs) = omega arith
num_last (suc n) [] = omega arith
num_last (suc n) (b ∷ bs) =
    let e = num_last n bs in
    rw (pow-suc 256 n) (omega arith)

-- the number of n + 1 bytes
pub read_is-num : (n : ℕ) (s : List ℕ) → sum_through (λ i. byte_worth i (slice_index s i)) n ≡ num (suc n) s
unfolding num
read_is-num zero [] = refl
read_is-num zero (b ∷ bs) = omega arith
read_is-num (suc n) s = rw (read_is-num n s) (sym (num_last (suc n) s))

byte_at-power : (i x : ℕ) → byte_at i x ≡ x / 256 ^ i % 256
byte_at-power zero x = rw (div-one x)
byte_at-power (suc i) x = refl

-- k bytes, from byte i upward
pub written_from : (i k x : ℕ) → bytes_low_first i k x ≡ le k (x / 256 ^ i)
unfolding le
written_from i zero x = refl
written_from i (suc k) x =
    let e : x / 256 ^ suc i ≡ x / 256 ^ i / 256 = rw (pow-suc 256 i) (sym (div-div-eq-div-mul x (256 ^ i) 256)) in
    rw (byte_at-power i x, written_from (suc i) k x, e)

-- the k bytes of a number
pub written_is-le : (k x : ℕ) → bytes_low_first 0 k x ≡ le k x
written_is-le k x = written_from 0 k x ∙ ap (le k) (div-one x)

-- zeros after the bytes that are there change no number
pub num-padded : (n : ℕ) (s : List ℕ) → num n (padded n s) ≡ num n s
unfolding num padded
num-padded zero s = refl
num-padded (suc n) [] = omega (arith, num-padded n [], num_nil n)
num-padded (suc n) (b ∷ bs) = omega (arith, num-padded n bs)

-- the library's number of the first bytes, those that are missing as 0
pub reads_two : (r : ℕ) (l s : List ℕ) → r ≡ from_le_bytes w16 l → l ≡ padded 2 s → r ≡ num 2 s
reads_two r l s e f = e ∙ read_is-num 1 l ∙ ap (num 2) f ∙ num-padded 2 s

pub reads_four : (r : ℕ) (l s : List ℕ) → r ≡ from_le_bytes w32 l → l ≡ padded 4 s → r ≡ num 4 s
reads_four r l s e f = e ∙ read_is-num 3 l ∙ ap (num 4) f ∙ num-padded 4 s

pub reads_eight : (r : ℕ) (l s : List ℕ) → r ≡ from_le_bytes w64 l → l ≡ padded 8 s → r ≡ num 8 s
reads_eight r l s e f = e ∙ read_is-num 7 l ∙ ap (num 8) f ∙ num-padded 8 s

-- the library's k bytes of a number, laid at a place
pub laid : (k x y at to : ℕ) (b b' l : List ℕ) → b' ≡ sets b to l → l ≡ bytes_low_first 0 k y → to ≡ at → y ≡ x → b' ≡ sets b at (le k x)
laid k x y at to b b' l e f g h = e ∙ rw (g, f, h) (ap (sets b at) (written_is-le k x))
