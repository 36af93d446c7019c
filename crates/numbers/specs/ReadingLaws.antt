-- What was got is one value from so many bytes, and was not refused.
use Rattle.std.specs.Prelude.{◌≡◌, ℕ, suc, Ok, Err}
use Rattle.std.proofs.Common.{ap, arith}
use Rattle.numbers.specs.Reading.{ReadOf, got, refused}
use Rattle.numbers.specs.declared.leb128.NumberRefusal.{NumberRefusal}

value_or : {A : Type 0} → A → ReadOf A → A
value_or other (Ok r) = r.value
value_or other (Err why) = other

used_or : {A : Type 0} → ℕ → ReadOf A → ℕ
used_or other (Ok r) = r.used
used_or other (Err why) = other

pub got-value : {A : Type 0} {x y : A} {n m : ℕ} → got x n ≡ got y m → x ≡ y
unfolding value_or
got-value {x = x} e = ap (value_or x) e

pub got-used : {A : Type 0} {x y : A} {n m : ℕ} → got x n ≡ got y m → n ≡ m
unfolding used_or
got-used e = ap (used_or 0) e

pub not_got : {A B : Type 0} {x : A} {n : ℕ} {why : NumberRefusal} → refused why ≡ got x n → B
unfolding used_or
not_got {n = n} e = let z : suc n ≡ n = ap (used_or (suc n)) e in absurd (omega arith)
