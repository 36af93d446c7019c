-- What reading finds: a value and how many bytes it was read from, or a refusal.
use Rattle.std.specs.Prelude.{ℕ, Result, Ok, Err}
use Rattle.numbers.specs.declared.leb128.NumberRefusal.{NumberRefusal}
use Rattle.numbers.specs.declared.leb128.Decoded.{Decoded}

abbrev pub ReadOf : Type 0 → Type 0
ReadOf A = Result (Decoded A) NumberRefusal

-- a number, at any width
abbrev pub Reading : Type 0
Reading = ReadOf ℕ

abbrev pub got : {A : Type 0} → A → ℕ → ReadOf A
got value used = Ok (record { value = value; used = used })

abbrev pub refused : {A : Type 0} → NumberRefusal → ReadOf A
refused why = Err why
