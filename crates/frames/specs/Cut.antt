-- Document 01's 7, a read that is cut short: where reading began, the bytes needed from there, the bytes present.
use Rattle.std.specs.Prelude.{ℕ}
use Rattle.numbers.specs.declared.cut.CutShort.{CutShort}

abbrev pub cut_of : ℕ → ℕ → ℕ → CutShort
cut_of at needed present = record { at = at; needed = needed; present = present }
