-- What is left to copy, written on what is there, gives what is to be written on what was there.
use Rattle.std.proofs.Common.{◌≡◌, ◌+◌, ◌≤◌, length, drop}
use lib.Seq.{sets}
use Rattle.numbers.proofs.bytes.copy.Given as goal

abbrev pub invariant-loop-i : goal.invariant-loop-i
invariant-loop-i l = (sets l.buf (l.at + l.i) (drop l.i l.src) ≡ sets l.initial.buf l.at l.src) × (length l.buf ≡ length l.initial.buf) × (l.i ≤ l.n)
