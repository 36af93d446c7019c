-- `part` promises the bytes and the place of the value.
use Rattle.frames.proofs.reader.value.Goals as goal

pub returns : goal.returns
returns c = λ i. record { place = c.part.ensures.1 i; bytes = c.part.ensures.0 i }
