-- The chunk stands in value, or is read by words.
use Rattle.std.proofs.Common.{◌+◌, ◌-◌, ◌++◌, length, arith, length-append}
use Rattle.hash.proofs.Joint.{two_in_value, two_words}
use Rattle.hash.proofs.border.JoinedText.back.Goals as goal

pub returns-then-j-n : goal.returns-then-j-n
returns-then-j-n c = let s = c.args.self.now in let e = length-append s.key.now s.value.now in two_in_value s.key.now s.value.now (length (s.key.now ++ s.value.now) - c.args.j) (length s.value.now - c.args.j) _ (omega arith) c.chunk.ensures

pub returns : goal.returns
returns c = let s = c.args.self.now in
    let e = length-append s.key.now s.value.now in
    rw e (two_words s.key.now s.value.now (length s.key.now + length s.value.now - c.args.j) (length s.key.now + length s.value.now - (c.args.j - 8)) _ _ (omega arith) c.word_back.ensures c.word_back-2.ensures)
