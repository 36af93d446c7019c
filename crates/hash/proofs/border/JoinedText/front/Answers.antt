-- The chunk stands in key, or in value, or is read by words.
use Rattle.std.proofs.Common.{◌+◌, ◌-◌, length, refl, arith}
use Rattle.hash.proofs.Joint.{two_in_key, two_in_value, two_words}
use Rattle.hash.proofs.border.JoinedText.front.Goals as goal

pub returns-then-i-m : goal.returns-then-i-m
returns-then-i-m c = let s = c.args.self.now in two_in_key s.key.now s.value.now c.args.i _ (omega arith) c.chunk.ensures

pub returns-then-m-i : goal.returns-then-m-i
returns-then-m-i c = let s = c.args.self.now in two_in_value s.key.now s.value.now c.args.i (c.args.i - length s.key.now) _ (omega arith) c.chunk-then-m-i.ensures

pub returns : goal.returns
returns c = let s = c.args.self.now in two_words s.key.now s.value.now c.args.i (c.args.i + 8) _ _ refl c.word.ensures c.word-2.ensures
