-- The word stands in value, in key, or across.
use Rattle.std.proofs.Common.{◌+◌, ◌-◌, length, arith}
use Rattle.hash.proofs.Joint.{in_key, joint_at}
use Rattle.hash.proofs.border.Joined.word_back.Goals as goal

pub returns-then-n-j : goal.returns-then-n-j
returns-then-n-j c = let s = c.args.self.now in in_key s.key.now s.value.now (length s.key.now + length s.value.now - c.args.j) (length s.key.now - (c.args.j - length s.value.now)) _ (omega arith) (omega arith) c.read64-then-n-j.ensures

pub returns : goal.returns
returns c = let s = c.args.self.now in joint_at s.key.now s.value.now s.end s.head (c.args.j - length s.value.now) (length s.key.now + length s.value.now - c.args.j) _ s.key_octets s.value_octets s.ends s.begins (omega arith) (omega arith) (omega arith) c.joint.ensures
