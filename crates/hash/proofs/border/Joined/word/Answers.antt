-- The word stands in value, in key, or across.
use Rattle.std.proofs.Common.{◌-◌, length, refl, arith}
use Rattle.hash.proofs.Joint.{in_key, joint_at}
use Rattle.hash.proofs.border.Joined.word.Goals as goal

pub returns-then-i-m : goal.returns-then-i-m
returns-then-i-m c = let s = c.args.self.now in in_key s.key.now s.value.now c.args.i c.args.i _ (omega arith) refl c.read64-then-i-m.ensures

pub returns : goal.returns
returns c = let s = c.args.self.now in joint_at s.key.now s.value.now s.end s.head (length s.key.now - c.args.i) c.args.i _ s.key_octets s.value_octets s.ends s.begins (omega arith) (omega arith) (omega arith) c.joint.ensures
