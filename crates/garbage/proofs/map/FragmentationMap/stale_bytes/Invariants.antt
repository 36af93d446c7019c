-- What is summed so far and what is left add up to the whole sum.
use Rattle.std.proofs.Common.{◌≡◌, ◌<◌, ◌^◌, ◌+◌, ◌-◌}
use Rattle.garbage.specs.Maps.{rows}
use Rattle.garbage.specs.Merges.{disk_sum}
use Rattle.garbage.proofs.Pruning.{only}
use Rattle.garbage.proofs.map.FragmentationMap.stale_bytes.Given as goal

abbrev pub invariant-loop-bytes : goal.invariant-loop-bytes
invariant-loop-bytes l = record {
  small : l.total < 2 ^ 64;
  left : l.total + disk_sum (rows (only l.fn.self.disk) l.bytes-index (l.fn.self.count - l.bytes-index)) ≡ disk_sum (rows (only l.fn.self.disk) 0 l.fn.self.count);
}
