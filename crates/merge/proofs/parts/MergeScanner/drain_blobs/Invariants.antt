-- What is left, drained, is the whole drained; the bytes left fall.
use Rattle.std.proofs.Common.{◌≡◌, suc}
use Rattle.merge.specs.Drain.{drain_in, drain_of, left}
use Rattle.merge.proofs.parts.MergeScanner.drain_blobs.Given as goal

abbrev pub invariant-loop-first : goal.invariant-loop-first
invariant-loop-first l = record {
  image : l.pass.image.now ≡ l.image;
  whole : drain_in (suc (left l.pass.state)) l.image l.key l.handle l.pass.state ≡ drain_of l.fn.self l.image l.key l.handle;
}

abbrev pub decreases-loop-first : goal.decreases-loop-first
decreases-loop-first l = left l.pass.state
