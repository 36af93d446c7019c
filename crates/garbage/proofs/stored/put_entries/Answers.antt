-- So far the buffer holds the entries so far.
use Rattle.std.proofs.Common.{refl}
use Rattle.garbage.proofs.Sound.{cols}
use Rattle.garbage.proofs.Storing.{put_more, put_none}
use Rattle.garbage.proofs.stored.put_entries.Goals as goal

pub loop-i-init : goal.loop-i-init
loop-i-init c = put_none (cols c.args.ids.now c.args.frames.now c.args.stated.now c.args.disk.now) c.args.buf.now

pub loop-i-preserved : goal.loop-i-preserved
loop-i-preserved c = put_more (cols c.args.ids.now c.args.frames.now c.args.stated.now c.args.disk.now) c.loop-i.i c.args.buf.now c.loop-i.buf _ _ c.loop-i.invariant refl c.put_entry.ensures
