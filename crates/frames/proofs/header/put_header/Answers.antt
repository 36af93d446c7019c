-- Seven stores, one after another, are the header's bytes.
use Rattle.frames.specs.LayoutLaws.{header-stored}
use Rattle.frames.proofs.header.put_header.Goals as goal

pub returns : goal.returns
returns c = header-stored _ _ _ _ _ _ _ _ _ _
    c.put.ensures c.put-2.ensures c.put-3.ensures c.put-4.ensures c.put-5.ensures c.put-6.ensures c.put-7.ensures
