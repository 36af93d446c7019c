-- Key and value are stored and hashed where they lie; the header goes before them.
use Rattle.frames.specs.LayoutLaws.{frame-stored}
use borrow.Author.Rules.{rules}
use Rattle.frames.proofs.blob.Blob.put.Goals as goal

pub returns : goal.returns
returns c = search (rules, frame-stored)
