-- The record is the definition, field by field.
use Rattle.frames.proofs.Fields.{header_law}
use borrow.Author.Rules.{rules}
use Rattle.frames.proofs.header.read_header.Goals as goal

pub returns : goal.returns
returns c = search (rules, header_law)
