-- The step's promise on the part's bytes is the definition.
use Rattle.merge.proofs.Pieces.{scan_law}
use borrow.Author.Rules.{rules}
use Rattle.merge.proofs.heads.scan.Goals as goal

pub returns : goal.returns
returns c = search (rules, scan_law)
