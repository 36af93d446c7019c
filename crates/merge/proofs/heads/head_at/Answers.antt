-- Each answer is a case of the definition; an entry lies in its part, so its places in the image do not wrap.
use native.Mathlib.Omega.{arith}
use Rattle.merge.specs.MergeLaws.{key_in, value_in, head-entry, head-end, head-refused}
use borrow.Author.Rules.{rules}
use Rattle.merge.proofs.heads.head_at.Goals as goal

pub entry-requires-clause-key_fits : goal.entry-requires-clause-key_fits
entry-requires-clause-key_fits c =
    let k = key_in c.args.image.now c.args.p c.scan.result c.scan.ensures c.requires _ _ c.in-Entry.is in
    omega arith

pub entry-requires-clause-value_fits : goal.entry-requires-clause-value_fits
entry-requires-clause-value_fits c =
    let v = value_in c.args.image.now c.args.p c.scan.result c.scan.ensures c.requires _ _ c.in-Entry.is in
    omega arith

pub returns-in-Entry : goal.returns-in-Entry
returns-in-Entry c = search (rules, head-entry)

pub returns-in-End : goal.returns-in-End
returns-in-End c = search (rules, head-end)

pub returns-in-Refused : goal.returns-in-Refused
returns-in-Refused c = search (rules, head-refused)
