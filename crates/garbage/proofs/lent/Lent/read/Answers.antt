-- So far the map holds what the entries so far make.
use Rattle.std.proofs.Common.{rules, ◌≡◌, ap, ◌∙◌, arith, ℕ, drop, []}
use Rattle.garbage.specs.Maps.{holding}
use Rattle.garbage.specs.Stored.{entries_in, instead_all}
use Rattle.garbage.specs.Columns.{held}
use Rattle.garbage.proofs.Storing.{get_none, get_rising, get_more}
use Rattle.garbage.proofs.lent.Lent.read.Goals as goal

pub loop-i-init : goal.loop-i-init
loop-i-init c = record { same = search rules; read = get_none (held c.args.self.now) c.requires.2 c.args.s.now c.requires.3 }

pub replace-requires : goal.replace-requires
replace-requires c = get_rising (held c.args.self.now) c.requires.2 c.args.s.now c.loop-i.i (held c.loop-i.self) c.loop-i.invariant.read (omega (arith, c.requires.0))

pub loop-i-preserved : goal.loop-i-preserved
loop-i-preserved c = record {
  same = search rules;
  read = get_more (held c.args.self.now) c.requires.2 c.args.s.now c.loop-i.i (held c.loop-i.self) c.loop-i.invariant.read (held c.replace.new.self) c.get_entry.result c.get_entry.ensures c.replace.ensures.is;
}

pub returns-clause-is : goal.returns-clause-is
returns-clause-is c =
    let e : c.loop-i.i ≡ c.args.k = omega arith in
    c.loop-i.invariant.read ∙ ap (λ (j : ℕ). holding (held c.args.self.now) (instead_all (entries_in j (drop 4 c.args.s.now)) [])) e
