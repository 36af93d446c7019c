-- An empty key adds nothing.
use Rattle.hash.proofs.Classes.{no_key}
use Rattle.std.proofs.Common.{rules}
use Rattle.hash.proofs.joined.from_241.Goals as goal

pub returns-then-key-eq0 : goal.returns-then-key-eq0
returns-then-key-eq0 c = search (rules, no_key)
