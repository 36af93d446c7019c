-- The table of parts: document 01, "The merge and the drain", and refusal 13.
use Rattle.std.specs.Prelude.{ℕ, ◌+◌, List, map, Bool, ◌&&◌, leb, take, get_or, set}
use Rattle.std.specs.List.{list_all}
use Rattle.merge.specs.declared.parts.Part.{Part}
use Rattle.merge.specs.declared.parts.MergeScanner.{MergeScanner}

-- no "part outside the image", no "merge position outside its part"
unfoldable pub inside : ℕ → Part → Bool
inside size p = leb (p.start + p.length) size && leb p.at p.length

-- so are all of these
abbrev pub all_inside : ℕ → List Part → Bool
all_inside size ps = list_all (inside size) ps

-- not "more than 16 parts", and every part inside: else 13
unfoldable pub table_ok : ℕ → MergeScanner → Bool
table_ok size m = leb m.count 16 && all_inside size (take m.count m.parts)

-- a part at another position
abbrev pub moved : ℕ → Part → Part
moved at p = record { start = p.start; length = p.length; file = p.file; at = at }

-- a merge of the first `count` parts, each from its start
unfoldable pub start_of : ℕ → List Part → MergeScanner
start_of count ps = record { count = count; parts = map (moved 0) ps }

-- stands for a part past the sixteenth
abbrev pub no_part : Part
no_part = record { start = 0; length = 0; file = 0; at = 0 }

-- the entry before `next` taken from part k
unfoldable pub taken_of : MergeScanner → ℕ → ℕ → MergeScanner
taken_of m k next = record { count = m.count; parts = set m.parts k (moved next (get_or m.parts k no_part)) }
