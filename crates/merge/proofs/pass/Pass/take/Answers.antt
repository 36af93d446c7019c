-- The head of the part is scanned anew, and its path climbed.
use Rattle.std.proofs.Common.{arith}
use Rattle.merge.specs.PassLaws.{going_index, going_part, going-inside, going_opened, going_on}
use Rattle.merge.proofs.pass.Pass.take.Goals as goal

pub take-requires : goal.take-requires
take-requires c = let s = c.args.self.now in
    let k = going_index s.image.now s.state s.tree s.refusal s.going c.args.first c.requires in
    omega arith

pub offset_bounds-self-k : goal.offset_bounds-self-k
offset_bounds-self-k c = let s = c.args.self.now in
    let k = going_index s.image.now s.state s.tree s.refusal s.going c.args.first c.requires in
    omega arith

pub bounds-self-k : goal.bounds-self-k
bounds-self-k c = let s = c.args.self.now in
    let k = going_index s.image.now s.state s.tree s.refusal s.going c.args.first c.requires in
    omega arith

pub head_at-shown-requires : goal.head_at-shown-requires
head_at-shown-requires c = let s = c.args.self.now in
    rw (going_part s.image.now s.state s.tree s.refusal s.going c.args.first c.requires c.take.new.self c.take.ensures) (going-inside s.image.now s.state s.tree s.refusal s.going c.args.first c.requires)

pub overflow_add-k : goal.overflow_add-k
overflow_add-k c = let s = c.args.self.now in
    let k = going_index s.image.now s.state s.tree s.refusal s.going c.args.first c.requires in
    omega arith

pub keep-self-requires : goal.keep-self-requires
keep-self-requires c = let s = c.args.self.now in
    let k = going_index s.image.now s.state s.tree s.refusal s.going c.args.first c.requires in
    omega arith

pub overflow_add-k-2 : goal.overflow_add-k-2
overflow_add-k-2 c = let s = c.args.self.now in
    let k = going_index s.image.now s.state s.tree s.refusal s.going c.args.first c.requires in
    omega arith

pub climb-requires-clause-at_leaf : goal.climb-requires-clause-at_leaf
climb-requires-clause-at_leaf c = let s = c.args.self.now in
    let k = going_index s.image.now s.state s.tree s.refusal s.going c.args.first c.requires in
    omega arith

pub climb-requires-clause-others : goal.climb-requires-clause-others
climb-requires-clause-others c = let s = c.args.self.now in
    going_opened s.image.now s.state s.tree s.refusal s.going c.args.first c.requires c.take.new.self c.take.ensures _ c.head_at-shown.ensures _ c.keep-self.ensures.leaf

pub invariant_of-self : goal.invariant_of-self
invariant_of-self c = let s = c.args.self.now in
    record {
      going = going_on s.image.now s.state s.tree s.refusal s.going c.args.first c.requires c.take.new.self c.take.ensures _ c.head_at-shown.ensures _ c.keep-self.ensures.leaf _ c.keep-self.ensures.refusal _ c.climb.ensures;
    }
