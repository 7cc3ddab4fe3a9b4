use Rattle.std.proofs.Common.{sym, subst, List, [], ◌∷◌}
use Rattle.chunk_index.specs.declared.entry.Entry.{Entry}
use Rattle.chunk_index.specs.Entries.{wanted_of}
use Rattle.chunk_index.specs.Indexes.{IsLeaf}
use Rattle.chunk_index.specs.Places.{first_leaf}
use Rattle.chunk_index.proofs.Sound.{sound_pin}
use Rattle.chunk_index.proofs.Splits.{own_is_leaf}
use Rattle.chunk_index.proofs.index.ChunkIndex.batch.Goals as goal

-- what is pinned is a leaf
first_is_leaf : (bounds wanted : List Entry) → IsLeaf bounds (first_leaf bounds wanted)
first_is_leaf bounds [] = tt
first_is_leaf bounds (first ∷ rest) = own_is_leaf bounds first

pub invariant_of-self-2 : goal.invariant_of-self-2
invariant_of-self-2 c =
    let old = c.self.inside.leaves in
    let wanted = wanted_of c.args.value_id c.args.from c.args.to c.args.after old.entries in
    let is_leaf : IsLeaf old.bounds c.in_ok-batch.leaf = subst (IsLeaf old.bounds) (sym c.in_ok-batch.ensures.leaf) (first_is_leaf old.bounds wanted) in
    rw c.in_ok-pin.ensures.pinned (sound_pin old.entries old.bounds c.self.inside.pins c.args.session c.in_ok-batch.leaf (rw (← c.self.view_is) at c.requires) is_leaf c.self.invariant)

pub returns-clause-sound : goal.returns-clause-sound
returns-clause-sound c =
    let old = c.self.inside.leaves in
    let wanted = wanted_of c.args.value_id c.args.from c.args.to c.args.after old.entries in
    let is_leaf : IsLeaf old.bounds c.in_ok-batch.leaf = subst (IsLeaf old.bounds) (sym c.in_ok-batch.ensures.leaf) (first_is_leaf old.bounds wanted) in
    rw c.in_ok-pin.ensures.pinned (sound_pin old.entries old.bounds c.self.inside.pins c.args.session c.in_ok-batch.leaf (rw (← c.self.view_is) at c.requires) is_leaf c.self.invariant)
