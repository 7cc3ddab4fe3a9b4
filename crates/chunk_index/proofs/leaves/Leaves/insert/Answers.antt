use Rattle.std.proofs.Common.{◌∙◌, length, sym, ap, subst, arith}
use Rattle.chunk_index.specs.Nodes.{AreLeaves, entries_in, bounds_in}
use Rattle.chunk_index.specs.Places.{IsPlaceOf, added, changed}
use Rattle.chunk_index.proofs.Added.{IsAdded, added_leaves}
use Rattle.chunk_index.proofs.Changes.{length_with}
use Rattle.chunk_index.proofs.Left.{content_is}
use Rattle.chunk_index.proofs.Placed.{can_take}
use Rattle.chunk_index.proofs.leaves.Leaves.insert.Goals as goal

pub add_at-requires : goal.add_at-requires
add_at-requires c =
    let nodes = c.self.inside.nodes.items in
    let place : IsPlaceOf nodes c.args.e c.place_of-at.result = rw c.deref.ensures.value at c.place_of-at.ensures in
    can_take nodes c.args.e c.place_of-at.result c.self.invariant.0 place.within (rw (← c.self.view_is) at c.requires)

pub invariant_of-self-2 : goal.invariant_of-self-2
invariant_of-self-2 c =
    let nodes = c.self.inside.nodes.items in
    let place : IsPlaceOf nodes c.args.e c.place_of-at.result = rw c.deref.ensures.value at c.place_of-at.ensures in
    let more : IsAdded nodes (changed (added c.args.e) nodes c.place_of-at.result) c.args.e = added_leaves nodes c.args.e c.place_of-at.result c.self.invariant.0 place (rw (← c.self.view_is) at c.requires) in
    rw c.in_ok-add_at.ensures.added (more.leaves, omega (arith, c.self.invariant.1, c.in_ok-count.ensures, ap length more.entries, length_with c.args.e (entries_in nodes)))

pub returns-clause-entries : goal.returns-clause-entries
returns-clause-entries c =
    let nodes = c.self.inside.nodes.items in
    let place : IsPlaceOf nodes c.args.e c.place_of-at.result = rw c.deref.ensures.value at c.place_of-at.ensures in
    let more : IsAdded nodes (changed (added c.args.e) nodes c.place_of-at.result) c.args.e = added_leaves nodes c.args.e c.place_of-at.result c.self.invariant.0 place (rw (← c.self.view_is) at c.requires) in
    rw (← c.self.view_is) (ap entries_in c.in_ok-add_at.ensures.added ∙ more.entries)

pub returns-clause-bounds : goal.returns-clause-bounds
returns-clause-bounds c =
    let nodes = c.self.inside.nodes.items in
    let place : IsPlaceOf nodes c.args.e c.place_of-at.result = rw c.deref.ensures.value at c.place_of-at.ensures in
    let more : IsAdded nodes (changed (added c.args.e) nodes c.place_of-at.result) c.args.e = added_leaves nodes c.args.e c.place_of-at.result c.self.invariant.0 place (rw (← c.self.view_is) at c.requires) in
    rw (← c.self.view_is) (ap bounds_in c.in_ok-add_at.ensures.added ∙ more.bounds)

pub returns-clause-sound : goal.returns-clause-sound
returns-clause-sound c =
    let nodes = c.self.inside.nodes.items in
    let place : IsPlaceOf nodes c.args.e c.place_of-at.result = rw c.deref.ensures.value at c.place_of-at.ensures in
    let more : IsAdded nodes (changed (added c.args.e) nodes c.place_of-at.result) c.args.e = added_leaves nodes c.args.e c.place_of-at.result c.self.invariant.0 place (rw (← c.self.view_is) at c.requires) in
    content_is c.add_at.new.nodes.items (subst AreLeaves (sym c.in_ok-add_at.ensures.added) more.leaves)
