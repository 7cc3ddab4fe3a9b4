use Rattle.std.proofs.Common.{◌≡◌, ◌∙◌, None, [], not, suc, drop, length, count_by, refl, sym, ap, subst, arith}
use Rattle.std.proofs.lemmas.List.Filters.{length-filter_both}
use Rattle.std.proofs.lemmas.List.Sums.{length-filter, count_by-le-length}
use Rattle.chunk_index.specs.Leaves.{leaf_at, next_bound}
use Rattle.chunk_index.specs.Indexes.{is_swept}
use Rattle.chunk_index.specs.Nodes.{Node, AreLeaves, entries_in, bounds_in, first_bound}
use Rattle.chunk_index.specs.Places.{IsSweepPlace, left_by, kept, changed}
use Rattle.chunk_index.proofs.Found.{next_of}
use Rattle.chunk_index.proofs.Left.{IsLeft, content_is, left_leaves, left_count}
use Rattle.chunk_index.proofs.leaves.Leaves.sweep.Goals as goal

pub overflow_sub-self : goal.overflow_sub-self
overflow_sub-self c =
    let nodes = c.self.inside.nodes.items in
    let dead = c.args.dead.now in
    let at = c.place_at-at.result in
    let d : Node = record { bound = None; entries = [] } in
    let place : IsSweepPlace nodes c.args.from.now at = rw c.deref.ensures.value at c.place_at-at.ensures in
    let left : IsLeft nodes (changed (λ node. kept (left_by dead node)) nodes at) (leaf_at (bounds_in nodes) c.args.from.now) dead = subst (λ l. IsLeft nodes (changed (λ node. kept (left_by dead node)) nodes at) l dead) (place.leaf d) (left_leaves nodes at d dead c.self.invariant.0 place.within) in
    let counted : c.sweep_at-removed.result ≡ count_by (is_swept (bounds_in nodes) (leaf_at (bounds_in nodes) c.args.from.now) dead) (entries_in nodes) = subst (λ l. c.sweep_at-removed.result ≡ count_by (is_swept (bounds_in nodes) l dead) (entries_in nodes)) (place.leaf d) (left_count nodes at d dead c.sweep_at-removed.result c.self.invariant.0 place.within (c.sweep_at-removed.ensures.counted d)) in
    let taken = is_swept (bounds_in nodes) (leaf_at (bounds_in nodes) c.args.from.now) dead in
    omega (arith, counted, count_by-le-length taken (entries_in nodes), c.self.invariant.1)

pub invariant_of-self : goal.invariant_of-self
invariant_of-self c =
    let nodes = c.self.inside.nodes.items in
    let dead = c.args.dead.now in
    let at = c.place_at-at.result in
    let d : Node = record { bound = None; entries = [] } in
    let place : IsSweepPlace nodes c.args.from.now at = rw c.deref.ensures.value at c.place_at-at.ensures in
    let left : IsLeft nodes (changed (λ node. kept (left_by dead node)) nodes at) (leaf_at (bounds_in nodes) c.args.from.now) dead = subst (λ l. IsLeft nodes (changed (λ node. kept (left_by dead node)) nodes at) l dead) (place.leaf d) (left_leaves nodes at d dead c.self.invariant.0 place.within) in
    let counted : c.sweep_at-removed.result ≡ count_by (is_swept (bounds_in nodes) (leaf_at (bounds_in nodes) c.args.from.now) dead) (entries_in nodes) = subst (λ l. c.sweep_at-removed.result ≡ count_by (is_swept (bounds_in nodes) l dead) (entries_in nodes)) (place.leaf d) (left_count nodes at d dead c.sweep_at-removed.result c.self.invariant.0 place.within (c.sweep_at-removed.ensures.counted d)) in
    let taken = is_swept (bounds_in nodes) (leaf_at (bounds_in nodes) c.args.from.now) dead in
    rw c.sweep_at-removed.ensures.swept (left.leaves, omega (arith, counted, c.self.invariant.1, ap length left.entries, length-filter taken (entries_in nodes), length-filter_both taken (λ e. not (taken e)) (λ e. refl) (entries_in nodes)))

pub returns-clause-counted : goal.returns-clause-counted
returns-clause-counted c =
    let nodes = c.self.inside.nodes.items in
    let dead = c.args.dead.now in
    let at = c.place_at-at.result in
    let d : Node = record { bound = None; entries = [] } in
    let place : IsSweepPlace nodes c.args.from.now at = rw c.deref.ensures.value at c.place_at-at.ensures in
    let left : IsLeft nodes (changed (λ node. kept (left_by dead node)) nodes at) (leaf_at (bounds_in nodes) c.args.from.now) dead = subst (λ l. IsLeft nodes (changed (λ node. kept (left_by dead node)) nodes at) l dead) (place.leaf d) (left_leaves nodes at d dead c.self.invariant.0 place.within) in
    let counted : c.sweep_at-removed.result ≡ count_by (is_swept (bounds_in nodes) (leaf_at (bounds_in nodes) c.args.from.now) dead) (entries_in nodes) = subst (λ l. c.sweep_at-removed.result ≡ count_by (is_swept (bounds_in nodes) l dead) (entries_in nodes)) (place.leaf d) (left_count nodes at d dead c.sweep_at-removed.result c.self.invariant.0 place.within (c.sweep_at-removed.ensures.counted d)) in
    let taken = is_swept (bounds_in nodes) (leaf_at (bounds_in nodes) c.args.from.now) dead in
    rw (← c.self.view_is) counted

pub returns-clause-next : goal.returns-clause-next
returns-clause-next c =
    let nodes = c.self.inside.nodes.items in
    let dead = c.args.dead.now in
    let at = c.place_at-at.result in
    let d : Node = record { bound = None; entries = [] } in
    let place : IsSweepPlace nodes c.args.from.now at = rw c.deref.ensures.value at c.place_at-at.ensures in
    let left : IsLeft nodes (changed (λ node. kept (left_by dead node)) nodes at) (leaf_at (bounds_in nodes) c.args.from.now) dead = subst (λ l. IsLeft nodes (changed (λ node. kept (left_by dead node)) nodes at) l dead) (place.leaf d) (left_leaves nodes at d dead c.self.invariant.0 place.within) in
    let counted : c.sweep_at-removed.result ≡ count_by (is_swept (bounds_in nodes) (leaf_at (bounds_in nodes) c.args.from.now) dead) (entries_in nodes) = subst (λ l. c.sweep_at-removed.result ≡ count_by (is_swept (bounds_in nodes) l dead) (entries_in nodes)) (place.leaf d) (left_count nodes at d dead c.sweep_at-removed.result c.self.invariant.0 place.within (c.sweep_at-removed.ensures.counted d)) in
    let taken = is_swept (bounds_in nodes) (leaf_at (bounds_in nodes) c.args.from.now) dead in
    rw (← c.self.view_is) (c.next_of-next.ensures ∙ ap (λ ns. first_bound (drop (suc at) ns) None) c.deref-2.ensures.value ∙ sym (next_of nodes at d c.self.invariant.0 place.within) ∙ ap (next_bound (bounds_in nodes)) (place.leaf d))

pub returns-clause-swept : goal.returns-clause-swept
returns-clause-swept c =
    let nodes = c.self.inside.nodes.items in
    let dead = c.args.dead.now in
    let at = c.place_at-at.result in
    let d : Node = record { bound = None; entries = [] } in
    let place : IsSweepPlace nodes c.args.from.now at = rw c.deref.ensures.value at c.place_at-at.ensures in
    let left : IsLeft nodes (changed (λ node. kept (left_by dead node)) nodes at) (leaf_at (bounds_in nodes) c.args.from.now) dead = subst (λ l. IsLeft nodes (changed (λ node. kept (left_by dead node)) nodes at) l dead) (place.leaf d) (left_leaves nodes at d dead c.self.invariant.0 place.within) in
    let counted : c.sweep_at-removed.result ≡ count_by (is_swept (bounds_in nodes) (leaf_at (bounds_in nodes) c.args.from.now) dead) (entries_in nodes) = subst (λ l. c.sweep_at-removed.result ≡ count_by (is_swept (bounds_in nodes) l dead) (entries_in nodes)) (place.leaf d) (left_count nodes at d dead c.sweep_at-removed.result c.self.invariant.0 place.within (c.sweep_at-removed.ensures.counted d)) in
    let taken = is_swept (bounds_in nodes) (leaf_at (bounds_in nodes) c.args.from.now) dead in
    rw (← c.self.view_is) (λ i. record { entries = (ap entries_in c.sweep_at-removed.ensures.swept ∙ left.entries) i; bounds = (ap bounds_in c.sweep_at-removed.ensures.swept ∙ left.bounds) i })

pub returns-clause-sound : goal.returns-clause-sound
returns-clause-sound c =
    let nodes = c.self.inside.nodes.items in
    let dead = c.args.dead.now in
    let at = c.place_at-at.result in
    let d : Node = record { bound = None; entries = [] } in
    let place : IsSweepPlace nodes c.args.from.now at = rw c.deref.ensures.value at c.place_at-at.ensures in
    let left : IsLeft nodes (changed (λ node. kept (left_by dead node)) nodes at) (leaf_at (bounds_in nodes) c.args.from.now) dead = subst (λ l. IsLeft nodes (changed (λ node. kept (left_by dead node)) nodes at) l dead) (place.leaf d) (left_leaves nodes at d dead c.self.invariant.0 place.within) in
    let counted : c.sweep_at-removed.result ≡ count_by (is_swept (bounds_in nodes) (leaf_at (bounds_in nodes) c.args.from.now) dead) (entries_in nodes) = subst (λ l. c.sweep_at-removed.result ≡ count_by (is_swept (bounds_in nodes) l dead) (entries_in nodes)) (place.leaf d) (left_count nodes at d dead c.sweep_at-removed.result c.self.invariant.0 place.within (c.sweep_at-removed.ensures.counted d)) in
    let taken = is_swept (bounds_in nodes) (leaf_at (bounds_in nodes) c.args.from.now) dead in
    content_is c.sweep_at-removed.new.nodes.items (subst AreLeaves (sym c.sweep_at-removed.ensures.swept) left.leaves)
