use Rattle.std.proofs.Common.{◌≡◌, ℕ, ◌<◌, ◌+◌, ◌∙◌, [], length, nat_lt, get_or, suc, drop, refl, sym, ap, subst, arith}
use Rattle.std.specs.List.Sorted.{IsStrictlySortedBy}
use Rattle.std.proofs.lemmas.Bool.{eqb-true, eqb-false}
use Rattle.std.proofs.lemmas.List.{nil_from_length}
use Rattle.chunk_index.specs.declared.entry.Batch.{Batch}
use Rattle.chunk_index.specs.Entries.{entry_cmp, wanted_of}
use Rattle.chunk_index.specs.Nodes.{Node, entries_in, bounds_in}
use Rattle.chunk_index.specs.Places.{reaches_on}
use Rattle.chunk_index.proofs.Found.{nothing_wanted_in, batch_at, batch_none, some_at, none_at}
use Rattle.chunk_index.proofs.Placed.{node_in_order}
use Rattle.chunk_index.proofs.leaves.Leaves.batch.Goals as goal

pub returns-in_default-clause-entries : goal.returns-in_default-clause-entries
returns-in_default-clause-entries c =
    let wanted = c.args.wanted.now in
    let nodes = c.self.inside.nodes.items in
    let none : wanted_of wanted.value_id wanted.from wanted.to wanted.after (entries_in nodes) ≡ [] = nothing_wanted_in wanted.value_id wanted.from wanted.to wanted.after nodes c.passed-at.result (rw c.deref.ensures.value at c.passed-at.ensures) (none_at nodes c.passed-at.result (rw c.deref-2.ensures.value at c.in_default.ensures)) in
    let told = batch_none (bounds_in nodes) (wanted_of wanted.value_id wanted.from wanted.to wanted.after (entries_in nodes)) c.none.result.entries c.none.result.more none (ap (λ (b : Batch). b.entries) c.none.ensures) (ap (λ (b : Batch). b.more) c.none.ensures) in
    rw (← c.self.view_is) told.0

pub returns-in_default-clause-more : goal.returns-in_default-clause-more
returns-in_default-clause-more c =
    let wanted = c.args.wanted.now in
    let nodes = c.self.inside.nodes.items in
    let none : wanted_of wanted.value_id wanted.from wanted.to wanted.after (entries_in nodes) ≡ [] = nothing_wanted_in wanted.value_id wanted.from wanted.to wanted.after nodes c.passed-at.result (rw c.deref.ensures.value at c.passed-at.ensures) (none_at nodes c.passed-at.result (rw c.deref-2.ensures.value at c.in_default.ensures)) in
    let told = batch_none (bounds_in nodes) (wanted_of wanted.value_id wanted.from wanted.to wanted.after (entries_in nodes)) c.none.result.entries c.none.result.more none (ap (λ (b : Batch). b.entries) c.none.ensures) (ap (λ (b : Batch). b.more) c.none.ensures) in
    rw (← c.self.view_is) told.1

pub returns-in_default-clause-leaf : goal.returns-in_default-clause-leaf
returns-in_default-clause-leaf c =
    let wanted = c.args.wanted.now in
    let nodes = c.self.inside.nodes.items in
    let none : wanted_of wanted.value_id wanted.from wanted.to wanted.after (entries_in nodes) ≡ [] = nothing_wanted_in wanted.value_id wanted.from wanted.to wanted.after nodes c.passed-at.result (rw c.deref.ensures.value at c.passed-at.ensures) (none_at nodes c.passed-at.result (rw c.deref-2.ensures.value at c.in_default.ensures)) in
    let told = batch_none (bounds_in nodes) (wanted_of wanted.value_id wanted.from wanted.to wanted.after (entries_in nodes)) c.none.result.entries c.none.result.more none (ap (λ (b : Batch). b.entries) c.none.ensures) (ap (λ (b : Batch). b.more) c.none.ensures) in
    rw (← c.self.view_is) told.2

pub returns-in_default-clause-none : goal.returns-in_default-clause-none
returns-in_default-clause-none c =
    let wanted = c.args.wanted.now in
    let nodes = c.self.inside.nodes.items in
    let none : wanted_of wanted.value_id wanted.from wanted.to wanted.after (entries_in nodes) ≡ [] = nothing_wanted_in wanted.value_id wanted.from wanted.to wanted.after nodes c.passed-at.result (rw c.deref.ensures.value at c.passed-at.ensures) (none_at nodes c.passed-at.result (rw c.deref-2.ensures.value at c.in_default.ensures)) in
    let told = batch_none (bounds_in nodes) (wanted_of wanted.value_id wanted.from wanted.to wanted.after (entries_in nodes)) c.none.result.entries c.none.result.more none (ap (λ (b : Batch). b.entries) c.none.ensures) (ap (λ (b : Batch). b.more) c.none.ensures) in
    rw (← c.self.view_is) (λ empty. none)

pub among-own-requires : goal.among-own-requires
among-own-requires c =
    let nodes = c.self.inside.nodes.items in
    let found = some_at nodes c.passed-at.result c.in-Some.node.now (rw c.deref-2.ensures.value at c.in-Some.ensures) in
    subst (IsStrictlySortedBy entry_cmp) (ap (λ (n : Node). n.entries) found.1 ∙ sym c.entries.ensures) (node_in_order nodes c.passed-at.result c.in-Some.node.now c.self.invariant.0 found.0)

pub from_place-requires : goal.from_place-requires
from_place-requires c =
    let nodes = c.self.inside.nodes.items in
    let found = some_at nodes c.passed-at.result c.in-Some.node.now (rw c.deref-2.ensures.value at c.in-Some.ensures) in
    omega (arith, found.0, ap length c.deref-3.ensures.value)

pub returns-then-is_empty-clause-entries : goal.returns-then-is_empty-clause-entries
returns-then-is_empty-clause-entries c =
    let wanted = c.args.wanted.now in
    let nodes = c.self.inside.nodes.items in
    let node = c.in-Some.node.now in
    let at = c.passed-at.result in
    let found = some_at nodes at node (rw c.deref-2.ensures.value at c.in-Some.ensures) in
    let is = batch_at wanted.value_id wanted.from wanted.to wanted.after nodes at node (reaches_on wanted.value_id wanted.to (drop (suc at) nodes)) c.self.invariant.0 (rw c.deref.ensures.value at c.passed-at.ensures) found.0 refl in
    let own : c.among-own.result.now ≡ wanted_of wanted.value_id wanted.from wanted.to wanted.after (Node.entries (get_or nodes at node)) = c.among-own.ensures ∙ ap (wanted_of wanted.value_id wanted.from wanted.to wanted.after) (c.entries.ensures ∙ ap (λ (n : Node). n.entries) (sym found.1)) in
    let none = is.none (sym own ∙ nil_from_length c.among-own.result.now (eqb-true (length c.among-own.result.now) 0 (sym c.is_empty.ensures ∙ c.if-is_empty.true))) in
    let told = batch_none (bounds_in nodes) (wanted_of wanted.value_id wanted.from wanted.to wanted.after (entries_in nodes)) c.none-then-is_empty.result.entries c.none-then-is_empty.result.more none (ap (λ (b : Batch). b.entries) c.none-then-is_empty.ensures) (ap (λ (b : Batch). b.more) c.none-then-is_empty.ensures) in
    rw (← c.self.view_is) told.0

pub returns-then-is_empty-clause-more : goal.returns-then-is_empty-clause-more
returns-then-is_empty-clause-more c =
    let wanted = c.args.wanted.now in
    let nodes = c.self.inside.nodes.items in
    let node = c.in-Some.node.now in
    let at = c.passed-at.result in
    let found = some_at nodes at node (rw c.deref-2.ensures.value at c.in-Some.ensures) in
    let is = batch_at wanted.value_id wanted.from wanted.to wanted.after nodes at node (reaches_on wanted.value_id wanted.to (drop (suc at) nodes)) c.self.invariant.0 (rw c.deref.ensures.value at c.passed-at.ensures) found.0 refl in
    let own : c.among-own.result.now ≡ wanted_of wanted.value_id wanted.from wanted.to wanted.after (Node.entries (get_or nodes at node)) = c.among-own.ensures ∙ ap (wanted_of wanted.value_id wanted.from wanted.to wanted.after) (c.entries.ensures ∙ ap (λ (n : Node). n.entries) (sym found.1)) in
    let none = is.none (sym own ∙ nil_from_length c.among-own.result.now (eqb-true (length c.among-own.result.now) 0 (sym c.is_empty.ensures ∙ c.if-is_empty.true))) in
    let told = batch_none (bounds_in nodes) (wanted_of wanted.value_id wanted.from wanted.to wanted.after (entries_in nodes)) c.none-then-is_empty.result.entries c.none-then-is_empty.result.more none (ap (λ (b : Batch). b.entries) c.none-then-is_empty.ensures) (ap (λ (b : Batch). b.more) c.none-then-is_empty.ensures) in
    rw (← c.self.view_is) told.1

pub returns-then-is_empty-clause-leaf : goal.returns-then-is_empty-clause-leaf
returns-then-is_empty-clause-leaf c =
    let wanted = c.args.wanted.now in
    let nodes = c.self.inside.nodes.items in
    let node = c.in-Some.node.now in
    let at = c.passed-at.result in
    let found = some_at nodes at node (rw c.deref-2.ensures.value at c.in-Some.ensures) in
    let is = batch_at wanted.value_id wanted.from wanted.to wanted.after nodes at node (reaches_on wanted.value_id wanted.to (drop (suc at) nodes)) c.self.invariant.0 (rw c.deref.ensures.value at c.passed-at.ensures) found.0 refl in
    let own : c.among-own.result.now ≡ wanted_of wanted.value_id wanted.from wanted.to wanted.after (Node.entries (get_or nodes at node)) = c.among-own.ensures ∙ ap (wanted_of wanted.value_id wanted.from wanted.to wanted.after) (c.entries.ensures ∙ ap (λ (n : Node). n.entries) (sym found.1)) in
    let none = is.none (sym own ∙ nil_from_length c.among-own.result.now (eqb-true (length c.among-own.result.now) 0 (sym c.is_empty.ensures ∙ c.if-is_empty.true))) in
    let told = batch_none (bounds_in nodes) (wanted_of wanted.value_id wanted.from wanted.to wanted.after (entries_in nodes)) c.none-then-is_empty.result.entries c.none-then-is_empty.result.more none (ap (λ (b : Batch). b.entries) c.none-then-is_empty.ensures) (ap (λ (b : Batch). b.more) c.none-then-is_empty.ensures) in
    rw (← c.self.view_is) told.2

pub returns-then-is_empty-clause-none : goal.returns-then-is_empty-clause-none
returns-then-is_empty-clause-none c =
    let wanted = c.args.wanted.now in
    let nodes = c.self.inside.nodes.items in
    let node = c.in-Some.node.now in
    let at = c.passed-at.result in
    let found = some_at nodes at node (rw c.deref-2.ensures.value at c.in-Some.ensures) in
    let is = batch_at wanted.value_id wanted.from wanted.to wanted.after nodes at node (reaches_on wanted.value_id wanted.to (drop (suc at) nodes)) c.self.invariant.0 (rw c.deref.ensures.value at c.passed-at.ensures) found.0 refl in
    let own : c.among-own.result.now ≡ wanted_of wanted.value_id wanted.from wanted.to wanted.after (Node.entries (get_or nodes at node)) = c.among-own.ensures ∙ ap (wanted_of wanted.value_id wanted.from wanted.to wanted.after) (c.entries.ensures ∙ ap (λ (n : Node). n.entries) (sym found.1)) in
    let none = is.none (sym own ∙ nil_from_length c.among-own.result.now (eqb-true (length c.among-own.result.now) 0 (sym c.is_empty.ensures ∙ c.if-is_empty.true))) in
    let told = batch_none (bounds_in nodes) (wanted_of wanted.value_id wanted.from wanted.to wanted.after (entries_in nodes)) c.none-then-is_empty.result.entries c.none-then-is_empty.result.more none (ap (λ (b : Batch). b.entries) c.none-then-is_empty.ensures) (ap (λ (b : Batch). b.more) c.none-then-is_empty.ensures) in
    rw (← c.self.view_is) (λ empty. none)

pub returns-clause-entries : goal.returns-clause-entries
returns-clause-entries c =
    let wanted = c.args.wanted.now in
    let nodes = c.self.inside.nodes.items in
    let node = c.in-Some.node.now in
    let at = c.passed-at.result in
    let found = some_at nodes at node (rw c.deref-2.ensures.value at c.in-Some.ensures) in
    let next : at + 1 ≡ suc at = omega arith in
    let more : c.goes_on.result ≡ reaches_on wanted.value_id wanted.to (drop (suc at) nodes) = c.goes_on.ensures ∙ ap (reaches_on wanted.value_id wanted.to) (c.from_place.ensures ∙ ap (drop (at + 1)) c.deref-3.ensures.value ∙ ap (λ k. drop k nodes) next) in
    let is = batch_at wanted.value_id wanted.from wanted.to wanted.after nodes at node c.goes_on.result c.self.invariant.0 (rw c.deref.ensures.value at c.passed-at.ensures) found.0 more in
    let own : c.among-own.result.now ≡ wanted_of wanted.value_id wanted.from wanted.to wanted.after (Node.entries (get_or nodes at node)) = c.among-own.ensures ∙ ap (wanted_of wanted.value_id wanted.from wanted.to wanted.after) (c.entries.ensures ∙ ap (λ (n : Node). n.entries) (sym found.1)) in
    rw (← c.self.view_is) (c.in_ok-from_slice.ensures ∙ own ∙ sym is.entries)

pub returns-clause-more : goal.returns-clause-more
returns-clause-more c =
    let wanted = c.args.wanted.now in
    let nodes = c.self.inside.nodes.items in
    let node = c.in-Some.node.now in
    let at = c.passed-at.result in
    let found = some_at nodes at node (rw c.deref-2.ensures.value at c.in-Some.ensures) in
    let next : at + 1 ≡ suc at = omega arith in
    let more : c.goes_on.result ≡ reaches_on wanted.value_id wanted.to (drop (suc at) nodes) = c.goes_on.ensures ∙ ap (reaches_on wanted.value_id wanted.to) (c.from_place.ensures ∙ ap (drop (at + 1)) c.deref-3.ensures.value ∙ ap (λ k. drop k nodes) next) in
    let is = batch_at wanted.value_id wanted.from wanted.to wanted.after nodes at node c.goes_on.result c.self.invariant.0 (rw c.deref.ensures.value at c.passed-at.ensures) found.0 more in
    let own : c.among-own.result.now ≡ wanted_of wanted.value_id wanted.from wanted.to wanted.after (Node.entries (get_or nodes at node)) = c.among-own.ensures ∙ ap (wanted_of wanted.value_id wanted.from wanted.to wanted.after) (c.entries.ensures ∙ ap (λ (n : Node). n.entries) (sym found.1)) in
    rw (← c.self.view_is) (is.more_is ∙ ap (λ es. nat_lt (length es) (length (wanted_of wanted.value_id wanted.from wanted.to wanted.after (entries_in nodes)))) (sym (c.in_ok-from_slice.ensures ∙ own)))

pub returns-clause-none : goal.returns-clause-none
returns-clause-none c =
    let wanted = c.args.wanted.now in
    let nodes = c.self.inside.nodes.items in
    let node = c.in-Some.node.now in
    let at = c.passed-at.result in
    let found = some_at nodes at node (rw c.deref-2.ensures.value at c.in-Some.ensures) in
    let next : at + 1 ≡ suc at = omega arith in
    let more : c.goes_on.result ≡ reaches_on wanted.value_id wanted.to (drop (suc at) nodes) = c.goes_on.ensures ∙ ap (reaches_on wanted.value_id wanted.to) (c.from_place.ensures ∙ ap (drop (at + 1)) c.deref-3.ensures.value ∙ ap (λ k. drop k nodes) next) in
    let is = batch_at wanted.value_id wanted.from wanted.to wanted.after nodes at node c.goes_on.result c.self.invariant.0 (rw c.deref.ensures.value at c.passed-at.ensures) found.0 more in
    let own : c.among-own.result.now ≡ wanted_of wanted.value_id wanted.from wanted.to wanted.after (Node.entries (get_or nodes at node)) = c.among-own.ensures ∙ ap (wanted_of wanted.value_id wanted.from wanted.to wanted.after) (c.entries.ensures ∙ ap (λ (n : Node). n.entries) (sym found.1)) in
    rw (← c.self.view_is) (λ empty. is.none (sym (c.in_ok-from_slice.ensures ∙ own) ∙ empty))

pub returns-clause-leaf : goal.returns-clause-leaf
returns-clause-leaf c =
    let wanted = c.args.wanted.now in
    let nodes = c.self.inside.nodes.items in
    let node = c.in-Some.node.now in
    let at = c.passed-at.result in
    let found = some_at nodes at node (rw c.deref-2.ensures.value at c.in-Some.ensures) in
    let next : at + 1 ≡ suc at = omega arith in
    let more : c.goes_on.result ≡ reaches_on wanted.value_id wanted.to (drop (suc at) nodes) = c.goes_on.ensures ∙ ap (reaches_on wanted.value_id wanted.to) (c.from_place.ensures ∙ ap (drop (at + 1)) c.deref-3.ensures.value ∙ ap (λ k. drop k nodes) next) in
    let is = batch_at wanted.value_id wanted.from wanted.to wanted.after nodes at node c.goes_on.result c.self.invariant.0 (rw c.deref.ensures.value at c.passed-at.ensures) found.0 more in
    let own : c.among-own.result.now ≡ wanted_of wanted.value_id wanted.from wanted.to wanted.after (Node.entries (get_or nodes at node)) = c.among-own.ensures ∙ ap (wanted_of wanted.value_id wanted.from wanted.to wanted.after) (c.entries.ensures ∙ ap (λ (n : Node). n.entries) (sym found.1)) in
    let some : 0 < length (wanted_of wanted.value_id wanted.from wanted.to wanted.after (Node.entries (get_or nodes at node))) = some_of (eqb-false (length c.among-own.result.now) 0 (sym c.is_empty.ensures ∙ c.if-is_empty.false)) (ap length own) in
    rw (← c.self.view_is) (c.bound.ensures ∙ ap Node.bound (sym found.1) ∙ sym (is.leaf some))
  where
    some_of : {m n : ℕ} → (m ≡ 0 → ⊥) → m ≡ n → 0 < n
    some_of {m} {n} not_none same = omega (arith, not_none, same)
