use Rattle.std.proofs.Common.{◌≡◌, ◌==◌, ◌≤◌, ◌+◌, ◌∙◌, if◌then◌else◌, Option, Some, None, true, false, length, get_or, slice_get, drop, sym, ap, subst, arith}
use Rattle.std.specs.Option.{option_and_then, IfSome}
use Rattle.std.specs.List.Sorted.{IsStrictlySortedBy, IsPartitionPoint}
use Rattle.std.proofs.lemmas.Option.{slice_get_past}
use Rattle.std.proofs.lemmas.List.Sums.{length-filter, count_by-le-length}
use Rattle.chunk_index.specs.declared.entry.Entry.{Entry}
use Rattle.chunk_index.specs.Entries.{entry_cmp, comes_before, of_id}
use Rattle.chunk_index.specs.Nodes.{Node, entries_in}
use Rattle.chunk_index.specs.Places.{IsParting}
use Rattle.chunk_index.proofs.Found.{some_at, none_at}
use Rattle.chunk_index.proofs.Nths.{nth_at, nth_none, nth_beyond}
use Rattle.chunk_index.proofs.Placed.{node_in_order}
use Rattle.chunk_index.proofs.leaves.Leaves.nth_of.Goals as goal

pub returns-then-n-self-clause-entry : goal.returns-then-n-self-clause-entry
returns-then-n-self-clause-entry c =
    let entries = entries_in c.self.inside.nodes.items in
    rw (← c.self.view_is) (sym (slice_get_past (of_id c.args.value_id entries) c.args.n (omega (arith, c.if-n-self.true, c.self.invariant.1, length-filter (λ (e : Entry). e.value_id == c.args.value_id) entries, count_by-le-length (λ (e : Entry). e.value_id == c.args.value_id) entries))))

pub returns-in_err-node-clause-entry : goal.returns-in_err-node-clause-entry
returns-in_err-node-clause-entry c =
    let nodes = c.self.inside.nodes.items in
    let parting : IsParting (comes_before c.args.value_id 0 None) nodes c.passed-at.result = rw (c.deref.ensures.value, c.all_of-wanted.ensures) at c.passed-at.ensures in
    rw (← c.self.view_is) (c.from_residual.ensures ∙ nth_none c.args.value_id nodes c.passed-at.result c.args.n parting (none_at nodes c.passed-at.result (rw c.deref-2.ensures.value at c.in_err-node.ensures)))

pub start-requires : goal.start-requires
start-requires c =
    let nodes = c.self.inside.nodes.items in
    let at = c.passed-at.result in
    let node = c.in_ok-node.node.now in
    let found = some_at nodes at node (rw c.deref-2.ensures.value at c.in_ok-node.ensures) in
    subst (IsStrictlySortedBy entry_cmp) (ap (λ (n : Node). n.entries) found.1 ∙ sym c.entries.ensures) (node_in_order nodes at node c.self.invariant.0 found.0)

pub returns-in_err-place-clause-entry : goal.returns-in_err-place-clause-entry
returns-in_err-place-clause-entry c =
    let nodes = c.self.inside.nodes.items in
    let at = c.passed-at.result in
    let node = c.in_ok-node.node.now in
    let found = some_at nodes at node (rw c.deref-2.ensures.value at c.in_ok-node.ensures) in
    let parting : IsParting (comes_before c.args.value_id 0 None) nodes at = rw (c.deref.ensures.value, c.all_of-wanted.ensures) at c.passed-at.ensures in
    let own : c.entries.result.now ≡ Node.entries (get_or nodes at node) = c.entries.ensures ∙ ap (λ (n : Node). n.entries) (sym found.1) in
    let few : c.start.result ≤ length (Node.entries (get_or nodes at node)) = rw own at c.start.ensures.within in
    let parts : IsPartitionPoint (λ e. comes_before c.args.value_id 0 None e ≡ true) (λ e. comes_before c.args.value_id 0 None e ≡ false) (Node.entries (get_or nodes at node)) c.start.result = rw (c.all_of-wanted.ensures, own) at c.start.ensures.start in
    let nth = nth_at c.args.value_id nodes at node c.start.result c.args.n c.self.invariant.0 parting found.0 few parts in
    let beyond = nth_beyond nodes at (c.start.result + c.args.n) (omega (arith, c.in_err-place.ensures, c.self.invariant.1)) in
    rw (← c.self.view_is) (c.from_residual-in_err-place.ensures ∙ ap (option_and_then (λ (e : Entry). if e.value_id == c.args.value_id then Some e else None)) (sym beyond) ∙ sym nth)

pub from_place-requires : goal.from_place-requires
from_place-requires c =
    let nodes = c.self.inside.nodes.items in
    let at = c.passed-at.result in
    let node = c.in_ok-node.node.now in
    let found = some_at nodes at node (rw c.deref-2.ensures.value at c.in_ok-node.ensures) in
    omega (arith, found.0, ap length c.deref-3.ensures.value)

pub returns-in_err-entry-clause-entry : goal.returns-in_err-entry-clause-entry
returns-in_err-entry-clause-entry c =
    let nodes = c.self.inside.nodes.items in
    let at = c.passed-at.result in
    let node = c.in_ok-node.node.now in
    let found = some_at nodes at node (rw c.deref-2.ensures.value at c.in_ok-node.ensures) in
    let parting : IsParting (comes_before c.args.value_id 0 None) nodes at = rw (c.deref.ensures.value, c.all_of-wanted.ensures) at c.passed-at.ensures in
    let own : c.entries.result.now ≡ Node.entries (get_or nodes at node) = c.entries.ensures ∙ ap (λ (n : Node). n.entries) (sym found.1) in
    let few : c.start.result ≤ length (Node.entries (get_or nodes at node)) = rw own at c.start.ensures.within in
    let parts : IsPartitionPoint (λ e. comes_before c.args.value_id 0 None e ≡ true) (λ e. comes_before c.args.value_id 0 None e ≡ false) (Node.entries (get_or nodes at node)) c.start.result = rw (c.all_of-wanted.ensures, own) at c.start.ensures.start in
    let nth = nth_at c.args.value_id nodes at node c.start.result c.args.n c.self.invariant.0 parting found.0 few parts in
    let gone : None ≡ slice_get (entries_in (drop at nodes)) (c.start.result + c.args.n) = c.in_err-entry.ensures ∙ ap (λ ns. slice_get (entries_in ns) c.in_ok-place.place) (c.from_place.ensures ∙ ap (drop at) c.deref-3.ensures.value) ∙ ap (slice_get (entries_in (drop at nodes))) c.in_ok-place.ensures.1 in
    rw (← c.self.view_is) (c.from_residual-in_err-entry.ensures ∙ ap (option_and_then (λ (e : Entry). if e.value_id == c.args.value_id then Some e else None)) gone ∙ sym nth)

pub returns-clause-entry : goal.returns-clause-entry
returns-clause-entry c =
    let nodes = c.self.inside.nodes.items in
    let at = c.passed-at.result in
    let node = c.in_ok-node.node.now in
    let found = some_at nodes at node (rw c.deref-2.ensures.value at c.in_ok-node.ensures) in
    let parting : IsParting (comes_before c.args.value_id 0 None) nodes at = rw (c.deref.ensures.value, c.all_of-wanted.ensures) at c.passed-at.ensures in
    let own : c.entries.result.now ≡ Node.entries (get_or nodes at node) = c.entries.ensures ∙ ap (λ (n : Node). n.entries) (sym found.1) in
    let few : c.start.result ≤ length (Node.entries (get_or nodes at node)) = rw own at c.start.ensures.within in
    let parts : IsPartitionPoint (λ e. comes_before c.args.value_id 0 None e ≡ true) (λ e. comes_before c.args.value_id 0 None e ≡ false) (Node.entries (get_or nodes at node)) c.start.result = rw (c.all_of-wanted.ensures, own) at c.start.ensures.start in
    let nth = nth_at c.args.value_id nodes at node c.start.result c.args.n c.self.invariant.0 parting found.0 few parts in
    let there : Some c.in_ok-entry.entry ≡ slice_get (entries_in (drop at nodes)) (c.start.result + c.args.n) = c.in_ok-entry.ensures ∙ ap (λ ns. slice_get (entries_in ns) c.in_ok-place.place) (c.from_place.ensures ∙ ap (drop at) c.deref-3.ensures.value) ∙ ap (slice_get (entries_in (drop at nodes))) c.in_ok-place.ensures.1 in
    rw (← c.self.view_is) (c.of_value.ensures ∙ ap (option_and_then (λ (e : Entry). if e.value_id == c.args.value_id then Some e else None)) there ∙ sym nth)

pub returns-clause-within : goal.returns-clause-within
returns-clause-within c = by_result c.of_value.result (omega arith)
  where
    by_result : {P : Type 0} (o : Option Entry) → P → IfSome o (λ _. P)
    by_result None holds = tt
    by_result (Some e) holds = holds
