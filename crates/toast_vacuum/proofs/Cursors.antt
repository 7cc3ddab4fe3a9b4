-- The cursor of a sweep, which is a bound of a leaf.
use Rattle.std.proofs.Common.{◌≡◌, inl, inr, true, false, not, cond, Option, Some, None, List, [], ◌∷◌, Contains, refl, ap, ◌∙◌, subst}
use Rattle.std.specs.List.{AllByRecursion}
use Rattle.std.specs.List.Sorted.{IsStrictlySortedBy}
use Rattle.std.specs.declared.cmp.Ordering.TheVariants.{Less}
use Rattle.std.specs.Ordering.{is_lt, ordering_reverse}
use Rattle.std.proofs.lemmas.Bool.{and_parts, both_ways, cases_Bool}
use Rattle.std.proofs.lemmas.Cmp.{tied_itself}
use Rattle.std.proofs.lemmas.Map.Keys.{sorted_head, sorted_tail}
use Rattle.list_facts.proofs.Members.{none_in_nil, cases_in}
use Rattle.chunk_index.specs.declared.entry.Entry.{Entry}
use Rattle.chunk_index.specs.Entries.{entry_cmp}
use Rattle.chunk_index.specs.Leaves.{Leaf, in_leaf, is_at_most, is_below, is_from, leaf_at, leaf_from, next_bound}
use Rattle.chunk_index.specs.Indexes.{IsLeaf}
use Rattle.chunk_index.proofs.Ordered.{entry_total}
use Rattle.chunk_index.proofs.PinFacts.{all_in}
use Rattle.chunk_index.proofs.PinnedLeaves.{below_next}
use Rattle.toast_vacuum.specs.declared.stage.Stage.{Stage}
use Rattle.toast_vacuum.specs.declared.stage.Stage.TheVariants.{Pruning, Sweeping, Reaping, Ended}
use Rattle.toast_vacuum.specs.Holds.{IsCursor}

-- a bound lies in its own leaf
first_stays : (c : Entry) (cs : List Entry) → AllByRecursion (λ d. entry_cmp c d ≡ Less) cs → leaf_from (Some c) cs c ≡ Some c
first_stays c [] less = refl
first_stays c (d ∷ ds) less = ap (λ b. cond b (Some c) (leaf_from (Some d) ds c)) (ap is_lt less.0)

not_less : (c b : Entry) → entry_cmp c b ≡ Less → is_lt (entry_cmp b c) ≡ false
not_less c b less = ap is_lt (entry_total.antisymm b c ∙ ap ordering_reverse less)

own_leaf : (b : Entry) (leaf : Leaf) (bounds : List Entry) → IsStrictlySortedBy entry_cmp bounds → Contains bounds b → leaf_from leaf bounds b ≡ Some b
own_leaf b leaf [] sorted held = absurd (none_in_nil b held)
own_leaf b leaf (c ∷ cs) sorted held = elim (cases_in c cs b held) [
  | inl same ↦ subst (λ x. leaf_from leaf (c ∷ cs) x ≡ Some x) same (ap (λ t. cond t leaf (leaf_from (Some c) cs c)) (ap is_lt (tied_itself entry_total c)) ∙ first_stays c cs (sorted_head entry_cmp c cs sorted))
  | inr later ↦ ap (λ t. cond t leaf (leaf_from (Some c) cs b)) (not_less c b (all_in (λ d. entry_cmp c d ≡ Less) cs b (sorted_head entry_cmp c cs sorted) later)) ∙ own_leaf b (Some c) cs (sorted_tail entry_cmp c cs sorted) later
]

-- so a sweep begins at the cursor itself
pub cursor_leaf : (bounds : List Entry) (from : Option Entry) → IsStrictlySortedBy entry_cmp bounds → IsLeaf bounds from → leaf_at bounds from ≡ from
cursor_leaf bounds None sorted is = refl
cursor_leaf bounds (Some b) sorted is = own_leaf b None bounds sorted is

-- the cursor is a leaf where each leaf stays one
pub cursor_kept : (old new : List Entry) (stage : Stage) → ((leaf : Leaf) → IsLeaf old leaf → IsLeaf new leaf) → IsCursor old stage → IsCursor new stage
cursor_kept old new (Pruning page) kept is = tt
cursor_kept old new (Sweeping from) kept is = kept from is
cursor_kept old new (Reaping page at) kept is = tt
cursor_kept old new Ended kept is = tt

-- a leaf that begins at or before an entry of another one is not after that one
pub at_most_leaf : (bounds : List Entry) (from leaf : Leaf) (e : Entry) → IsStrictlySortedBy entry_cmp bounds → IsLeaf bounds from → is_from from e ≡ true → in_leaf bounds leaf e ≡ true → is_at_most from leaf ≡ true
at_most_leaf bounds None leaf e sorted is from lies = refl
at_most_leaf bounds (Some b) leaf e sorted is from lies = elim (cases_Bool (is_at_most (Some b) leaf)) [
  | inl at_most ↦ at_most
  | inr after ↦ absurd (both_ways (is_from (Some b) e) (ap not (below_next bounds leaf b e sorted is after (and_parts (is_from leaf e) (is_below (next_bound bounds leaf) e) lies).1)) from)
]
