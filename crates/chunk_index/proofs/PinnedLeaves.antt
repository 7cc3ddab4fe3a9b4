-- What a pin keeps: its leaf, and the entries from there on, while others insert and a sweep comes up to it.
use Rattle.std.proofs.Common.{◌≡◌, ◌≢◌, inl, inr, ℕ, Bool, true, false, not, ◌==◌, cond, if◌then◌else◌, Option, Some, None, List, [], ◌∷◌, Contains, refl, sym, ap, ◌∙◌, subst, arith}
use Rattle.std.specs.Option.{option_map_or}
use Rattle.std.specs.List.Sorted.{IsStrictlySortedBy}
use Rattle.std.specs.declared.cmp.Ordering.{Ordering}
use Rattle.std.specs.declared.cmp.Ordering.TheVariants.{Less, Equal, Greater}
use Rattle.std.specs.Ordering.{is_lt}
use Rattle.std.proofs.lemmas.Bool.{both_ways, and_left, and_right, cases_Bool, not_from_false}
use Rattle.std.proofs.lemmas.Bool.Decides.{nat_tests}
use Rattle.std.proofs.lemmas.Cmp.{tied_itself}
use Rattle.slot_page.specs.declared.line.Tid.{Tid}
use Rattle.slot_page.specs.Tids.{is_listed}
use Rattle.chunk_index.specs.declared.entry.Entry.{Entry}
use Rattle.chunk_index.specs.Entries.{entry_cmp}
use Rattle.chunk_index.specs.Leaves.{Leaf, is_from, is_below, next_bound, in_leaf, leaf_of, bounds_left, is_at_most}
use Rattle.chunk_index.specs.Pinned.{pin_of, holder_of, IsPinnedFrom}
use Rattle.chunk_index.specs.Indexes.{Index, IsLeaf, IsIndex, batch_of, after_batch, is_swept, unswept, swept_index, after_sweep, bounds_with}
use Rattle.list_facts.proofs.Members.{none_in_nil, cases_in, first_in, later_in}
use Rattle.chunk_index.proofs.Ordered.{entry_total, entry_equal}
use Rattle.chunk_index.proofs.Batches.{batch_from_leaf}
use Rattle.chunk_index.proofs.Chains.{flipped, less_from}
use Rattle.chunk_index.proofs.PinFacts.{all_in, no_holder, pin_of-with, pin_held}
use Rattle.chunk_index.proofs.Splits.{leaf_kept, leaf_left}
use Rattle.chunk_index.proofs.Sweeps.{is_left}

-- of two leaves of which one is not after the other, and is not the other, the other is after it
pub after_is : (leaf other : Leaf) → is_at_most leaf other ≡ true → leaf ≢ other → is_at_most other leaf ≡ false
after_is None None at_most differ = absurd (differ refl)
after_is None (Some p) at_most differ = refl
after_is (Some l) None at_most differ = absurd (cc)
after_is (Some l) (Some p) at_most differ = by_order (entry_cmp p l) refl at_most
  where
    by_order : (r : Ordering) → entry_cmp p l ≡ r → not (is_lt r) ≡ true → not (is_lt (entry_cmp l p)) ≡ false
    by_order Less is low = absurd (cc)
    by_order Equal is low = absurd (differ (ap (λ e. Some e) (sym (entry_equal p l is))))
    by_order Greater is low = ap (λ r. not (is_lt r)) (flipped p l Greater is)

-- what lies in a leaf, or before it, is less than the bound of each leaf after it
pub below_next : (bounds : List Entry) (leaf : Leaf) (p e : Entry) → IsStrictlySortedBy entry_cmp bounds → Contains bounds p → is_at_most (Some p) leaf ≡ false → is_below (next_bound bounds leaf) e ≡ true → is_lt (entry_cmp e p) ≡ true
unfolding IsStrictlySortedBy
below_next [] leaf p e sorted held later below = absurd (none_in_nil p held)
below_next (b ∷ bs) leaf p e sorted held later below = by_leaf leaf later below (λ l further after rest. below_next bs l p e sorted.1 further after rest)
  where
    less_than : is_lt (entry_cmp e b) ≡ true → is_lt (entry_cmp e p) ≡ true
    less_than low = elim (cases_in b bs p held) [
      | inl same ↦ subst (λ q. is_lt (entry_cmp e q) ≡ true) same low
      | inr further ↦ ap is_lt (entry_total.trans e b p (less_from (entry_cmp e b) low) (all_in (λ q. entry_cmp b q ≡ Less) bs p sorted.0 further))
    ]

    by_leaf : (l : Leaf) → is_at_most (Some p) l ≡ false → is_below (next_bound (b ∷ bs) l) e ≡ true → ((m : Leaf) → Contains bs p → is_at_most (Some p) m ≡ false → is_below (next_bound bs m) e ≡ true → is_lt (entry_cmp e p) ≡ true) → is_lt (entry_cmp e p) ≡ true
    by_leaf None after low later_on = less_than low
    by_leaf (Some l) after low later_on = by_test (is_lt (entry_cmp l b)) refl low (λ further rest. later_on (Some l) further after rest)
      where
        by_test : (t : Bool) → is_lt (entry_cmp l b) ≡ t → is_below (cond t (Some b) (next_bound bs (Some l))) e ≡ true → (Contains bs p → is_below (next_bound bs (Some l)) e ≡ true → is_lt (entry_cmp e p) ≡ true) → is_lt (entry_cmp e p) ≡ true
        by_test true is low' rest = less_than low'
        by_test false is low' rest = elim (cases_in b bs p held) [
          | inl same ↦ absurd (both_ways (is_at_most (Some p) (Some l)) after (not_from_false (is_lt (entry_cmp l p)) (subst (λ q. is_lt (entry_cmp l q) ≡ false) same is)))
          | inr further ↦ rest further low'
        ]

-- so a sweep of a leaf before a pinned one takes no entry from the pinned one on
pub spared : (bounds : List Entry) (leaf pinned : Leaf) (dead : List Tid) (e : Entry) → IsStrictlySortedBy entry_cmp bounds → IsLeaf bounds pinned → is_at_most leaf pinned ≡ true → leaf ≢ pinned → is_from pinned e ≡ true → is_swept bounds leaf dead e ≡ false
spared bounds leaf None dead e sorted is at_most differ from = absurd (by_leaf leaf at_most differ)
  where
    by_leaf : (l : Leaf) → is_at_most l None ≡ true → l ≢ None → ⊥
    by_leaf None low other = other refl
    by_leaf (Some l) low other = absurd (cc)
spared bounds leaf (Some p) dead e sorted is at_most differ from = elim (cases_Bool (is_below (next_bound bounds leaf) e)) [
  | inl below ↦ absurd (both_ways (is_from (Some p) e) (ap not (below_next bounds leaf p e sorted is (after_is leaf (Some p) at_most differ) below)) from)
  | inr beyond ↦ and_left (in_leaf bounds leaf e) (is_listed dead e.tid) (and_right (is_from leaf e) (is_below (next_bound bounds leaf) e) beyond)
]

-- the leaf after one that is before a pinned one is not after the pinned one either
pub next_at_most : (bounds : List Entry) (leaf pinned : Leaf) (next : Entry) → IsStrictlySortedBy entry_cmp bounds → IsLeaf bounds pinned → is_at_most leaf pinned ≡ true → leaf ≢ pinned → next_bound bounds leaf ≡ Some next → is_at_most (Some next) pinned ≡ true
next_at_most bounds leaf None next sorted is at_most differ follows = absurd (by_leaf leaf at_most differ)
  where
    by_leaf : (l : Leaf) → is_at_most l None ≡ true → l ≢ None → ⊥
    by_leaf None low other = other refl
    by_leaf (Some l) low other = absurd (cc)
next_at_most bounds leaf (Some p) next sorted is at_most differ follows = elim (cases_Bool (is_lt (entry_cmp p next))) [
  | inl less ↦ absurd (both_ways (is_lt (entry_cmp p p)) (ap is_lt (tied_itself entry_total p)) (below_next bounds leaf p p sorted is (after_is leaf (Some p) at_most differ) (ap (λ o. is_below o p) follows ∙ less)))
  | inr not_less ↦ not_from_false (is_lt (entry_cmp p next)) not_less
]

-- and there is one
pub next_there : (bounds : List Entry) (leaf pinned : Leaf) → IsStrictlySortedBy entry_cmp bounds → IsLeaf bounds pinned → is_at_most leaf pinned ≡ true → leaf ≢ pinned → next_bound bounds leaf ≢ None
next_there bounds leaf None sorted is at_most differ none = by_leaf leaf at_most differ
  where
    by_leaf : (l : Leaf) → is_at_most l None ≡ true → l ≢ None → ⊥
    by_leaf None low other = other refl
    by_leaf (Some l) low other = absurd (cc)
next_there bounds leaf (Some p) sorted is at_most differ none = both_ways (is_lt (entry_cmp p p)) (ap is_lt (tied_itself entry_total p)) (below_next bounds leaf p p sorted is (after_is leaf (Some p) at_most differ) (ap (λ o. is_below o p) none))

-- the leaf that a sweep tells of is one of those that are left
next_in : (bounds : List Entry) (leaf : Leaf) (next : Entry) → next_bound bounds leaf ≡ Some next → Contains bounds next × (leaf ≢ Some next)
next_in bounds leaf next is = (there bounds leaf is, differs leaf is)
  where
    same_some : (x y : Entry) → Some x ≡ Some y → x ≡ y
    same_some x y same = cc

    there : (bs : List Entry) (l : Leaf) → next_bound bs l ≡ Some next → Contains bs next
    there [] l follows = absurd (cc)
    there (b ∷ bs) None follows = first_in b bs next (same_some b next follows)
    there (b ∷ bs) (Some l) follows = by_test (is_lt (entry_cmp l b)) follows (λ rest. there bs (Some l) rest)
      where
        by_test : (t : Bool) → cond t (Some b) (next_bound bs (Some l)) ≡ Some next → (next_bound bs (Some l) ≡ Some next → Contains bs next) → Contains (b ∷ bs) next
        by_test true follows' rest = first_in b bs next (same_some b next follows')
        by_test false follows' rest = later_in b bs next (rest follows')

    above : (bs : List Entry) (l : Entry) → next_bound bs (Some l) ≡ Some next → is_lt (entry_cmp l next) ≡ true
    above [] l follows = absurd (cc)
    above (b ∷ bs) l follows = by_test (is_lt (entry_cmp l b)) refl follows (λ rest. above bs l rest)
      where
        by_test : (t : Bool) → is_lt (entry_cmp l b) ≡ t → cond t (Some b) (next_bound bs (Some l)) ≡ Some next → (next_bound bs (Some l) ≡ Some next → is_lt (entry_cmp l next) ≡ true) → is_lt (entry_cmp l next) ≡ true
        by_test true less follows' rest = subst (λ c. is_lt (entry_cmp l c) ≡ true) (same_some b next follows') less
        by_test false less follows' rest = rest follows'

    differs : (l : Leaf) → next_bound bounds l ≡ Some next → l ≢ Some next
    differs None follows same = absurd (cc)
    differs (Some l) follows same = both_ways (is_lt (entry_cmp next next)) (ap is_lt (tied_itself entry_total next)) (subst (λ c. is_lt (entry_cmp c next) ≡ true) (same_some l next same) (above bounds l follows))

pub next_stays : (bounds entries : List Entry) (leaf : Leaf) (next : Entry) → next_bound bounds leaf ≡ Some next → IsLeaf (bounds_left bounds leaf entries) (Some next)
next_stays bounds entries leaf next is = let has = next_in bounds leaf next is in leaf_left bounds entries (Some next) leaf (λ same. has.1 (sym same)) has.0

-- a pinned leaf is a leaf after an insert, and after a sweep, of whatever leaf
pub pinned_insert : (index : Index) (e : Entry) (session : ℕ) (leaf : Leaf) → IsIndex index → pin_of index.pins session ≡ Some leaf → IsLeaf (bounds_with index.bounds index.entries e) leaf
pinned_insert index e session leaf is pin = leaf_kept index.bounds index.entries e leaf (is.pinned (record { session = session; leaf = leaf }) (pin_held index.pins session leaf pin))

module _ (index : Index) (swept : Leaf) (dead : List Tid) (session : ℕ) (leaf : Leaf) (is : IsIndex index) (pin : pin_of index.pins session ≡ Some leaf) where
  held : Contains index.pins (record { session = session; leaf = leaf })
  held = pin_held index.pins session leaf pin

  pub pinned_sweep : IsLeaf (Index.bounds (after_sweep index swept dead)) leaf
  pinned_sweep = by_holder (holder_of index.pins swept) refl
    where
      by_holder : (o : Option ℕ) → holder_of index.pins swept ≡ o → IsLeaf (Index.bounds (option_map_or (λ h. index) o (swept_index index swept dead))) leaf
      by_holder (Some holder) found = is.pinned (record { session = session; leaf = leaf }) held
      by_holder None none = leaf_left index.bounds (unswept index.bounds swept dead index.entries) leaf swept (no_holder index.pins swept (record { session = session; leaf = leaf }) none held) (is.pinned (record { session = session; leaf = leaf }) held)

  -- a sweep that has not passed it takes no entry from it on
  pub pinned_entry_stays : (e : Entry) → is_at_most swept leaf ≡ true → is_from leaf e ≡ true → Contains index.entries e → Contains (Index.entries (after_sweep index swept dead)) e
  pinned_entry_stays e at_most from there = by_holder (holder_of index.pins swept) refl
    where
      by_holder : (o : Option ℕ) → holder_of index.pins swept ≡ o → Contains (Index.entries (option_map_or (λ h. index) o (swept_index index swept dead))) e
      by_holder (Some holder) found = there
      by_holder None none = is_left index.bounds swept dead index.entries e there (spared index.bounds swept leaf dead e is.bounds_sorted (is.pinned (record { session = session; leaf = leaf }) held) at_most (λ same. no_holder index.pins swept (record { session = session; leaf = leaf }) none held (sym same)) from)

-- a batch pins a leaf that begins at or before each of its entries; inserts and sweeps leave that so, since it is said of the bound alone
pub batch_pinned_from : (index : Index) (session : ℕ) (wanted : List Entry) (e : Entry) → pin_of index.pins session ≡ None → Contains (batch_of index.bounds wanted) e → IsPinnedFrom (pin_of (Index.pins (after_batch index session wanted)) session) e
batch_pinned_from index session [] e none held = absurd (none_in_nil e held)
batch_pinned_from index session (first ∷ rest) e none held = subst (λ o. IsPinnedFrom o e) (sym (pin_of-with index.pins session (leaf_of index.bounds first) session none ∙ own_session)) (batch_from_leaf index.bounds first rest e held)
  where
    own_session : (if session == session then Some (leaf_of index.bounds first) else pin_of index.pins session) ≡ Some (leaf_of index.bounds first)
    own_session = grind (arith, nat_tests)
