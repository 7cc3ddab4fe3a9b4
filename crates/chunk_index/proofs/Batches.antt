-- What a batch has, and that asking on after its last entry gives the rest.
use Rattle.std.proofs.Common.{◌≡◌, inl, inr, ℕ, ◌<◌, ◌≤◌, ◌+◌, Bool, true, false, not, ◌&&◌, ◌==◌, nat_lt, nat_le, cond, Option, Some, None, List, [], ◌∷◌, ◌++◌, length, get_or, take, drop, filter, Contains, refl, sym, ap, ◌∙◌, subst, arith, zero, suc}
use Rattle.std.specs.List.{prefix_len}
use Rattle.std.specs.List.Sorted.{IsStrictlySortedBy}
use Rattle.std.specs.declared.cmp.Ordering.{Ordering}
use Rattle.std.specs.declared.cmp.Ordering.TheVariants.{Less, Equal, Greater}
use Rattle.std.specs.Ordering.{is_lt, is_gt, ordering_reverse}
use Rattle.std.proofs.lemmas.Bool.{ltb-false, cases_eq, and_parts, and_from, not_from_false, both_ways}
use Rattle.std.proofs.lemmas.Bool.Decides.{nat_tests}
use Rattle.std.proofs.lemmas.Cmp.{tied_itself}
use Rattle.std.proofs.lemmas.List.{nil_from_length, length-take, take_all, take_min, take-append-drop, get_or-take, get_or-drop, get_or_default, length-drop}
use Rattle.std.proofs.lemmas.List.Elements.{filter_agree, Contains-get_or}
use Rattle.std.proofs.lemmas.List.Kept.{IsStrictlySortedBy-filter}
use Rattle.chunk_index.specs.declared.entry.Entry.{Entry}
use Rattle.chunk_index.specs.Entries.{entry_cmp, is_after, is_wanted, wanted_of}
use Rattle.chunk_index.specs.Leaves.{Leaf, is_from, is_below, next_bound, in_leaf, leaf_from, leaf_of}
use Rattle.chunk_index.specs.Indexes.{Index, batch_of, after_batch}
use Rattle.list_facts.proofs.Members.{none_in_nil, filter_holds, held_by_filter, filter-filter}
use Rattle.chunk_index.proofs.Ordered.{entry_total}
use Rattle.chunk_index.proofs.Runs.{skip_run, front_run, while_run}
use Rattle.chunk_index.proofs.Searches.{sorted_pairs}

-- what is true of an entry that is wanted
pub record IsWanted (value_id from to : ℕ) (after : Option Entry) (entries : List Entry) (e : Entry) : Type 0 where
  pub there : Contains entries e
  pub of_value : e.value_id ≡ value_id
  pub from_number : from ≤ e.seq
  pub to_number : e.seq ≤ to
  pub beyond : is_after after e ≡ true

-- each entry that is wanted is as it was asked for, and each that is, is wanted
pub wanted_are : (value_id from to : ℕ) (after : Option Entry) (entries : List Entry) (e : Entry) → Contains (wanted_of value_id from to after entries) e → IsWanted value_id from to after entries e
wanted_are value_id from to after entries e held =
    let has = filter_holds (is_wanted value_id from to after) entries e held in
    let parts = and_parts ((e.value_id == value_id) && nat_le from e.seq && nat_le e.seq to) (is_after after e) has.1 in
    let numbers = parts.0 in
    record {
      there = has.0;
      of_value = grind (arith, nat_tests);
      from_number = grind (arith, nat_tests);
      to_number = grind (arith, nat_tests);
      beyond = parts.1;
    }

pub are_wanted : (value_id from to : ℕ) (after : Option Entry) (entries : List Entry) (e : Entry) → IsWanted value_id from to after entries e → Contains (wanted_of value_id from to after entries) e
are_wanted value_id from to after entries e is =
    held_by_filter (is_wanted value_id from to after) entries e is.there (and_from ((e.value_id == value_id) && nat_le from e.seq && nat_le e.seq to) (is_after after e) (grind (arith, nat_tests, is.of_value, is.from_number, is.to_number)) is.beyond)

-- an entry that is not among those with its value id and number is not there
pub unwanted_absent : (entries : List Entry) (e : Entry) → wanted_of e.value_id e.seq e.seq None entries ≡ [] → Contains entries e → ⊥
unwanted_absent entries e none held = none_in_nil e (subst (λ es. Contains es e) none (are_wanted e.value_id e.seq e.seq None entries e (record { there = held; of_value = refl; from_number = omega arith; to_number = omega arith; beyond = refl })))

-- they are in order
pub wanted_sorted : (value_id from to : ℕ) (after : Option Entry) (entries : List Entry) → IsStrictlySortedBy entry_cmp entries → IsStrictlySortedBy entry_cmp (wanted_of value_id from to after entries)
wanted_sorted value_id from to after entries sorted = IsStrictlySortedBy-filter entry_cmp (is_wanted value_id from to after) entries sorted

-- of two entries in order, what is beyond the greater is beyond the less
after_less : (e f g : Entry) → entry_cmp e f ≡ Less → is_gt (entry_cmp g f) ≡ true → is_gt (entry_cmp g e) ≡ true
after_less e f g less more = by_order (entry_cmp g f) refl more
  where
    flipped : (x y : Entry) (r : Ordering) → entry_cmp x y ≡ r → entry_cmp y x ≡ ordering_reverse r
    flipped x y r is = entry_total.antisymm y x ∙ ap ordering_reverse is

    by_order : (r : Ordering) → entry_cmp g f ≡ r → is_gt r ≡ true → is_gt (entry_cmp g e) ≡ true
    by_order Less is gt = absurd (cc)
    by_order Equal is gt = absurd (cc)
    by_order Greater is gt = ap is_gt (flipped e g Less (entry_total.trans e f g less (flipped g f Greater is)))

-- a list in order, beyond one of its elements, is what stands after it
beyond_run : (entries : List Entry) (k : ℕ) (d : Entry) → IsStrictlySortedBy entry_cmp entries → k < length entries → filter (λ e. is_gt (entry_cmp e (get_or entries k d))) entries ≡ drop (k + 1) entries
beyond_run entries k d sorted within =
    skip_run beyond entries (k + 1) (omega arith) (λ j c below. not_beyond j c below)
    ∙ front_run beyond (drop (k + 1) entries) (length (drop (k + 1) entries)) (λ j c l inside. is_beyond j c inside) (λ j c l inside. absurd (omega (arith, l, inside)))
    ∙ take_all (length (drop (k + 1) entries)) (drop (k + 1) entries) (omega arith)
  where
    beyond : Entry → Bool
    beyond e = is_gt (entry_cmp e (get_or entries k d))

    not_beyond : (j : ℕ) (c : Entry) → j < k + 1 → is_gt (entry_cmp (get_or entries j c) (get_or entries k d)) ≡ false
    not_beyond j c below = elim (cases_eq j k) [
      | inl same ↦ ap (λ x. is_gt (entry_cmp x (get_or entries k d))) (ap (λ n. get_or entries n c) same ∙ get_or_default entries k c d within) ∙ ap is_gt (tied_itself entry_total (get_or entries k d))
      | inr differ ↦ ap (λ x. is_gt (entry_cmp (get_or entries j c) x)) (get_or_default entries k d c within) ∙ ap is_gt (sorted_pairs entry_cmp entries sorted j k c (omega (arith, below, differ)) within)
    ]

    is_beyond : (j : ℕ) (c : Entry) → j < length (drop (k + 1) entries) → is_gt (entry_cmp (get_or (drop (k + 1) entries) j c) (get_or entries k d)) ≡ true
    is_beyond j c inside =
        let less = sorted_pairs entry_cmp entries sorted k (k + 1 + j) c (omega arith) (omega (arith, inside, length-drop (k + 1) entries)) in
        ap (λ x. is_gt (entry_cmp x (get_or entries k d))) (get_or-drop (k + 1) entries j c)
        ∙ ap (λ x. is_gt (entry_cmp (get_or entries (k + 1 + j) c) x)) (get_or_default entries k d c within)
        ∙ ap is_gt (entry_total.antisymm (get_or entries (k + 1 + j) c) (get_or entries k c) ∙ ap ordering_reverse less)

-- what is beyond an entry that is beyond another is beyond that too
beyond_too : (after : Option Entry) (last e : Entry) → is_gt (entry_cmp e last) ≡ true → is_after after last ≡ true → is_after after e ≡ true
beyond_too None last e more beyond = refl
beyond_too (Some low) last e more beyond = after_less low last e (by_order (entry_cmp last low) refl beyond) more
  where
    by_order : (r : Ordering) → entry_cmp last low ≡ r → is_gt r ≡ true → entry_cmp low last ≡ Less
    by_order Less is gt = absurd (cc)
    by_order Equal is gt = absurd (cc)
    by_order Greater is gt = entry_total.antisymm low last ∙ ap ordering_reverse is

with_after : (w b g : Bool) → (g ≡ true → b ≡ true) → (w && g) ≡ ((w && b) && g)
with_after true true g follows = refl
with_after true false true follows = absurd (both_ways false refl (follows refl))
with_after true false false follows = refl
with_after false b g follows = refl

-- asked again after the k-th of the entries that were wanted, the index has those after it
pub asked_after : (value_id from to : ℕ) (after : Option Entry) (entries : List Entry) (k : ℕ) (d : Entry) → IsStrictlySortedBy entry_cmp entries → k < length (wanted_of value_id from to after entries)
    → wanted_of value_id from to (Some (get_or (wanted_of value_id from to after entries) k d)) entries ≡ drop (k + 1) (wanted_of value_id from to after entries)
asked_after value_id from to after entries k d sorted within =
    filter_agree (is_wanted value_id from to (Some last)) (λ e. is_wanted value_id from to after e && is_gt (entry_cmp e last)) same entries
    ∙ sym (filter-filter (λ e. is_gt (entry_cmp e last)) (is_wanted value_id from to after) (λ e. is_wanted value_id from to after e && is_gt (entry_cmp e last)) entries (λ e. refl))
    ∙ beyond_run (wanted_of value_id from to after entries) k d (wanted_sorted value_id from to after entries sorted) within
  where
    last : Entry
    last = get_or (wanted_of value_id from to after entries) k d

    same : (e : Entry) → is_wanted value_id from to (Some last) e ≡ (is_wanted value_id from to after e && is_gt (entry_cmp e last))
    same e = with_after ((e.value_id == value_id) && nat_le from e.seq && nat_le e.seq to) (is_after after e) (is_gt (entry_cmp e last)) (λ more. beyond_too after last e more (wanted_are value_id from to after entries last (Contains-get_or (wanted_of value_id from to after entries) k d within)).beyond)

-- a leaf that an entry lies in begins at or before it
pub from_own_leaf : (leaf : Leaf) (bounds : List Entry) (e : Entry) → is_from leaf e ≡ true → is_from (leaf_from leaf bounds e) e ≡ true
from_own_leaf leaf [] e from = from
from_own_leaf leaf (bound ∷ bounds) e from = by_test (is_lt (entry_cmp e bound)) refl (λ at. from_own_leaf (Some bound) bounds e at)
  where
    by_test : (b : Bool) → is_lt (entry_cmp e bound) ≡ b → (is_from (Some bound) e ≡ true → is_from (leaf_from (Some bound) bounds e) e ≡ true) → is_from (cond b leaf (leaf_from (Some bound) bounds e)) e ≡ true
    by_test true below rest = from
    by_test false at rest = rest (not_from_false (is_lt (entry_cmp e bound)) at)

-- each entry of a batch was wanted and lies in its leaf, so the leaf begins at or before it
pub batch_holds : (bounds : List Entry) (first : Entry) (rest : List Entry) (e : Entry) → Contains (batch_of bounds (first ∷ rest)) e → Contains (first ∷ rest) e × (in_leaf bounds (leaf_of bounds first) e ≡ true)
batch_holds bounds first rest e held = filter_holds (in_leaf bounds (leaf_of bounds first)) (first ∷ rest) e held

pub batch_from_leaf : (bounds : List Entry) (first : Entry) (rest : List Entry) (e : Entry) → Contains (batch_of bounds (first ∷ rest)) e → is_from (leaf_of bounds first) e ≡ true
batch_from_leaf bounds first rest e held = (and_parts (is_from (leaf_of bounds first) e) (is_below (next_bound bounds (leaf_of bounds first)) e) (batch_holds bounds first rest e held).1).0

-- what lies at or beyond a bound, or below one, with what is greater, or less
from_up : (leaf : Leaf) (e f : Entry) → entry_cmp e f ≡ Less → is_from leaf e ≡ true → is_from leaf f ≡ true
from_up None e f less from = refl
from_up (Some bound) e f less from = by_order (entry_cmp f bound) refl
  where
    by_order : (r : Ordering) → entry_cmp f bound ≡ r → not (is_lt r) ≡ true
    by_order Less below = absurd (both_ways (not (is_lt (entry_cmp e bound))) (ap (λ r. not (is_lt r)) (entry_total.trans e f bound less below)) from)
    by_order Equal is = refl
    by_order Greater is = refl

below_down : (bound : Option Entry) (e f : Entry) → entry_cmp e f ≡ Less → is_below bound f ≡ true → is_below bound e ≡ true
below_down None e f less below = refl
below_down (Some bound) e f less below = by_order (entry_cmp f bound) refl below
  where
    by_order : (r : Ordering) → entry_cmp f bound ≡ r → is_lt r ≡ true → is_lt (entry_cmp e bound) ≡ true
    by_order Less is lt = ap is_lt (entry_total.trans e f bound less is)
    by_order Equal is lt = absurd (cc)
    by_order Greater is lt = absurd (cc)

-- a batch is the front of what is wanted
pub batch_front : (bounds wanted : List Entry) → IsStrictlySortedBy entry_cmp wanted → batch_of bounds wanted ≡ take (length (batch_of bounds wanted)) wanted
batch_front bounds [] sorted = refl
batch_front bounds (first ∷ rest) sorted =
    let front = while_run test (first ∷ rest) closed in
    front ∙ sym (take_min (prefix_len test (first ∷ rest)) (first ∷ rest)) ∙ ap (λ n. take n (first ∷ rest)) (sym (ap length front ∙ length-take (prefix_len test (first ∷ rest)) (first ∷ rest)))
  where
    test : Entry → Bool
    test = in_leaf bounds (leaf_of bounds first)

    all_from : (i : ℕ) (d : Entry) → i < length (first ∷ rest) → is_from (leaf_of bounds first) (get_or (first ∷ rest) i d) ≡ true
    all_from zero d within = from_own_leaf None bounds first refl
    all_from (suc i) d within = from_up (leaf_of bounds first) first (get_or (first ∷ rest) (suc i) d) (sorted_pairs entry_cmp (first ∷ rest) sorted zero (suc i) d (omega arith) within) (from_own_leaf None bounds first refl)

    closed : (i j : ℕ) (d : Entry) → i ≤ j → j < length (first ∷ rest) → in_leaf bounds (leaf_of bounds first) (get_or (first ∷ rest) j d) ≡ true → in_leaf bounds (leaf_of bounds first) (get_or (first ∷ rest) i d) ≡ true
    closed i j d at_most within lies = elim (cases_eq i j) [
      | inl same ↦ ap (λ n. in_leaf bounds (leaf_of bounds first) (get_or (first ∷ rest) n d)) same ∙ lies
      | inr differ ↦
          let less = sorted_pairs entry_cmp (first ∷ rest) sorted i j d (omega (arith, at_most, differ)) within in
          let parts = and_parts (is_from (leaf_of bounds first) (get_or (first ∷ rest) j d)) (is_below (next_bound bounds (leaf_of bounds first)) (get_or (first ∷ rest) j d)) lies in
          and_from (is_from (leaf_of bounds first) (get_or (first ∷ rest) i d)) (is_below (next_bound bounds (leaf_of bounds first)) (get_or (first ∷ rest) i d)) (all_from i d (omega (arith, at_most, within))) (below_down (next_bound bounds (leaf_of bounds first)) (get_or (first ∷ rest) i d) (get_or (first ∷ rest) j d) less parts.1)
    ]

-- a batch leaves out no entry: what is wanted is the batch, and then what is wanted after its last entry
pub none_left_out : (value_id from to : ℕ) (after : Option Entry) (entries bounds : List Entry) (k : ℕ) (d : Entry) → IsStrictlySortedBy entry_cmp entries → length (batch_of bounds (wanted_of value_id from to after entries)) ≡ k + 1
    → wanted_of value_id from to after entries ≡ batch_of bounds (wanted_of value_id from to after entries) ++ wanted_of value_id from to (Some (get_or (batch_of bounds (wanted_of value_id from to after entries)) k d)) entries
none_left_out value_id from to after entries bounds k d sorted count =
    sym (take-append-drop (k + 1) wanted) ∙ ap (λ ys. ys ++ drop (k + 1) wanted) (sym front) ∙ ap (λ ys. batch_of bounds wanted ++ ys) (sym (asked_after value_id from to after entries k d sorted within) ∙ ap (λ e. wanted_of value_id from to (Some e) entries) (sym last))
  where
    wanted : List Entry
    wanted = wanted_of value_id from to after entries

    front : batch_of bounds (wanted_of value_id from to after entries) ≡ take (k + 1) (wanted_of value_id from to after entries)
    front = batch_front bounds (wanted_of value_id from to after entries) (wanted_sorted value_id from to after entries sorted) ∙ ap (λ n. take n (wanted_of value_id from to after entries)) count

    within : k < length (wanted_of value_id from to after entries)
    within = omega (arith, count, ap length front, length-take (k + 1) (wanted_of value_id from to after entries))

    last : get_or (batch_of bounds (wanted_of value_id from to after entries)) k d ≡ get_or (wanted_of value_id from to after entries) k d
    last = ap (λ ys. get_or ys k d) front ∙ get_or-take (k + 1) (wanted_of value_id from to after entries) k d (omega arith)

-- an empty batch with nothing beyond it says that nothing is wanted
pub nothing_wanted : (batch wanted : List Entry) (more : Bool) → batch ≡ [] → more ≡ nat_lt (length batch) (length wanted) → more ≡ false → wanted ≡ []
nothing_wanted batch wanted more empty is none =
    let at_most : length wanted ≤ length batch = ltb-false (length batch) (length wanted) (sym is ∙ none) in
    nil_from_length wanted (omega (arith, at_most, ap length empty))

-- asking for a batch leaves the entries
pub entries-batch : (index : Index) (session : ℕ) (wanted : List Entry) → Index.entries (after_batch index session wanted) ≡ Index.entries index
entries-batch index session [] = refl
entries-batch index session (first ∷ rest) = refl
