-- The entries of a value by their places, from the leaf on in which they begin.
use Rattle.std.proofs.Common.{◌≡◌, inl, inr, ℕ, zero, suc, ◌<◌, ◌≤◌, ◌+◌, ◌-◌, true, false, not, ◌&&◌, ◌||◌, ◌==◌, nat_lt, if◌then◌else◌, Some, None, List, [], ◌∷◌, ◌++◌, length, take, drop, get_or, slice_get, Contains, refl, sym, ap, ◌∙◌, subst, arith, drop-cons}
use Rattle.std.specs.Option.{option_and_then}
use Rattle.std.specs.List.Sorted.{IsStrictlySortedBy, IsPartitionPoint}
use Rattle.std.proofs.lemmas.Bool.{cases_lt}
use Rattle.std.proofs.lemmas.Bool.Decides.{nat_tests}
use Rattle.std.proofs.lemmas.List.{take_all, drop_more, drop_all, length-append, get_or_append_left, get_or-append_right}
use Rattle.std.proofs.lemmas.List.Elements.{filter-append, Contains-get_or}
use Rattle.std.proofs.lemmas.List.Sums.{length-filter, count_by-le-length}
use Rattle.std.proofs.lemmas.Option.{slice_get_past, slice_get_within}
use Rattle.chunk_index.specs.declared.entry.Entry.{Entry}
use Rattle.chunk_index.specs.Entries.{entry_cmp, of_id, comes_before}
use Rattle.chunk_index.specs.Nodes.{Node, entries_in, AreLeaves}
use Rattle.chunk_index.specs.Places.{IsParting}
use Rattle.chunk_index.proofs.Wants.{nth_is}
use Rattle.chunk_index.proofs.Chains.{nodes_right, entries_in_order}
use Rattle.chunk_index.proofs.Cuts.{entries_cut, upper_after, filter_none}
use Rattle.chunk_index.proofs.Changes.{parted_at}

-- what comes before all entries of a value has a lesser value id
before_is : (value_id : ℕ) (e : Entry) → comes_before value_id 0 None e ≡ nat_lt e.value_id value_id
before_is value_id e = of_numbers e.value_id e.seq
  where
    of_numbers : (i s : ℕ) → ((nat_lt i value_id || (i == value_id) && nat_lt s 0) || not true) ≡ nat_lt i value_id
    of_numbers i s = grind (arith, nat_tests)

before_no : (value_id : ℕ) (e : Entry) → comes_before value_id 0 None e ≡ true → (e.value_id == value_id) ≡ false
before_no value_id e before = let less = sym (before_is value_id e) ∙ before in grind (arith, nat_tests, less)

get_dropped : {X : Type 0} (xs : List X) (i n : ℕ) → slice_get (drop i xs) n ≡ slice_get xs (i + n)
get_dropped xs zero n = let same : n ≡ zero + n = omega arith in ap (λ k. slice_get xs k) same
get_dropped [] (suc i) n = refl
get_dropped (x ∷ xs) (suc i) n = let same : suc (i + n) ≡ suc i + n = omega arith in get_dropped xs i n ∙ ap (λ k. slice_get (x ∷ xs) k) same

-- the place from which the entries of a value stand in a list, also where others follow that do not come before them
parts_on : (value_id : ℕ) (own high : List Entry) (start : ℕ) → start ≤ length own → IsPartitionPoint (λ e. comes_before value_id 0 None e ≡ true) (λ e. comes_before value_id 0 None e ≡ false) own start → ((e : Entry) → Contains high e → comes_before value_id 0 None e ≡ false)
    → IsPartitionPoint (λ (e : Entry). nat_lt e.value_id value_id ≡ true) (λ (e : Entry). nat_lt e.value_id value_id ≡ false) (own ++ high) start
parts_on value_id own high start within parts behind = (
  λ k d low below. ap (λ (e : Entry). nat_lt e.value_id value_id) (get_or_append_left own high d k (omega (arith, below))) ∙ sym (before_is value_id (get_or own k d)) ∙ parts.0 k d low below,
  λ k d at inside. elim (cases_lt k (length own)) [
    | inl here ↦ ap (λ (e : Entry). nat_lt e.value_id value_id) (get_or_append_left own high d k here) ∙ sym (before_is value_id (get_or own k d)) ∙ parts.1 k d at here
    | inr later ↦ ap (λ (e : Entry). nat_lt e.value_id value_id) (get_or-append_right own high (length own) k d refl later) ∙ sym (before_is value_id (get_or high (k - length own) d)) ∙ behind (get_or high (k - length own) d) (Contains-get_or high (k - length own) d (omega (arith, inside, later, length-append own high)))
  ],
)

pub nth_at : (value_id : ℕ) (nodes : List Node) (at : ℕ) (d : Node) (start n : ℕ) → AreLeaves nodes → IsParting (comes_before value_id 0 None) nodes at → at < length nodes → start ≤ length (Node.entries (get_or nodes at d)) → IsPartitionPoint (λ e. comes_before value_id 0 None e ≡ true) (λ e. comes_before value_id 0 None e ≡ false) (Node.entries (get_or nodes at d)) start
    → slice_get (of_id value_id (entries_in nodes)) n ≡ option_and_then (λ e. if e.value_id == value_id then Some e else None) (slice_get (entries_in (drop at nodes)) (start + n))
nth_at value_id nodes at d start n are parting within few parts =
    ap (λ es. slice_get es n) (ap (λ ns. of_id value_id (entries_in ns)) parted ∙ ap (of_id value_id) (entries_cut (take at nodes) (get_or nodes at d) (drop (suc at) nodes)) ∙ filter-append (λ e. e.value_id == value_id) (entries_in (take at nodes)) (Node.entries (get_or nodes at d) ++ entries_in (drop (suc at) nodes))
    ∙ ap (λ es. es ++ of_id value_id (Node.entries (get_or nodes at d) ++ entries_in (drop (suc at) nodes))) (filter_none (λ e. e.value_id == value_id) (entries_in (take at nodes)) (λ e held. before_no value_id e (parting.before e held))))
    ∙ nth_is value_id (Node.entries (get_or nodes at d) ++ entries_in (drop (suc at) nodes)) start n sorted (omega (arith, few, length-append (Node.entries (get_or nodes at d)) (entries_in (drop (suc at) nodes)))) (parts_on value_id (Node.entries (get_or nodes at d)) (entries_in (drop (suc at) nodes)) start few parts parting.after)
    ∙ ap (option_and_then (λ e. if e.value_id == value_id then Some e else None)) (get_dropped (Node.entries (get_or nodes at d) ++ entries_in (drop (suc at) nodes)) start n ∙ ap (λ ns. slice_get (entries_in ns) (start + n)) (sym (drop-cons nodes at d within)))
  where
    parted : nodes ≡ take at nodes ++ (get_or nodes at d ∷ drop (suc at) nodes)
    parted = parted_at nodes at d within

    leaves : AreLeaves (take at nodes ++ (get_or nodes at d ∷ drop (suc at) nodes))
    leaves = subst AreLeaves parted are

    sorted : IsStrictlySortedBy entry_cmp (Node.entries (get_or nodes at d) ++ entries_in (drop (suc at) nodes))
    sorted = entries_in_order (get_or nodes at d) (drop (suc at) nodes) None (upper_after (take at nodes) (get_or nodes at d) (drop (suc at) nodes) leaves.front) (nodes_right (take at nodes) (get_or nodes at d ∷ drop (suc at) nodes) None leaves.chain)

-- where each leaf lies before the value, it has no entry
pub nth_none : (value_id : ℕ) (nodes : List Node) (at n : ℕ) → IsParting (comes_before value_id 0 None) nodes at → length nodes ≤ at → None ≡ slice_get (of_id value_id (entries_in nodes)) n
nth_none value_id nodes at n parting past = sym (ap (λ es. slice_get es n) (filter_none (λ e. e.value_id == value_id) (entries_in nodes) (λ e held. before_no value_id e (parting.before e (subst (λ ns. Contains (entries_in ns) e) (sym (take_all at nodes past)) held)))))

-- an entry of a value stands at a place that is less than their number
pub nth_below : (value_id : ℕ) (entries : List Entry) (n : ℕ) (e : Entry) → slice_get (of_id value_id entries) n ≡ Some e → n < length entries
nth_below value_id entries n e is = omega (arith, slice_get_within (of_id value_id entries) n e is, length-filter (λ f. f.value_id == value_id) entries, count_by-le-length (λ f. f.value_id == value_id) entries)

-- a place beyond all entries has none
pub nth_beyond : (nodes : List Node) (at place : ℕ) → length (entries_in nodes) ≤ place → slice_get (entries_in (drop at nodes)) place ≡ None
nth_beyond nodes at place past = slice_get_past (entries_in (drop at nodes)) place (omega (arith, past, fewer nodes at))
  where
    fewer : (ns : List Node) (i : ℕ) → length (entries_in (drop i ns)) ≤ length (entries_in ns)
    fewer ns zero = omega arith
    fewer [] (suc i) = omega arith
    fewer (x ∷ xs) (suc i) = omega (arith, fewer xs i, length-append x.entries (entries_in xs))

-- the entries of some leaves by their places: in the first leaf, or in those after it
cut_drop : (nodes : List Node) (k : ℕ) (d : Node) → k < length nodes → entries_in (drop k nodes) ≡ Node.entries (get_or nodes k d) ++ entries_in (drop (k + 1) nodes)
cut_drop nodes k d within = ap entries_in (drop_more nodes k d within)

get_left : {X : Type 0} (xs ys : List X) (i : ℕ) → i < length xs → slice_get (xs ++ ys) i ≡ slice_get xs i
get_left [] ys i within = absurd (omega (arith, within))
get_left (x ∷ xs) ys zero within = refl
get_left (x ∷ xs) ys (suc i) within = get_left xs ys i (omega (arith, within))

get_right : {X : Type 0} (xs ys : List X) (i j : ℕ) → i ≡ length xs + j → slice_get (xs ++ ys) i ≡ slice_get ys j
get_right [] ys i j is = let same : i ≡ j = omega (arith, is) in ap (λ k. slice_get ys k) same
get_right (x ∷ xs) ys zero j is = absurd (omega (arith, is))
get_right (x ∷ xs) ys (suc i) j is = get_right xs ys i j (omega (arith, is))

pub entry_here : (nodes : List Node) (k : ℕ) (d : Node) (left : ℕ) → k < length nodes → left < length (Node.entries (get_or nodes k d)) → slice_get (Node.entries (get_or nodes k d)) left ≡ slice_get (entries_in (drop k nodes)) left
entry_here nodes k d left within here = sym (ap (λ es. slice_get es left) (cut_drop nodes k d within) ∙ get_left (Node.entries (get_or nodes k d)) (entries_in (drop (k + 1) nodes)) left here)

pub entry_later : (nodes : List Node) (k : ℕ) (d : Node) (left rest : ℕ) → k < length nodes → left ≡ length (Node.entries (get_or nodes k d)) + rest → slice_get (entries_in (drop k nodes)) left ≡ slice_get (entries_in (drop (k + 1) nodes)) rest
entry_later nodes k d left rest within is = ap (λ es. slice_get es left) (cut_drop nodes k d within) ∙ get_right (Node.entries (get_or nodes k d)) (entries_in (drop (k + 1) nodes)) left rest is

pub entry_none : (nodes : List Node) (k left : ℕ) → length nodes ≤ k → slice_get (entries_in (drop k nodes)) left ≡ None
entry_none nodes k left past = ap (λ ns. slice_get (entries_in ns) left) (drop_all k nodes past)
