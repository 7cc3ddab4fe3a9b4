-- What is wanted, and the entries of a value, by the leaf in which they begin.
use Rattle.std.proofs.Common.{◌≡◌, inl, inr, ℕ, zero, suc, ◌<◌, ◌≤◌, ◌+◌, Bool, true, false, not, ◌&&◌, nat_lt, Option, Some, None, List, [], ◌∷◌, ◌++◌, length, take, drop, get_or, slice_get, filter, Contains, refl, sym, ap, ◌∙◌, subst, arith}
use Rattle.std.specs.Option.{option_map_or}
use Rattle.std.specs.List.Sorted.{IsStrictlySortedBy}
use Rattle.std.specs.declared.cmp.Ordering.TheVariants.{Less}
use Rattle.std.proofs.lemmas.Bool.{both_ways, cases_Bool, cases_eq, lt-ltb, le-ltb, and_right}
use Rattle.std.proofs.lemmas.List.{append-nil, take_all, length-append, length-drop, get_or-drop}
use Rattle.std.proofs.lemmas.List.Elements.{filter-append}
use Rattle.std.proofs.lemmas.Option.{slice_get_within, get_or_from_slice_get, same_Some}
use Rattle.chunk_index.specs.declared.entry.Entry.{Entry}
use Rattle.chunk_index.specs.Entries.{entry_cmp, is_wanted, wanted_of, comes_before, reaches}
use Rattle.chunk_index.specs.Leaves.{Leaf, in_leaf, leaf_of, next_bound}
use Rattle.chunk_index.specs.Indexes.{batch_of}
use Rattle.chunk_index.specs.Nodes.{Node, entries_in, bounds_in, first_bound, AreNodes, AreUpper, AreLeaves}
use Rattle.chunk_index.specs.Places.{IsParting, first_leaf, reaches_on}
use Rattle.list_facts.proofs.Members.{none_in_nil, first_in, filter_holds, held_by_filter}
use Rattle.chunk_index.proofs.Searches.{sorted_pairs}
use Rattle.chunk_index.proofs.Wants.{reaches_down, wanted_is}
use Rattle.chunk_index.proofs.Chains.{nodes_right, entries_in_order}
use Rattle.chunk_index.proofs.Cuts.{IsCut, cut_at, entries_cut, upper_after, in_own, out_after, filter_all, filter_none, filter_three}
use Rattle.chunk_index.proofs.Changes.{parted_at}
use Rattle.chunk_index.proofs.Placed.{apart, in_node}

-- an entry before all that are wanted is not, one beyond them is not, and any other is
not_ahead : (value_id from to : ℕ) (after : Option Entry) (e : Entry) → comes_before value_id from after e ≡ true → is_wanted value_id from to after e ≡ false
not_ahead value_id from to after e ahead = wanted_is value_id from to after e ∙ ap (λ b. not b && reaches value_id to e) ahead

not_beyond : (value_id from to : ℕ) (after : Option Entry) (e : Entry) → reaches value_id to e ≡ false → is_wanted value_id from to after e ≡ false
not_beyond value_id from to after e beyond = wanted_is value_id from to after e ∙ and_right (not (comes_before value_id from after e)) (reaches value_id to e) beyond

between : (value_id from to : ℕ) (after : Option Entry) (e : Entry) → comes_before value_id from after e ≡ false → reaches value_id to e ≡ true → is_wanted value_id from to after e ≡ true
between value_id from to after e behind reached = wanted_is value_id from to after e ∙ ap (λ b. not b && reaches value_id to e) behind ∙ reached

-- where all leaves lie before what is wanted, nothing is
pub nothing_wanted_in : (value_id from to : ℕ) (after : Option Entry) (nodes : List Node) (at : ℕ) → IsParting (comes_before value_id from after) nodes at → length nodes ≤ at → wanted_of value_id from to after (entries_in nodes) ≡ []
nothing_wanted_in value_id from to after nodes at parting past = filter_none (is_wanted value_id from to after) (entries_in nodes) (λ e held. not_ahead value_id from to after e (parting.before e (subst (λ ns. Contains (entries_in ns) e) (sym (take_all at nodes past)) held)))

-- else, of what stands before a leaf, in it and after it, what is wanted begins in it
module _ (value_id from to : ℕ) (after : Option Entry) {bounds : List Entry} {leaf : Leaf} {next : Option Entry} {low own high : List Entry} (cut : IsCut bounds leaf next low own high)
    (ahead : (e : Entry) → Contains low e → comes_before value_id from after e ≡ true) (behind : (e : Entry) → Contains high e → comes_before value_id from after e ≡ false)
    (first : (e : Entry) × Contains own e × (comes_before value_id from after e ≡ false)) (less : (e f : Entry) → Contains own e → Contains high f → entry_cmp e f ≡ Less) where
  pub wanted_cut : wanted_of value_id from to after (low ++ (own ++ high)) ≡ wanted_of value_id from to after own ++ wanted_of value_id from to after high
  wanted_cut =
      filter_three (is_wanted value_id from to after) low own high
      ∙ ap (λ es. es ++ (wanted_of value_id from to after own ++ wanted_of value_id from to after high)) (filter_none (is_wanted value_id from to after) low (λ e held. not_ahead value_id from to after e (ahead e held)))

  -- nothing later is wanted where nothing in it is
  pub none_later : wanted_of value_id from to after own ≡ [] → wanted_of value_id from to after high ≡ []
  none_later none = filter_none (is_wanted value_id from to after) high (λ e held. elim (cases_Bool (reaches value_id to e)) [
    | inl reached ↦ absurd (none_in_nil first.0 (subst (λ es. Contains es first.0) none (held_by_filter (is_wanted value_id from to after) own first.0 first.1 (between value_id from to after first.0 first.2 (reaches_down value_id to first.0 e (less first.0 e first.1 held) reached)))))
    | inr beyond ↦ not_beyond value_id from to after e beyond
  ])

  none_at_all : wanted_of value_id from to after own ≡ [] → wanted_of value_id from to after (low ++ (own ++ high)) ≡ []
  none_at_all none = wanted_cut ∙ ap (λ es. es ++ wanted_of value_id from to after high) none ∙ none_later none

  leaf_of_one : (f : Entry) → Contains own f → leaf_of bounds f ≡ leaf
  leaf_of_one f held = cut.is_own.own_is f (cut.from f held) (cut.below f held)

  by_wanted : (es : List Entry) → wanted_of value_id from to after own ≡ es → batch_of bounds (es ++ wanted_of value_id from to after high) ≡ es
  by_wanted [] is = ap (batch_of bounds) (none_later is)
  by_wanted (f ∷ fs) is =
      ap (λ l. filter (in_leaf bounds l) ((f ∷ fs) ++ wanted_of value_id from to after high)) (leaf_of_one f (in_one f (first_in f fs f refl)))
      ∙ filter-append (in_leaf bounds leaf) (f ∷ fs) (wanted_of value_id from to after high)
      ∙ ap (λ es. es ++ filter (in_leaf bounds leaf) (wanted_of value_id from to after high)) (filter_all (in_leaf bounds leaf) (f ∷ fs) (λ e held. in_own cut e (in_one e held)))
      ∙ ap (λ es. (f ∷ fs) ++ es) (filter_none (in_leaf bounds leaf) (wanted_of value_id from to after high) (λ e held. out_after cut e (filter_holds (is_wanted value_id from to after) high e held).0))
      ∙ append-nil (f ∷ fs)
    where
      in_one : (e : Entry) → Contains (f ∷ fs) e → Contains own e
      in_one e held = (filter_holds (is_wanted value_id from to after) own e (subst (λ es. Contains es e) (sym is) held)).0

  -- so the batch is what is wanted in it
  pub batch_cut : batch_of bounds (wanted_of value_id from to after (low ++ (own ++ high))) ≡ wanted_of value_id from to after own
  batch_cut = ap (batch_of bounds) wanted_cut ∙ by_wanted (wanted_of value_id from to after own) refl

  by_first : (es : List Entry) → wanted_of value_id from to after own ≡ es → 0 < length es → first_leaf bounds (es ++ wanted_of value_id from to after high) ≡ leaf
  by_first [] is some = absurd (omega (arith, some))
  by_first (f ∷ fs) is some = leaf_of_one f (filter_holds (is_wanted value_id from to after) own f (subst (λ es. Contains es f) (sym is) (first_in f fs f refl))).0

  pub leaf_cut : 0 < length (wanted_of value_id from to after own) → first_leaf bounds (wanted_of value_id from to after (low ++ (own ++ high))) ≡ leaf
  leaf_cut some = ap (first_leaf bounds) wanted_cut ∙ by_first (wanted_of value_id from to after own) refl some

  -- more is wanted exactly where the first entry after it is
  more_of : (t : Bool) → (t ≡ true → 0 < length (wanted_of value_id from to after high)) → (t ≡ false → wanted_of value_id from to after high ≡ []) → t ≡ nat_lt (length (wanted_of value_id from to after own)) (length (wanted_of value_id from to after (low ++ (own ++ high))))
  more_of true some none = let more = some refl in sym (lt-ltb (length (wanted_of value_id from to after own)) (length (wanted_of value_id from to after (low ++ (own ++ high)))) (omega (arith, more, ap length wanted_cut, length-append (wanted_of value_id from to after own) (wanted_of value_id from to after high))))
  more_of false some none = let no = none refl in sym (le-ltb (length (wanted_of value_id from to after own)) (length (wanted_of value_id from to after (low ++ (own ++ high)))) (omega (arith, ap length no, ap length wanted_cut, length-append (wanted_of value_id from to after own) (wanted_of value_id from to after high))))

  pub more_cut : (t : Bool) → IsStrictlySortedBy entry_cmp high → t ≡ option_map_or (reaches value_id to) (slice_get high 0) false → t ≡ nat_lt (length (wanted_of value_id from to after own)) (length (wanted_of value_id from to after (low ++ (own ++ high))))
  more_cut t sorted is = more_of t (λ yes. by_high high sorted (λ e held. behind e held) (sym is ∙ yes)) (λ no. none_high high sorted (sym is ∙ no))
    where
      by_high : (es : List Entry) → IsStrictlySortedBy entry_cmp es → ((e : Entry) → Contains es e → comes_before value_id from after e ≡ false) → option_map_or (reaches value_id to) (slice_get es 0) false ≡ true → 0 < length (wanted_of value_id from to after es)
      by_high [] order each reached = absurd (cc)
      by_high (e ∷ es) order each reached = at_least (wanted_of value_id from to after (e ∷ es)) e (held_by_filter (is_wanted value_id from to after) (e ∷ es) e (first_in e es e refl) (between value_id from to after e (each e (first_in e es e refl)) reached))
        where
          at_least : (xs : List Entry) (x : Entry) → Contains xs x → 0 < length xs
          at_least xs x held = omega (arith, held.1)

      none_high : (es : List Entry) → IsStrictlySortedBy entry_cmp es → option_map_or (reaches value_id to) (slice_get es 0) false ≡ false → wanted_of value_id from to after es ≡ []
      none_high [] order beyond = refl
      none_high (e ∷ es) order beyond = filter_none (is_wanted value_id from to after) (e ∷ es) (λ f held. not_beyond value_id from to after f (elim (cases_Bool (reaches value_id to f)) [
        | inl reached ↦ elim (cases_eq held.0 0) [
          | inl same ↦ absurd (both_ways (reaches value_id to e) beyond (ap (reaches value_id to) (ap (λ k. get_or (e ∷ es) k f) (sym same) ∙ held.2) ∙ reached))
          | inr later ↦ absurd (both_ways (reaches value_id to e) beyond (reaches_down value_id to e f (subst (λ g. entry_cmp e g ≡ Less) held.2 (sorted_pairs entry_cmp (e ∷ es) order 0 held.0 f (omega (arith, later)) held.1)) reached))
        ]
        | inr out ↦ out
      ]))

-- the same of leaves
first_of : (ys : List Node) (value_id to : ℕ) → AreUpper ys → reaches_on value_id to ys ≡ option_map_or (reaches value_id to) (slice_get (entries_in ys) 0) false
first_of [] value_id to upper = refl
first_of (y ∷ ys) value_id to upper = by_entries y.entries refl
  where
    by_entries : (es : List Entry) → y.entries ≡ es → option_map_or (reaches value_id to) (slice_get es 0) false ≡ option_map_or (reaches value_id to) (slice_get (es ++ entries_in ys) 0) false
    by_entries [] is = absurd (omega (arith, upper.0.filled, ap length is))
    by_entries (e ∷ es) is = refl

rest_in_order : (ys : List Node) → AreUpper ys → AreNodes ys None → IsStrictlySortedBy entry_cmp (entries_in ys)
unfolding IsStrictlySortedBy
rest_in_order [] upper are = tt
rest_in_order (y ∷ ys) upper are = entries_in_order y ys None upper.1 are

pub record IsBatch (value_id from to : ℕ) (after : Option Entry) (nodes : List Node) (node : Node) (more : Bool) : Type 0 where
  pub entries : batch_of (bounds_in nodes) (wanted_of value_id from to after (entries_in nodes)) ≡ wanted_of value_id from to after node.entries
  pub leaf : 0 < length (wanted_of value_id from to after node.entries) → first_leaf (bounds_in nodes) (wanted_of value_id from to after (entries_in nodes)) ≡ node.bound
  pub none : wanted_of value_id from to after node.entries ≡ [] → wanted_of value_id from to after (entries_in nodes) ≡ []
  pub more_is : more ≡ nat_lt (length (wanted_of value_id from to after node.entries)) (length (wanted_of value_id from to after (entries_in nodes)))

pub batch_at : (value_id from to : ℕ) (after : Option Entry) (nodes : List Node) (at : ℕ) (d : Node) (more : Bool) → AreLeaves nodes → IsParting (comes_before value_id from after) nodes at → at < length nodes → more ≡ reaches_on value_id to (drop (suc at) nodes) → IsBatch value_id from to after nodes (get_or nodes at d) more
batch_at value_id from to after nodes at d more are parting within is =
    subst (λ ns. IsBatch value_id from to after ns (get_or nodes at d) more) (sym parted)
    (record {
      entries = ap (λ es. batch_of (bounds_in (take at nodes ++ (get_or nodes at d ∷ drop (suc at) nodes))) (wanted_of value_id from to after es)) whole ∙ batch_cut value_id from to after cut parting.before parting.after (parting.own d within) less;
      leaf = λ some. ap (λ es. first_leaf (bounds_in (take at nodes ++ (get_or nodes at d ∷ drop (suc at) nodes))) (wanted_of value_id from to after es)) whole ∙ leaf_cut value_id from to after cut parting.before parting.after (parting.own d within) less some;
      none = λ no. ap (wanted_of value_id from to after) whole ∙ none_at_all value_id from to after cut parting.before parting.after (parting.own d within) less no;
      more_is = more_cut value_id from to after cut parting.before parting.after (parting.own d within) less more (rest_in_order (drop (suc at) nodes) upper rest.1) (is ∙ first_of (drop (suc at) nodes) value_id to upper)
          ∙ ap (λ es. nat_lt (length (wanted_of value_id from to after (Node.entries (get_or nodes at d)))) (length (wanted_of value_id from to after es))) (sym whole);
    })
  where
    parted : nodes ≡ take at nodes ++ (get_or nodes at d ∷ drop (suc at) nodes)
    parted = parted_at nodes at d within

    leaves : AreLeaves (take at nodes ++ (get_or nodes at d ∷ drop (suc at) nodes))
    leaves = subst AreLeaves parted are

    cut : IsCut (bounds_in (take at nodes ++ (get_or nodes at d ∷ drop (suc at) nodes))) (Node.bound (get_or nodes at d)) (first_bound (drop (suc at) nodes) None) (entries_in (take at nodes)) (Node.entries (get_or nodes at d)) (entries_in (drop (suc at) nodes))
    cut = cut_at (take at nodes) (get_or nodes at d) (drop (suc at) nodes) leaves

    whole : entries_in (take at nodes ++ (get_or nodes at d ∷ drop (suc at) nodes)) ≡ entries_in (take at nodes) ++ (Node.entries (get_or nodes at d) ++ entries_in (drop (suc at) nodes))
    whole = entries_cut (take at nodes) (get_or nodes at d) (drop (suc at) nodes)

    upper : AreUpper (drop (suc at) nodes)
    upper = upper_after (take at nodes) (get_or nodes at d) (drop (suc at) nodes) leaves.front

    rest : AreNodes (get_or nodes at d ∷ drop (suc at) nodes) None
    rest = nodes_right (take at nodes) (get_or nodes at d ∷ drop (suc at) nodes) None leaves.chain

    less : (e f : Entry) → Contains (Node.entries (get_or nodes at d)) e → Contains (entries_in (drop (suc at) nodes)) f → entry_cmp e f ≡ Less
    less e f he hf =
        let there = in_node (drop (suc at) nodes) d f hf in
        apart nodes e f are at (suc at + there.0) d (omega arith) (omega (arith, there.1, length-drop (suc at) nodes)) he (subst (λ (m : Node). Contains m.entries f) (get_or-drop (suc at) nodes there.0 d) there.2)

-- a leaf that was found by its place
pub some_at : (nodes : List Node) (at : ℕ) (node : Node) → Some node ≡ slice_get nodes at → (at < length nodes) × (get_or nodes at node ≡ node)
some_at nodes at node is = (slice_get_within nodes at node (sym is), get_or_from_slice_get nodes at node node (sym is))

pub none_at : (nodes : List Node) (at : ℕ) → None ≡ slice_get nodes at → length nodes ≤ at
none_at [] at is = omega arith
none_at (x ∷ xs) zero is = absurd (cc)
none_at (x ∷ xs) (suc at) is = omega (arith, none_at xs at is)

-- the bound of the leaf after one
pub next_of : (nodes : List Node) (at : ℕ) (d : Node) → AreLeaves nodes → at < length nodes → next_bound (bounds_in nodes) (Node.bound (get_or nodes at d)) ≡ first_bound (drop (suc at) nodes) None
next_of nodes at d are within = subst (λ ns. next_bound (bounds_in ns) (Node.bound (get_or nodes at d)) ≡ first_bound (drop (suc at) nodes) None) (sym (parted_at nodes at d within)) ((cut_at (take at nodes) (get_or nodes at d) (drop (suc at) nodes) (subst AreLeaves (parted_at nodes at d within) are)).is_own.next_is)

pub first_some : (nodes : List Node) (k : ℕ) (node : Node) → Some node ≡ slice_get nodes k → first_bound (drop k nodes) None ≡ node.bound
first_some [] k node is = absurd (cc)
first_some (x ∷ xs) zero node is = by_same is
  where
    by_same : Some node ≡ Some x → x.bound ≡ node.bound
    by_same same = ap Node.bound (sym (same_Some node x same))
first_some (x ∷ xs) (suc k) node is = first_some xs k node is

pub first_none : (nodes : List Node) (k : ℕ) → None ≡ slice_get nodes k → first_bound (drop k nodes) None ≡ None
first_none [] zero is = refl
first_none [] (suc k) is = refl
first_none (x ∷ xs) zero is = absurd (cc)
first_none (x ∷ xs) (suc k) is = first_none xs k is

-- what is told of a batch, where nothing is wanted
pub batch_none : (bounds wanted : List Entry) (entries : List Entry) (more : Bool) → wanted ≡ [] → entries ≡ [] → more ≡ false → (entries ≡ batch_of bounds wanted) × (more ≡ nat_lt (length entries) (length wanted)) × (None ≡ first_leaf bounds wanted)
batch_none bounds wanted entries more none is nothing = (is ∙ ap (batch_of bounds) (sym none), nothing ∙ sym (le-ltb (length entries) (length wanted) (omega (arith, ap length none))), ap (first_leaf bounds) (sym none))
