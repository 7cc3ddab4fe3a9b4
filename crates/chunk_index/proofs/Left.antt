-- The leaves once one of them was swept.
use Rattle.std.proofs.Common.{◌≡◌, inl, inr, ℕ, suc, ◌<◌, ◌≤◌, ◌+◌, Bool, true, false, not, ◌&&◌, ◌==◌, cond, Option, Some, None, List, [], ◌∷◌, ◌++◌, length, take, drop, get_or, filter, count_by, Contains, refl, sym, ap, ◌∙◌, subst, arith}
use Rattle.std.specs.Option.{option_to_list, is_some}
use Rattle.std.specs.List.{list_any}
use Rattle.std.specs.List.Sorted.{IsStrictlySortedBy}
use Rattle.std.specs.declared.cmp.Ordering.TheVariants.{Less}
use Rattle.std.specs.Ordering.{is_eq}
use Rattle.std.proofs.lemmas.Bool.{eq-eqb, ne_eqb, and_left}
use Rattle.std.proofs.lemmas.List.{append-nil}
use Rattle.std.proofs.lemmas.List.Concat.{flat_map-append}
use Rattle.std.proofs.lemmas.List.Elements.{Contains-append_left, Contains-append_right, Contains-append_cases, All-from_recursion}
use Rattle.std.proofs.lemmas.List.Filters.{length-filter_both}
use Rattle.std.proofs.lemmas.List.Folds.{list_any_at, list_any_none}
use Rattle.std.proofs.lemmas.List.Kept.{IsStrictlySortedBy-filter}
use Rattle.std.proofs.lemmas.List.Sums.{length-filter}
use Rattle.slot_page.specs.declared.line.Tid.{Tid}
use Rattle.slot_page.specs.Tids.{is_listed}
use Rattle.chunk_index.specs.declared.entry.Entry.{Entry}
use Rattle.chunk_index.specs.declared.entry.TheConstants.{LEAF_ENTRIES}
use Rattle.chunk_index.specs.Entries.{entry_cmp}
use Rattle.chunk_index.specs.Leaves.{Leaf, in_leaf, same_leaf, bounds_left}
use Rattle.chunk_index.specs.Indexes.{IsLeaf, entries_of, is_swept, unswept}
use Rattle.chunk_index.specs.Nodes.{Node, content_of, entries_in, bounds_in, first_bound, IsBefore, IsNode, AreNodes, IsUpper, AreLeaves}
use Rattle.chunk_index.specs.Places.{IsContent, changed, left_by, kept}
use Rattle.list_facts.proofs.Members.{none_in_nil, first_in, filter_holds}
use Rattle.std.proofs.lemmas.Cmp.{tied_itself}
use Rattle.chunk_index.proofs.Ordered.{entry_total}
use Rattle.chunk_index.proofs.Chains.{one_bound, flipped, nodes_right, all_from, entries_in_order, bounds_in_order, above_all}
use Rattle.chunk_index.proofs.Cuts.{IsCut, cut_at, bounds_cut, entries_cut, bounds_low, own_entries, out_before, out_after, in_own, filter_all, filter_same_in, filter_three, filter_none, upper_after}
use Rattle.chunk_index.proofs.Changes.{leaves_with, leaves_without, changed_at, parted_at}

-- leaves with one that has a bound
record HasNode (nodes : List Node) (leaf : Leaf) : Type 0 where
  front : List Node
  node : Node
  back : List Node
  whole : nodes ≡ front ++ node ∷ back
  is_leaf : node.bound ≡ leaf

node_of : (nodes : List Node) (b : Entry) → Contains (bounds_in nodes) b → HasNode nodes (Some b)
node_of [] b held = absurd (none_in_nil b held)
node_of (x ∷ xs) b held = elim (Contains-append_cases (option_to_list x.bound) (bounds_in xs) b held) [
  | inl here ↦ record { front = []; node = x; back = xs; whole = refl; is_leaf = one_bound x.bound b here }
  | inr later ↦ further (node_of xs b later)
]
  where
    further : HasNode xs (Some b) → HasNode (x ∷ xs) (Some b)
    further has = record { front = x ∷ has.front; node = has.node; back = has.back; whole = ap (λ ns. x ∷ ns) has.whole; is_leaf = has.is_leaf }

-- what is true of the entries and bounds of leaves
room_of : (nodes : List Node) (leaf : Leaf) → AreLeaves nodes → HasNode nodes leaf → length (entries_of (bounds_in nodes) leaf (entries_in nodes)) ≤ LEAF_ENTRIES
room_of nodes leaf are has =
    subst (λ ns. length (entries_of (bounds_in ns) leaf (entries_in ns)) ≤ LEAF_ENTRIES) (sym has.whole)
    (subst (λ l. length (entries_of (bounds_in (has.front ++ has.node ∷ has.back)) l (entries_in (has.front ++ has.node ∷ has.back))) ≤ LEAF_ENTRIES) has.is_leaf
    (omega (arith, room, ap length own)))
  where
    parts : AreLeaves (has.front ++ has.node ∷ has.back)
    parts = subst AreLeaves has.whole are

    room : length (Node.entries has.node) ≤ LEAF_ENTRIES
    room = (nodes_right has.front (has.node ∷ has.back) None parts.chain).0.room

    own : entries_of (bounds_in (has.front ++ has.node ∷ has.back)) (Node.bound has.node) (entries_in (has.front ++ has.node ∷ has.back)) ≡ Node.entries has.node
    own = ap (λ es. entries_of (bounds_in (has.front ++ has.node ∷ has.back)) (Node.bound has.node) es) (entries_cut has.front has.node has.back) ∙ own_entries (cut_at has.front has.node has.back parts)

pub content_is : (nodes : List Node) → AreLeaves nodes → IsContent (content_of nodes)
content_is [] are = absurd (are.front)
content_is (x ∷ xs) are = record {
  entries_sorted = entries_in_order x xs None are.front.1 are.chain;
  bounds_sorted = subst (λ o. IsStrictlySortedBy entry_cmp (option_to_list o ++ bounds_in xs)) (sym are.front.0) (bounds_in_order xs None are.front.1 are.chain.1);
  within = λ leaf is. room_of (x ∷ xs) leaf are (has leaf is);
}
  where
    has : (leaf : Leaf) → IsLeaf (bounds_in (x ∷ xs)) leaf → HasNode (x ∷ xs) leaf
    has None is = record { front = []; node = x; back = xs; whole = refl; is_leaf = are.front.0 }
    has (Some b) is = node_of (x ∷ xs) b is

-- what a sweep takes and leaves, of what stands before a leaf, in it and after it
swept_no : (a b : Bool) → a ≡ false → not (a && b) ≡ true
swept_no true b is = absurd (cc)
swept_no false b is = refl

module _ {bounds : List Entry} {leaf : Leaf} {next : Option Entry} {before own after : List Entry} (cut : IsCut bounds leaf next before own after) (dead : List Tid) where
  unlisted : Entry → Bool
  unlisted e = not (is_listed dead e.tid)

  pub unswept_is : unswept bounds leaf dead (before ++ (own ++ after)) ≡ before ++ (filter (λ e. not (is_listed dead e.tid)) own ++ after)
  unswept_is =
      filter_three (λ e. not (is_swept bounds leaf dead e)) before own after
      ∙ ap (λ es. es ++ (filter (λ e. not (is_swept bounds leaf dead e)) own ++ filter (λ e. not (is_swept bounds leaf dead e)) after)) (filter_all (λ e. not (is_swept bounds leaf dead e)) before (λ e held. swept_no (in_leaf bounds leaf e) (is_listed dead e.tid) (out_before cut e held)))
      ∙ ap (λ es. before ++ (es ++ filter (λ e. not (is_swept bounds leaf dead e)) after)) (filter_same_in (λ e. not (is_swept bounds leaf dead e)) (λ e. not (is_listed dead e.tid)) own (λ e held. ap (λ b. not (b && is_listed dead e.tid)) (in_own cut e held)))
      ∙ ap (λ es. before ++ (filter (λ e. not (is_listed dead e.tid)) own ++ es)) (filter_all (λ e. not (is_swept bounds leaf dead e)) after (λ e held. swept_no (in_leaf bounds leaf e) (is_listed dead e.tid) (out_after cut e held)))

  taken_is : filter (is_swept bounds leaf dead) (before ++ (own ++ after)) ≡ filter (λ e. is_listed dead e.tid) own ++ []
  taken_is =
      filter_three (is_swept bounds leaf dead) before own after
      ∙ ap (λ es. es ++ (filter (is_swept bounds leaf dead) own ++ filter (is_swept bounds leaf dead) after)) (filter_none (is_swept bounds leaf dead) before (λ e held. and_left (in_leaf bounds leaf e) (is_listed dead e.tid) (out_before cut e held)))
      ∙ ap (λ es. es ++ filter (is_swept bounds leaf dead) after) (filter_same_in (is_swept bounds leaf dead) (λ e. is_listed dead e.tid) own (λ e held. ap (λ b. b && is_listed dead e.tid) (in_own cut e held)))
      ∙ ap (λ es. filter (λ e. is_listed dead e.tid) own ++ es) (filter_none (is_swept bounds leaf dead) after (λ e held. and_left (in_leaf bounds leaf e) (is_listed dead e.tid) (out_after cut e held)))

  pub taken_count : (n : ℕ) → n + length (filter (λ e. not (is_listed dead e.tid)) own) ≡ length own → n ≡ count_by (is_swept bounds leaf dead) (before ++ (own ++ after))
  taken_count n counted = omega (arith, counted, ap length taken_is, ap length (append-nil (filter (λ e. is_listed dead e.tid) own)), length-filter (is_swept bounds leaf dead) (before ++ (own ++ after)), length-filter_both (λ e. is_listed dead e.tid) (λ e. not (is_listed dead e.tid)) (λ e. refl) own)

  -- the leaf is left with an entry, or with none
  any_left : (e : Entry) → Contains (filter (λ f. not (is_listed dead f.tid)) own) e → list_any (in_leaf bounds leaf) (before ++ (filter (λ f. not (is_listed dead f.tid)) own ++ after)) ≡ true
  any_left e held =
      any_in (before ++ (filter (λ f. not (is_listed dead f.tid)) own ++ after)) e (Contains-append_right before (filter (λ f. not (is_listed dead f.tid)) own ++ after) e (Contains-append_left (filter (λ f. not (is_listed dead f.tid)) own) after e held)) (in_own cut e (filter_holds (λ f. not (is_listed dead f.tid)) own e held).0)
    where
      any_in : (es : List Entry) (f : Entry) → Contains es f → in_leaf bounds leaf f ≡ true → list_any (in_leaf bounds leaf) es ≡ true
      any_in es f there lies = list_any_at (in_leaf bounds leaf) es there.0 f there.1 (ap (in_leaf bounds leaf) there.2 ∙ lies)

  none_left : filter (λ f. not (is_listed dead f.tid)) own ≡ [] → list_any (in_leaf bounds leaf) (before ++ (filter (λ f. not (is_listed dead f.tid)) own ++ after)) ≡ false
  none_left empty =
      ap (λ es. list_any (in_leaf bounds leaf) (before ++ (es ++ after))) empty
      ∙ list_any_none (in_leaf bounds leaf) (before ++ after) (All-from_recursion (λ e. in_leaf bounds leaf e ≡ false) (before ++ after) (all_from (λ e. in_leaf bounds leaf e ≡ false) (before ++ after) (λ e held. elim (Contains-append_cases before after e held) [ inl there ↦ out_before cut e there | inr there ↦ out_after cut e there ])))

-- what the leaves have after it
pub record IsLeft (nodes new : List Node) (leaf : Leaf) (dead : List Tid) : Type 0 where
  pub entries : entries_in new ≡ unswept (bounds_in nodes) leaf dead (entries_in nodes)
  pub bounds : bounds_in new ≡ bounds_left (bounds_in nodes) leaf (unswept (bounds_in nodes) leaf dead (entries_in nodes))
  pub leaves : AreLeaves new

module _ (xs : List Node) (node : Node) (ys : List Node) (dead : List Tid) (are : AreLeaves (xs ++ node ∷ ys)) where
  cut : IsCut (bounds_in (xs ++ node ∷ ys)) node.bound (first_bound ys None) (entries_in xs) node.entries (entries_in ys)
  cut = cut_at xs node ys are

  nodes : AreNodes (node ∷ ys) None
  nodes = nodes_right xs (node ∷ ys) None are.chain

  entries_are : unswept (bounds_in (xs ++ node ∷ ys)) node.bound dead (entries_in (xs ++ node ∷ ys)) ≡ entries_in xs ++ (Node.entries (left_by dead node) ++ entries_in ys)
  entries_are = ap (λ es. unswept (bounds_in (xs ++ node ∷ ys)) node.bound dead es) (entries_cut xs node ys) ∙ unswept_is cut dead

  left_node : IsNode (left_by dead node) (first_bound ys None)
  left_node = record {
    sorted = IsStrictlySortedBy-filter entry_cmp (λ e. not (is_listed dead e.tid)) node.entries nodes.0.sorted;
    from = λ e held. nodes.0.from e (filter_holds (λ f. not (is_listed dead f.tid)) node.entries e held).0;
    below = λ e held. nodes.0.below e (filter_holds (λ f. not (is_listed dead f.tid)) node.entries e held).0;
    room = omega (arith, nodes.0.room, length-filter_both (λ e. is_listed dead e.tid) (λ e. not (is_listed dead e.tid)) (λ e. refl) node.entries);
    ordered = nodes.0.ordered;
  }

  -- the bounds stay where an entry is left, or there is no bound
  stays : (t : Bool) → list_any (in_leaf (bounds_in (xs ++ node ∷ ys)) node.bound) (entries_in xs ++ (Node.entries (left_by dead node) ++ entries_in ys)) ≡ t → (t ≡ true → ⊥) → node.bound ≡ None → bounds_in (xs ++ node ∷ ys) ≡ bounds_left (bounds_in (xs ++ node ∷ ys)) node.bound (entries_in xs ++ (Node.entries (left_by dead node) ++ entries_in ys))
  stays true is not_any first = absurd (not_any refl)
  stays false is not_any first =
      sym (filter_all (λ b. not (same_leaf (Some b) None)) (bounds_in (xs ++ node ∷ ys)) (λ b held. refl))
      ∙ ap (λ l. filter (λ b. not (same_leaf (Some b) l)) (bounds_in (xs ++ node ∷ ys))) (sym first)
      ∙ sym (ap (λ t. cond t (bounds_in (xs ++ node ∷ ys)) (filter (λ b. not (same_leaf (Some b) node.bound)) (bounds_in (xs ++ node ∷ ys)))) is)

  pub kept_one : bounds_in (xs ++ node ∷ ys) ≡ bounds_left (bounds_in (xs ++ node ∷ ys)) node.bound (entries_in xs ++ (Node.entries (left_by dead node) ++ entries_in ys)) → (IsUpper node → 0 < length (Node.entries (left_by dead node))) → IsLeft (xs ++ node ∷ ys) (xs ++ (left_by dead node ∷ ys)) node.bound dead
  kept_one same filled = record {
    entries = entries_cut xs (left_by dead node) ys ∙ sym entries_are;
    bounds = bounds_cut xs (left_by dead node) ys ∙ sym (bounds_cut xs node ys) ∙ same ∙ ap (λ es. bounds_left (bounds_in (xs ++ node ∷ ys)) node.bound es) (sym entries_are);
    leaves = leaves_with xs node (left_by dead node) [] ys are refl (λ upper. record { bounded = upper.bounded; filled = filled upper }) tt (left_node, nodes.1);
  }

  pub gone_one : (b : Entry) → node.bound ≡ Some b → Node.entries (left_by dead node) ≡ [] → IsLeft (xs ++ node ∷ ys) (xs ++ ys) node.bound dead
  gone_one b is empty = record {
    entries = flat_map-append (λ (n : Node). n.entries) xs ys ∙ ap (λ es. entries_in xs ++ (es ++ entries_in ys)) (sym empty) ∙ sym entries_are;
    bounds = flat_map-append (λ (n : Node). option_to_list n.bound) xs ys
        ∙ sym others
        ∙ ap (λ cs. filter (λ c. not (same_leaf (Some c) (Some b))) cs) (sym (bounds_cut xs node ys ∙ ap (λ o. bounds_in xs ++ (option_to_list o ++ bounds_in ys)) is))
        ∙ ap (λ l. filter (λ c. not (same_leaf (Some c) l)) (bounds_in (xs ++ node ∷ ys))) (sym is)
        ∙ sym (ap (λ t. cond t (bounds_in (xs ++ node ∷ ys)) (filter (λ c. not (same_leaf (Some c) node.bound)) (bounds_in (xs ++ node ∷ ys)))) (none_left cut dead empty))
        ∙ ap (λ es. bounds_left (bounds_in (xs ++ node ∷ ys)) node.bound es) (sym entries_are);
    leaves = leaves_without xs node ys b is are;
  }
    where
      others : filter (λ c. not (same_leaf (Some c) (Some b))) (bounds_in xs ++ (b ∷ [] ++ bounds_in ys)) ≡ bounds_in xs ++ bounds_in ys
      others =
          filter_three (λ c. not (same_leaf (Some c) (Some b))) (bounds_in xs) (b ∷ []) (bounds_in ys)
          ∙ ap (λ cs. cs ++ (filter (λ c. not (same_leaf (Some c) (Some b))) (b ∷ []) ++ filter (λ c. not (same_leaf (Some c) (Some b))) (bounds_in ys))) (filter_all (λ c. not (same_leaf (Some c) (Some b))) (bounds_in xs) (λ p held. ap (λ r. not (is_eq r)) (bounds_low xs node ys p b are held is)))
          ∙ ap (λ r. bounds_in xs ++ (cond (not (is_eq r)) (b ∷ []) [] ++ filter (λ c. not (same_leaf (Some c) (Some b))) (bounds_in ys))) (tied_itself entry_total b)
          ∙ ap (λ cs. bounds_in xs ++ cs) (filter_all (λ c. not (same_leaf (Some c) (Some b))) (bounds_in ys) (λ q held. ap (λ r. not (is_eq r)) (flipped b q Less (subst (λ o. IsBefore o (Some q)) is (above_all node.bound ys None q nodes.0.ordered (upper_after xs node ys are.front) nodes.1 held)))))

  -- so it is, whatever the leaf is left with
  pub left_one : IsLeft (xs ++ node ∷ ys) (xs ++ (kept (left_by dead node) ++ ys)) node.bound dead
  left_one = by_case node.bound refl (Node.entries (left_by dead node)) refl
    where
      same_first : node.bound ≡ None → (t : Bool) → list_any (in_leaf (bounds_in (xs ++ node ∷ ys)) node.bound) (entries_in xs ++ (Node.entries (left_by dead node) ++ entries_in ys)) ≡ t → bounds_in (xs ++ node ∷ ys) ≡ bounds_left (bounds_in (xs ++ node ∷ ys)) node.bound (entries_in xs ++ (Node.entries (left_by dead node) ++ entries_in ys))
      same_first first true any = sym (ap (λ t. cond t (bounds_in (xs ++ node ∷ ys)) (filter (λ b. not (same_leaf (Some b) node.bound)) (bounds_in (xs ++ node ∷ ys)))) any)
      same_first first false any = stays false any (λ e. absurd (cc)) first

      same_any : (e : Entry) → Contains (Node.entries (left_by dead node)) e → bounds_in (xs ++ node ∷ ys) ≡ bounds_left (bounds_in (xs ++ node ∷ ys)) node.bound (entries_in xs ++ (Node.entries (left_by dead node) ++ entries_in ys))
      same_any e held = sym (ap (λ t. cond t (bounds_in (xs ++ node ∷ ys)) (filter (λ b. not (same_leaf (Some b) node.bound)) (bounds_in (xs ++ node ∷ ys)))) (any_left cut dead e held))

      by_case : (b : Leaf) → node.bound ≡ b → (es : List Entry) → Node.entries (left_by dead node) ≡ es → IsLeft (xs ++ node ∷ ys) (xs ++ (kept (left_by dead node) ++ ys)) node.bound dead
      by_case None first es is =
          subst (λ o. IsLeft (xs ++ node ∷ ys) (xs ++ (cond (is_some o && (length (Node.entries (left_by dead node)) == 0)) [] (left_by dead node ∷ []) ++ ys)) node.bound dead) (sym first)
          (kept_one (same_first first (list_any (in_leaf (bounds_in (xs ++ node ∷ ys)) node.bound) (entries_in xs ++ (Node.entries (left_by dead node) ++ entries_in ys))) refl) (λ upper. absurd (upper.bounded first)))
      by_case (Some b) bound [] is =
          subst (λ o. IsLeft (xs ++ node ∷ ys) (xs ++ (cond (is_some o && (length (Node.entries (left_by dead node)) == 0)) [] (left_by dead node ∷ []) ++ ys)) node.bound dead) (sym bound)
          (subst (λ t. IsLeft (xs ++ node ∷ ys) (xs ++ (cond t [] (left_by dead node ∷ []) ++ ys)) node.bound dead) (sym (eq-eqb (length (Node.entries (left_by dead node))) 0 (ap length is)))
          (gone_one b bound is))
      by_case (Some b) bound (y ∷ more) is =
          subst (λ o. IsLeft (xs ++ node ∷ ys) (xs ++ (cond (is_some o && (length (Node.entries (left_by dead node)) == 0)) [] (left_by dead node ∷ []) ++ ys)) node.bound dead) (sym bound)
          (subst (λ t. IsLeft (xs ++ node ∷ ys) (xs ++ (cond t [] (left_by dead node ∷ []) ++ ys)) node.bound dead) (sym (ne_eqb (length (Node.entries (left_by dead node))) 0 (λ none. absurd (omega (arith, none, ap length is)))))
          (kept_one (same_any y (subst (λ es. Contains es y) (sym is) (first_in y more y refl))) (λ upper. omega (arith, ap length is))))

-- the leaf at a place is swept
pub left_leaves : (nodes : List Node) (at : ℕ) (d : Node) (dead : List Tid) → AreLeaves nodes → at < length nodes → IsLeft nodes (changed (λ node. kept (left_by dead node)) nodes at) (Node.bound (get_or nodes at d)) dead
left_leaves nodes at d dead are within =
    subst (λ new. IsLeft nodes new (Node.bound (get_or nodes at d)) dead) (sym (changed_at (λ node. kept (left_by dead node)) nodes at d within))
    (subst (λ ns. IsLeft ns (take at nodes ++ (kept (left_by dead (get_or nodes at d)) ++ drop (suc at) nodes)) (Node.bound (get_or nodes at d)) dead) (sym parted)
    (left_one (take at nodes) (get_or nodes at d) (drop (suc at) nodes) dead (subst AreLeaves parted are)))
  where
    parted : nodes ≡ take at nodes ++ (get_or nodes at d ∷ drop (suc at) nodes)
    parted = parted_at nodes at d within

-- how many entries went
pub left_count : (nodes : List Node) (at : ℕ) (d : Node) (dead : List Tid) (n : ℕ) → AreLeaves nodes → at < length nodes → n + length (Node.entries (left_by dead (get_or nodes at d))) ≡ length (Node.entries (get_or nodes at d)) → n ≡ count_by (is_swept (bounds_in nodes) (Node.bound (get_or nodes at d)) dead) (entries_in nodes)
left_count nodes at d dead n are within counted =
    subst (λ ns. n ≡ count_by (is_swept (bounds_in ns) (Node.bound (get_or nodes at d)) dead) (entries_in ns)) (sym parted)
    (taken_count (cut_at (take at nodes) (get_or nodes at d) (drop (suc at) nodes) (subst AreLeaves parted are)) dead n counted
    ∙ ap (λ es. count_by (is_swept (bounds_in (take at nodes ++ (get_or nodes at d ∷ drop (suc at) nodes))) (Node.bound (get_or nodes at d)) dead) es) (sym (entries_cut (take at nodes) (get_or nodes at d) (drop (suc at) nodes))))
  where
    parted : nodes ≡ take at nodes ++ (get_or nodes at d ∷ drop (suc at) nodes)
    parted = parted_at nodes at d within

-- one leaf with no entry
pub first_leaves : AreLeaves (record { bound = None; entries = [] } ∷ [])
unfolding IsStrictlySortedBy
first_leaves = record {
  front = (refl, tt);
  chain = (record { sorted = tt; from = λ e held. refl; below = λ e held. refl; room = omega arith; ordered = tt }, tt);
}
