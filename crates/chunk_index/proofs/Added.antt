-- The leaves with one more entry, of which one may be split.
use Rattle.std.proofs.Common.{◌≡◌, inl, inr, ℕ, zero, suc, ◌<◌, ◌≤◌, ◌+◌, Bool, true, false, not, nat_le, cond, Option, Some, None, List, [], ◌∷◌, ◌++◌, length, take, drop, get_or, slice_get, Contains, refl, sym, ap, ◌∙◌, subst, arith}
use Rattle.std.specs.Option.{option_to_list, option_map_or}
use Rattle.std.specs.List.{AllByRecursion}
use Rattle.std.specs.List.Sorted.{IsStrictlySortedBy}
use Rattle.std.specs.declared.cmp.Ordering.{Ordering}
use Rattle.std.specs.declared.cmp.Ordering.TheVariants.{Less, Equal, Greater}
use Rattle.std.specs.Ordering.{is_lt}
use Rattle.std.proofs.lemmas.Bool.{leb-true, leb-false, cases_eq}
use Rattle.std.proofs.lemmas.Cmp.{tied_itself}
use Rattle.std.proofs.lemmas.List.{append_assoc, take-append-drop, length-take, length-drop, get_or-take, get_or-drop, get_or_default}
use Rattle.std.proofs.lemmas.List.Elements.{Contains-append_left, Contains-append_right, Contains-get_or}
use Rattle.std.proofs.lemmas.Option.{slice_get-get_or}
use Rattle.chunk_index.specs.declared.entry.Entry.{Entry}
use Rattle.chunk_index.specs.declared.entry.TheConstants.{LEAF_ENTRIES, LOWER_ENTRIES}
use Rattle.chunk_index.specs.Entries.{entry_cmp, with_entry}
use Rattle.chunk_index.specs.Leaves.{Leaf, is_from, is_below}
use Rattle.chunk_index.specs.Indexes.{bounds_split, bounds_with}
use Rattle.chunk_index.specs.Nodes.{Node, entries_in, bounds_in, first_bound, IsBefore, IsNode, AreNodes, IsUpper, AreLeaves}
use Rattle.chunk_index.specs.Places.{changed, split, added, IsPlaceOf}
use Rattle.chunk_index.proofs.Ordered.{entry_total, entry_equal}
use Rattle.chunk_index.proofs.Inserted.{IsStrictlySortedBy-inserted}
use Rattle.chunk_index.proofs.Inserts.{entry_was}
use Rattle.chunk_index.proofs.Searches.{sorted_pairs, sorted_drop}
use Rattle.chunk_index.proofs.Chains.{one_bound, flipped, less_from, nodes_right, above_all}
use Rattle.chunk_index.proofs.Cuts.{IsCut, cut_at, bounds_cut, entries_cut, upper_after, bounds_less}
use Rattle.chunk_index.proofs.Changes.{leaves_with, changed_at, parted_at, inserted_skips, inserted_stops, length_with, added_to_own, bounds_with_own}

-- a front of a list in order is in order
sorted_take : (xs : List Entry) (n : ℕ) → IsStrictlySortedBy entry_cmp xs → IsStrictlySortedBy entry_cmp (take n xs)
unfolding IsStrictlySortedBy
sorted_take [] zero sorted = tt
sorted_take [] (suc n) sorted = tt
sorted_take (x ∷ xs) zero sorted = tt
sorted_take (x ∷ xs) (suc n) sorted = (front (λ y. entry_cmp x y ≡ Less) xs n sorted.0, sorted_take xs n sorted.1)
  where
    front : (P : Entry → Type 0) (ys : List Entry) (m : ℕ) → AllByRecursion P ys → AllByRecursion P (take m ys)
    front P [] zero all = tt
    front P [] (suc m) all = tt
    front P (y ∷ ys) zero all = tt
    front P (y ∷ ys) (suc m) all = (all.0, front P ys m all.1)

-- an entry of a front, or of a back, by its place
in_take : (xs : List Entry) (n : ℕ) (e : Entry) → Contains (take n xs) e → (k : ℕ) × (k < n) × (k < length xs) × (get_or xs k e ≡ e)
in_take xs n e held = (held.0, omega (arith, held.1, length-take n xs), omega (arith, held.1, length-take n xs), sym (get_or-take n xs held.0 e (omega (arith, held.1, length-take n xs))) ∙ held.2)

in_drop : (xs : List Entry) (n : ℕ) (e : Entry) → Contains (drop n xs) e → (k : ℕ) × (n ≤ k) × (k < length xs) × (get_or xs k e ≡ e)
in_drop xs n e held = (n + held.0, omega arith, omega (arith, held.1, length-drop n xs), sym (get_or-drop n xs held.0 e) ∙ held.2)

-- a leaf with too many entries is two leaves
module _ (bound : Leaf) (next : Option Entry) (xs : List Entry) (x : Entry) (sorted : IsStrictlySortedBy entry_cmp xs) (many : LOWER_ENTRIES < length xs) (is : get_or xs LOWER_ENTRIES x ≡ x)
    (from : (e : Entry) → Contains xs e → is_from bound e ≡ true) (below : (e : Entry) → Contains xs e → is_below next e ≡ true) where
  held_x : Contains xs x
  held_x = (LOWER_ENTRIES, many, is)

  pub x_from : is_from bound x ≡ true
  x_from = from x held_x

  pub x_below : is_below next x ≡ true
  x_below = below x held_x

  -- the bound of the upper one is greater than that of both
  pub above_bound : IsBefore bound (Some x)
  above_bound = by_bound bound (λ e held. from e held)
    where
      first : Entry
      first = get_or xs 0 x

      first_less : entry_cmp first x ≡ Less
      first_less = subst (λ y. entry_cmp first y ≡ Less) is (sorted_pairs entry_cmp xs sorted 0 LOWER_ENTRIES x (omega arith) many)

      by_bound : (b : Leaf) → ((e : Entry) → Contains xs e → is_from b e ≡ true) → IsBefore b (Some x)
      by_bound None each = tt
      by_bound (Some b) each = by_order (entry_cmp first b) refl (each first (Contains-get_or xs 0 x (omega arith)))
        where
          by_order : (r : Ordering) → entry_cmp first b ≡ r → not (is_lt r) ≡ true → entry_cmp b x ≡ Less
          by_order Less at low = absurd (cc)
          by_order Equal at low = subst (λ y. entry_cmp y x ≡ Less) (entry_equal first b at) first_less
          by_order Greater at low = entry_total.trans b first x (flipped first b Greater at) first_less

  pub below_next : IsBefore (Some x) next
  below_next = by_next next x_below
    where
      by_next : (n : Option Entry) → is_below n x ≡ true → IsBefore (Some x) n
      by_next None low = tt
      by_next (Some n) low = less_from (entry_cmp x n) low

  pub lower_is : IsNode (record { bound = bound; entries = take LOWER_ENTRIES xs }) (Some x)
  lower_is = record {
    sorted = sorted_take xs LOWER_ENTRIES sorted;
    from = λ e held. let at = in_take xs LOWER_ENTRIES e held in from e (at.0, at.2, at.3);
    below = λ e held.
        let at = in_take xs LOWER_ENTRIES e held in
        ap is_lt (sym (ap (λ y. entry_cmp y x) (get_or_default xs at.0 x e at.2 ∙ at.3)) ∙ subst (λ y. entry_cmp (get_or xs at.0 x) y ≡ Less) is (sorted_pairs entry_cmp xs sorted at.0 LOWER_ENTRIES x at.1 many));
    room = omega (arith, length-take LOWER_ENTRIES xs);
    ordered = above_bound;
  }

  pub upper_is : length xs ≤ LEAF_ENTRIES + 1 → IsNode (record { bound = Some x; entries = drop LOWER_ENTRIES xs }) next
  upper_is few = record {
    sorted = sorted_drop entry_cmp xs LOWER_ENTRIES sorted;
    from = λ e held.
        let at = in_drop xs LOWER_ENTRIES e held in
        elim (cases_eq LOWER_ENTRIES at.0) [
          | inl same ↦ ap (λ r. not (is_lt r)) (ap (λ y. entry_cmp e y) (sym is ∙ ap (λ k. get_or xs k x) same ∙ get_or_default xs at.0 x e at.2 ∙ at.3) ∙ tied_itself entry_total e)
          | inr differ ↦ ap (λ r. not (is_lt r)) (flipped x e Less (subst (λ y. entry_cmp y e ≡ Less) is (subst (λ y. entry_cmp (get_or xs LOWER_ENTRIES x) y ≡ Less) (get_or_default xs at.0 x e at.2 ∙ at.3) (sorted_pairs entry_cmp xs sorted LOWER_ENTRIES at.0 x (omega (arith, at.1, differ)) at.2))))
        ];
    below = λ e held. let at = in_drop xs LOWER_ENTRIES e held in below e (at.0, at.2, at.3);
    room = omega (arith, length-drop LOWER_ENTRIES xs);
    ordered = below_next;
  }

  pub upper_there : IsUpper (record { bound = Some x; entries = drop LOWER_ENTRIES xs })
  upper_there = record { bounded = λ none. absurd (cc); filled = omega (arith, length-drop LOWER_ENTRIES xs) }

-- what the leaves have after it
pub record IsAdded (nodes new : List Node) (e : Entry) : Type 0 where
  pub entries : entries_in new ≡ with_entry (entries_in nodes) e
  pub bounds : bounds_in new ≡ bounds_with (bounds_in nodes) (entries_in nodes) e
  pub leaves : AreLeaves new

module _ (xs : List Node) (node : Node) (ys : List Node) (e : Entry) (are : AreLeaves (xs ++ node ∷ ys)) (from : is_from node.bound e ≡ true) (below : is_below (first_bound ys None) e ≡ true) (absent : Contains node.entries e → ⊥) where
  cut : IsCut (bounds_in (xs ++ node ∷ ys)) node.bound (first_bound ys None) (entries_in xs) node.entries (entries_in ys)
  cut = cut_at xs node ys are

  nodes : AreNodes (node ∷ ys) None
  nodes = nodes_right xs (node ∷ ys) None are.chain

  own_sorted : IsStrictlySortedBy entry_cmp (with_entry node.entries e)
  own_sorted = IsStrictlySortedBy-inserted entry_total e node.entries nodes.0.sorted (λ f held equal. absent (subst (λ g. Contains node.entries g) (sym (entry_equal e f equal)) held))

  own_from : (f : Entry) → Contains (with_entry node.entries e) f → is_from node.bound f ≡ true
  own_from f held = elim (entry_was node.entries e f held) [ inl there ↦ nodes.0.from f there | inr is ↦ subst (λ g. is_from node.bound g ≡ true) is from ]

  own_below : (f : Entry) → Contains (with_entry node.entries e) f → is_below (first_bound ys None) f ≡ true
  own_below f held = elim (entry_was node.entries e f held) [ inl there ↦ nodes.0.below f there | inr is ↦ subst (λ g. is_below (first_bound ys None) g ≡ true) is below ]

  entries_are : with_entry (entries_in (xs ++ node ∷ ys)) e ≡ entries_in xs ++ (with_entry node.entries e ++ entries_in ys)
  entries_are = ap (λ es. with_entry es e) (entries_cut xs node ys) ∙ added_to_own cut e from below

  bounds_are : bounds_with (bounds_in (xs ++ node ∷ ys)) (entries_in (xs ++ node ∷ ys)) e ≡ bounds_split (bounds_in (xs ++ node ∷ ys)) (with_entry node.entries e)
  bounds_are = ap (λ es. bounds_with (bounds_in (xs ++ node ∷ ys)) es e) (entries_cut xs node ys) ∙ bounds_with_own cut e from below

  -- the leaf holds it
  pub whole : (t : Bool) → nat_le (length (with_entry node.entries e)) LEAF_ENTRIES ≡ t → t ≡ true → IsAdded (xs ++ node ∷ ys) (xs ++ (record { bound = node.bound; entries = with_entry node.entries e } ∷ ys)) e
  whole t is holds = record {
    entries = entries_cut xs (record { bound = node.bound; entries = with_entry node.entries e }) ys ∙ sym entries_are;
    bounds = bounds_cut xs (record { bound = node.bound; entries = with_entry node.entries e }) ys ∙ sym (bounds_cut xs node ys)
        ∙ sym (ap (λ b. cond b (bounds_in (xs ++ node ∷ ys)) (option_map_or (with_entry (bounds_in (xs ++ node ∷ ys))) (slice_get (with_entry node.entries e) LOWER_ENTRIES) (bounds_in (xs ++ node ∷ ys)))) (is ∙ holds))
        ∙ sym bounds_are;
    leaves = leaves_with xs node (record { bound = node.bound; entries = with_entry node.entries e }) [] ys are refl (λ upper. record { bounded = upper.bounded; filled = omega (arith, length_with e node.entries) }) tt
        (record { sorted = own_sorted; from = own_from; below = own_below; room = leb-true (length (with_entry node.entries e)) LEAF_ENTRIES (is ∙ holds); ordered = nodes.0.ordered }, nodes.1);
  }

  -- or is split
  pub halves : (t : Bool) → nat_le (length (with_entry node.entries e)) LEAF_ENTRIES ≡ t → t ≡ false → IsAdded (xs ++ node ∷ ys) (xs ++ (split node.bound (with_entry node.entries e) ++ ys)) e
  halves t is fails =
      subst (λ o. IsAdded (xs ++ node ∷ ys) (xs ++ (record { bound = node.bound; entries = take LOWER_ENTRIES (with_entry node.entries e) } ∷ record { bound = o; entries = drop LOWER_ENTRIES (with_entry node.entries e) } ∷ ys)) e) (sym x_is) parts
    where
      many : LEAF_ENTRIES < length (with_entry node.entries e)
      many = leb-false (length (with_entry node.entries e)) LEAF_ENTRIES (is ∙ fails)

      x : Entry
      x = get_or (with_entry node.entries e) LOWER_ENTRIES e

      x_is : slice_get (with_entry node.entries e) LOWER_ENTRIES ≡ Some (get_or (with_entry node.entries e) LOWER_ENTRIES e)
      x_is = slice_get-get_or (with_entry node.entries e) LOWER_ENTRIES e (omega (arith, many))

      x_at : get_or (with_entry node.entries e) LOWER_ENTRIES (get_or (with_entry node.entries e) LOWER_ENTRIES e) ≡ get_or (with_entry node.entries e) LOWER_ENTRIES e
      x_at = get_or_default (with_entry node.entries e) LOWER_ENTRIES (get_or (with_entry node.entries e) LOWER_ENTRIES e) e (omega (arith, many))

      held : Contains (with_entry node.entries e) x
      held = Contains-get_or (with_entry node.entries e) LOWER_ENTRIES e (omega (arith, many))

      above : IsBefore node.bound (Some (get_or (with_entry node.entries e) LOWER_ENTRIES e))
      above = above_bound node.bound (first_bound ys None) (with_entry node.entries e) (get_or (with_entry node.entries e) LOWER_ENTRIES e) own_sorted (omega (arith, many)) x_at own_from own_below

      high : IsBefore (Some (get_or (with_entry node.entries e) LOWER_ENTRIES e)) (first_bound ys None)
      high = below_next node.bound (first_bound ys None) (with_entry node.entries e) (get_or (with_entry node.entries e) LOWER_ENTRIES e) own_sorted (omega (arith, many)) x_at own_from own_below

      bounds_more : with_entry (bounds_in xs ++ (option_to_list node.bound ++ bounds_in ys)) x ≡ bounds_in xs ++ (option_to_list node.bound ++ (x ∷ bounds_in ys))
      bounds_more =
          inserted_skips x (bounds_in xs) (option_to_list node.bound ++ bounds_in ys) (λ p there. ap is_lt (flipped p x Less (bounds_less xs node ys p x are there above)))
          ∙ ap (λ bs. bounds_in xs ++ bs) (inserted_skips x (option_to_list node.bound) (bounds_in ys) (λ b there. ap is_lt (flipped b x Less (subst (λ o. IsBefore o (Some x)) (one_bound node.bound b there) above))))
          ∙ ap (λ bs. bounds_in xs ++ (option_to_list node.bound ++ bs)) (inserted_stops x [] (bounds_in ys) (λ q there. ap is_lt (above_all (Some x) ys None q high (upper_after xs node ys are.front) nodes.1 there)))

      parts : IsAdded (xs ++ node ∷ ys) (xs ++ (record { bound = node.bound; entries = take LOWER_ENTRIES (with_entry node.entries e) } ∷ record { bound = Some (get_or (with_entry node.entries e) LOWER_ENTRIES e); entries = drop LOWER_ENTRIES (with_entry node.entries e) } ∷ ys)) e
      parts = record {
        entries = entries_cut xs (record { bound = node.bound; entries = take LOWER_ENTRIES (with_entry node.entries e) }) (record { bound = Some (get_or (with_entry node.entries e) LOWER_ENTRIES e); entries = drop LOWER_ENTRIES (with_entry node.entries e) } ∷ ys)
            ∙ ap (λ es. entries_in xs ++ es) (sym (append_assoc (take LOWER_ENTRIES (with_entry node.entries e)) (drop LOWER_ENTRIES (with_entry node.entries e)) (entries_in ys)) ∙ ap (λ es. es ++ entries_in ys) (take-append-drop LOWER_ENTRIES (with_entry node.entries e)))
            ∙ sym entries_are;
        bounds = bounds_cut xs (record { bound = node.bound; entries = take LOWER_ENTRIES (with_entry node.entries e) }) (record { bound = Some (get_or (with_entry node.entries e) LOWER_ENTRIES e); entries = drop LOWER_ENTRIES (with_entry node.entries e) } ∷ ys)
            ∙ sym bounds_more
            ∙ ap (λ bs. with_entry bs x) (sym (bounds_cut xs node ys))
            ∙ sym (ap (λ o. option_map_or (with_entry (bounds_in (xs ++ node ∷ ys))) o (bounds_in (xs ++ node ∷ ys))) x_is)
            ∙ sym (ap (λ b. cond b (bounds_in (xs ++ node ∷ ys)) (option_map_or (with_entry (bounds_in (xs ++ node ∷ ys))) (slice_get (with_entry node.entries e) LOWER_ENTRIES) (bounds_in (xs ++ node ∷ ys)))) (is ∙ fails))
            ∙ sym bounds_are;
        leaves = leaves_with xs node (record { bound = node.bound; entries = take LOWER_ENTRIES (with_entry node.entries e) }) (record { bound = Some (get_or (with_entry node.entries e) LOWER_ENTRIES e); entries = drop LOWER_ENTRIES (with_entry node.entries e) } ∷ []) ys are refl
            (λ there. record { bounded = there.bounded; filled = omega (arith, many, length-take LOWER_ENTRIES (with_entry node.entries e)) })
            (upper_there node.bound (first_bound ys None) (with_entry node.entries e) x own_sorted (omega (arith, many)) x_at own_from own_below, tt) (
              lower_is node.bound (first_bound ys None) (with_entry node.entries e) x own_sorted (omega (arith, many)) x_at own_from own_below,
              (
                upper_is node.bound (first_bound ys None) (with_entry node.entries e) x own_sorted (omega (arith, many)) x_at own_from own_below (omega (arith, length_with e node.entries, nodes.0.room)),
                nodes.1,
              ),
            );
      }

-- the leaf at the place of an entry holds it, or is split
pub added_leaves : (nodes : List Node) (e : Entry) (at : ℕ) → AreLeaves nodes → IsPlaceOf nodes e at → (Contains (entries_in nodes) e → ⊥) → IsAdded nodes (changed (added e) nodes at) e
added_leaves [] e at are place absent = absurd (are.front)
added_leaves (first ∷ rest) e at are place absent =
    subst (λ new. IsAdded (first ∷ rest) new e) (sym (changed_at (added e) (first ∷ rest) at first place.within))
    (subst (λ ns. IsAdded ns (take at (first ∷ rest) ++ (added e (get_or (first ∷ rest) at first) ++ drop (suc at) (first ∷ rest))) e) (sym parted)
    (by_room (nat_le (length (with_entry node.entries e)) LEAF_ENTRIES) refl))
  where
    node : Node
    node = get_or (first ∷ rest) at first

    parted : first ∷ rest ≡ take at (first ∷ rest) ++ (get_or (first ∷ rest) at first ∷ drop (suc at) (first ∷ rest))
    parted = parted_at (first ∷ rest) at first place.within

    leaves : AreLeaves (take at (first ∷ rest) ++ (get_or (first ∷ rest) at first ∷ drop (suc at) (first ∷ rest)))
    leaves = subst AreLeaves parted are

    not_there : Contains node.entries e → ⊥
    not_there held = absent (subst (λ es. Contains es e) (sym (ap entries_in parted ∙ entries_cut (take at (first ∷ rest)) node (drop (suc at) (first ∷ rest)))) (Contains-append_right (entries_in (take at (first ∷ rest))) (node.entries ++ entries_in (drop (suc at) (first ∷ rest))) e (Contains-append_left node.entries (entries_in (drop (suc at) (first ∷ rest))) e held)))

    by_room : (t : Bool) → nat_le (length (with_entry node.entries e)) LEAF_ENTRIES ≡ t → IsAdded (take at (first ∷ rest) ++ (get_or (first ∷ rest) at first ∷ drop (suc at) (first ∷ rest))) (take at (first ∷ rest) ++ (added e (get_or (first ∷ rest) at first) ++ drop (suc at) (first ∷ rest))) e
    by_room true is = subst (λ t. IsAdded (take at (first ∷ rest) ++ (node ∷ drop (suc at) (first ∷ rest))) (take at (first ∷ rest) ++ (cond t (record { bound = node.bound; entries = with_entry node.entries e } ∷ []) (split node.bound (with_entry node.entries e)) ++ drop (suc at) (first ∷ rest))) e) (sym is)
        (whole (take at (first ∷ rest)) node (drop (suc at) (first ∷ rest)) e leaves (place.from first) place.below not_there true is refl)
    by_room false is = subst (λ t. IsAdded (take at (first ∷ rest) ++ (node ∷ drop (suc at) (first ∷ rest))) (take at (first ∷ rest) ++ (cond t (record { bound = node.bound; entries = with_entry node.entries e } ∷ []) (split node.bound (with_entry node.entries e)) ++ drop (suc at) (first ∷ rest))) e) (sym is)
        (halves (take at (first ∷ rest)) node (drop (suc at) (first ∷ rest)) e leaves (place.from first) place.below not_there false is refl)
