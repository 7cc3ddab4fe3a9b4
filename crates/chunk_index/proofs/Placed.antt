-- Where entries lie among the leaves, as halves find it.
use Rattle.std.proofs.Common.{◌≡◌, inl, inr, ℕ, zero, suc, ◌<◌, ◌≤◌, ◌+◌, ◌-◌, Bool, true, false, Option, Some, None, List, [], ◌∷◌, length, take, drop, get_or, Contains, refl, sym, ap, ◌∙◌, subst, arith}
use Rattle.std.specs.Option.{option_map_or}
use Rattle.std.specs.List.Sorted.{IsStrictlySortedBy, IsPartitionPoint, IsPartitionedBy}
use Rattle.std.specs.declared.cmp.Ordering.TheVariants.{Less}
use Rattle.std.specs.Ordering.{is_lt}
use Rattle.std.proofs.lemmas.Bool.{both_ways, not-false, cases_eq, cases_lt, cases_Bool}
use Rattle.std.proofs.lemmas.List.{drop_more, drop_all, get_or-take, get_or-drop, length-take, length-drop}
use Rattle.std.proofs.lemmas.List.Elements.{Contains-append_left, Contains-append_right, Contains-append_cases, Contains-get_or}
use Rattle.std.proofs.lemmas.Option.{slice_get-get_or}
use Rattle.chunk_index.specs.declared.entry.Entry.{Entry}
use Rattle.chunk_index.specs.Entries.{entry_cmp}
use Rattle.chunk_index.specs.Leaves.{Leaf, is_from, is_below, leaf_at}
use Rattle.chunk_index.specs.Nodes.{Node, entries_in, bounds_in, first_bound, IsBefore, IsNode, AreNodes, AreUpper, AreLeaves}
use Rattle.chunk_index.specs.Places.{IsPlaceOf, IsSweepPlace, CanTake, IsParting, last_passes}
use Rattle.list_facts.proofs.Members.{none_in_nil}
use Rattle.chunk_index.proofs.Searches.{sorted_pairs}
use Rattle.chunk_index.proofs.Chains.{from_down, below_from, from_first}
use Rattle.chunk_index.proofs.Cuts.{cut_at}
use Rattle.chunk_index.proofs.Changes.{parted_at}

-- an entry that lies from a leaf's bound on lies from that of each leaf before it on
from_earlier : (x : Node) (xs : List Node) (next : Option Entry) (e : Entry) → AreUpper xs → AreNodes (x ∷ xs) next → (i j : ℕ) (d : Node) → i ≤ j → j < length (x ∷ xs) → is_from (Node.bound (get_or (x ∷ xs) j d)) e ≡ true → is_from (Node.bound (get_or (x ∷ xs) i d)) e ≡ true
from_earlier x xs next e upper are zero zero d at_most within from = from
from_earlier x [] next e upper are i (suc j) d at_most within from = absurd (omega (arith, within))
from_earlier x xs next e upper are (suc i) zero d at_most within from = absurd (omega (arith, at_most))
from_earlier x (y ∷ ys) next e upper are zero (suc j) d at_most within from = by_bound y.bound refl are.0.ordered (from_earlier y ys next e upper.1 are.1 zero j d (omega arith) (omega (arith, within)) from)
  where
    by_bound : (b : Leaf) → y.bound ≡ b → IsBefore x.bound b → is_from b e ≡ true → is_from x.bound e ≡ true
    by_bound None is before from' = absurd (upper.0.bounded is)
    by_bound (Some b) is before from' = from_down x.bound b e before from'
from_earlier x (y ∷ ys) next e upper are (suc i) (suc j) d at_most within from = from_earlier y ys next e upper.1 are.1 i j d (omega (arith, at_most)) (omega (arith, within)) from

pub begun_parts : (nodes : List Node) (e : Entry) → AreLeaves nodes → IsPartitionedBy (λ (n : Node). is_from n.bound e) nodes
begun_parts [] e are = λ i j d at_most within from. absurd (omega (arith, within))
begun_parts (x ∷ xs) e are = λ i j d at_most within from. from_earlier x xs None e are.front.1 are.chain i j d at_most within from

-- so the last leaf that begins at or before it is its own
module _ (nodes : List Node) (e : Entry) (n : ℕ) (are : AreLeaves nodes) (within : n ≤ length nodes) (parts : IsPartitionPoint (λ (m : Node). is_from m.bound e ≡ true) (λ (m : Node). is_from m.bound e ≡ false) nodes n) where
  pub one_begun : 0 < n
  one_begun = by_nodes nodes are parts.1
    where
      by_nodes : (ns : List Node) → AreLeaves ns → ((k : ℕ) (d : Node) → n ≤ k → k < length ns → is_from (Node.bound (get_or ns k d)) e ≡ false) → 0 < n
      by_nodes [] leaves fails = absurd (leaves.front)
      by_nodes (x ∷ xs) leaves fails = elim (cases_lt 0 n) [
        | inl some ↦ some
        | inr none ↦ absurd (both_ways (is_from x.bound e) (fails 0 x none (omega arith)) (ap (λ (b : Leaf). is_from b e) leaves.front.0))
      ]

  below_rest : (d : Node) → is_below (first_bound (drop n nodes) None) e ≡ true
  below_rest d = elim (cases_lt n (length nodes)) [
    | inl inside ↦ subst (λ ns. is_below (first_bound ns None) e ≡ true) (sym (drop_more nodes n d inside)) (by_bound (Node.bound (get_or nodes n d)) (parts.1 n d (omega arith) inside))
    | inr past ↦ subst (λ ns. is_below (first_bound ns None) e ≡ true) (sym (drop_all n nodes past)) refl
  ]
    where
      by_bound : (b : Leaf) → is_from b e ≡ false → is_below b e ≡ true
      by_bound None fails = absurd (cc)
      by_bound (Some b) fails = not-false (is_lt (entry_cmp e b)) fails

  pub place_is : (at : ℕ) → at + 1 ≡ n → IsPlaceOf nodes e at
  place_is at is = let same : n ≡ suc at = omega (arith, is) in record {
    within = omega (arith, is);
    from = λ d. parts.0 at d (omega arith) (omega (arith, is));
    below = subst (λ m. is_below (first_bound (drop m nodes) None) e ≡ true) same (by_nodes nodes are (λ d. below_rest d));
  }
    where
      by_nodes : (ns : List Node) → AreLeaves ns → ((d : Node) → is_below (first_bound (drop n nodes) None) e ≡ true) → is_below (first_bound (drop n nodes) None) e ≡ true
      by_nodes [] leaves rest = absurd (leaves.front)
      by_nodes (x ∷ xs) leaves rest = rest x

-- what is told of a leaf at a place
pub leaf_is : (nodes : List Node) (e : Entry) (at : ℕ) → AreLeaves nodes → IsPlaceOf nodes e at → IsSweepPlace nodes (Some e) at
leaf_is nodes e at are place = record {
  within = place.within;
  leaf = λ d. sym (subst (λ ns. leaf_at (bounds_in ns) (Some e) ≡ Node.bound (get_or nodes at d)) (sym (parted_at nodes at d place.within))
      ((cut_at (take at nodes) (get_or nodes at d) (drop (suc at) nodes) (subst AreLeaves (parted_at nodes at d place.within) are)).is_own.own_is e (place.from d) place.below));
}

pub first_place : (nodes : List Node) → AreLeaves nodes → IsSweepPlace nodes None 0
first_place [] are = absurd (are.front)
first_place (x ∷ xs) are = record { within = omega arith; leaf = λ d. are.front.0 }

-- the leaf at a place, as one of all
node_at : (xs : List Node) (next : Option Entry) (at : ℕ) (d : Node) → AreNodes xs next → at < length xs → (n : Option Entry) × IsNode (get_or xs at d) n
node_at [] next at d are within = absurd (omega (arith, within))
node_at (x ∷ xs) next zero d are within = (first_bound xs next, are.0)
node_at (x ∷ xs) next (suc at) d are within = node_at xs next at d are.1 (omega (arith, within))

pub node_in_order : (nodes : List Node) (at : ℕ) (d : Node) → AreLeaves nodes → at < length nodes → IsStrictlySortedBy entry_cmp (Node.entries (get_or nodes at d))
node_in_order nodes at d are within = (node_at nodes None at d are.chain within).1.sorted

pub in_entries : (xs : List Node) (at : ℕ) (d : Node) (e : Entry) → at < length xs → Contains (Node.entries (get_or xs at d)) e → Contains (entries_in xs) e
in_entries [] at d e within held = absurd (omega (arith, within))
in_entries (x ∷ xs) zero d e within held = Contains-append_left x.entries (entries_in xs) e held
in_entries (x ∷ xs) (suc at) d e within held = Contains-append_right x.entries (entries_in xs) e (in_entries xs at d e (omega (arith, within)) held)

pub in_node : (xs : List Node) (d : Node) (e : Entry) → Contains (entries_in xs) e → (at : ℕ) × (at < length xs) × Contains (Node.entries (get_or xs at d)) e
in_node [] d e held = absurd (none_in_nil e held)
in_node (x ∷ xs) d e held = elim (Contains-append_cases x.entries (entries_in xs) e held) [
  | inl here ↦ (zero, omega arith, here)
  | inr later ↦ let at = in_node xs d e later in (suc at.0, omega (arith, at.1), at.2)
]

pub can_take : (nodes : List Node) (e : Entry) (at : ℕ) → AreLeaves nodes → at < length nodes → (Contains (entries_in nodes) e → ⊥) → CanTake nodes e at
can_take nodes e at are within absent = record {
  within = within;
  sorted = λ d. node_in_order nodes at d are within;
  absent = λ d held. absent (in_entries nodes at d e within held);
}

-- what stands in a leaf is less than what stands in a later one
apart_from : (x : Node) (xs : List Node) (next : Option Entry) (e f : Entry) → AreUpper xs → AreNodes (x ∷ xs) next → Contains x.entries e → Contains (entries_in xs) f → entry_cmp e f ≡ Less
apart_from x [] next e f upper are he hf = absurd (none_in_nil f hf)
apart_from x (y ∷ ys) next e f upper are he hf = by_bound y.bound refl (are.0.below e he) (from_first y ys next f upper.1 are.1 hf)
  where
    by_bound : (b : Leaf) → y.bound ≡ b → is_below b e ≡ true → is_from b f ≡ true → entry_cmp e f ≡ Less
    by_bound None is below from = absurd (upper.0.bounded is)
    by_bound (Some b) is below from = below_from b e f below from

apart_in : (x : Node) (xs : List Node) (next : Option Entry) (e f : Entry) → AreUpper xs → AreNodes (x ∷ xs) next → (i j : ℕ) (d : Node) → i < j → j < length (x ∷ xs) → Contains (Node.entries (get_or (x ∷ xs) i d)) e → Contains (Node.entries (get_or (x ∷ xs) j d)) f → entry_cmp e f ≡ Less
apart_in x xs next e f upper are i zero d less within he hf = absurd (omega (arith, less))
apart_in x xs next e f upper are zero (suc j) d less within he hf = apart_from x xs next e f upper are he (in_entries xs j d f (omega (arith, within)) hf)
apart_in x [] next e f upper are (suc i) (suc j) d less within he hf = absurd (omega (arith, within))
apart_in x (y ∷ ys) next e f upper are (suc i) (suc j) d less within he hf = apart_in y ys next e f upper.1 are.1 i j d (omega (arith, less)) (omega (arith, within)) he hf

pub apart : (nodes : List Node) (e f : Entry) → AreLeaves nodes → (i j : ℕ) (d : Node) → i < j → j < length nodes → Contains (Node.entries (get_or nodes i d)) e → Contains (Node.entries (get_or nodes j d)) f → entry_cmp e f ≡ Less
apart [] e f are i j d less within he hf = absurd (omega (arith, within))
apart (x ∷ xs) e f are i j d less within he hf = apart_in x xs None e f are.front.1 are.chain i j d less within he hf

-- a leaf that is not the first has an entry
filled_in : (xs : List Node) (at : ℕ) (d : Node) → AreUpper xs → at < length xs → 0 < length (Node.entries (get_or xs at d))
filled_in [] at d upper within = absurd (omega (arith, within))
filled_in (x ∷ xs) zero d upper within = upper.0.filled
filled_in (x ∷ xs) (suc at) d upper within = filled_in xs at d upper.1 (omega (arith, within))

filled_at : (nodes : List Node) (at : ℕ) (d : Node) → AreLeaves nodes → suc at < length nodes → 0 < length (Node.entries (get_or nodes (suc at) d))
filled_at [] at d are within = absurd (omega (arith, within))
filled_at (x ∷ xs) at d are within = filled_in xs at d are.front.1 (omega (arith, within))

-- a test that holds of all that is less than what it holds of
module _ (p : Entry → Bool) (down : (e f : Entry) → entry_cmp e f ≡ Less → p f ≡ true → p e ≡ true) where
  last_true : (xs : List Entry) (e : Entry) → IsStrictlySortedBy entry_cmp xs → last_passes p xs ≡ true → Contains xs e → p e ≡ true
  last_true xs e sorted passes held = elim (cases_eq held.0 (length xs - 1)) [
    | inl same ↦ ap p (sym held.2 ∙ ap (λ k. get_or xs k e) same) ∙ last
    | inr differ ↦ down e (get_or xs (length xs - 1) e) (subst (λ f. entry_cmp f (get_or xs (length xs - 1) e) ≡ Less) held.2 (sorted_pairs entry_cmp xs sorted held.0 (length xs - 1) e (omega (arith, held.1, differ)) (omega (arith, held.1)))) last
  ]
    where
      last : p (get_or xs (length xs - 1) e) ≡ true
      last = sym (ap (λ o. option_map_or p o true) (slice_get-get_or xs (length xs - 1) e (omega (arith, held.1)))) ∙ passes

  last_false : (xs : List Entry) → last_passes p xs ≡ false → (e : Entry) × Contains xs e × (p e ≡ false)
  last_false [] fails = absurd (cc)
  last_false (x ∷ xs) fails = (get_or (x ∷ xs) (length (x ∷ xs) - 1) x, Contains-get_or (x ∷ xs) (length (x ∷ xs) - 1) x (omega arith), sym (ap (λ o. option_map_or p o true) (slice_get-get_or (x ∷ xs) (length (x ∷ xs) - 1) x (omega arith))) ∙ fails)

  last_of : (xs : List Entry) (d : Entry) → 0 < length xs → last_passes p xs ≡ true → p (get_or xs (length xs - 1) d) ≡ true
  last_of xs d some passes = sym (ap (λ o. option_map_or p o true) (slice_get-get_or xs (length xs - 1) d (omega (arith, some)))) ∙ passes

  -- leaves whose last entry passes stand before the others
  pub passed_parts : (nodes : List Node) → AreLeaves nodes → IsPartitionedBy (λ (n : Node). last_passes p n.entries) nodes
  passed_parts nodes are i j d at_most within passes = elim (cases_eq i j) [
    | inl same ↦ ap (λ k. last_passes p (Node.entries (get_or nodes k d))) same ∙ passes
    | inr differ ↦ by_entries (Node.entries (get_or nodes i d)) refl
  ]
    where
      by_entries : (xs : List Entry) → Node.entries (get_or nodes i d) ≡ xs → last_passes p xs ≡ true
      by_entries [] is = refl
      by_entries (x ∷ xs) is = elim (cases_Bool (last_passes p (x ∷ xs))) [
        | inl holds ↦ holds
        | inr fails ↦
            let low = last_false (x ∷ xs) fails in
            let i_below : i < j = elim (cases_eq i j) [ inl same ↦ absurd (both_ways (last_passes p (x ∷ xs)) fails (ap (last_passes p) (sym is) ∙ ap (λ k. last_passes p (Node.entries (get_or nodes k d))) same ∙ passes)) | inr other ↦ omega (arith, at_most, other) ] in
            let some : 0 < length (Node.entries (get_or nodes j d)) = filled j i_below within in
            absurd (both_ways (p low.0) low.2 (down low.0 (get_or (Node.entries (get_or nodes j d)) (length (Node.entries (get_or nodes j d)) - 1) x)
            (apart nodes low.0 (get_or (Node.entries (get_or nodes j d)) (length (Node.entries (get_or nodes j d)) - 1) x) are i j d i_below within (subst (λ es. Contains es low.0) (sym is) low.1) (Contains-get_or (Node.entries (get_or nodes j d)) (length (Node.entries (get_or nodes j d)) - 1) x (omega (arith, some))))
            (last_of (Node.entries (get_or nodes j d)) x some passes)))
      ]
        where
          filled : (k : ℕ) → i < k → k < length nodes → 0 < length (Node.entries (get_or nodes k d))
          filled zero above inside = absurd (omega (arith, above))
          filled (suc k) above inside = filled_at nodes k d are inside

  -- so the first of the others is where the test ceases to hold
  pub parting_is : (nodes : List Node) (n : ℕ) (d : Node) → AreLeaves nodes → n ≤ length nodes → IsPartitionPoint (λ (m : Node). last_passes p m.entries ≡ true) (λ (m : Node). last_passes p m.entries ≡ false) nodes n → IsParting p nodes n
  parting_is nodes n d are within parts = record {
    within = within;
    before = λ e held.
        let at = in_node (take n nodes) d e held in
        let low : at.0 < n = omega (arith, at.1, length-take n nodes) in
        let inside : at.0 < length nodes = omega (arith, at.1, length-take n nodes) in
        last_true (Node.entries (get_or nodes at.0 d)) e (node_in_order nodes at.0 d are inside) (parts.0 at.0 d (omega arith) low) (subst (λ (m : Node). Contains m.entries e) (get_or-take n nodes at.0 d low) at.2);
    own = λ c inside. last_false (Node.entries (get_or nodes n c)) (parts.1 n c (omega arith) inside);
    after = λ e held.
        let at = in_node (drop (suc n) nodes) d e held in
        let inside : suc n + at.0 < length nodes = omega (arith, at.1, length-drop (suc n) nodes) in
        let low = last_false (Node.entries (get_or nodes n d)) (parts.1 n d (omega arith) (omega (arith, inside))) in
        let less = apart nodes low.0 e are n (suc n + at.0) d (omega arith) inside low.1 (subst (λ (m : Node). Contains m.entries e) (get_or-drop (suc n) nodes at.0 d) at.2) in
        elim (cases_Bool (p e)) [
          | inl holds ↦ absurd (both_ways (p low.0) low.2 (down low.0 e less holds))
          | inr fails ↦ fails
        ];
  }

  pub parted_in : (nodes : List Node) (n : ℕ) → AreLeaves nodes → n ≤ length nodes → IsPartitionPoint (λ (m : Node). last_passes p m.entries ≡ true) (λ (m : Node). last_passes p m.entries ≡ false) nodes n → IsParting p nodes n
  parted_in [] n are within parts = absurd (are.front)
  parted_in (x ∷ xs) n are within parts = parting_is (x ∷ xs) n x are within parts
