-- The leaves once one of them is changed.
use Rattle.std.specs.Result.{OnOk}
use Rattle.std.proofs.Common.{Result, Ok, Err, ◌≡◌, inl, inr, ℕ, zero, suc, ◌<◌, ◌≤◌, ◌+◌, Bool, true, false, not, cond, Option, Some, None, List, [], ◌∷◌, ◌++◌, length, take, drop, get_or, Contains, refl, sym, ap, ◌∙◌, subst, arith}
use Rattle.std.specs.List.{insert, remove, slice_set as set}
use Rattle.std.specs.declared.cmp.Ordering.TheVariants.{Less}
use Rattle.std.specs.Ordering.{is_lt}
use Rattle.std.proofs.lemmas.Bool.{not_from_false, le-leb, lt-leb}
use Rattle.std.proofs.lemmas.List.{append_assoc, set_split, set_at, take_more, length-take-le, take-set, drop-set-lt}
use Rattle.chunk_index.specs.declared.entry.Entry.{Entry}
use Rattle.chunk_index.specs.declared.entry.TheConstants.{LEAF_ENTRIES}
use Rattle.chunk_index.specs.Entries.{entry_cmp, with_entry}
use Rattle.chunk_index.specs.Leaves.{Leaf, is_from, is_below}
use Rattle.chunk_index.specs.Indexes.{entries_of, bounds_split, bounds_with}
use Rattle.chunk_index.specs.Nodes.{Node, first_bound, IsBefore, AreNodes, IsUpper, AreUpper, IsFront, AreLeaves}
use Rattle.chunk_index.specs.Places.{changed, split, added}
use Rattle.list_facts.proofs.Members.{first_in, later_in}
use Rattle.chunk_index.proofs.Inserts.{entry_was}
use Rattle.chunk_index.proofs.Chains.{flipped, below_from, nodes_left, nodes_right, nodes_join, upper_left, upper_right, upper_join, nodes_up}
use Rattle.chunk_index.proofs.Cuts.{IsCut, own_entries}

-- leaves with another one, and others after it, in the place of one
pub leaves_with : (xs : List Node) (node new : Node) (more ys : List Node) → AreLeaves (xs ++ node ∷ ys) → new.bound ≡ node.bound → (IsUpper node → IsUpper new) → AreUpper more → AreNodes (new ∷ (more ++ ys)) None → AreLeaves (xs ++ new ∷ (more ++ ys))
leaves_with xs node new more ys are same keeps upper nodes = record {
  front = fronts xs are.front;
  chain = nodes_join xs (new ∷ (more ++ ys)) None (subst (λ b. AreNodes xs b) (sym same) (nodes_left xs (node ∷ ys) None are.chain)) nodes;
}
  where
    fronts : (zs : List Node) → IsFront (zs ++ node ∷ ys) → IsFront (zs ++ new ∷ (more ++ ys))
    fronts [] front = (same ∙ front.0, upper_join more ys upper front.1)
    fronts (z ∷ zs) front =
        let rest = upper_right zs (node ∷ ys) front.1 in
        (front.0, upper_join zs (new ∷ (more ++ ys)) (upper_left zs (node ∷ ys) front.1) (keeps rest.0, upper_join more ys upper rest.1))

-- leaves without one that is not the first
pub leaves_without : (xs : List Node) (node : Node) (ys : List Node) (bound : Entry) → node.bound ≡ Some bound → AreLeaves (xs ++ node ∷ ys) → AreLeaves (xs ++ ys)
leaves_without [] node ys bound is are = absurd (clash (sym is ∙ are.front.0))
  where
    clash : Some bound ≡ None → ⊥
    clash e = cc
leaves_without (x ∷ xs) node ys bound is are =
    let rest = upper_right xs (node ∷ ys) are.front.1 in
    let nodes = nodes_right (x ∷ xs) (node ∷ ys) None are.chain in
    record {
      front = (are.front.0, upper_join xs ys (upper_left xs (node ∷ ys) are.front.1) rest.1);
      chain = nodes_join (x ∷ xs) ys None (nodes_up (x ∷ xs) bound (first_bound ys None) (subst (λ b. IsBefore b (first_bound ys None)) is nodes.0.ordered) (subst (λ b. AreNodes (x ∷ xs) b) is (nodes_left (x ∷ xs) (node ∷ ys) None are.chain))) nodes.1;
    }

-- the one at a place stands between those before it and those after it
pub changed_at : (f : Node → List Node) (nodes : List Node) (at : ℕ) (d : Node) → at < length nodes → changed f nodes at ≡ take at nodes ++ (f (get_or nodes at d) ++ drop (suc at) nodes)
changed_at f [] at d within = absurd (omega (arith, within))
changed_at f (node ∷ nodes) zero d within = refl
changed_at f (node ∷ nodes) (suc at) d within = ap (λ ns. node ∷ ns) (changed_at f nodes at d (omega (arith, within)))

pub parted_at : (nodes : List Node) (at : ℕ) (d : Node) → at < length nodes → nodes ≡ take at nodes ++ (get_or nodes at d ∷ drop (suc at) nodes)
parted_at [] at d within = absurd (omega (arith, within))
parted_at (node ∷ nodes) zero d within = refl
parted_at (node ∷ nodes) (suc at) d within = ap (λ ns. node ∷ ns) (parted_at nodes at d (omega (arith, within)))

-- the same, as the calls leave the list
pub changed_agree : (f g : Node → List Node) (nodes : List Node) (at : ℕ) (d : Node) → at < length nodes → f (get_or nodes at d) ≡ g (get_or nodes at d) → changed f nodes at ≡ changed g nodes at
changed_agree f g nodes at d within same = changed_at f nodes at d within ∙ ap (λ ns. take at nodes ++ (ns ++ drop (suc at) nodes)) same ∙ sym (changed_at g nodes at d within)

pub changed_one : (f : Node → List Node) (nodes : List Node) (at : ℕ) (d new : Node) → at < length nodes → f (get_or nodes at d) ≡ new ∷ [] → set nodes at new ≡ changed f nodes at
changed_one f nodes at d new within is = set_split nodes at new within ∙ sym (changed_at f nodes at d within ∙ ap (λ ns. take at nodes ++ (ns ++ drop (suc at) nodes)) is)

pub changed_two : (f : Node → List Node) (nodes : List Node) (at : ℕ) (d lower upper : Node) → at < length nodes → f (get_or nodes at d) ≡ lower ∷ upper ∷ [] → set (insert nodes (at + 1) upper) at lower ≡ changed f nodes at
changed_two f nodes at d lower upper within is =
    let next : at + 1 ≡ suc at = omega arith in
    ap (λ ns. set (ns ++ upper ∷ drop (at + 1) nodes) at lower) (take_more nodes at d within)
    ∙ ap (λ ns. set ns at lower) (append_assoc (take at nodes) (get_or nodes at d ∷ []) (upper ∷ drop (at + 1) nodes))
    ∙ set_at (take at nodes) (get_or nodes at d) (upper ∷ drop (at + 1) nodes) lower at (length-take-le at nodes (omega (arith, within)))
    ∙ ap (λ k. take at nodes ++ (lower ∷ upper ∷ drop k nodes)) next
    ∙ sym (changed_at f nodes at d within ∙ ap (λ ns. take at nodes ++ (ns ++ drop (suc at) nodes)) is)

pub changed_none : (f : Node → List Node) (nodes : List Node) (at : ℕ) (d new : Node) → at < length nodes → f (get_or nodes at d) ≡ [] → remove (set nodes at new) at ≡ changed f nodes at
changed_none f nodes at d new within is =
    ap (λ ns. ns ++ drop (suc at) (set nodes at new)) (take-set nodes at new)
    ∙ ap (λ ns. take at nodes ++ ns) (drop-set-lt (suc at) nodes at new (omega arith))
    ∙ sym (changed_at f nodes at d within ∙ ap (λ ns. take at nodes ++ (ns ++ drop (suc at) nodes)) is)

-- a list with one more element, which is greater than those of a front, or less than those of a back
pub inserted_skips : (x : Entry) (xs ys : List Entry) → ((y : Entry) → Contains xs y → is_lt (entry_cmp x y) ≡ false) → with_entry (xs ++ ys) x ≡ xs ++ with_entry ys x
inserted_skips x [] ys above = refl
inserted_skips x (a ∷ xs) ys above = ap (λ b. cond b (x ∷ a ∷ (xs ++ ys)) (a ∷ with_entry (xs ++ ys) x)) (above a (first_in a xs a refl)) ∙ ap (λ es. a ∷ es) (inserted_skips x xs ys (λ y held. above y (later_in a xs y held)))

pub inserted_stops : (x : Entry) (xs ys : List Entry) → ((y : Entry) → Contains ys y → is_lt (entry_cmp x y) ≡ true) → with_entry (xs ++ ys) x ≡ with_entry xs x ++ ys
inserted_stops x [] [] below = refl
inserted_stops x [] (y ∷ ys) below = ap (λ b. cond b (x ∷ y ∷ ys) (y ∷ with_entry ys x)) (below y (first_in y ys y refl))
inserted_stops x (a ∷ xs) ys below = by_test (is_lt (entry_cmp x a)) (inserted_stops x xs ys below)
  where
    by_test : (b : Bool) → with_entry (xs ++ ys) x ≡ with_entry xs x ++ ys → cond b (x ∷ a ∷ (xs ++ ys)) (a ∷ with_entry (xs ++ ys) x) ≡ cond b (x ∷ a ∷ xs) (a ∷ with_entry xs x) ++ ys
    by_test true rest = refl
    by_test false rest = ap (λ es. a ∷ es) rest

pub length_with : (x : Entry) (xs : List Entry) → length (with_entry xs x) ≡ length xs + 1
length_with x [] = omega arith
length_with x (a ∷ xs) = by_test (is_lt (entry_cmp x a)) (length_with x xs)
  where
    by_test : (b : Bool) → length (with_entry xs x) ≡ length xs + 1 → length (cond b (x ∷ a ∷ xs) (a ∷ with_entry xs x)) ≡ length (a ∷ xs) + 1
    by_test true rest = omega arith
    by_test false rest = omega (arith, rest)

-- an entry goes to its leaf
module _ {bounds : List Entry} {leaf : Leaf} {next : Option Entry} {before own after : List Entry} (cut : IsCut bounds leaf next before own after) (e : Entry) (from : is_from leaf e ≡ true) (below : is_below next e ≡ true) where
  not_less : (l : Leaf) (f : Entry) → is_from l f ≡ false → is_from l e ≡ true → is_lt (entry_cmp e f) ≡ false
  not_less None f low high = absurd (cc)
  not_less (Some b) f low high =
      let less = below_from b f e (lower (is_lt (entry_cmp f b)) low) high in
      ap is_lt (flipped f e Less less)
    where
      lower : (t : Bool) → not t ≡ false → t ≡ true
      lower true n = refl
      lower false n = absurd (cc)

  less : (n : Option Entry) (f : Entry) → is_below n f ≡ false → is_below n e ≡ true → is_lt (entry_cmp e f) ≡ true
  less None f high low = absurd (cc)
  less (Some n) f high low = ap is_lt (below_from n e f low (not_from_false (is_lt (entry_cmp f n)) high))

  pub added_to_own : with_entry (before ++ (own ++ after)) e ≡ before ++ (with_entry own e ++ after)
  added_to_own =
      inserted_skips e before (own ++ after) (λ f held. not_less leaf f (cut.before_is f held) from)
      ∙ ap (λ es. before ++ es) (inserted_stops e own after (λ f held. less next f (cut.after_is f held) below))

  pub cut_added : IsCut bounds leaf next before (with_entry own e) after
  cut_added = record {
    is_own = cut.is_own;
    before_is = cut.before_is;
    from = λ f held. elim (entry_was own e f held) [ inl there ↦ cut.from f there | inr is ↦ subst (λ g. is_from leaf g ≡ true) is from ];
    below = λ f held. elim (entry_was own e f held) [ inl there ↦ cut.below f there | inr is ↦ subst (λ g. is_below next g ≡ true) is below ];
    after_is = cut.after_is;
  }

  -- the bounds with it are those of its own leaf's entries
  pub bounds_with_own : bounds_with bounds (before ++ (own ++ after)) e ≡ bounds_split bounds (with_entry own e)
  bounds_with_own =
      ap (λ l. bounds_split bounds (entries_of bounds l (with_entry (before ++ (own ++ after)) e))) (cut.is_own.own_is e from below)
      ∙ ap (λ es. bounds_split bounds (entries_of bounds leaf es)) added_to_own
      ∙ ap (λ es. bounds_split bounds es) (own_entries cut_added)

-- what a leaf becomes with one more entry
pub added_whole : (e : Entry) (node : Node) → length node.entries < LEAF_ENTRIES → added e node ≡ record { bound = node.bound; entries = with_entry node.entries e } ∷ []
added_whole e node few = ap (λ b. cond b (record { bound = node.bound; entries = with_entry node.entries e } ∷ []) (split node.bound (with_entry node.entries e))) (le-leb (length (with_entry node.entries e)) LEAF_ENTRIES (omega (arith, few, length_with e node.entries)))

pub added_split : (e : Entry) (node : Node) → LEAF_ENTRIES ≤ length node.entries → split node.bound (with_entry node.entries e) ≡ added e node
added_split e node many = sym (ap (λ b. cond b (record { bound = node.bound; entries = with_entry node.entries e } ∷ []) (split node.bound (with_entry node.entries e))) (lt-leb (length (with_entry node.entries e)) LEAF_ENTRIES (omega (arith, many, length_with e node.entries))))

pub on_ok : {T E P Q : Type 0} (r : Result T E) → (P → Q) → OnOk r P → OnOk r Q
on_ok (Ok x) follows holds = follows holds
on_ok (Err e) follows holds = holds
