-- One leaf among all: what stands before it, in it and after it.
use Rattle.std.proofs.Common.{◌≡◌, Bool, true, false, not, ◌&&◌, cond, Option, Some, None, List, [], ◌∷◌, ◌++◌, slice_get, filter, Contains, refl, sym, ap, ◌∙◌, subst}
use Rattle.std.specs.Option.{option_to_list}
use Rattle.std.specs.declared.cmp.Ordering.TheVariants.{Less}
use Rattle.std.specs.Ordering.{is_lt}
use Rattle.std.proofs.lemmas.Bool.{not-true, and_from}
use Rattle.std.proofs.lemmas.Cmp.{tied_itself}
use Rattle.std.proofs.lemmas.List.{append-nil}
use Rattle.std.proofs.lemmas.List.Concat.{flat_map-append}
use Rattle.std.proofs.lemmas.List.Elements.{filter-append, Contains-append_right}
use Rattle.chunk_index.specs.declared.entry.Entry.{Entry}
use Rattle.chunk_index.specs.Entries.{entry_cmp}
use Rattle.chunk_index.specs.Leaves.{Leaf, is_from, is_below, next_bound, in_leaf, leaf_from, leaf_of}
use Rattle.chunk_index.specs.Indexes.{IsLeaf, entries_of}
use Rattle.chunk_index.specs.Nodes.{Node, entries_in, bounds_in, first_bound, IsBefore, AreNodes, AreUpper, IsFront, AreLeaves}
use Rattle.list_facts.proofs.Members.{none_in_nil, first_in, later_in}
use Rattle.chunk_index.proofs.Ordered.{entry_total}
use Rattle.chunk_index.proofs.Chains.{flipped, from_down, nodes_left, nodes_right, upper_left, upper_right, below_all, from_first, above_all, bounds_below}

-- a leaf of those with these bounds, and the bound of the one after it
pub record IsOwn (bounds : List Entry) (leaf : Leaf) (next : Option Entry) : Type 0 where
  pub is_leaf : IsLeaf bounds leaf
  pub next_is : next_bound bounds leaf ≡ next
  pub own_is : (e : Entry) → is_from leaf e ≡ true → is_below next e ≡ true → leaf_of bounds e ≡ leaf

leaf_stops : (leaf : Leaf) (qs : List Entry) (e : Entry) → is_below (slice_get qs 0) e ≡ true → leaf_from leaf qs e ≡ leaf
leaf_stops leaf [] e below = refl
leaf_stops leaf (q ∷ qs) e below = ap (λ b. cond b leaf (leaf_from (Some q) qs e)) below

leaf_skips : (start : Leaf) (ps : List Entry) (b : Entry) (qs : List Entry) (e : Entry) → ((p : Entry) → Contains ps p → is_lt (entry_cmp e p) ≡ false) → is_lt (entry_cmp e b) ≡ false → is_below (slice_get qs 0) e ≡ true → leaf_from start (ps ++ b ∷ qs) e ≡ Some b
leaf_skips start [] b qs e above from below = ap (λ t. cond t start (leaf_from (Some b) qs e)) from ∙ leaf_stops (Some b) qs e below
leaf_skips start (p ∷ ps) b qs e above from below = ap (λ t. cond t start (leaf_from (Some p) (ps ++ b ∷ qs) e)) (above p (first_in p ps p refl)) ∙ leaf_skips (Some p) ps b qs e (λ q held. above q (later_in p ps q held)) from below

next_skips : (ps qs : List Entry) (b : Entry) → ((p : Entry) → Contains ps p → is_lt (entry_cmp b p) ≡ false) → next_bound (ps ++ qs) (Some b) ≡ next_bound qs (Some b)
next_skips [] qs b above = refl
next_skips (p ∷ ps) qs b above = ap (λ t. cond t (Some p) (next_bound (ps ++ qs) (Some b))) (above p (first_in p ps p refl)) ∙ next_skips ps qs b (λ q held. above q (later_in p ps q held))

next_stops : (qs : List Entry) (b : Entry) → ((q : Entry) → Contains qs q → entry_cmp b q ≡ Less) → next_bound qs (Some b) ≡ slice_get qs 0
next_stops [] b below = refl
next_stops (q ∷ qs) b below = ap (λ r. cond (is_lt r) (Some q) (next_bound qs (Some b))) (below q (first_in q qs q refl))

pub own_some : (ps qs : List Entry) (b : Entry) (next : Option Entry) → ((p : Entry) → Contains ps p → entry_cmp p b ≡ Less) → ((q : Entry) → Contains qs q → entry_cmp b q ≡ Less) → next ≡ slice_get qs 0 → IsOwn (ps ++ b ∷ qs) (Some b) next
own_some ps qs b next low high is = record {
  is_leaf = Contains-append_right ps (b ∷ qs) b (first_in b qs b refl);
  next_is = next_skips ps (b ∷ qs) b (λ p held. ap is_lt (flipped p b Less (low p held)))
      ∙ ap (λ r. cond (is_lt r) (Some b) (next_bound qs (Some b))) (tied_itself entry_total b)
      ∙ next_stops qs b high
      ∙ sym is;
  own_is = λ e from below. leaf_skips None ps b qs e (λ p held. not-true (is_lt (entry_cmp e p)) (from_down (Some p) b e (low p held) from)) (not-true (is_lt (entry_cmp e b)) from) (subst (λ o. is_below o e ≡ true) is below);
}

pub own_none : (qs : List Entry) (next : Option Entry) → next ≡ slice_get qs 0 → IsOwn qs None next
own_none qs next is = record {
  is_leaf = tt;
  next_is = first_of qs ∙ sym is;
  own_is = λ e from below. leaf_stops None qs e (subst (λ o. is_below o e ≡ true) is below);
}
  where
    first_of : (cs : List Entry) → next_bound cs None ≡ slice_get cs 0
    first_of [] = refl
    first_of (c ∷ cs) = refl

-- what stands before a leaf, in it and after it, of leaves with these bounds
pub record IsCut (bounds : List Entry) (leaf : Leaf) (next : Option Entry) (before own after : List Entry) : Type 0 where
  pub is_own : IsOwn bounds leaf next
  pub before_is : (e : Entry) → Contains before e → is_from leaf e ≡ false
  pub from : (e : Entry) → Contains own e → is_from leaf e ≡ true
  pub below : (e : Entry) → Contains own e → is_below next e ≡ true
  pub after_is : (e : Entry) → Contains after e → is_below next e ≡ false

pub bounds_cut : (xs : List Node) (node : Node) (ys : List Node) → bounds_in (xs ++ node ∷ ys) ≡ bounds_in xs ++ (option_to_list node.bound ++ bounds_in ys)
bounds_cut xs node ys = flat_map-append (λ (n : Node). option_to_list n.bound) xs (node ∷ ys)

pub entries_cut : (xs : List Node) (node : Node) (ys : List Node) → entries_in (xs ++ node ∷ ys) ≡ entries_in xs ++ (node.entries ++ entries_in ys)
entries_cut xs node ys = flat_map-append (λ (n : Node). n.entries) xs (node ∷ ys)

pub upper_after : (xs : List Node) (node : Node) (ys : List Node) → IsFront (xs ++ node ∷ ys) → AreUpper ys
upper_after [] node ys front = front.1
upper_after (x ∷ xs) node ys front = (upper_right xs (node ∷ ys) front.1).1

first_is : (ys : List Node) → AreUpper ys → first_bound ys None ≡ slice_get (bounds_in ys) 0
first_is [] upper = refl
first_is (y ∷ ys) upper = by_bound y.bound refl
  where
    by_bound : (b : Leaf) → y.bound ≡ b → b ≡ slice_get (option_to_list b ++ bounds_in ys) 0
    by_bound None is = absurd (upper.0.bounded is)
    by_bound (Some b) is = refl

after_last : (ys : List Node) (e : Entry) → AreUpper ys → AreNodes ys None → Contains (entries_in ys) e → is_below (first_bound ys None) e ≡ false
after_last [] e upper are held = absurd (none_in_nil e held)
after_last (y ∷ ys) e upper are held = by_bound y.bound refl (from_first y ys None e upper.1 are held)
  where
    by_bound : (b : Leaf) → y.bound ≡ b → is_from b e ≡ true → is_below b e ≡ false
    by_bound None is from = absurd (upper.0.bounded is)
    by_bound (Some b) is from = not-true (is_lt (entry_cmp e b)) from

pub cut_at : (xs : List Node) (node : Node) (ys : List Node) → AreLeaves (xs ++ node ∷ ys) → IsCut (bounds_in (xs ++ node ∷ ys)) node.bound (first_bound ys None) (entries_in xs) node.entries (entries_in ys)
cut_at [] node ys are = record {
  is_own = subst (λ b. IsOwn (option_to_list b ++ bounds_in ys) b (first_bound ys None)) (sym are.front.0) (own_none (bounds_in ys) (first_bound ys None) (first_is ys are.front.1));
  before_is = λ e held. absurd (none_in_nil e held);
  from = are.chain.0.from;
  below = are.chain.0.below;
  after_is = λ e held. after_last ys e are.front.1 are.chain.1 held;
}
cut_at (x ∷ xs) node ys are = by_bound node.bound refl
  where
    uppers : AreUpper (node ∷ ys)
    uppers = upper_right xs (node ∷ ys) are.front.1

    nodes : AreNodes (node ∷ ys) None
    nodes = nodes_right (x ∷ xs) (node ∷ ys) None are.chain

    lower : AreNodes (x ∷ xs) node.bound
    lower = nodes_left (x ∷ xs) (node ∷ ys) None are.chain

    low : AreUpper xs
    low = upper_left xs (node ∷ ys) are.front.1

    by_bound : (b : Leaf) → node.bound ≡ b → IsCut (bounds_in ((x ∷ xs) ++ node ∷ ys)) node.bound (first_bound ys None) (entries_in (x ∷ xs)) node.entries (entries_in ys)
    by_bound None is = absurd (uppers.0.bounded is)
    by_bound (Some b) is = record {
      is_own = subst (λ cs. IsOwn cs node.bound (first_bound ys None)) (sym (ap (λ o. option_to_list o ++ bounds_in (xs ++ node ∷ ys)) are.front.0 ∙ bounds_cut xs node ys))
          (subst (λ o. IsOwn (bounds_in xs ++ (option_to_list o ++ bounds_in ys)) o (first_bound ys None)) (sym is) (own_some (bounds_in xs) (bounds_in ys) b (first_bound ys None)
          (λ p held. subst (λ o. IsBefore (Some p) o) is (bounds_below xs node.bound p low lower.1 held))
          (λ q held. above_all (Some b) ys None q (subst (λ o. IsBefore o (first_bound ys None)) is nodes.0.ordered) uppers.1 nodes.1 held)
          (first_is ys uppers.1)));
      before_is = λ e held. subst (λ o. is_from o e ≡ false) (sym is) (ap not (subst (λ o. is_below o e ≡ true) is (below_all x xs node.bound e low lower held)));
      from = nodes.0.from;
      below = nodes.0.below;
      after_is = λ e held. after_last ys e uppers.1 nodes.1 held;
    }

-- the bounds before a leaf are less than its own, and than what that is less than
pub bounds_low : (xs : List Node) (node : Node) (ys : List Node) (p b : Entry) → AreLeaves (xs ++ node ∷ ys) → Contains (bounds_in xs) p → node.bound ≡ Some b → entry_cmp p b ≡ Less
bounds_low [] node ys p b are held is = absurd (none_in_nil p held)
bounds_low (z ∷ zs) node ys p b are held is =
    let lower = nodes_left (z ∷ zs) (node ∷ ys) None are.chain in
    subst (λ o. IsBefore (Some p) o) is (bounds_below zs node.bound p (upper_left zs (node ∷ ys) are.front.1) lower.1 (subst (λ o. Contains (option_to_list o ++ bounds_in zs) p) are.front.0 held))

pub bounds_less : (xs : List Node) (node : Node) (ys : List Node) (p x : Entry) → AreLeaves (xs ++ node ∷ ys) → Contains (bounds_in xs) p → IsBefore node.bound (Some x) → entry_cmp p x ≡ Less
bounds_less [] node ys p x are held before = absurd (none_in_nil p held)
bounds_less (z ∷ zs) node ys p x are held before = by_bound node.bound refl before
  where
    by_bound : (b : Leaf) → node.bound ≡ b → IsBefore b (Some x) → entry_cmp p x ≡ Less
    by_bound None is high = absurd ((upper_right zs (node ∷ ys) are.front.1).0.bounded is)
    by_bound (Some b) is high = entry_total.trans p b x (bounds_low (z ∷ zs) node ys p b are held is) high

-- what a filter leaves where all pass, or none
pub filter_all : {X : Type 0} (p : X → Bool) (xs : List X) → ((x : X) → Contains xs x → p x ≡ true) → filter p xs ≡ xs
filter_all p [] passes = refl
filter_all p (x ∷ xs) passes = ap (λ b. cond b (x ∷ filter p xs) (filter p xs)) (passes x (first_in x xs x refl)) ∙ ap (λ ys. x ∷ ys) (filter_all p xs (λ y held. passes y (later_in x xs y held)))

pub filter_none : {X : Type 0} (p : X → Bool) (xs : List X) → ((x : X) → Contains xs x → p x ≡ false) → filter p xs ≡ []
filter_none p [] fails = refl
filter_none p (x ∷ xs) fails = ap (λ b. cond b (x ∷ filter p xs) (filter p xs)) (fails x (first_in x xs x refl)) ∙ filter_none p xs (λ y held. fails y (later_in x xs y held))

pub filter_same_in : {X : Type 0} (p q : X → Bool) (xs : List X) → ((x : X) → Contains xs x → p x ≡ q x) → filter p xs ≡ filter q xs
filter_same_in p q [] same = refl
filter_same_in p q (x ∷ xs) same = ap (λ b. cond b (x ∷ filter p xs) (filter p xs)) (same x (first_in x xs x refl)) ∙ ap (λ ys. cond (q x) (x ∷ ys) ys) (filter_same_in p q xs (λ y held. same y (later_in x xs y held)))

pub filter_three : {X : Type 0} (p : X → Bool) (xs ys zs : List X) → filter p (xs ++ (ys ++ zs)) ≡ filter p xs ++ (filter p ys ++ filter p zs)
filter_three p xs ys zs = filter-append p xs (ys ++ zs) ∙ ap (λ es. filter p xs ++ es) (filter-append p ys zs)

-- what stands before a leaf does not lie in it, nor does what stands after it
and_no_left : (a b : Bool) → a ≡ false → (a && b) ≡ false
and_no_left true b is = absurd (cc)
and_no_left false b is = refl

and_no_right : (a b : Bool) → b ≡ false → (a && b) ≡ false
and_no_right true b is = is
and_no_right false b is = refl

module _ {bounds : List Entry} {leaf : Leaf} {next : Option Entry} {before own after : List Entry} (cut : IsCut bounds leaf next before own after) where
  pub out_before : (e : Entry) → Contains before e → in_leaf bounds leaf e ≡ false
  out_before e held = and_no_left (is_from leaf e) (is_below (next_bound bounds leaf) e) (cut.before_is e held)

  pub in_own : (e : Entry) → Contains own e → in_leaf bounds leaf e ≡ true
  in_own e held = and_from (is_from leaf e) (is_below (next_bound bounds leaf) e) (cut.from e held) (subst (λ o. is_below o e ≡ true) (sym cut.is_own.next_is) (cut.below e held))

  pub out_after : (e : Entry) → Contains after e → in_leaf bounds leaf e ≡ false
  out_after e held = and_no_right (is_from leaf e) (is_below (next_bound bounds leaf) e) (subst (λ o. is_below o e ≡ false) (sym cut.is_own.next_is) (cut.after_is e held))

  -- so the leaf has what stands in it
  pub own_entries : entries_of bounds leaf (before ++ (own ++ after)) ≡ own
  own_entries =
      filter_three (in_leaf bounds leaf) before own after
      ∙ ap (λ es. es ++ (filter (in_leaf bounds leaf) own ++ filter (in_leaf bounds leaf) after)) (filter_none (in_leaf bounds leaf) before out_before)
      ∙ ap (λ es. es ++ filter (in_leaf bounds leaf) after) (filter_all (in_leaf bounds leaf) own in_own)
      ∙ ap (λ es. own ++ es) (filter_none (in_leaf bounds leaf) after out_after)
      ∙ append-nil own
