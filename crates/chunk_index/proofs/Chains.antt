-- Leaves one after another: what stands in one is less than what stands in a later one.
use Rattle.std.proofs.Common.{◌≡◌, inl, inr, true, not, Option, Some, None, List, [], ◌∷◌, ◌++◌, Contains, refl, sym, ap, ◌∙◌, subst}
use Rattle.std.specs.Option.{option_to_list}
use Rattle.std.specs.List.{AllByRecursion}
use Rattle.std.specs.List.Sorted.{IsStrictlySortedBy}
use Rattle.std.specs.declared.cmp.Ordering.{Ordering}
use Rattle.std.specs.declared.cmp.Ordering.TheVariants.{Less, Equal, Greater}
use Rattle.std.specs.Ordering.{is_lt, ordering_reverse}
use Rattle.std.proofs.lemmas.Bool.{both_ways}
use Rattle.std.proofs.lemmas.List.Elements.{Contains-append_cases}
use Rattle.chunk_index.specs.declared.entry.Entry.{Entry}
use Rattle.chunk_index.specs.Entries.{entry_cmp}
use Rattle.chunk_index.specs.Leaves.{Leaf, is_from, is_below}
use Rattle.chunk_index.specs.Nodes.{Node, entries_in, bounds_in, first_bound, IsBefore, IsNode, AreNodes, AreUpper}
use Rattle.list_facts.proofs.Members.{none_in_nil, cases_in, first_in, later_in}
use Rattle.chunk_index.proofs.Ordered.{entry_total, entry_equal}

pub flipped : (x y : Entry) (r : Ordering) → entry_cmp x y ≡ r → entry_cmp y x ≡ ordering_reverse r
flipped x y r is = entry_total.antisymm y x ∙ ap ordering_reverse is

pub less_from : (r : Ordering) → is_lt r ≡ true → r ≡ Less
less_from Less lt = refl
less_from Equal lt = absurd (cc)
less_from Greater lt = absurd (cc)

-- what is from a bound on is from a lesser one on
pub from_down : (leaf : Leaf) (bound e : Entry) → IsBefore leaf (Some bound) → is_from (Some bound) e ≡ true → is_from leaf e ≡ true
from_down None bound e before from = refl
from_down (Some low) bound e before from = by_order (entry_cmp e low) refl
  where
    by_order : (r : Ordering) → entry_cmp e low ≡ r → not (is_lt r) ≡ true
    by_order Less less = absurd (both_ways (not (is_lt (entry_cmp e bound))) (ap (λ r. not (is_lt r)) (entry_total.trans e low bound less before)) from)
    by_order Equal is = refl
    by_order Greater is = refl

-- what is below a bound is below a greater one
pub below_up : (bound : Entry) (next : Option Entry) (e : Entry) → IsBefore (Some bound) next → is_below (Some bound) e ≡ true → is_below next e ≡ true
below_up bound None e before below = refl
below_up bound (Some next) e before below = ap is_lt (entry_total.trans e bound next (less_from (entry_cmp e bound) below) before)

pub before_trans : (leaf : Leaf) (bound : Entry) (next : Option Entry) → IsBefore leaf (Some bound) → IsBefore (Some bound) next → IsBefore leaf next
before_trans leaf bound None low high = tt
before_trans None bound (Some next) low high = tt
before_trans (Some leaf) bound (Some next) low high = entry_total.trans leaf bound next low high

-- what is below a bound is less than what is from it on
pub below_from : (bound e f : Entry) → is_below (Some bound) e ≡ true → is_from (Some bound) f ≡ true → entry_cmp e f ≡ Less
below_from bound e f below from = by_order (entry_cmp f bound) refl from
  where
    less : entry_cmp e bound ≡ Less
    less = less_from (entry_cmp e bound) below

    by_order : (r : Ordering) → entry_cmp f bound ≡ r → not (is_lt r) ≡ true → entry_cmp e f ≡ Less
    by_order Less is at = absurd (cc)
    by_order Equal is at = ap (λ g. entry_cmp e g) (entry_equal f bound is) ∙ less
    by_order Greater is at = entry_total.trans e bound f less (flipped f bound Greater is)

pub first_bound_append : (xs ys : List Node) (next : Option Entry) → first_bound (xs ++ ys) next ≡ first_bound xs (first_bound ys next)
first_bound_append [] ys next = refl
first_bound_append (x ∷ xs) ys next = refl

-- leaves are parted and joined
pub nodes_left : (xs ys : List Node) (next : Option Entry) → AreNodes (xs ++ ys) next → AreNodes xs (first_bound ys next)
nodes_left [] ys next are = tt
nodes_left (x ∷ xs) ys next are = (subst (IsNode x) (first_bound_append xs ys next) are.0, nodes_left xs ys next are.1)

pub nodes_right : (xs ys : List Node) (next : Option Entry) → AreNodes (xs ++ ys) next → AreNodes ys next
nodes_right [] ys next are = are
nodes_right (x ∷ xs) ys next are = nodes_right xs ys next are.1

pub nodes_join : (xs ys : List Node) (next : Option Entry) → AreNodes xs (first_bound ys next) → AreNodes ys next → AreNodes (xs ++ ys) next
nodes_join [] ys next left right = right
nodes_join (x ∷ xs) ys next left right = (subst (IsNode x) (sym (first_bound_append xs ys next)) left.0, nodes_join xs ys next left.1 right)

pub upper_left : (xs ys : List Node) → AreUpper (xs ++ ys) → AreUpper xs
upper_left [] ys are = tt
upper_left (x ∷ xs) ys are = (are.0, upper_left xs ys are.1)

pub upper_right : (xs ys : List Node) → AreUpper (xs ++ ys) → AreUpper ys
upper_right [] ys are = are
upper_right (x ∷ xs) ys are = upper_right xs ys are.1

pub upper_join : (xs ys : List Node) → AreUpper xs → AreUpper ys → AreUpper (xs ++ ys)
upper_join [] ys left right = right
upper_join (x ∷ xs) ys left right = (left.0, upper_join xs ys left.1 right)

-- leaves reach up to a greater bound too
pub node_up : (x : Node) (bound : Entry) (next : Option Entry) → IsBefore (Some bound) next → IsNode x (Some bound) → IsNode x next
node_up x bound next before is = record {
  sorted = is.sorted;
  from = is.from;
  below = λ e held. below_up bound next e before (is.below e held);
  room = is.room;
  ordered = before_trans x.bound bound next is.ordered before;
}

pub nodes_up : (xs : List Node) (bound : Entry) (next : Option Entry) → IsBefore (Some bound) next → AreNodes xs (Some bound) → AreNodes xs next
nodes_up [] bound next before are = tt
nodes_up (x ∷ []) bound next before are = (node_up x bound next before are.0, tt)
nodes_up (x ∷ (y ∷ ys)) bound next before are = (are.0, nodes_up (y ∷ ys) bound next before are.1)

-- what is below the first of some leaves is below what follows them
pub up_to_end : (xs : List Node) (next : Option Entry) (e : Entry) → AreUpper xs → AreNodes xs next → is_below (first_bound xs next) e ≡ true → is_below next e ≡ true
up_to_end [] next e upper are below = below
up_to_end (x ∷ xs) next e upper are below = by_bound x.bound refl below are.0.ordered (λ lower. up_to_end xs next e upper.1 are.1 lower)
  where
    by_bound : (b : Leaf) → x.bound ≡ b → is_below b e ≡ true → IsBefore b (first_bound xs next) → (is_below (first_bound xs next) e ≡ true → is_below next e ≡ true) → is_below next e ≡ true
    by_bound None is below' before rest = absurd (upper.0.bounded is)
    by_bound (Some b) is below' before rest = rest (below_up b (first_bound xs next) e before below')

pub reach_end : (leaf : Leaf) (xs : List Node) (next : Option Entry) → AreUpper xs → AreNodes xs next → IsBefore leaf (first_bound xs next) → IsBefore leaf next
reach_end leaf [] next upper are before = before
reach_end leaf (x ∷ xs) next upper are before = by_bound x.bound refl before are.0.ordered (λ lower. reach_end leaf xs next upper.1 are.1 lower)
  where
    by_bound : (b : Leaf) → x.bound ≡ b → IsBefore leaf b → IsBefore b (first_bound xs next) → (IsBefore leaf (first_bound xs next) → IsBefore leaf next) → IsBefore leaf next
    by_bound None is low high rest = absurd (upper.0.bounded is)
    by_bound (Some b) is low high rest = rest (before_trans leaf b (first_bound xs next) low high)

-- each entry of some leaves is below what follows them
pub below_all : (x : Node) (xs : List Node) (next : Option Entry) (e : Entry) → AreUpper xs → AreNodes (x ∷ xs) next → Contains (entries_in (x ∷ xs)) e → is_below next e ≡ true
below_all x [] next e upper are held = elim (Contains-append_cases x.entries [] e held) [
  | inl here ↦ are.0.below e here
  | inr none ↦ absurd (none_in_nil e none)
]
below_all x (y ∷ ys) next e upper are held = elim (Contains-append_cases x.entries (entries_in (y ∷ ys)) e held) [
  | inl here ↦ up_to_end (y ∷ ys) next e upper are.1 (are.0.below e here)
  | inr later ↦ below_all y ys next e upper.1 are.1 later
]

-- and from the bound of each leaf before them on
pub from_all : (leaf : Leaf) (ys : List Node) (next : Option Entry) (e : Entry) → IsBefore leaf (first_bound ys next) → AreUpper ys → AreNodes ys next → Contains (entries_in ys) e → is_from leaf e ≡ true
from_all leaf [] next e before upper are held = absurd (none_in_nil e held)
from_all leaf (y ∷ ys) next e before upper are held = by_bound y.bound refl before (elim (Contains-append_cases y.entries (entries_in ys) e held) [
  | inl here ↦ are.0.from e here
  | inr later ↦ from_all y.bound ys next e are.0.ordered upper.1 are.1 later
])
  where
    by_bound : (b : Leaf) → y.bound ≡ b → IsBefore leaf b → is_from b e ≡ true → is_from leaf e ≡ true
    by_bound None is low from = absurd (upper.0.bounded is)
    by_bound (Some b) is low from = from_down leaf b e low from

-- and from the bound of the first of them on
pub from_first : (y : Node) (ys : List Node) (next : Option Entry) (e : Entry) → AreUpper ys → AreNodes (y ∷ ys) next → Contains (entries_in (y ∷ ys)) e → is_from y.bound e ≡ true
from_first y ys next e upper are held = elim (Contains-append_cases y.entries (entries_in ys) e held) [
  | inl here ↦ are.0.from e here
  | inr later ↦ from_all y.bound ys next e are.0.ordered upper are.1 later
]

pub one_bound : (b : Leaf) (c : Entry) → Contains (option_to_list b) c → b ≡ Some c
one_bound None c held = absurd (none_in_nil c held)
one_bound (Some b) c held = elim (cases_in b [] c held) [
  | inl is ↦ ap (λ e. Some e) is
  | inr none ↦ absurd (none_in_nil c none)
]

-- each bound of some leaves is greater than those before them
pub above_all : (leaf : Leaf) (ys : List Node) (next : Option Entry) (c : Entry) → IsBefore leaf (first_bound ys next) → AreUpper ys → AreNodes ys next → Contains (bounds_in ys) c → IsBefore leaf (Some c)
above_all leaf [] next c before upper are held = absurd (none_in_nil c held)
above_all leaf (y ∷ ys) next c before upper are held = elim (Contains-append_cases (option_to_list y.bound) (bounds_in ys) c held) [
  | inl here ↦ subst (IsBefore leaf) (one_bound y.bound c here) before
  | inr later ↦ by_bound y.bound refl before (above_all y.bound ys next c are.0.ordered upper.1 are.1 later)
]
  where
    by_bound : (b : Leaf) → y.bound ≡ b → IsBefore leaf b → IsBefore b (Some c) → IsBefore leaf (Some c)
    by_bound None is low high = absurd (upper.0.bounded is)
    by_bound (Some b) is low high = before_trans leaf b (Some c) low high

-- and less than what follows them
pub bounds_below : (xs : List Node) (next : Option Entry) (c : Entry) → AreUpper xs → AreNodes xs next → Contains (bounds_in xs) c → IsBefore (Some c) next
bounds_below [] next c upper are held = absurd (none_in_nil c held)
bounds_below (x ∷ xs) next c upper are held = elim (Contains-append_cases (option_to_list x.bound) (bounds_in xs) c held) [
  | inl here ↦ reach_end (Some c) xs next upper.1 are.1 (subst (λ b. IsBefore b (first_bound xs next)) (one_bound x.bound c here) are.0.ordered)
  | inr later ↦ bounds_below xs next c upper.1 are.1 later
]

-- so all entries are in order, and all bounds
pub all_from : {X : Type 0} (P : X → Type 0) (xs : List X) → ((x : X) → Contains xs x → P x) → AllByRecursion P xs
all_from P [] each = tt
all_from P (x ∷ xs) each = (each x (first_in x xs x refl), all_from P xs (λ y held. each y (later_in x xs y held)))

all_append : {X : Type 0} (P : X → Type 0) (xs ys : List X) → AllByRecursion P xs → AllByRecursion P ys → AllByRecursion P (xs ++ ys)
all_append P [] ys left right = right
all_append P (x ∷ xs) ys left right = (left.0, all_append P xs ys left.1 right)

pub sorted_append : (xs ys : List Entry) → IsStrictlySortedBy entry_cmp xs → IsStrictlySortedBy entry_cmp ys → ((x y : Entry) → Contains xs x → Contains ys y → entry_cmp x y ≡ Less) → IsStrictlySortedBy entry_cmp (xs ++ ys)
unfolding IsStrictlySortedBy
sorted_append [] ys left right less = right
sorted_append (x ∷ xs) ys left right less =
    (all_append (λ y. entry_cmp x y ≡ Less) xs ys left.0 (all_from (λ y. entry_cmp x y ≡ Less) ys (λ y held. less x y (first_in x xs x refl) held)), sorted_append xs ys left.1 right (λ a b ha hb. less a b (later_in x xs a ha) hb))

sorted_nil : IsStrictlySortedBy entry_cmp []
unfolding IsStrictlySortedBy
sorted_nil = tt

pub entries_in_order : (x : Node) (xs : List Node) (next : Option Entry) → AreUpper xs → AreNodes (x ∷ xs) next → IsStrictlySortedBy entry_cmp (entries_in (x ∷ xs))
entries_in_order x [] next upper are = sorted_append x.entries [] are.0.sorted sorted_nil (λ e f he hf. absurd (none_in_nil f hf))
entries_in_order x (y ∷ ys) next upper are = sorted_append x.entries (entries_in (y ∷ ys)) are.0.sorted (entries_in_order y ys next upper.1 are.1) (λ e f he hf. by_bound e f y.bound refl (are.0.below e he) (from_first y ys next f upper.1 are.1 hf))
  where
    by_bound : (e f : Entry) (b : Leaf) → y.bound ≡ b → is_below b e ≡ true → is_from b f ≡ true → entry_cmp e f ≡ Less
    by_bound e f None is below from = absurd (upper.0.bounded is)
    by_bound e f (Some b) is below from = below_from b e f below from

pub bounds_in_order : (xs : List Node) (next : Option Entry) → AreUpper xs → AreNodes xs next → IsStrictlySortedBy entry_cmp (bounds_in xs)
unfolding IsStrictlySortedBy
bounds_in_order [] next upper are = sorted_nil
bounds_in_order (x ∷ xs) next upper are = by_bound x.bound refl are.0.ordered (bounds_in_order xs next upper.1 are.1)
  where
    by_bound : (b : Leaf) → x.bound ≡ b → IsBefore b (first_bound xs next) → IsStrictlySortedBy entry_cmp (bounds_in xs) → IsStrictlySortedBy entry_cmp (option_to_list b ++ bounds_in xs)
    by_bound None is before rest = rest
    by_bound (Some b) is before rest = (all_from (λ c. entry_cmp b c ≡ Less) (bounds_in xs) (λ c held. above_all (Some b) xs next c before upper.1 are.1 held), rest)
