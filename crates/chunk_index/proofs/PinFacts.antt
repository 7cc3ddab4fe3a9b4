-- The pins as a map from sessions to leaves, and who holds a leaf.
use Rattle.std.proofs.Common.{◌≡◌, ◌≢◌, inl, inr, ℕ, ◌≤◌, Bool, true, false, not, ◌==◌, cond, if◌then◌else◌, Some, None, List, [], ◌∷◌, find, Contains, refl, ap, ◌∙◌, subst, arith}
use Rattle.std.specs.Option.{option_map}
use Rattle.std.specs.List.{AllByRecursion}
use Rattle.std.specs.List.Sorted.{IsStrictlySortedBy}
use Rattle.std.specs.declared.cmp.Ordering.TheVariants.{Less, Equal, Greater}
use Rattle.std.specs.declared.cmp.Ordering.{Ordering}
use Rattle.std.specs.Ordering.{is_lt, is_eq, nat_cmp}
use Rattle.std.proofs.lemmas.Bool.{both_ways}
use Rattle.std.proofs.lemmas.Bool.Decides.{nat_tests}
use Rattle.std.proofs.lemmas.Option.{same_Some, none-some}
use Rattle.std.proofs.lemmas.Cmp.{tied_itself}
use Rattle.chunk_index.specs.declared.entry.Entry.{Entry}
use Rattle.chunk_index.specs.declared.entry.Pin.{Pin}
use Rattle.chunk_index.specs.Entries.{entry_cmp}
use Rattle.chunk_index.specs.Leaves.{Leaf, same_leaf, leaf_of}
use Rattle.chunk_index.specs.Pinned.{pin_cmp, pin_of, with_pin, without_pin, holder_of}
use Rattle.chunk_index.specs.Indexes.{Index, after_batch}
use Rattle.list_facts.proofs.Members.{none_in_nil, cases_in, first_in, later_in}
use Rattle.chunk_index.proofs.Ordered.{entry_equal, entry_total}

-- two bounds name one leaf exactly where they are the same
pub same_leaf_is : (leaf other : Leaf) → same_leaf leaf other ≡ true → leaf ≡ other
same_leaf_is None None same = refl
same_leaf_is None (Some other) same = absurd (cc)
same_leaf_is (Some bound) None same = absurd (cc)
same_leaf_is (Some bound) (Some other) same = ap (λ e. Some e) (entry_equal bound other (equal_from (entry_cmp bound other) same))
  where
    equal_from : (r : Ordering) → is_eq r ≡ true → r ≡ Equal
    equal_from Less e = absurd (cc)
    equal_from Equal e = refl
    equal_from Greater e = absurd (cc)

pub same_leaf_refl : (leaf : Leaf) → same_leaf leaf leaf ≡ true
same_leaf_refl None = refl
same_leaf_refl (Some bound) = ap is_eq (tied_itself entry_total bound)

-- a pin that is put is the session's, and every other session has what it had
pub pin_of-with : (pins : List Pin) (session : ℕ) (leaf : Leaf) (other : ℕ) → pin_of pins session ≡ None → pin_of (with_pin pins session leaf) other ≡ (if session == other then Some leaf else pin_of pins other)
pin_of-with [] session leaf other none = grind (arith, nat_tests)
pin_of-with (p ∷ ps) session leaf other none = by_tests (is_lt (nat_cmp session p.session)) (p.session == session) (p.session == other) (session == other) refl refl refl none (λ rest. pin_of-with ps session leaf other rest)
  where
    by_tests : (less same this asked : Bool) → (p.session == session) ≡ same → (p.session == other) ≡ this → (session == other) ≡ asked → option_map (λ (q : Pin). q.leaf) (cond same (Some p) (find (λ q. q.session == session) ps)) ≡ None
        → (pin_of ps session ≡ None → pin_of (with_pin ps session leaf) other ≡ (if session == other then Some leaf else pin_of ps other))
        → option_map (λ (q : Pin). q.leaf) (find (λ q. q.session == other) (cond less (record { session = session; leaf = leaf } ∷ p ∷ ps) (p ∷ with_pin ps session leaf))) ≡ cond asked (Some leaf) (option_map (λ (q : Pin). q.leaf) (cond this (Some p) (find (λ q. q.session == other) ps)))
    by_tests true same this true e f g none' rest = ap (λ b. option_map (λ (q : Pin). q.leaf) (cond b (Some (record { session = session; leaf = leaf })) (find (λ q. q.session == other) (p ∷ ps)))) g
    by_tests true same this false e f g none' rest = ap (λ b. option_map (λ (q : Pin). q.leaf) (cond b (Some (record { session = session; leaf = leaf })) (find (λ q. q.session == other) (p ∷ ps)))) g ∙ ap (λ b. option_map (λ (q : Pin). q.leaf) (cond b (Some p) (find (λ q. q.session == other) ps))) f
    by_tests false true this asked e f g none' rest = absurd (cc)
    by_tests false false true true e f g none' rest = absurd (grind (arith, nat_tests, e, f, g))
    by_tests false false true false e f g none' rest = ap (λ b. option_map (λ (q : Pin). q.leaf) (cond b (Some p) (find (λ q. q.session == other) (with_pin ps session leaf)))) f
    by_tests false false false asked e f g none' rest = ap (λ b. option_map (λ (q : Pin). q.leaf) (cond b (Some p) (find (λ q. q.session == other) (with_pin ps session leaf)))) f ∙ rest none' ∙ ap (λ b. cond b (Some leaf) (pin_of ps other)) g

-- a pin that is dropped is the session's, and every other session has what it had
pub pin_of-without : (pins : List Pin) (session other : ℕ) → pin_of (without_pin pins session) other ≡ (if session == other then None else pin_of pins other)
pin_of-without [] session other = grind (arith, nat_tests)
pin_of-without (p ∷ ps) session other = by_tests (p.session == session) (p.session == other) (session == other) refl refl refl (pin_of-without ps session other)
  where
    by_tests : (same this asked : Bool) → (p.session == session) ≡ same → (p.session == other) ≡ this → (session == other) ≡ asked → pin_of (without_pin ps session) other ≡ (if session == other then None else pin_of ps other)
        → option_map (λ (q : Pin). q.leaf) (find (λ q. q.session == other) (cond (not same) (p ∷ without_pin ps session) (without_pin ps session))) ≡ cond asked None (option_map (λ (q : Pin). q.leaf) (cond this (Some p) (find (λ q. q.session == other) ps)))
    by_tests true this true e f g rest = rest ∙ ap (λ b. cond b None (pin_of ps other)) g
    by_tests true true false e f g rest = absurd (grind (arith, nat_tests, e, f, g))
    by_tests true false false e f g rest = rest ∙ ap (λ b. cond b None (pin_of ps other)) g
    by_tests false true true e f g rest = absurd (grind (arith, nat_tests, e, f, g))
    by_tests false true false e f g rest = ap (λ b. option_map (λ (q : Pin). q.leaf) (cond b (Some p) (find (λ q. q.session == other) (without_pin ps session)))) f
    by_tests false false asked e f g rest = ap (λ b. option_map (λ (q : Pin). q.leaf) (cond b (Some p) (find (λ q. q.session == other) (without_pin ps session)))) f ∙ rest ∙ ap (λ b. cond b None (pin_of ps other)) g

-- what is true of each element is true of one that the list holds
pub all_in : {X : Type 0} (P : X → Type 0) (xs : List X) (x : X) → AllByRecursion P xs → Contains xs x → P x
all_in P [] x all held = absurd (none_in_nil x held)
all_in P (y ∷ ys) x all held = elim (cases_in y ys x held) [ inl is ↦ subst P is all.0 | inr later ↦ all_in P ys x all.1 later ]

-- who holds a leaf has it pinned, and no lesser session has
pub record IsLeastHolder (pins : List Pin) (leaf : Leaf) (holder : ℕ) : Type 0 where
  pub holds : Contains pins (record { session = holder; leaf = leaf })
  pub least : (pin : Pin) → Contains pins pin → pin.leaf ≡ leaf → holder ≤ pin.session

pub holder_is : (pins : List Pin) (leaf : Leaf) (holder : ℕ) → IsStrictlySortedBy pin_cmp pins → holder_of pins leaf ≡ Some holder → IsLeastHolder pins leaf holder
unfolding IsStrictlySortedBy
holder_is [] leaf holder sorted is = absurd (none-some holder is)
holder_is (p ∷ ps) leaf holder sorted is = by_test (same_leaf p.leaf leaf) refl is (λ rest. holder_is ps leaf holder sorted.1 rest)
  where
    by_test : (b : Bool) → same_leaf p.leaf leaf ≡ b → option_map (λ (q : Pin). q.session) (cond b (Some p) (find (λ q. same_leaf q.leaf leaf) ps)) ≡ Some holder → (holder_of ps leaf ≡ Some holder → IsLeastHolder ps leaf holder) → IsLeastHolder (p ∷ ps) leaf holder
    by_test true same found rest =
        let session : p.session ≡ holder = same_Some p.session holder found in
        let of_leaf : p.leaf ≡ leaf = same_leaf_is p.leaf leaf same in
        record {
          holds = first_in p ps (record { session = holder; leaf = leaf }) (λ i. record { session = session i; leaf = of_leaf i });
          least = λ pin held on. elim (cases_in p ps pin held) [
            | inl here ↦ omega (arith, session, ap (λ (q : Pin). q.session) here)
            | inr later ↦ let less = all_in (λ q. pin_cmp p q ≡ Less) ps pin sorted.0 later in grind (arith, nat_tests, session)
          ];
        }
    by_test false differ found rest =
        let least = rest found in
        record {
          holds = later_in p ps (record { session = holder; leaf = leaf }) least.holds;
          least = λ pin held on. elim (cases_in p ps pin held) [
            | inl here ↦ absurd (both_ways (same_leaf p.leaf leaf) differ (ap (λ (l : Leaf). same_leaf l leaf) (ap (λ (q : Pin). q.leaf) here ∙ on) ∙ same_leaf_refl leaf))
            | inr later ↦ least.least pin later on
          ];
        }

-- where nobody holds a leaf, no session has it pinned
pub no_holder : (pins : List Pin) (leaf : Leaf) (pin : Pin) → holder_of pins leaf ≡ None → Contains pins pin → pin.leaf ≢ leaf
no_holder [] leaf pin none held = absurd (none_in_nil pin held)
no_holder (p ∷ ps) leaf pin none held = by_test (same_leaf p.leaf leaf) refl none (λ rest later. no_holder ps leaf pin rest later)
  where
    by_test : (b : Bool) → same_leaf p.leaf leaf ≡ b → option_map (λ (q : Pin). q.session) (cond b (Some p) (find (λ q. same_leaf q.leaf leaf) ps)) ≡ None → (holder_of ps leaf ≡ None → Contains ps pin → pin.leaf ≢ leaf) → pin.leaf ≢ leaf
    by_test true same none' rest = absurd (cc)
    by_test false differ none' rest = elim (cases_in p ps pin held) [
      | inl here ↦ λ on. both_ways (same_leaf p.leaf leaf) differ (ap (λ (l : Leaf). same_leaf l leaf) (ap (λ (q : Pin). q.leaf) here ∙ on) ∙ same_leaf_refl leaf)
      | inr later ↦ rest none' later
    ]

-- a batch pins for its session alone
pub pin_of-batch : (index : Index) (session : ℕ) (wanted : List Entry) (other : ℕ) → pin_of index.pins session ≡ None → other ≢ session → pin_of (Index.pins (after_batch index session wanted)) other ≡ pin_of index.pins other
pin_of-batch index session [] other none differ = refl
pin_of-batch index session (first ∷ rest) other none differ = pin_of-with index.pins session (leaf_of index.bounds first) other none ∙ grind (arith, nat_tests)

-- a session has no pin once it is dropped
pub pin_dropped : (pins : List Pin) (session : ℕ) → pin_of (without_pin pins session) session ≡ None
pin_dropped pins session = pin_of-without pins session session ∙ grind (arith, nat_tests)

-- the pin of a session is one of the pins
pub pin_held : (pins : List Pin) (session : ℕ) (leaf : Leaf) → pin_of pins session ≡ Some leaf → Contains pins (record { session = session; leaf = leaf })
pin_held [] session leaf is = absurd (none-some leaf is)
pin_held (p ∷ ps) session leaf is = by_test (p.session == session) refl is (λ rest. pin_held ps session leaf rest)
  where
    by_test : (b : Bool) → (p.session == session) ≡ b → option_map (λ (q : Pin). q.leaf) (cond b (Some p) (find (λ q. q.session == session) ps)) ≡ Some leaf → (pin_of ps session ≡ Some leaf → Contains ps (record { session = session; leaf = leaf })) → Contains (p ∷ ps) (record { session = session; leaf = leaf })
    by_test true same found rest =
        let own : p.session ≡ session = grind (arith, nat_tests) in
        let of_leaf : p.leaf ≡ leaf = same_Some p.leaf leaf found in
        first_in p ps (record { session = session; leaf = leaf }) (λ i. record { session = own i; leaf = of_leaf i })
    by_test false differ found rest = later_in p ps (record { session = session; leaf = leaf }) (rest found)
