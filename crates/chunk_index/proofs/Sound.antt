-- What is true of an index stays true through each call.
use Rattle.std.proofs.Common.{◌≡◌, ◌≢◌, inl, inr, ℕ, Bool, true, false, not, cond, Option, Some, None, List, [], ◌∷◌, find, Contains, ◌==◌, nat_lt, get_or, refl, sym, ap, ◌∙◌, arith}
use Rattle.std.specs.Option.{option_map}
use Rattle.std.specs.List.{insert, position_or_len}
use Rattle.std.specs.Ordering.{is_lt, nat_cmp}
use Rattle.std.proofs.lemmas.List.Sums.{prefix_len-le-length, fails_before_first, passes_at_first}
use Rattle.std.specs.List.Sorted.{IsStrictlySortedBy}
use Rattle.std.proofs.lemmas.Bool.Decides.{nat_tests}
use Rattle.std.proofs.lemmas.Cmp.{nat_cmp_total, on_total}
use Rattle.std.proofs.lemmas.List.Kept.{IsStrictlySortedBy-filter}
use Rattle.std.specs.Cmp.{IsTotalOrder}
use Rattle.chunk_index.specs.declared.entry.Entry.{Entry}
use Rattle.chunk_index.specs.declared.entry.Pin.{Pin}
use Rattle.chunk_index.specs.Leaves.{Leaf}
use Rattle.chunk_index.specs.Pinned.{pin_cmp, pin_of, with_pin, without_pin}
use Rattle.chunk_index.specs.Nodes.{Content}
use Rattle.chunk_index.specs.Places.{IsContent}
use Rattle.chunk_index.specs.Indexes.{IsIndex, IsLeaf}
use Rattle.list_facts.proofs.Members.{none_in_nil, cases_in, filter_holds}
use Rattle.chunk_index.proofs.Inserted.{IsStrictlySortedBy-inserted, inserted_at, inserted_holds}

-- the order of pins is total
pub pin_total : IsTotalOrder pin_cmp
pin_total = on_total (λ (p : Pin). p.session) nat_cmp_total

-- an element that is not found is none of those that are there
not_found : {X : Type 0} (p : X → Bool) (xs : List X) (x : X) → find p xs ≡ None → Contains xs x → p x ≡ false
not_found p [] x none held = absurd (none_in_nil x held)
not_found {X} p (y ∷ ys) x none held = by_test (p y) refl none (λ rest later. not_found p ys x rest later)
  where
    by_test : (b : Bool) → p y ≡ b → cond b (Some y) (find p ys) ≡ None → (find p ys ≡ None → Contains ys x → p x ≡ false) → p x ≡ false
    by_test true passes none' rest = absurd (cc)
    by_test false fails none' rest = elim (cases_in y ys x held) [
      | inl is ↦ ap p (sym is) ∙ fails
      | inr later ↦ rest none' later
    ]

-- a session without a pin has none among the pins
pub no_pin : (pins : List Pin) (session : ℕ) (pin : Pin) → pin_of pins session ≡ None → Contains pins pin → pin.session ≢ session
no_pin pins session pin none held same =
    let fails = not_found (λ p. p.session == session) pins pin (none_mapped (find (λ p. p.session == session) pins) none) held in
    grind (arith, nat_tests)
  where
    none_mapped : (o : Option Pin) → option_map (λ (p : Pin). p.leaf) o ≡ None → o ≡ None
    none_mapped None e = refl
    none_mapped (Some p) e = absurd (cc)

-- no pin at all
pub pins_none : IsStrictlySortedBy pin_cmp []
unfolding IsStrictlySortedBy
pins_none = tt

-- a pin that is put before the first of a greater session is in its place
lt_is : (m n : ℕ) → is_lt (nat_cmp m n) ≡ nat_lt m n
lt_is m n = grind (arith, nat_tests)

pub pin_placed : (pins : List Pin) (session place : ℕ) (leaf : Leaf) → place ≡ position_or_len (λ p. nat_lt session p.session) pins → insert pins place (record { session = session; leaf = leaf }) ≡ with_pin pins session leaf
pin_placed pins session place leaf is = rw is (inserted_at pin_cmp (record { session = session; leaf = leaf }) pins (position_or_len (λ p. nat_lt session p.session) pins) (prefix_len-le-length (λ p. not (nat_lt session p.session)) pins)
    (λ k d below. lt_is session (get_or pins k d).session ∙ fails_before_first (λ p. nat_lt session p.session) pins k d below)
    (λ d within. lt_is session (get_or pins (position_or_len (λ p. nat_lt session p.session) pins) d).session ∙ passes_at_first (λ p. nat_lt session p.session) pins d within))

-- the pins stay in order with one more
pub pins_with : (pins : List Pin) (session : ℕ) (leaf : Leaf) → pin_of pins session ≡ None → IsStrictlySortedBy pin_cmp pins → IsStrictlySortedBy pin_cmp (with_pin pins session leaf)
pins_with pins session leaf none sorted = IsStrictlySortedBy-inserted pin_total (record { session = session; leaf = leaf }) pins sorted (λ pin held equal. no_pin pins session pin none held (grind (arith, nat_tests, equal)))

-- an index of leaves and pins
pub sound_of : (content : Content) (pins : List Pin) → IsContent content → IsStrictlySortedBy pin_cmp pins → ((pin : Pin) → Contains pins pin → IsLeaf content.bounds pin.leaf) → IsIndex (record { entries = content.entries; bounds = content.bounds; pins = pins })
sound_of content pins is sorted pinned = record {
  entries_sorted = is.entries_sorted;
  bounds_sorted = is.bounds_sorted;
  pins_sorted = sorted;
  pinned = pinned;
  within = is.within;
}

pub sound_empty : IsIndex (record { entries = []; bounds = []; pins = [] })
unfolding IsStrictlySortedBy
sound_empty = record { entries_sorted = tt; bounds_sorted = tt; pins_sorted = tt; pinned = λ pin held. absurd (none_in_nil pin held); within = λ leaf is. omega arith }

pub sound_pin : (entries bounds : List Entry) (pins : List Pin) (session : ℕ) (leaf : Leaf) → pin_of pins session ≡ None → IsLeaf bounds leaf → IsIndex (record { entries = entries; bounds = bounds; pins = pins }) → IsIndex (record { entries = entries; bounds = bounds; pins = with_pin pins session leaf })
sound_pin entries bounds pins session leaf none is_leaf sound = record {
  entries_sorted = sound.entries_sorted;
  bounds_sorted = sound.bounds_sorted;
  pins_sorted = pins_with pins session leaf none sound.pins_sorted;
  pinned = λ pin held. elim (inserted_holds pin_cmp (record { session = session; leaf = leaf }) pin pins held) [
    | inl there ↦ sound.pinned pin there
    | inr is ↦ rw (← is) is_leaf
  ];
  within = sound.within;
}

pub sound_unpin : (entries bounds : List Entry) (pins : List Pin) (session : ℕ) → IsIndex (record { entries = entries; bounds = bounds; pins = pins }) → IsIndex (record { entries = entries; bounds = bounds; pins = without_pin pins session })
sound_unpin entries bounds pins session sound = record {
  entries_sorted = sound.entries_sorted;
  bounds_sorted = sound.bounds_sorted;
  pins_sorted = IsStrictlySortedBy-filter pin_cmp (λ p. not (p.session == session)) pins sound.pins_sorted;
  pinned = λ pin held. sound.pinned pin (filter_holds (λ p. not (p.session == session)) pins pin held).0;
  within = sound.within;
}
