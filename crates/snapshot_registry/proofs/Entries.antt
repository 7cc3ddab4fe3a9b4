-- What is registered under each id after an event, and what that says of all registered snapshots.
use Rattle.std.proofs.Common.{◌≡◌, ◌≢◌, ◌<◌, ◌≤◌, ◌-◌, ℕ, zero, suc, Bool, true, false, ◌⊎◌, [], ◌∷◌, ◌++◌, Option, Some, None, is_some, length, slice_get, slice_set, ◌==◌, if◌then◌else◌, refl, sym, ap, ◌∙◌, arith, inl, inr}
use mathlib.Core.Bool.{false≢true}
use Rattle.std.specs.List.{list_any}
use Rattle.std.specs.Option.{option_flatten, option_map, option_and_then}
use Rattle.std.proofs.lemmas.Bool.{cases_eq, cases_lt}
use Rattle.std.proofs.lemmas.Bool.Decides.{nat_tests}
use Rattle.std.proofs.lemmas.List.{set_past}
use Rattle.std.proofs.lemmas.Option.{slice_get_within, none-some, same_Some}
use Rattle.list_facts.proofs.Changed.{get_set_same, get_set_other, get_push_at}
use Rattle.xact_status.proofs.Pushed.{get_push_other}
use Rattle.xact_status.specs.Xacts.{Xacts}
use Rattle.snapshot_registry.specs.declared.Snapshot.{Snapshot}
use Rattle.snapshot_registry.specs.declared.Held.{Held}
use Rattle.snapshot_registry.specs.Snapshots.{Snaps, IsLeastFree, held_at, is_registered, snapshots, least_free, with_entry, snapshot_now, after_take, one_more, one_less, after_share, after_release}
use Rattle.snapshot_registry.specs.Laws.{RegistryIsAMap}

-- a registered id stands in the list
pub registered_within : (snaps : Snaps) (id : ℕ) → is_registered snaps id ≡ true → id < length snaps
registered_within snaps id registered = within (slice_get snaps id) refl registered
  where
    within : (o : Option (Option Held)) → slice_get snaps id ≡ o → is_some (option_flatten o) ≡ true → id < length snaps
    within None is e = absurd (cc)
    within (Some entry) is e = slice_get_within snaps id entry is

-- what is registered after an entry is written: that one under its id, and under every other id what was there
pub held_at_set : (snaps : Snaps) (id : ℕ) (entry : Option Held) → id < length snaps → (other : ℕ) → held_at (slice_set snaps id entry) other ≡ (if other == id then entry else held_at snaps other)
held_at_set snaps id entry h other = elim (cases_eq other id) [
  | inl same ↦ ap option_flatten (ap (slice_get (slice_set snaps id entry)) same ∙ get_set_same snaps id entry h) ∙ grind (arith, nat_tests)
  | inr differ ↦ ap option_flatten (get_set_other snaps id other entry differ) ∙ grind (arith, nat_tests)
]

-- the same where the id may be the first that never was registered
pub held_at_with : (snaps : Snaps) (id : ℕ) (entry : Option Held) → id ≤ length snaps → (other : ℕ) → held_at (with_entry snaps id entry) other ≡ (if other == id then entry else held_at snaps other)
held_at_with snaps id entry h other = elim (cases_lt id (length snaps)) [
  | inl within ↦ ap (λ xs. held_at xs other) (written within) ∙ held_at_set snaps id entry within other
  | inr beyond ↦ let last : id ≡ length snaps = omega arith in ap (λ xs. held_at xs other) (pushed beyond) ∙ elim (cases_eq other id) [
    | inl same ↦ ap option_flatten (ap (slice_get (snaps ++ entry ∷ [])) (same ∙ last) ∙ get_push_at snaps entry) ∙ grind (arith, nat_tests)
    | inr differ ↦ ap option_flatten (get_push_other snaps entry other (λ e. differ (e ∙ sym last))) ∙ grind (arith, nat_tests)
  ]
]
  where
    written : id < length snaps → with_entry snaps id entry ≡ slice_set snaps id entry
    written lt = grind (arith, nat_tests)

    pushed : length snaps ≤ id → with_entry snaps id entry ≡ snaps ++ entry ∷ []
    pushed le = grind (arith, nat_tests)

-- the least free id is one of the list's places, or the next
pub least_free_within : (snaps : Snaps) → least_free snaps ≤ length snaps
least_free_within [] = omega arith
least_free_within (None ∷ snaps) = omega arith
least_free_within (Some held ∷ snaps) = omega (arith, least_free_within snaps)

-- every lower id is registered
registered_below : (snaps : Snaps) (id : ℕ) → id < least_free snaps → is_registered snaps id ≡ true
registered_below [] id lt = absurd (omega (arith, lt))
registered_below (None ∷ snaps) id lt = absurd (omega (arith, lt))
registered_below (Some held ∷ snaps) zero lt = refl
registered_below (Some held ∷ snaps) (suc id) lt = registered_below snaps id (omega (arith, lt))

-- it is not registered
free_at_least : (snaps : Snaps) → is_registered snaps (least_free snaps) ≡ false
free_at_least [] = refl
free_at_least (None ∷ snaps) = refl
free_at_least (Some held ∷ snaps) = free_at_least snaps

-- it is what its name says
pub least_free_is_least : (snaps : Snaps) → IsLeastFree snaps (least_free snaps)
least_free_is_least snaps = record { free = free_at_least snaps; least = registered_below snaps }

-- what is registered under each id after a snapshot is taken, shared or released
pub held_at_take : (xacts : Xacts) (snaps : Snaps) (id : ℕ) → held_at (after_take snaps xacts) id ≡ (if id == least_free snaps then Some (record { snapshot = snapshot_now xacts; holders = 1 }) else held_at snaps id)
held_at_take xacts snaps id = held_at_with snaps (least_free snaps) (Some (record { snapshot = snapshot_now xacts; holders = 1 })) (least_free_within snaps) id

pub held_at_share : (snaps : Snaps) (shared id : ℕ) → is_registered snaps shared ≡ true → held_at (after_share snaps shared) id ≡ (if id == shared then option_map one_more (held_at snaps shared) else held_at snaps id)
held_at_share snaps shared id registered = held_at_set snaps shared (option_map one_more (held_at snaps shared)) (registered_within snaps shared registered) id

pub held_at_release : (snaps : Snaps) (released id : ℕ) → is_registered snaps released ≡ true → held_at (after_release snaps released) id ≡ (if id == released then option_and_then one_less (held_at snaps released) else held_at snaps id)
held_at_release snaps released id registered = held_at_set snaps released (option_and_then one_less (held_at snaps released)) (registered_within snaps released registered) id

pub registry_is_a_map : RegistryIsAMap
registry_is_a_map = record { free_is_least = least_free_is_least; taken = held_at_take; shared = held_at_share; released = held_at_release }

-- what is registered after a snapshot is taken shows this moment, or was registered before
pub held_after_take : (snaps : Snaps) (xacts : Xacts) (other : ℕ) (held : Held) → held_at (after_take snaps xacts) other ≡ Some held → (held.snapshot ≡ snapshot_now xacts) ⊎ (held_at snaps other ≡ Some held)
held_after_take snaps xacts other held is =
    let new : Held = record { snapshot = snapshot_now xacts; holders = 1 } in
    let entry = held_at_take xacts snaps other in
    elim (cases_eq other (least_free snaps)) [
      | inl same ↦ let here : Some new ≡ Some held = sym (entry ∙ grind (arith, nat_tests)) ∙ is in inl (sym (ap (λ (h : Held). h.snapshot) (same_Some new held here)))
      | inr differ ↦ inr (sym (entry ∙ grind (arith, nat_tests)) ∙ is)
    ]

-- some registered snapshot passes a test exactly where one does under some id
pub passing_snapshot : (p : Snapshot → Bool) (snaps : Snaps) → list_any p (snapshots snaps) ≡ true → (id : ℕ) × (held : Held) × (held_at snaps id ≡ Some held) × (p held.snapshot ≡ true)
passing_snapshot p [] passes = absurd (cc)
passing_snapshot p (None ∷ snaps) passes = let found = passing_snapshot p snaps passes in (suc found.0, found.1, found.2, found.3)
passing_snapshot p (Some held ∷ snaps) passes = elim (p held.snapshot) as (λ b. p held.snapshot ≡ b → (id : ℕ) × (other : Held) × (held_at (Some held ∷ snaps) id ≡ Some other) × (p other.snapshot ≡ true)) [
  | true ↦ λ is. (zero, held, refl, is)
  | false ↦ λ is. let found = passing_snapshot p snaps (grind (arith, passes, is)) in (suc found.0, found.1, found.2, found.3)
] refl

pub no_snapshot_passes : (p : Snapshot → Bool) (snaps : Snaps) → ((id : ℕ) (held : Held) → held_at snaps id ≡ Some held → p held.snapshot ≡ false) → list_any p (snapshots snaps) ≡ false
no_snapshot_passes p [] none = refl
no_snapshot_passes p (None ∷ snaps) none = no_snapshot_passes p snaps (λ id held is. none (suc id) held is)
no_snapshot_passes p (Some held ∷ snaps) none = grind (arith, none zero held refl, no_snapshot_passes p snaps (λ id other is. none (suc id) other is))

pub snapshot_passes : (p : Snapshot → Bool) (snaps : Snaps) (id : ℕ) (held : Held) → held_at snaps id ≡ Some held → p held.snapshot ≡ true → list_any p (snapshots snaps) ≡ true
snapshot_passes p [] id held is passes = absurd (cc)
snapshot_passes p (None ∷ snaps) zero held is passes = absurd (cc)
snapshot_passes p (None ∷ snaps) (suc id) held is passes = snapshot_passes p snaps id held is passes
snapshot_passes p (Some other ∷ snaps) zero held is passes = grind (arith, ap (λ (h : Held). p h.snapshot) (same_Some other held is), passes)
snapshot_passes p (Some other ∷ snaps) (suc id) held is passes = grind (arith, snapshot_passes p snaps id held is passes)

-- where none passes, neither does the one under an id
pub snapshot_fails : (p : Snapshot → Bool) (snaps : Snaps) (id : ℕ) (held : Held) → list_any p (snapshots snaps) ≡ false → held_at snaps id ≡ Some held → p held.snapshot ≡ false
snapshot_fails p snaps id held none is = elim (p held.snapshot) as (λ b. p held.snapshot ≡ b → b ≡ false) [
  | true ↦ λ passes. absurd (false≢true (sym none ∙ snapshot_passes p snaps id held is passes))
  | false ↦ λ fails. refl
] refl

-- what is registered after a snapshot is shared or released had that snapshot before
pub held_after_share : (snaps : Snaps) (id other : ℕ) (held : Held) → held_at (after_share snaps id) other ≡ Some held → (before : Held) × (held_at snaps other ≡ Some before) × (held.snapshot ≡ before.snapshot)
held_after_share snaps id other held is = elim (cases_lt id (length snaps)) [
  | inl within ↦ elim (cases_eq other id) [
    | inl same ↦ shared (held_at snaps id) (ap (held_at snaps) same) (sym (here within same) ∙ is)
    | inr differ ↦ (held, sym (there within differ) ∙ is, refl)
  ]
  | inr beyond ↦ (held, sym (ap (λ xs. held_at xs other) (set_past snaps id (option_map one_more (held_at snaps id)) beyond)) ∙ is, refl)
]
  where
    here : id < length snaps → other ≡ id → held_at (after_share snaps id) other ≡ option_map one_more (held_at snaps id)
    here within same = held_at_set snaps id (option_map one_more (held_at snaps id)) within other ∙ grind (arith, nat_tests)

    there : id < length snaps → other ≢ id → held_at (after_share snaps id) other ≡ held_at snaps other
    there within differ = held_at_set snaps id (option_map one_more (held_at snaps id)) within other ∙ grind (arith, nat_tests)

    shared : (o : Option Held) → held_at snaps other ≡ o → option_map one_more o ≡ Some held → (before : Held) × (held_at snaps other ≡ Some before) × (held.snapshot ≡ before.snapshot)
    shared None was e = absurd (cc)
    shared (Some before) was e = (before, was, sym (ap (λ (h : Held). h.snapshot) (same_Some (one_more before) held e)))

pub held_after_release : (snaps : Snaps) (id other : ℕ) (held : Held) → held_at (after_release snaps id) other ≡ Some held → (before : Held) × (held_at snaps other ≡ Some before) × (held.snapshot ≡ before.snapshot)
held_after_release snaps id other held is = elim (cases_lt id (length snaps)) [
  | inl within ↦ elim (cases_eq other id) [
    | inl same ↦ released (held_at snaps id) (ap (held_at snaps) same) (sym (here within same) ∙ is)
    | inr differ ↦ (held, sym (there within differ) ∙ is, refl)
  ]
  | inr beyond ↦ (held, sym (ap (λ xs. held_at xs other) (set_past snaps id (option_and_then one_less (held_at snaps id)) beyond)) ∙ is, refl)
]
  where
    here : id < length snaps → other ≡ id → held_at (after_release snaps id) other ≡ option_and_then one_less (held_at snaps id)
    here within same = held_at_set snaps id (option_and_then one_less (held_at snaps id)) within other ∙ grind (arith, nat_tests)

    there : id < length snaps → other ≢ id → held_at (after_release snaps id) other ≡ held_at snaps other
    there within differ = held_at_set snaps id (option_and_then one_less (held_at snaps id)) within other ∙ grind (arith, nat_tests)

    one_less_keeps : (before : Held) → one_less before ≡ Some held → held.snapshot ≡ before.snapshot
    one_less_keeps before e = elim (cases_lt 1 before.holders) [
      | inl many ↦ let kept : Some (record before { holders = before.holders - 1 }) ≡ Some held = grind (arith, nat_tests, e) in sym (ap (λ (h : Held). h.snapshot) (same_Some _ held kept))
      | inr last ↦ let gone : None ≡ Some held = grind (arith, nat_tests, e) in absurd (none-some held gone)
    ]

    released : (o : Option Held) → held_at snaps other ≡ o → option_and_then one_less o ≡ Some held → (before : Held) × (held_at snaps other ≡ Some before) × (held.snapshot ≡ before.snapshot)
    released None was e = absurd (cc)
    released (Some before) was e = (before, was, one_less_keeps before e)
