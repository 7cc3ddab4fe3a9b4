-- What an id that is drawn is, and what is in hand after each call.
use Rattle.std.proofs.Common.{◌≡◌, ◌≢◌, inl, inr, ℕ, ◌<◌, ◌≤◌, ◌+◌, ◌-◌, Bool, true, false, not, ◌&&◌, ◌||◌, ◌==◌, cond, Some, None, List, [], ◌∷◌, ◌++◌, Contains, ap, ◌∙◌, arith, zero, suc}
use Rattle.std.proofs.lemmas.Bool.{cases_lt, cases_eq, not-true, not-false}
use Rattle.std.proofs.lemmas.Bool.Decides.{nat_tests}
use Rattle.std.proofs.lemmas.List.Elements.{Contains-append_left, Contains-append_right, Contains-append_cases}
use Rattle.value_ids.specs.declared.pool.InHand.{InHand}
use Rattle.value_ids.specs.Ids.{Pool, IsPool, ids_from, ids_of, is_held, is_in_use, first_free_of, first_free_id, id_after, released}
use Rattle.list_facts.proofs.Members.{none_in_nil, cases_in, first_in, later_in, found_in, none_passes, held_by_filter, find-append_some, find-append_none}

-- so many ids are one and the rest
ids_step : (id end : ℕ) → id < end → ids_from id (end - id) ≡ id ∷ ids_from (id + 1) (end - (id + 1))
ids_step id end below = let one_more : end - id ≡ suc (end - (id + 1)) = omega (arith, below) in ap (ids_from id) one_more

-- the first free of some ids is that of the rest where the first is in use
pub free_later : (used : ℕ → Bool) (in_hand : List InHand) (table id end : ℕ) → id < end → is_in_use used in_hand table id ≡ true → first_free_of used in_hand table (ids_from id (end - id)) ≡ first_free_of used in_hand table (ids_from (id + 1) (end - (id + 1)))
free_later used in_hand table id end below taken =
    ap (first_free_of used in_hand table) (ids_step id end below) ∙ ap (λ b. cond (not b) (Some id) (first_free_of used in_hand table (ids_from (id + 1) (end - (id + 1))))) taken

-- the first free id of a pool is found from the counter on, or else among those below it
pub free_above : (used : ℕ → Bool) (pool : Pool) (table id : ℕ) → first_free_of used pool.in_hand table (ids_from pool.next (pool.high + 1 - pool.next)) ≡ Some id → first_free_id used pool table ≡ Some id
free_above used pool table id found = find-append_some (λ x. not (is_in_use used pool.in_hand table x)) (ids_from pool.next (pool.high + 1 - pool.next)) (ids_from pool.low (pool.next - pool.low)) id found

pub free_below : (used : ℕ → Bool) (pool : Pool) (table : ℕ) → first_free_of used pool.in_hand table (ids_from pool.next (pool.high + 1 - pool.next)) ≡ None → first_free_id used pool table ≡ first_free_of used pool.in_hand table (ids_from pool.low (pool.next - pool.low))
free_below used pool table none = find-append_none (λ x. not (is_in_use used pool.in_hand table x)) (ids_from pool.next (pool.high + 1 - pool.next)) (ids_from pool.low (pool.next - pool.low)) none

-- which ids they are
pub ids_in : (from n id : ℕ) → Contains (ids_from from n) id → (from ≤ id) × (id < from + n)
ids_in from zero id held = absurd (none_in_nil id held)
ids_in from (suc n) id held = elim (cases_in from (ids_from (from + 1) n) id held) [
  | inl is ↦ (omega (arith, is), omega (arith, is))
  | inr later ↦ let rest = ids_in (from + 1) n id later in (omega (arith, rest.0), omega (arith, rest.1))
]

pub in_ids : (from n id : ℕ) → from ≤ id → id < from + n → Contains (ids_from from n) id
in_ids from zero id at_least below = absurd (omega (arith, at_least, below))
in_ids from (suc n) id at_least below = elim (cases_eq from id) [
  | inl is ↦ first_in from (ids_from (from + 1) n) id is
  | inr differ ↦ later_in from (ids_from (from + 1) n) id (in_ids (from + 1) n id (omega (arith, at_least, differ)) (omega (arith, below)))
]

-- the ids of a pool are those from its least to its greatest
pub pool_in : (pool : Pool) (id : ℕ) → IsPool pool → Contains (ids_of pool) id → (pool.low ≤ id) × (id ≤ pool.high)
pool_in pool id sound held = elim (Contains-append_cases (ids_from pool.next (pool.high + 1 - pool.next)) (ids_from pool.low (pool.next - pool.low)) id held) [
  | inl upper ↦ let is = ids_in pool.next (pool.high + 1 - pool.next) id upper in (omega (arith, is.0, sound.from_low), omega (arith, is.1, sound.to_high))
  | inr lower ↦ let is = ids_in pool.low (pool.next - pool.low) id lower in (is.0, omega (arith, is.1, sound.from_low, sound.to_high))
]

pub in_pool : (pool : Pool) (id : ℕ) → IsPool pool → pool.low ≤ id → id ≤ pool.high → Contains (ids_of pool) id
in_pool pool id sound at_least at_most = elim (cases_lt id pool.next) [
  | inl below ↦ Contains-append_right (ids_from pool.next (pool.high + 1 - pool.next)) (ids_from pool.low (pool.next - pool.low)) id (in_ids pool.low (pool.next - pool.low) id at_least (omega (arith, below, sound.from_low)))
  | inr from ↦ Contains-append_left (ids_from pool.next (pool.high + 1 - pool.next)) (ids_from pool.low (pool.next - pool.low)) id (in_ids pool.next (pool.high + 1 - pool.next) id from (omega (arith, at_most, sound.to_high)))
]

-- the id that is drawn is one of the pool and was not in use
pub drawn_within : (used : ℕ → Bool) (pool : Pool) (table id : ℕ) → IsPool pool → first_free_id used pool table ≡ Some id → (pool.low ≤ id) × (id ≤ pool.high)
drawn_within used pool table id sound drawn = pool_in pool id sound (found_in (λ x. not (is_in_use used pool.in_hand table x)) (ids_of pool) id drawn).0

pub drawn_free : (used : ℕ → Bool) (pool : Pool) (table id : ℕ) → first_free_id used pool table ≡ Some id → is_in_use used pool.in_hand table id ≡ false
drawn_free used pool table id drawn = not-true (is_in_use used pool.in_hand table id) (found_in (λ x. not (is_in_use used pool.in_hand table x)) (ids_of pool) id drawn).1

-- where none is drawn, each id of the pool is in use
pub none_free : (used : ℕ → Bool) (pool : Pool) (table id : ℕ) → IsPool pool → first_free_id used pool table ≡ None → pool.low ≤ id → id ≤ pool.high → is_in_use used pool.in_hand table id ≡ true
none_free used pool table id sound none at_least at_most = not-false (is_in_use used pool.in_hand table id) (none_passes (λ x. not (is_in_use used pool.in_hand table x)) (ids_of pool) id none (in_pool pool id sound at_least at_most))

-- the counter goes on to an id of the pool
pub after_within : (pool : Pool) (id : ℕ) → IsPool pool → pool.low ≤ id → id ≤ pool.high → (pool.low ≤ id_after pool id) × (id_after pool id ≤ pool.high)
after_within pool id sound at_least at_most = (grind (arith, nat_tests, sound.from_low, sound.to_high), grind (arith, nat_tests, sound.from_low, sound.to_high))

-- a drawn id is in hand beside those that were
pub held_after : (in_hand : List InHand) (new : InHand) (table id : ℕ) → is_held (in_hand ++ new ∷ []) table id ≡ (is_held in_hand table id || ((new.table == table) && (new.id == id)))
held_after [] new table id = grind arith
held_after (held ∷ rest) new table id = grind (arith, held_after rest new table id)

-- and it stays in hand where another session gives up its ids
pub held_released : (in_hand : List InHand) (held : InHand) (session : ℕ) → held.session ≢ session → Contains in_hand held → Contains (released in_hand session) held
held_released in_hand held session other is = held_by_filter (λ (h : InHand). not (h.session == session)) in_hand held is (grind (arith, nat_tests, other))
