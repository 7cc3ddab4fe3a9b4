-- What a session takes at a moment, as the parts have it and as the core has it.
use Rattle.std.proofs.Common.{ap, arith, cond, refl, subst, ◌∙◌}
use Rattle.std.proofs.lemmas.Bool.Decides.{nat_tests}
use Rattle.std.specs.Option.{option_map_or}
use Rattle.std.specs.Prelude.{Bool, List, None, Option, Some, false, is_some, slice_set, true, ℕ, ◌-◌, ◌<◌, ◌==◌, ◌≡◌}
use Rattle.list_facts.proofs.Changed.{set_same}
use Rattle.xact_status.specs.Xacts.{Xacts}
use Rattle.snapshot_registry.proofs.Entries.{held_at_take}
use Rattle.snapshot_registry.specs.Snapshots.{Snaps, after_take, held_at, holders_at, is_registered, least_free, snapshot_now}
use Rattle.snapshot_registry.specs.declared.Held.{Held}
use Rattle.core_state.proofs.Seats.{seat_there}
use Rattle.core_state.specs.Lines.{seated, takes_copy, with_snapshot}
use Rattle.core_state.specs.State.{CoreState, IsSession, seat_of, snapshot_of}
use Rattle.core_state.specs.declared.seat.Seat.{Seat}
use Rattle.core_state.specs.declared.seat.State.{State}
use Rattle.core_parts.specs.Takes.{copied_snaps, copied_state, with_copy}
use Rattle.command_set.specs.declared.Level.TheVariants as levels
use Rattle.core_state.specs.declared.seat.State.TheVariants as states

-- ---- a handle's snapshot

-- a snapshot is registered, and has so few holders
pub record CanShare (snaps : Snaps) (most : ℕ) (id : ℕ) : Type 0 where
  pub registered : is_registered snaps id ≡ true
  pub few : holders_at snaps id < most

taken_here : (snaps : Snaps) (xacts : Xacts) → held_at (after_take snaps xacts) (least_free snaps) ≡ Some (record { snapshot = snapshot_now xacts; holders = 1 })
taken_here snaps xacts =
    let same : (least_free snaps == least_free snaps) ≡ true = grind (arith, nat_tests) in
    held_at_take xacts snaps (least_free snaps) ∙ ap (λ b. cond b (Some (record { snapshot = snapshot_now xacts; holders = 1 })) (held_at snaps (least_free snaps))) same

can_share_taken : (snaps : Snaps) (xacts : Xacts) (most : ℕ) → 1 < most → CanShare (after_take snaps xacts) most (least_free snaps)
can_share_taken snaps xacts most some = record {
  registered = ap is_some (taken_here snaps xacts);
  few = rw (ap (λ (o : Option Held). option_map_or (λ (held : Held). held.holders) o 0) (taken_here snaps xacts)) some;
}

-- once a transaction has its copy, its snapshot can be shared if it could before
pub shares_copied : (state : State) (snaps : Snaps) (xacts : Xacts) (most : ℕ) → 1 < most → ((id : ℕ) → snapshot_of state ≡ Some id → CanShare snaps most id)
    → (id : ℕ) → snapshot_of (copied_state state snaps) ≡ Some id → CanShare (copied_snaps state snaps xacts) most id
shares_copied states.Outside snaps xacts most some can id e = absurd (cc)
shares_copied states.Failed snaps xacts most some can id e = absurd (cc)
shares_copied (states.Open levels.Rc xid snapshot) snaps xacts most some can id e = can id e
shares_copied (states.Open levels.Rr xid None) snaps xacts most some can id e =
    let is : least_free snaps ≡ id = cc in
    subst (CanShare (after_take snaps xacts) most) is (can_share_taken snaps xacts most some)
shares_copied (states.Open levels.Rr xid (Some own)) snaps xacts most some can id e = can id e

-- ---- the copy, as the core has it

pub copy_is : (c : CoreState) (s : ℕ) → IsSession c.seats s
    → ◌≡◌ {A = CoreState} (record c { snaps = copied_snaps (seat_of c s).state c.snaps c.xacts; seats = slice_set c.seats (s - 1) (record (seat_of c s) { state = copied_state (seat_of c s).state c.snaps }) }) (with_copy c s)
copy_is c s there = by (takes_copy (seat_of c s).state)
  where
    by : (b : Bool) → ◌≡◌ {A = CoreState} (record c { snaps = cond b (after_take c.snaps c.xacts) c.snaps; seats = slice_set c.seats (s - 1) (record (seat_of c s) { state = cond b (with_snapshot (seat_of c s).state (least_free c.snaps)) (seat_of c s).state }) })
        (cond b (seated (record c { snaps = after_take c.snaps c.xacts }) s (record (seat_of c s) { state = with_snapshot (seat_of c s).state (least_free c.snaps) })) c)
    by true = refl
    by false = ap (λ (seats : List Seat). record c { seats = seats }) (set_same c.seats (s - 1) (seat_of c s) (seat_there c.seats s there))
