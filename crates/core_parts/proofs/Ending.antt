-- A session's end can be made, also once it has asked for locks.
use Rattle.std.proofs.Common.{ap, arith, cond, refl, subst, sym, ◌∙◌}
use Rattle.std.proofs.lemmas.Bool.Decides.{nat_tests}
use Rattle.std.specs.Prelude.{Bool, List, Option, [], is_some, length, nat_lt, option_to_list, replicate, slice_set, suc, true, ℕ, ◌++◌, ◌-◌, ◌<◌, ◌∷◌, ◌≡◌}
use Rattle.list_facts.proofs.Changed.{set_twice}
use Rattle.lock_table.specs.Held.{nothing, with_lock}
use Rattle.lock_table.specs.Locks.{after_end, granted, held_by}
use Rattle.lock_table.specs.declared.held.SessionLocks.{SessionLocks}
use Rattle.lock_table.specs.declared.lock.Lock.{Lock}
use Rattle.core_state.proofs.Ended.{job_there, uses_most}
use Rattle.core_state.proofs.Seats.{seat_there, sound_of}
use Rattle.core_state.proofs.Uses.{sum_at_least}
use Rattle.core_state.specs.Facts.{IsSound}
use Rattle.core_state.specs.Lines.{after_failing}
use Rattle.core_state.specs.State.{CoreState, IsSession, seat_of, xid_of}
use Rattle.core_state.specs.declared.seat.Seat.{Seat}
use Rattle.core_parts.specs.Ends.{CanEnd}
use Rattle.core_parts.specs.Moments.{HasAsked}

pub can_end : (c : CoreState) (s : ℕ) → IsSession c.seats s → IsSound c → CanEnd c s
can_end c s there sound = record {
  leaves = record {
    session = there;
    uses = record { each = uses_most c s there sound };
    table = job_there c s there sound;
  };
  runs = λ xid e. ap is_some ((sound_of c s there sound).runs xid e);
  room = λ xid e.
      let least = sum_at_least (λ (x : Seat). length (option_to_list (xid_of x.state))) c.seats (s - 1) (seat_of c s) (seat_there c.seats s there) in
      let one : length (option_to_list (xid_of (seat_of c s).state)) ≡ 1 = ap (λ (o : Option ℕ). length (option_to_list o)) e in
      let room = sound.room in
      omega (arith, least, one, room);
}

-- an end depends on no locks
pub end_asked : (c : CoreState) (s : ℕ) (new : CoreState) → HasAsked c s new → CanEnd c s → CanEnd new s
end_asked c s new asked can = subst (λ (v : CoreState). CanEnd v s) (sym asked.is) (record {
  leaves = record { session = can.leaves.session; uses = can.leaves.uses; table = can.leaves.table };
  runs = can.runs;
  room = can.room;
})

-- and gives all of a session's up
pub fails_asked : (c : CoreState) (s : ℕ) (new : CoreState) → HasAsked c s new → after_failing new s ≡ after_failing c s
fails_asked c s new asked = ap (λ (v : CoreState). after_failing v s) asked.is ∙ ap (λ (locks : List SessionLocks). record (after_failing c s) { locks = locks }) asked.locks

-- ---- asking

pub asks_nothing : (c : CoreState) (s : ℕ) → HasAsked c s c
asks_nothing c s = record { is = refl; locks = refl }

end_granted : (locks : List SessionLocks) (s : ℕ) (lock : Lock) → s < length locks → after_end (granted locks s lock) s ≡ after_end locks s
end_granted locks s lock within = by (nat_lt s (length locks)) (grind (arith, nat_tests, within))
  where
    by : (b : Bool) → b ≡ true → after_end (cond b (slice_set locks s (with_lock lock (held_by locks s))) (locks ++ (replicate (s - length locks) nothing ++ with_lock lock (held_by locks s) ∷ []))) s ≡ after_end locks s
    by b e = rw e (set_twice locks s (with_lock lock (held_by locks s)) nothing)

place_within : (c : CoreState) (s : ℕ) → IsSession c.seats s → length c.locks ≡ suc (length c.seats) → s < length c.locks
place_within c s there places =
    let within = there.within in
    omega (arith, within, places)

-- a lock is asked for and granted
pub asks_granted : (c : CoreState) (s : ℕ) (new : CoreState) (lock : Lock) → IsSession c.seats s → length c.locks ≡ suc (length c.seats) → HasAsked c s new → length new.locks ≡ length c.locks
    → HasAsked c s (record new { locks = granted new.locks s lock })
asks_granted c s new lock there places asked long = record {
  is = ap (λ (v : CoreState). record v { locks = granted new.locks s lock }) asked.is;
  locks =
      let within = place_within c s there places in
      end_granted new.locks s lock (omega (arith, within, long)) ∙ asked.locks;
}
