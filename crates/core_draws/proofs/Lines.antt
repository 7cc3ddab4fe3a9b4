-- The ids in use and the draws that are owed after a change of the core's parts: what each line leaves of both.
use Rattle.std.proofs.Common.{ap, arith, cond, inl, inr, refl, subst, sym, ◌∙◌}
use Rattle.std.specs.Prelude.{Bool, List, None, Option, Some, count_by, false, true, ℕ, ◌+◌, ◌-◌, ◌≡◌, ◌≤◌}
use Rattle.xact_status.specs.Xacts.{Xacts}
use Rattle.snapshot_registry.specs.Snapshots.{after_take, least_free}
use Rattle.value_ids.specs.Ids.{Pool, id_count, ids_from, is_held}
use Rattle.change_log.specs.declared.entry.LogEntry.{LogEntry}
use Rattle.toast_store.specs.Stores.{is_used}
use Rattle.table_state.specs.declared.table.Table.{Table}
use Rattle.core_state.proofs.Ended.{job_there, once_unpins}
use Rattle.core_state.proofs.Seats.{seat_there, seat_written, session_written}
use Rattle.core_state.specs.Events.{MomentLine, at_moment}
use Rattle.core_state.specs.Facts.{IsSound}
use Rattle.core_state.specs.Lines.{after_end_of, after_failing, after_use, seated, takes_copy, with_snapshot}
use Rattle.core_state.specs.Moves.{OthersStay}
use Rattle.core_state.specs.State.{CoreState, IsSession, IsTableOf, is_repeatable, job_table, seat_of, table_at}
use Rattle.core_state.specs.declared.seat.Seat.{Seat}
use Rattle.core_state.specs.declared.seat.State.{State}
use Rattle.core_parts.specs.Moments.{idled}
use Rattle.core_parts.specs.Takes.{with_copy}
use Rattle.core_draws.proofs.Counts.{count_most, sum_apart}
use Rattle.core_draws.proofs.Uses.{held_in_use, in_use_cases, released_before, used_in_use}
use Rattle.core_draws.specs.Draws.{draws_of, draws_owed, ids_used, in_use_for}
use Rattle.core_draws.specs.Laws.{DrawsMost, SameRange}
use Rattle.core_state.specs.Events as lines
use Rattle.core_state.specs.declared.seat.Job.TheVariants as jobs

-- ---- ids in use

-- no id comes in use for a table
pub record UsesLeft (c v : CoreState) (t : ℕ) : Type 0 where
  pub store : (id : ℕ) → is_used (table_at v.tables t).toast id ≡ true → is_used (table_at c.tables t).toast id ≡ true
  pub hands : (id : ℕ) → is_held v.ids.in_hand t id ≡ true → is_held c.ids.in_hand t id ≡ true
  pub range : SameRange c.ids v.ids

pub uses_each : (c v : CoreState) (t id : ℕ) → UsesLeft c v t → in_use_for v t id ≡ true → in_use_for c t id ≡ true
uses_each c v t id left e = elim (in_use_cases (is_used (table_at v.tables t).toast id) (is_held v.ids.in_hand t id) e) [
  | inl h ↦ used_in_use (is_used (table_at c.tables t).toast id) (is_held c.ids.in_hand t id) (left.store id h)
  | inr h ↦ held_in_use (is_used (table_at c.tables t).toast id) (is_held c.ids.in_hand t id) (left.hands id h)
]

-- the ids of the range are the same
pub same_ids : (c v : CoreState) → SameRange c.ids v.ids → ids_from v.ids.low (id_count v.ids) ≡ ids_from c.ids.low (id_count c.ids)
same_ids c v range = ap (λ (low : ℕ). ids_from low (v.ids.high - low + 1)) range.low ∙ ap (λ (high : ℕ). ids_from c.ids.low (high - c.ids.low + 1)) range.high

pub used_most : (c v : CoreState) (t : ℕ) → UsesLeft c v t → ids_used v t ≤ ids_used c t
used_most c v t left =
    let most = count_most (in_use_for v t) (in_use_for c t) (ids_from c.ids.low (id_count c.ids)) (λ id there e. uses_each c v t id left e) in
    subst (λ (ids : List ℕ). count_by (in_use_for v t) ids ≤ ids_used c t) (sym (same_ids c v left.range)) most

-- ---- draws that are owed

-- the other sessions owe what they owed
pub owed_apart : (c v : CoreState) (s t : ℕ) → IsSession c.seats s → OthersStay c s v → draws_owed v.seats t + draws_of t (seat_of c s).job ≡ draws_owed c.seats t + draws_of t (seat_of v s).job
owed_apart c v s t there others =
    let within = there.within in
    let count = others.count in
    let here : IsSession v.seats s = record { from_one = there.from_one; within = omega (arith, within, count) } in
    sum_apart (λ (seat : Seat). draws_of t seat.job) c.seats v.seats (s - 1) (seat_of c s) (seat_of v s) others.count (seat_there c.seats s there) (seat_there v.seats s here) others.each

-- so both together are at most what they were and what has begun, where that is so of the session's own
pub most_by : (c v : CoreState) (s t begun : ℕ) → IsSession c.seats s → OthersStay c s v → SameRange c.ids v.ids → ids_used v t + draws_of t (seat_of v s).job ≤ ids_used c t + draws_of t (seat_of c s).job + begun → DrawsMost c v t begun
most_by c v s t begun there others range own = record {
  most =
      let apart = owed_apart c v s t there others in
      omega (arith, apart, own);
  range = range;
}

-- ---- parts that stay

-- the tables and the ids are as they were
pub record PartsStay (c v : CoreState) : Type 0 where
  pub ids : v.ids ≡ c.ids
  pub tables : v.tables ≡ c.tables

pub uses_stay : (c v : CoreState) (t : ℕ) → PartsStay c v → UsesLeft c v t
uses_stay c v t stay = record {
  store = λ id e. subst (λ (tables : List Table). is_used (table_at tables t).toast id ≡ true) stay.tables e;
  hands = λ id e. subst (λ (ids : Pool). is_held ids.in_hand t id ≡ true) stay.ids e;
  range = record { low = ap (λ (ids : Pool). ids.low) stay.ids; high = ap (λ (ids : Pool). ids.high) stay.ids };
}

copied : (b : Bool) (c v w : CoreState) → PartsStay c v → PartsStay c w → PartsStay c (cond b v w)
copied true c v w first second = first
copied false c v w first second = second

same_parts : (c : CoreState) → PartsStay c c
same_parts c = record { ids = refl; tables = refl }

pub use_stays : (c : CoreState) (s t : ℕ) → PartsStay c (after_use c s t)
use_stays c s t = copied (takes_copy (seat_of c s).state) c _ _ (record { ids = refl; tables = refl }) (record { ids = refl; tables = refl })

pub copy_stays : (c : CoreState) (s : ℕ) → PartsStay c (with_copy c s)
copy_stays c s = copied (takes_copy (seat_of c s).state) c _ _ (record { ids = refl; tables = refl }) (record { ids = refl; tables = refl })

-- what follows the use of a table and leaves the parts leaves them
through : (c v w : CoreState) → PartsStay c v → PartsStay v w → PartsStay c w
through c v w first second = record { ids = second.ids ∙ first.ids; tables = second.tables ∙ first.tables }

-- ---- ends

-- an end gives up what is in hand for the session, and its pin
pub uses_ended : (v : CoreState) (s t : ℕ) (xacts : Xacts) (end : Option LogEntry) (state : State) → ((n : ℕ) → job_table (seat_of v s).job ≡ Some n → IsTableOf v.tables n) → UsesLeft v (after_end_of v s xacts end state) t
uses_ended v s t xacts end state there = record {
  store = λ id e. elim ((once_unpins v.tables s (job_table (seat_of v s).job) there).each t) [
    | inl same ↦ subst (λ (table : Table). is_used table.toast id ≡ true) same e
    | inr unpinned ↦ subst (λ (table : Table). is_used table.toast id ≡ true) unpinned e
  ];
  hands = λ id e. released_before v.ids.in_hand s t id e;
  range = record { low = refl; high = refl };
}

pub uses_then : (c v w : CoreState) (t : ℕ) → UsesLeft c v t → UsesLeft v w t → UsesLeft c w t
uses_then c v w t first second = record {
  store = λ id e. first.store id (second.store id e);
  hands = λ id e. first.hands id (second.hands id e);
  range = record { low = second.range.low ∙ first.range.low; high = second.range.high ∙ first.range.high };
}

-- ---- moments

pub uses_at_moment : (c : CoreState) (s t : ℕ) (line : MomentLine) → IsSession c.seats s → IsSound c → UsesLeft c (at_moment line c s) t
uses_at_moment c s t (lines.Over state) there sound = uses_stay c (at_moment (lines.Over state) c s) t (record { ids = refl; tables = refl })
uses_at_moment c s t (lines.Looked n) there sound =
    let u = after_use c s n in
    uses_stay c (at_moment (lines.Looked n) c s) t (through c u (at_moment (lines.Looked n) c s) (use_stays c s n) (record { ids = refl; tables = refl }))
uses_at_moment c s t lines.Committed there sound = uses_ended c s t _ _ _ (job_there c s there sound)
uses_at_moment c s t (lines.GivenUp state) there sound = uses_ended c s t _ _ _ (job_there c s there sound)
uses_at_moment c s t (lines.ReadBegun n read) there sound =
    let u = after_use c s n in
    uses_stay c (at_moment (lines.ReadBegun n read) c s) t (through c u (at_moment (lines.ReadBegun n read) c s) (use_stays c s n)
    (copied (is_repeatable (seat_of u s).state) u _ _ (record { ids = refl; tables = refl }) (record { ids = refl; tables = refl })))
uses_at_moment c s t (lines.FetchBegun n read) there sound = uses_stay c (at_moment (lines.FetchBegun n read) c s) t (record { ids = refl; tables = refl })
uses_at_moment c s t (lines.WriteBegun n keys write) there sound =
    let u = after_use c s n in
    uses_stay c (at_moment (lines.WriteBegun n keys write) c s) t (through c u (at_moment (lines.WriteBegun n keys write) c s) (use_stays c s n) (record { ids = refl; tables = refl }))
uses_at_moment c s t (lines.Opened n name held) there sound =
    let u = after_use c s n in
    uses_stay c (at_moment (lines.Opened n name held) c s) t (through c u (at_moment (lines.Opened n name held) c s) (use_stays c s n) (record { ids = refl; tables = refl }))
uses_at_moment c s t (lines.Closed handle) there sound = uses_stay c (at_moment (lines.Closed handle) c s) t (record { ids = refl; tables = refl })

-- ---- want of memory

pub uses_failed : (c : CoreState) (s t : ℕ) → IsSession c.seats s → IsSound c → UsesLeft c (after_failing c s) t
uses_failed c s t there sound = uses_ended c s t _ _ _ (job_there c s there sound)

-- the seat after it
failed_idle : (v : CoreState) (s t : ℕ) → IsSession v.seats s → draws_of t (seat_of (after_failing v s) s).job ≡ 0
failed_idle v s t there = ap (λ (seat : Seat). draws_of t seat.job) (seat_written v.seats s _ there)

-- a command that is over, whose transaction may have taken its copy, has no job
idle_after : (c : CoreState) (s : ℕ) → IsSession c.seats s → ((seat_of (with_copy (idled c s) s) s).job ≡ jobs.Idle) × IsSession (with_copy (idled c s) s).seats s
idle_after c s there = by (takes_copy (seat_of v s).state)
  where
    v : CoreState
    v = idled c s

    at : IsSession v.seats s
    at = session_written c.seats s s _ there

    here : seat_of v s ≡ record (seat_of c s) { state = (seat_of c s).state; job = jobs.Idle }
    here = seat_written c.seats s _ there

    by : (b : Bool) → let w = cond b (seated (record v { snaps = after_take v.snaps v.xacts }) s (record (seat_of v s) { state = with_snapshot (seat_of v s).state (least_free v.snaps) })) v in ((seat_of w s).job ≡ jobs.Idle) × IsSession w.seats s
    by true = (ap (λ (seat : Seat). seat.job) (seat_written v.seats s _ at) ∙ ap (λ (seat : Seat). seat.job) here, session_written v.seats s s _ at)
    by false = (ap (λ (seat : Seat). seat.job) here, at)

pub failed_most : (c new : CoreState) (s t : ℕ) → IsSession c.seats s → IsSound c → OthersStay c s new → new ≡ after_failing c s → DrawsMost c new t 0
failed_most c new s t there sound others is =
    subst (λ (v : CoreState). OthersStay c s v → DrawsMost c v t 0) (sym is) (λ stay.
    let left = uses_failed c s t there sound in
    let used = used_most c (after_failing c s) t left in
    let idle = failed_idle c s t there in
    most_by c (after_failing c s) s t 0 there stay left.range (omega (arith, used, idle))) others

pub copied_most : (c new : CoreState) (s t : ℕ) → IsSession c.seats s → OthersStay c s new → new ≡ after_failing (with_copy (idled c s) s) s → DrawsMost c new t 0
copied_most c new s t there others is =
    let v = with_copy (idled c s) s in
    let idle = idle_after c s there in
    let first = uses_stay c v t (through c (idled c s) v (record { ids = refl; tables = refl }) (copy_stays (idled c s) s)) in
    let second = uses_ended v s t _ _ _ (λ n e. absurd (none n (sym (ap job_table idle.0) ∙ e))) in
    subst (λ (w : CoreState). OthersStay c s w → DrawsMost c w t 0) (sym is) (λ stay.
    let left = uses_then c v (after_failing v s) t first second in
    let used = used_most c (after_failing v s) t left in
    let owes = failed_idle v s t idle.1 in
    most_by c (after_failing v s) s t 0 there stay left.range (omega (arith, used, owes))) others
  where
    none : (n : ℕ) → None ≡ Some n → ⊥
    none n e = cc
