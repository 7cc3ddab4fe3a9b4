-- What is told of a core's rows, after a line that changes neither rows nor statuses, and after an end without a commit.
use Rattle.std.proofs.Common.{ap, arith, inl, inr, refl, subst, sym, ◌∙◌}
use Rattle.std.proofs.lemmas.Bool.{cases_eq}
use Rattle.std.specs.Prelude.{Bool, List, None, Option, Some, [], false, is_some, option_map, slice_get, suc, true, ℕ, ◌-◌, ◌≡◌, ◌≢◌}
use Rattle.tuple_layout.specs.declared.Place.{Place}
use Rattle.tuple_layout.specs.declared.cell.Stored.{Stored}
use Rattle.xact_status.specs.Versions.{counts_for}
use Rattle.xact_status.specs.Xacts.{Xacts, is_committed, is_running}
use Rattle.row_versions.specs.Relations.{Relation}
use Rattle.change_log.specs.declared.entry.LogEntry.{LogEntry}
use Rattle.command_set.specs.Changes.{place}
use Rattle.table_rows.proofs.Records.{moments_tell}
use Rattle.table_rows.specs.Worlds.{tuple_in}
use Rattle.table_state.specs.Cells.{cells_in}
use Rattle.table_state.specs.declared.table.Table.{Table}
use Rattle.core_state.proofs.Ended.{job_there, once_unpins}
use Rattle.core_state.proofs.Pins.{rows_unpinned}
use Rattle.core_state.proofs.Seats.{number_at, seat_there, seat_written, sound_of}
use Rattle.core_state.specs.Coming.{new_left}
use Rattle.core_state.specs.Facts.{IsSound}
use Rattle.core_state.specs.Lines.{after_end_of, after_giving_up, once_aborted, once_unpinned}
use Rattle.core_state.specs.Moves.{OthersStay}
use Rattle.core_state.specs.State.{CoreState, IsSession, is_open, job_table, seat_of, table_at, xid_of}
use Rattle.core_state.specs.declared.seat.Job.{Job}
use Rattle.core_state.specs.declared.seat.Seat.{Seat}
use Rattle.core_state.specs.declared.seat.State.{State}
use Rattle.change_stream.specs.Streams.{outs_with}
use Rattle.change_stream.specs.declared.written.Written.{Written}
use Rattle.core_outs.specs.Outs.{AreOut, AreOutIn, OutsStand, PutsOut, SeatOuts, is_put_at, put_place}
use Rattle.change_log.specs.declared.entry.LogEntry.TheVariants as entries
use Rattle.core_state.specs.declared.seat.Job.TheVariants as jobs

-- ---- one world after another

-- a world has in these tables what another has in those, as its rows are the same
pub record FromWorld (tables later : List Table) (counts after : ℕ → Bool) : Type 0 where
  pub rows : (t : ℕ) → (table_at later t).rows ≡ (table_at tables t).rows
  pub world : (p : Place) → tuple_in after (table_at tables p.table).rows.pages p.key ≡ tuple_in counts (table_at tables p.table).rows.pages p.key

-- what is told of it, where no place is looked at that was passed over
pub out_then : (tables later : List Table) (counts after : ℕ → Bool) (outs told : Place → List ℕ) (skip passed : Place → Bool) → FromWorld tables later counts after → ((p : Place) → passed p ≡ false → (skip p ≡ false) × (told p ≡ outs p))
    → AreOutIn tables counts outs skip → AreOutIn later after told passed
out_then tables later counts after outs told skip passed from at old = record {
  each = λ p bytes e there.
      let its = at p e in
      let here : tuple_in after (table_at tables p.table).rows.pages p.key ≡ Some bytes = subst (λ (rows : Relation). tuple_in after rows.pages p.key ≡ Some bytes) (from.rows p.table) there in
      let out = old.each p bytes its.0 (sym (from.world p) ∙ here) in
      subst (λ (columns : List ℕ). AreOut columns (cells_in (table_at later p.table).rows.schema.storages bytes)) (sym its.1)
      (subst (λ (rows : Relation). AreOut (outs p) (cells_in rows.schema.storages bytes)) (sym (from.rows p.table)) out);
}

-- a job that is to put no row puts none out
pub none_out : (outs : Place → List ℕ) (job : Job) → put_place job ≡ None → PutsOut outs job
none_out outs jobs.Idle e = tt
none_out outs (jobs.Submitted command) e = tt
none_out outs (jobs.Reading t snapshot read) e = tt
none_out outs (jobs.Writing t write) e = λ new f. absurd (by t (new_left write.stage) e new f)
  where
    by : (n : ℕ) (o : Option Stored) → option_map (λ (new : Stored). place n new.key) o ≡ None → (new : Stored) → o ≡ Some new → ⊥
    by n None g new f = cc
    by n (Some stored) g new f = cc

-- ---- a core

-- the other sessions have what they had; the session that acts has this
pub outs_seated : (c v : CoreState) (s : ℕ) (outs : Place → List ℕ) (written later : ℕ → List Written) → IsSession c.seats s → OthersStay c s v → ((t : ℕ) → (table_at v.tables t).rows ≡ (table_at c.tables t).rows)
    → ((own : Option ℕ) (p : Place) → tuple_in (counts_for v.xacts own) (table_at c.tables p.table).rows.pages p.key ≡ tuple_in (counts_for c.xacts own) (table_at c.tables p.table).rows.pages p.key)
    → ((k : ℕ) → k ≢ s → later k ≡ written k) → SeatOuts v.xacts v.tables (outs_with outs (later s)) (seat_of v s) → OutsStand c outs written → OutsStand v outs later
outs_seated c v s outs written later there others rows worlds same own old = record {
  latest = out_then c.tables v.tables (is_committed c.xacts) (is_committed v.xacts) outs outs (λ p. false) (λ p. false) (record { rows = rows; world = worlds None }) (λ p e. (refl, refl)) old.latest;
  each = λ i seat at. elim (cases_eq i (s - 1)) [
    | inl is ↦
        let number : s ≡ suc i = sym (ap suc is ∙ number_at s there.from_one) in
        let count = others.count in
        let within = there.within in
        let here : IsSession v.seats s = record { from_one = there.from_one; within = omega (arith, count, within) } in
        let it : seat_of v s ≡ seat = seat_is (seat_of v s) seat (sym (seat_there v.seats s here) ∙ ap (slice_get v.seats) (sym is) ∙ at) in
        subst (λ (one : Seat). SeatOuts v.xacts v.tables (outs_with outs (later (suc i))) one) it (subst (λ (n : ℕ). SeatOuts v.xacts v.tables (outs_with outs (later n)) (seat_of v s)) number own)
    | inr differ ↦
        let number : suc i ≢ s = λ e. differ (omega (arith, e)) in
        let was = old.each i seat (sym (others.each i differ) ∙ at) in
        subst (λ (ws : List Written). SeatOuts v.xacts v.tables (outs_with outs ws) seat) (sym (same (suc i) number)) (record {
          now = λ opened. out_then c.tables v.tables (counts_for c.xacts (xid_of seat.state)) (counts_for v.xacts (xid_of seat.state)) (outs_with outs (written (suc i))) (outs_with outs (written (suc i))) (is_put_at seat.job) (is_put_at seat.job)
              (record { rows = rows; world = worlds (xid_of seat.state) }) (λ p e. (e, refl)) (was.now opened);
          coming = was.coming;
        })
  ];
}
  where
    seat_is : (a b : Seat) → Some a ≡ Some b → a ≡ b
    seat_is a b e = cc

-- a session that has nothing under way and no open transaction
pub closed_out : (xacts : Xacts) (tables : List Table) (outs : Place → List ℕ) (seat : Seat) → is_open seat.state ≡ false → put_place seat.job ≡ None → SeatOuts xacts tables outs seat
closed_out xacts tables outs seat closed none = record { now = λ opened. absurd (let clash = sym closed ∙ opened in cc); coming = none_out outs seat.job none }

-- ---- an end without a commit

-- an abort leaves the latest rows, and those of each session
pub aborted_world : (xacts : Xacts) (o own : Option ℕ) (p : Place) (tables : List Table) → ((x : ℕ) → o ≡ Some x → is_running xacts x ≡ true) → tuple_in (counts_for (once_aborted xacts o) own) (table_at tables p.table).rows.pages p.key ≡ tuple_in (counts_for xacts own) (table_at tables p.table).rows.pages p.key
aborted_world xacts None own p tables runs = refl
aborted_world xacts (Some x) None p tables runs = moments_tell.latest_at_abort xacts x (table_at tables p.table).rows.pages p.key (runs x refl)
aborted_world xacts (Some x) (Some y) p tables runs = moments_tell.own_at_abort xacts x y (table_at tables p.table).rows.pages p.key (runs x refl)

pub outs_ended : (c : CoreState) (s : ℕ) (xacts : Xacts) (end : Option LogEntry) (state : State) (outs : Place → List ℕ) (written later : ℕ → List Written) → IsSession c.seats s → IsSound c → OthersStay c s (after_end_of c s xacts end state) → is_open state ≡ false
    → ((own : Option ℕ) (p : Place) → tuple_in (counts_for xacts own) (table_at c.tables p.table).rows.pages p.key ≡ tuple_in (counts_for c.xacts own) (table_at c.tables p.table).rows.pages p.key)
    → ((k : ℕ) → k ≢ s → later k ≡ written k) → OutsStand c outs written → OutsStand (after_end_of c s xacts end state) outs later
outs_ended c s xacts end state outs written later there sound others closed worlds same old =
    let v = after_end_of c s xacts end state in
    let seat : seat_of v s ≡ record { state = state; handles = []; job = jobs.Idle } = seat_written c.seats s (record { state = state; handles = []; job = jobs.Idle }) there in
    outs_seated c v s outs written later there others
    (λ t. rows_unpinned c.tables (once_unpinned c.tables s (job_table (seat_of c s).job)) s t (once_unpins c.tables s (job_table (seat_of c s).job) (job_there c s there sound)))
    worlds same
    (subst (λ (its : Seat). SeatOuts v.xacts v.tables (outs_with outs (later s)) its) (sym seat) (closed_out v.xacts v.tables (outs_with outs (later s)) (record { state = state; handles = []; job = jobs.Idle }) closed refl))
    old

pub outs_given_up : (c : CoreState) (s : ℕ) (state : State) (outs : Place → List ℕ) (written later : ℕ → List Written) → IsSession c.seats s → IsSound c → OthersStay c s (after_giving_up c s state) → is_open state ≡ false
    → ((k : ℕ) → k ≢ s → later k ≡ written k) → OutsStand c outs written → OutsStand (after_giving_up c s state) outs later
outs_given_up c s state outs written later there sound others closed same old =
    outs_ended c s (once_aborted c.xacts (xid_of (seat_of c s).state)) (option_map (λ xid. entries.Abort xid) (xid_of (seat_of c s).state)) state outs written later there sound others closed
    (λ own p. aborted_world c.xacts (xid_of (seat_of c s).state) own p c.tables (λ x e. ap is_some ((sound_of c s there sound).runs x e))) same old
