-- The later steps of commands, and commands that end early: what the stream tells of a core's rows goes on to be so.
use Rattle.std.proofs.Common.{ap, arith, cond, refl, subst, sym, ◌∙◌}
use Rattle.std.proofs.lemmas.Bool.Decides.{nat_tests}
use Rattle.std.specs.Option.{option_map_or}
use Rattle.std.specs.Prelude.{Bool, List, None, Option, Some, [], false, if◌then◌else◌, is_some, length, option_map, slice_get, slice_index_or, slice_set, suc, true, zero, ℕ, ◌+◌, ◌-◌, ◌<◌, ◌==◌, ◌≡◌, ◌≢◌}
use Rattle.external_pointer.specs.declared.external.Pointer.{Pointer}
use Rattle.tuple_layout.specs.Places.{same_place}
use Rattle.tuple_layout.specs.declared.Place.{Place}
use Rattle.tuple_layout.specs.declared.cell.Cell.TheVariants.{Out}
use Rattle.tuple_layout.specs.declared.cell.Stored.{Stored}
use Rattle.xact_status.specs.Versions.{counts_for}
use Rattle.xact_status.specs.Xacts.{Xacts}
use Rattle.snapshot_registry.specs.Snapshots.{after_take, least_free}
use Rattle.toast_store.specs.Marks.{Marking}
use Rattle.toast_store.specs.PieceJobs.{is_laid, pieces_after, pointer_to}
use Rattle.toast_store.specs.Saves.{Drawing, Laying, Saving, Stage, pieces_of, toast_rel_of}
use Rattle.toast_store.specs.Stores.{Store}
use Rattle.toast_store.specs.Walks.{Walking, is_over}
use Rattle.toast_store.specs.declared.save.SaveStep.TheVariants as told
use Rattle.command_set.specs.Changes.{place}
use Rattle.command_set.specs.declared.Command.{Command}
use Rattle.table_rows.specs.Worlds.{tuple_in}
use Rattle.table_state.specs.declared.table.Table.{Table}
use Rattle.read_steps.specs.Reads.{Reading}
use Rattle.read_steps.specs.declared.stage.ReadStep.{ReadStep}
use Rattle.write_steps.specs.Writes.{IsToastAt, Parts, Writing, answer_at, column_at, mark_after, marked_on, marking_from, saved_on, saving_from, stage_after, to_mark, to_save, with_cell, write_after}
use Rattle.write_steps.specs.declared.stage.OldRow.{OldRow}
use Rattle.write_steps.specs.declared.stage.Owner.{Owner}
use Rattle.write_steps.specs.declared.stage.WriteStage.{WriteStage}
use Rattle.write_steps.specs.declared.stage.WriteStep.{WriteStep}
use Rattle.core_state.proofs.Ended.{job_there}
use Rattle.core_state.proofs.Lists.{read_other, read_written}
use Rattle.core_state.proofs.Seats.{seat_written, session_written, sound_of}
use Rattle.core_state.specs.Coming.{new_left}
use Rattle.core_state.specs.Events.{IsWriteOn, read_on_by, read_told, write_on_by, write_told}
use Rattle.core_state.specs.Facts.{IsSound, PartsAreSound}
use Rattle.core_state.specs.Lines.{after_failing, after_read_last, after_read_step, after_submit, after_write_last, after_write_step, failed_state, once_aborted, once_unpinned, parts_at, seated, takes_copy, with_snapshot, with_table}
use Rattle.core_state.specs.Moves.{OthersStay}
use Rattle.core_state.specs.State.{CoreState, IsSession, IsTableOf, job_table, no_table, seat_of, table_at, xid_of}
use Rattle.core_state.specs.declared.advance.Advance.{Advance}
use Rattle.core_state.specs.declared.seat.Job.{Job}
use Rattle.core_state.specs.declared.seat.Seat.{Seat}
use Rattle.core_state.specs.declared.seat.State.{State}
use Rattle.core_parts.specs.Moments.{idled}
use Rattle.core_parts.specs.Takes.{with_copy}
use Rattle.core_versions.proofs.Keeps.{IsWriting, is_writing}
use Rattle.change_stream.specs.Streams.{outs_with}
use Rattle.change_stream.specs.declared.written.Written.{Written}
use Rattle.core_outs.proofs.Frames.{aborted_world, closed_out, none_out, out_then, outs_given_up, outs_seated}
use Rattle.core_outs.proofs.Quiet.{failed_closed, told_own}
use Rattle.core_outs.proofs.Saves.{saves_out}
use Rattle.core_outs.proofs.Versions.{IsOwn, outs_moved, outs_put, outs_removed, own_outs}
use Rattle.core_outs.specs.Outs.{AreOutIn, OutsStand, SeatOuts, is_put_at, put_place}
use Rattle.core_state.specs.declared.seat.Job.TheVariants as jobs
use Rattle.core_state.specs.declared.seat.State.TheVariants as states
use Rattle.read_steps.specs.declared.stage.ReadStep.TheVariants as reads
use Rattle.toast_store.specs.Saves as saves
use Rattle.write_steps.specs.declared.stage.WriteStage.TheVariants as stages
use Rattle.write_steps.specs.declared.stage.WriteStep.TheVariants as writes

-- ---- a table with the rows that it had

pub rows_with : (tables : List Table) (t n : ℕ) (table : Table) → IsTableOf tables t → table.rows ≡ (table_at tables t).rows → (table_at (with_table tables t table) n).rows ≡ (table_at tables n).rows
rows_with tables zero n table there same =
    let low = there.from_one in
    absurd (omega (arith, low))
rows_with tables (suc i) zero table there same = refl
rows_with tables (suc i) (suc k) table there same =
    let place : suc i - 1 ≡ i = omega arith in
    let inside = there.within in
    let low : i < length tables = omega (arith, inside) in
    rw place (by low (k == i) refl)
  where
    by : i < length tables → (b : Bool) → (k == i) ≡ b → (slice_index_or (slice_set tables i table) k no_table).rows ≡ (slice_index_or tables k no_table).rows
    by low true e =
        let is : k ≡ i = grind (arith, nat_tests, e) in
        rw is (ap (λ (its : Table). its.rows) (read_written tables i table no_table low) ∙ same)
    by low false e =
        let differ : k ≢ i = grind (arith, nat_tests, e) in
        ap (λ (its : Table). its.rows) (read_other tables i k table no_table differ)

-- ---- a step that leaves rows and statuses

-- the session's job is another, and puts no row
pub outs_rested : (c v : CoreState) (s : ℕ) (job : Job) (outs : Place → List ℕ) (written : ℕ → List Written) → IsSession c.seats s → OthersStay c s v → ((t : ℕ) → (table_at v.tables t).rows ≡ (table_at c.tables t).rows) → v.xacts ≡ c.xacts
    → seat_of v s ≡ record (seat_of c s) { job = job } → put_place (seat_of c s).job ≡ None → put_place job ≡ None → OutsStand c outs written → OutsStand v outs written
outs_rested c v s job outs written there others rows xacts seat none after old =
    outs_seated c v s outs written written there others rows (λ own p. ap (λ (its : Xacts). tuple_in (counts_for its own) (table_at c.tables p.table).rows.pages p.key) xacts) (λ k e. refl)
    (subst (λ (one : Seat). SeatOuts v.xacts v.tables (outs_with outs (written s)) one) (sym seat) (record {
      now = λ opened. out_then c.tables v.tables (counts_for c.xacts (xid_of (seat_of c s).state)) (counts_for v.xacts (xid_of (seat_of c s).state)) (outs_with outs (written s)) (outs_with outs (written s)) (λ p. false) (is_put_at job)
          (record { rows = rows; world = λ p. ap (λ (its : Xacts). tuple_in (counts_for its (xid_of (seat_of c s).state)) (table_at c.tables p.table).rows.pages p.key) xacts }) (λ p e. (refl, refl)) (told_own c s outs written there opened none old);
      coming = none_out (outs_with outs (written s)) job after;
    }))
    old

pub outs_submitted : (c : CoreState) (s : ℕ) (command : Command) (outs : Place → List ℕ) (written : ℕ → List Written) → IsSession c.seats s → OthersStay c s (after_submit c s command) → (seat_of c s).job ≡ jobs.Idle → OutsStand c outs written → OutsStand (after_submit c s command) outs written
outs_submitted c s command outs written there others idle old =
    outs_rested c (after_submit c s command) s (jobs.Submitted command) outs written there others (λ t. refl) refl (seat_written c.seats s (record (seat_of c s) { job = jobs.Submitted command }) there) (ap put_place idle) refl old

-- a step of a read
pub outs_read : (c new : CoreState) (s t : ℕ) (snapshot : Option ℕ) (read : Reading) (outs : Place → List ℕ) (written : ℕ → List Written) → IsSession c.seats s → IsSound c → OthersStay c s new → (seat_of c s).job ≡ jobs.Reading t snapshot read
    → new ≡ read_on_by c s t snapshot read (read_told c t read) → OutsStand c outs written → OutsStand new outs written
outs_read c new s t snapshot read outs written there sound others job is old = subst (λ (v : CoreState). OthersStay c s v → OutsStand v outs written) (sym is) (by (read_told c t read)) others
  where
    table : IsTableOf c.tables t
    table = job_there c s there sound t (ap job_table job)

    by : (step : ReadStep) → OthersStay c s (read_on_by c s t snapshot read step) → OutsStand (read_on_by c s t snapshot read step) outs written
    by reads.More stay =
        let v = after_read_step c s t snapshot read in
        outs_rested c v s _ outs written there stay (λ n. rows_with c.tables t n _ table refl) refl (seat_written c.seats s _ there) (ap put_place job) refl old
    by (reads.Done reply) stay =
        let v = after_read_last c s t snapshot read in
        outs_rested c v s jobs.Idle outs written there stay (λ n. rows_with c.tables t n _ table refl) refl (seat_written c.seats s _ there) (ap put_place job) refl old

-- ---- a step of a save

-- the write goes on, and puts its row where it was to
record SavingNext (t : ℕ) (new : Stored) (stage : WriteStage) : Type 0 where
  goes : answer_at stage ≡ writes.More
  puts : option_map (λ (row : Stored). place t row.key) (new_left stage) ≡ Some (place t new.key)

from_next : (t : ℕ) (owner : Owner) (old : Option OldRow) (new : Stored) (plan : List ℕ) (at : ℕ) → SavingNext t new (saving_from owner old new plan at)
from_next t owner old new plan at = by (slice_get plan at)
  where
    by : (o : Option ℕ) → SavingNext t new (to_save owner old new plan at o)
    by None = record { goes = refl; puts = refl }
    by (Some column) = record { goes = refl; puts = refl }

saving_next : (t : ℕ) (parts : Parts) (owner : Owner) (old : Option OldRow) (new : Stored) (plan : List ℕ) (at : ℕ) (save : Saving) → SavingNext t new (stage_after parts owner (stages.Saving old new plan at save))
saving_next t parts owner old new plan at save = by save.stage
  where
    step : (later : Saving) (pointer : Pointer) (b : Bool) → SavingNext t new (saved_on owner old new plan at later (if b then told.Done pointer else told.More))
    step later pointer true =
        let next = from_next t owner old (with_cell new (column_at plan at) (Out pointer)) plan (at + 1) in
        record { goes = next.goes; puts = next.puts }
    step later pointer false = record { goes = refl; puts = refl }

    by : (stage : Stage) → SavingNext t new (saved_on owner old new plan at (record save { stage = saves.stage_after parts.toast parts.ids save stage }) (saves.answer_at save (saves.stage_after parts.toast parts.ids save stage)))
    by Drawing = record { goes = refl; puts = refl }
    by (Laying value_id pieces_at) =
        let later = pieces_after parts.toast.rel save.value pieces_at in
        step (record save { stage = Laying value_id later }) (pointer_to (pieces_of save value_id later) (toast_rel_of save.table)) (is_laid later)

outs_saving : (c : CoreState) (s t : ℕ) (owner : Owner) (old : Option OldRow) (new : Stored) (plan : List ℕ) (at : ℕ) (save : Saving) (toast : Store) (outs : Place → List ℕ) (written : ℕ → List Written) → IsWriting c s t owner (stages.Saving old new plan at save)
    → OthersStay c s (write_on_by c s t (record { owner = owner; stage = stages.Saving old new plan at save }) toast (write_told c t (record { owner = owner; stage = stages.Saving old new plan at save }))) → OutsStand c outs written
    → OutsStand (write_on_by c s t (record { owner = owner; stage = stages.Saving old new plan at save }) toast (write_told c t (record { owner = owner; stage = stages.Saving old new plan at save }))) outs written
outs_saving c s t owner old new plan at save toast outs written writing others told_so =
    subst (λ (step : WriteStep). OthersStay c s (write_on_by c s t write toast step) → OutsStand (write_on_by c s t write toast step) outs written) (sym next.goes) (λ stay.
    outs_seated c v s outs written written writing.session stay (λ n. rows_with c.tables t n _ writing.works.of_table refl) (λ own p. refl) (λ k e. refl)
    (subst (λ (one : Seat). SeatOuts v.xacts v.tables (outs_with outs (written s)) one) (sym (seat_written c.seats s (record (seat_of c s) { job = job }) writing.session)) (record {
      now = λ opened. subst (λ (o : Option ℕ). AreOutIn v.tables (counts_for c.xacts o) (outs_with outs (written s)) (is_put_at job)) (sym writing.write.own.xid)
          (out_then c.tables v.tables (counts_for c.xacts (Some owner.xid)) (counts_for c.xacts (Some owner.xid)) (outs_with outs (written s)) (outs_with outs (written s)) (is_put_at (jobs.Writing t write)) (is_put_at job)
          (record { rows = λ n. rows_with c.tables t n _ writing.works.of_table refl; world = λ p. refl })
          (λ p e. (sym (ap (λ (o : Option Place). option_map_or (λ q. same_place q p) o false) next.puts) ∙ e, refl)) (own.now opened));
      coming = saves_out (λ key. outs_with outs (written s) (place t key)) (parts_at c t) owner old new plan at save writing.write.own.stage own.coming;
    }))
    told_so)
    others
  where
    write : Writing
    write = record { owner = owner; stage = stages.Saving old new plan at save }

    v : CoreState
    v = after_write_step c s t write toast

    job : Job
    job = jobs.Writing t (write_after (parts_at c t) write)

    next : SavingNext t new (stage_after (parts_at c t) owner (stages.Saving old new plan at save))
    next = saving_next t (parts_at c t) owner old new plan at save

    own : IsOwn c s t owner (stages.Saving old new plan at save) (outs_with outs (written s))
    own = own_outs c s t owner (stages.Saving old new plan at save) outs written writing told_so

-- ---- a step of a mark

none_marking : (t : ℕ) (owner : Owner) (dropped : List Pointer) (at : ℕ) → put_place (jobs.Writing t (record { owner = owner; stage = marking_from owner dropped at })) ≡ None
none_marking t owner dropped at = by (slice_get dropped at)
  where
    by : (o : Option Pointer) → put_place (jobs.Writing t (record { owner = owner; stage = to_mark owner dropped at o })) ≡ None
    by None = refl
    by (Some pointer) = refl

none_marked : (t : ℕ) (owner : Owner) (dropped : List Pointer) (at : ℕ) (mark : Marking) → put_place (jobs.Writing t (record { owner = owner; stage = marked_on owner dropped at mark })) ≡ None
none_marked t owner dropped at mark = by (is_over (Walking.stage (Marking.walk mark)))
  where
    by : (b : Bool) → put_place (jobs.Writing t (record { owner = owner; stage = if b then marking_from owner dropped (at + 1) else stages.Marking dropped at mark })) ≡ None
    by true = none_marking t owner dropped (at + 1)
    by false = refl

outs_marking : (c : CoreState) (s t : ℕ) (owner : Owner) (dropped : List Pointer) (at : ℕ) (mark : Marking) (toast : Store) (outs : Place → List ℕ) (written : ℕ → List Written) → IsWriting c s t owner (stages.Marking dropped at mark)
    → (step : WriteStep) → OthersStay c s (write_on_by c s t (record { owner = owner; stage = stages.Marking dropped at mark }) toast step) → OutsStand c outs written
    → OutsStand (write_on_by c s t (record { owner = owner; stage = stages.Marking dropped at mark }) toast step) outs written
outs_marking c s t owner dropped at mark toast outs written writing writes.More others told_so =
    outs_rested c (after_write_step c s t (record { owner = owner; stage = stages.Marking dropped at mark }) toast) s (jobs.Writing t (write_after (parts_at c t) (record { owner = owner; stage = stages.Marking dropped at mark }))) outs written writing.session others
    (λ n. rows_with c.tables t n _ writing.works.of_table refl) refl (seat_written c.seats s _ writing.session) (ap put_place writing.job) (none_marked t owner dropped at (mark_after (parts_at c t) mark)) told_so
outs_marking c s t owner dropped at mark toast outs written writing writes.Done others told_so =
    outs_rested c (after_write_last c s t (record { owner = owner; stage = stages.Marking dropped at mark }) toast) s jobs.Idle outs written writing.session others
    (λ n. rows_with c.tables t n _ writing.works.of_table refl) refl (seat_written c.seats s _ writing.session) (ap put_place writing.job) refl told_so

-- ---- a step of a write

pub outs_written : (c new : CoreState) (s t : ℕ) (write : Writing) (advance : Advance) (outs : Place → List ℕ) (written : ℕ → List Written) → IsSession c.seats s → IsSound c → PartsAreSound c → OthersStay c s new → (seat_of c s).job ≡ jobs.Writing t write → IsWriteOn c s t write new advance
    → OutsStand c outs written → OutsStand new outs written
outs_written c new s t write advance outs written there sound parts others job on old =
    subst (λ (v : CoreState). OthersStay c s v → OutsStand v outs written) (sym on.is) (by write.owner write.stage (is_writing c s t write.owner write.stage there job sound) on.left) others
  where
    by : (owner : Owner) (stage : WriteStage) → IsWriting c s t owner stage → IsToastAt (table_at c.tables t).toast on.toast stage
        → OthersStay c s (write_on_by c s t (record { owner = owner; stage = stage }) on.toast (write_told c t (record { owner = owner; stage = stage })))
        → OutsStand (write_on_by c s t (record { owner = owner; stage = stage }) on.toast (write_told c t (record { owner = owner; stage = stage }))) outs written
    by owner (stages.Saving was new plan at save) writing left stay = outs_saving c s t owner was new plan at save on.toast outs written writing stay old
    by owner (stages.Put None new plan) writing left stay = outs_put c s t owner on.toast new plan outs written writing left parts old
    by owner (stages.Put (Some row) new plan) writing left stay = outs_moved c s t owner on.toast row new plan outs written writing left parts old
    by owner (stages.Remove row) writing left stay = outs_removed c s t owner on.toast row outs written writing left parts old
    by owner (stages.Marking dropped at mark) writing left stay = outs_marking c s t owner dropped at mark on.toast outs written writing (write_told c t (record { owner = owner; stage = stages.Marking dropped at mark })) stay old
    by owner stages.Over writing left stay = absurd (writing.write.stands c.log)

-- ---- commands that end early

pub outs_failed : (c new : CoreState) (s : ℕ) (outs : Place → List ℕ) (written later : ℕ → List Written) → IsSession c.seats s → IsSound c → OthersStay c s new → new ≡ after_failing c s → ((k : ℕ) → k ≢ s → later k ≡ written k) → OutsStand c outs written → OutsStand new outs later
outs_failed c new s outs written later there sound others is same old =
    subst (λ (v : CoreState). OthersStay c s v → OutsStand v outs later) (sym is) (λ stay. outs_given_up c s (failed_state (seat_of c s).state) outs written later there sound stay (failed_closed (seat_of c s).state) same old) others

-- what a command that is over leaves, whose transaction may have taken its copy
record LeavesCopy (c u : CoreState) (s : ℕ) : Type 0 where
  tables : u.tables ≡ c.tables
  xacts : u.xacts ≡ c.xacts
  xid : xid_of (seat_of u s).state ≡ xid_of (seat_of c s).state
  job : (seat_of u s).job ≡ jobs.Idle
  there : IsSession u.seats s

snapshot_xid : (state : State) (id : ℕ) → xid_of (with_snapshot state id) ≡ xid_of state
snapshot_xid states.Outside id = refl
snapshot_xid states.Failed id = refl
snapshot_xid (states.Open level xid snapshot) id = refl

copy_leaves : (c : CoreState) (s : ℕ) → IsSession c.seats s → LeavesCopy c (with_copy (idled c s) s) s
copy_leaves c s there = by (takes_copy (seat_of v s).state)
  where
    v : CoreState
    v = idled c s

    at : IsSession v.seats s
    at = session_written c.seats s s _ there

    here : seat_of v s ≡ record (seat_of c s) { state = (seat_of c s).state; job = jobs.Idle }
    here = seat_written c.seats s _ there

    taken : Seat
    taken = record (seat_of v s) { state = with_snapshot (seat_of v s).state (least_free v.snaps) }

    by : (b : Bool) → LeavesCopy c (cond b (seated (record v { snaps = after_take v.snaps v.xacts }) s taken) v) s
    by true =
        let is = seat_written v.seats s taken at in
        record {
          tables = refl;
          xacts = refl;
          xid = ap (λ (seat : Seat). xid_of seat.state) is ∙ snapshot_xid (seat_of v s).state (least_free v.snaps) ∙ ap (λ (seat : Seat). xid_of seat.state) here;
          job = ap (λ (seat : Seat). seat.job) is ∙ ap (λ (seat : Seat). seat.job) here;
          there = session_written v.seats s s taken at;
        }
    by false = record { tables = refl; xacts = refl; xid = ap (λ (seat : Seat). xid_of seat.state) here; job = ap (λ (seat : Seat). seat.job) here; there = at }

pub outs_copied : (c new : CoreState) (s : ℕ) (outs : Place → List ℕ) (written later : ℕ → List Written) → IsSession c.seats s → IsSound c → OthersStay c s new → new ≡ after_failing (with_copy (idled c s) s) s → ((k : ℕ) → k ≢ s → later k ≡ written k) → OutsStand c outs written → OutsStand new outs later
outs_copied c new s outs written later there sound others is same old =
    let u = with_copy (idled c s) s in
    let leaves = copy_leaves c s there in
    let v = after_failing u s in
    let seat = seat_written u.seats s (record { state = failed_state (seat_of u s).state; handles = []; job = jobs.Idle }) leaves.there in
    subst (λ (core : CoreState). OthersStay c s core → OutsStand core outs later) (sym is) (λ stay.
    outs_seated c v s outs written later there stay
    (λ t. ap (λ (o : Option ℕ). (table_at (once_unpinned u.tables s o) t).rows) (ap job_table leaves.job) ∙ ap (λ (tables : List Table). (table_at tables t).rows) leaves.tables)
    (λ own p. ap (λ (o : Option ℕ). tuple_in (counts_for (once_aborted u.xacts o) own) (table_at c.tables p.table).rows.pages p.key) leaves.xid
    ∙ ap (λ (xacts : Xacts). tuple_in (counts_for (once_aborted xacts (xid_of (seat_of c s).state)) own) (table_at c.tables p.table).rows.pages p.key) leaves.xacts
    ∙ aborted_world c.xacts (xid_of (seat_of c s).state) own p c.tables (λ x e. ap is_some ((sound_of c s there sound).runs x e)))
    same
    (subst (λ (one : Seat). SeatOuts v.xacts v.tables (outs_with outs (later s)) one) (sym seat)
    (closed_out v.xacts v.tables (outs_with outs (later s)) (record { state = failed_state (seat_of u s).state; handles = []; job = jobs.Idle }) (failed_closed (seat_of u s).state) refl)) old) others
