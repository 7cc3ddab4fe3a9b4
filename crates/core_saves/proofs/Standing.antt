-- A core stands for the same states after a step of a write's save or mark.
use Rattle.std.proofs.Common.{Bool, List, None, Some, ap, arith, cond, false, inl, inr, refl, subst, suc, sym, true, ℕ, ◌++◌, ◌+◌, ◌-◌, ◌∙◌, ◌≡◌, ◌≢◌, ◌⊎◌}
use Rattle.std.proofs.lemmas.List.{length-set}
use Rattle.std.specs.Option.{option_map, unwrap_or}
use Rattle.std.specs.Prelude.{Option, option_to_list, slice_get, ◌==◌}
use Rattle.list_facts.proofs.Changed.{after_set}
use Rattle.list_facts.proofs.Members.{found_in}
use Rattle.external_pointer.specs.declared.external.Pointer.{Pointer}
use Rattle.tuple_layout.specs.Places.{Row, Rows}
use Rattle.change_log.specs.Logs.{LogState}
use Rattle.value_ids.specs.Ids.{Pool}
use Rattle.lock_table.specs.Locks.{held_by}
use Rattle.lock_table.specs.declared.held.SessionLocks.{SessionLocks}
use Rattle.value_holders.specs.Stamps.{Runs}
use Rattle.toast_store.specs.Marks.{Marking}
use Rattle.toast_store.specs.Stores.{Store}
use Rattle.toast_store.specs.Walks.{Walking, is_over}
use Rattle.read_steps.specs.Reads.{reply_of}
use Rattle.write_steps.specs.Writes.{Writing, mark_after, marked_on, marking_from, stage_after, to_mark, write_after}
use Rattle.write_steps.specs.declared.stage.Owner.{Owner}
use Rattle.write_steps.specs.declared.stage.WriteStage.{WriteStage}
use Rattle.command_set.specs.Changes.{outcome}
use Rattle.command_set.specs.declared.Level.{Level}
use Rattle.command_set.specs.declared.Reply.{Reply}
use Rattle.command_set.specs.declared.state.Change.{Change}
use Rattle.command_set.specs.declared.state.Plain.{Plain}
use Rattle.command_set.specs.declared.state.Session.{Session}
use Rattle.command_set.specs.declared.state.Transaction.{Transaction}
use Rattle.table_state.specs.Events.{IsUnheld, with_toast}
use Rattle.table_state.specs.declared.table.Table.{Table}
use Rattle.core_state.proofs.Seats.{number_at, seat_there, seat_written, sound_of}
use Rattle.core_state.specs.Coming.{change_left}
use Rattle.core_state.specs.Events.{write_told}
use Rattle.core_state.specs.Facts.{HandlesAreSound, JobIsSound}
use Rattle.core_state.specs.Lines.{after_write_last, after_write_step, ids_released, parts_at, with_table}
use Rattle.core_state.specs.Moves.{Stays}
use Rattle.core_state.specs.Stands.{SessionStands, Stands, TransactionStands, coming, logged_changes, pending_of}
use Rattle.core_state.specs.State.{CoreState, IsSession, handle_of, seat_of, snapshot_of, table_at, xid_of}
use Rattle.core_state.specs.Views.{held_value, in_sight, row_at}
use Rattle.core_state.specs.declared.seat.Handle.{Handle}
use Rattle.core_state.specs.declared.seat.Job.{Job}
use Rattle.core_state.specs.declared.seat.Seat.{Seat}
use Rattle.core_state.specs.declared.seat.State.{State}
use Rattle.core_saves.proofs.Coming.{coming_taken, own_coming}
use Rattle.core_saves.proofs.Frame.{AreApartIn, Restored, read_apart, restored_at}
use Rattle.core_saves.proofs.Saved.{write_at}
use Rattle.core_saves.proofs.Steps.{last_taken, marking_taken, saving_taken}
use Rattle.core_saves.proofs.Taken.{OnePiece, StepTaken, after_taken, runs_of}
use Rattle.core_saves.proofs.ToRead.{StepLeaves, reply_left}
use Rattle.core_saves.proofs.Values.{ValuesOn, copy_taken, held_taken, latest_taken, logged_taken, sight_taken}
use Rattle.core_saves.specs.Made.{IsMarkingOne, IsSaving, IsWriteMade}
use Rattle.command_set.specs.declared.Reply.TheVariants as replies
use Rattle.command_set.specs.declared.state.Session.TheVariants as plain
use Rattle.core_state.specs.declared.advance.Advance.TheVariants as advances
use Rattle.core_state.specs.declared.seat.Job.TheVariants as jobs
use Rattle.core_state.specs.declared.seat.State.TheVariants as states
use Rattle.write_steps.specs.declared.stage.WriteStage.TheVariants as stages
use Rattle.write_steps.specs.declared.stage.WriteStep.TheVariants as writes

-- ---- a session

handles_taken : (c : CoreState) (tables : List Table) (t : ℕ) (toast : Store) (added : Option ℕ) (held : SessionLocks) (seat : Seat) (name : ℕ) → Runs c.xacts (xid_of seat.state) → HandlesAreSound c.xacts c.snaps held c.tables seat → ValuesOn c tables t toast added
    → option_map (λ (handle : Handle). held_value tables handle.table handle.held) (handle_of seat.handles name) ≡ option_map (λ (handle : Handle). held_value c.tables handle.table handle.held) (handle_of seat.handles name)
handles_taken c tables t toast added held seat name runs sound on = by (handle_of seat.handles name) refl
  where
    by : (o : Option Handle) → handle_of seat.handles name ≡ o → option_map (λ (handle : Handle). held_value tables handle.table handle.held) o ≡ option_map (λ (handle : Handle). held_value c.tables handle.table handle.held) o
    by None e = refl
    by (Some handle) e = ap Some (held_taken c tables t toast added held (xid_of seat.state) handle runs (sound.each handle (found_in (λ (its : Handle). its.name == name) seat.handles handle e).0) on)

transaction_taken : (c : CoreState) (tables : List Table) (t : ℕ) (toast : Store) (added : Option ℕ) (later : LogState) (held : SessionLocks) (latest : Rows) (seat : Seat) (job : Job) (level : Level) (transaction : Transaction) → Runs c.xacts (xid_of seat.state) → HandlesAreSound c.xacts c.snaps held c.tables seat
    → (later ≡ c.log) ⊎ OnePiece c.xacts c.log later → ValuesOn c tables t toast added → coming tables job ≡ coming c.tables seat.job → TransactionStands c.xacts c.snaps held c.log.entries c.tables latest seat level transaction
    → TransactionStands c.xacts c.snaps held later.entries tables latest (record seat { job = job }) level transaction
transaction_taken c tables t toast added later held latest seat job level transaction runs sound logged on more old =
    let told = logged_taken c tables t toast added later (xid_of seat.state) runs logged on in
    record {
      level_is = old.level_is;
      copy = copy_taken c tables t toast added (snapshot_of seat.state) transaction.base transaction.since on old.copy;
      changes = old.changes ∙ sym (ap (λ (changes : List Change). changes ++ coming tables job) told ∙ ap (λ (changes : List Change). logged_changes c.tables c.log.entries (xid_of seat.state) ++ changes) more);
      now = λ p. old.now p ∙ sym (ap (λ (changes : List Change). unwrap_or (outcome changes p) (row_at tables (in_sight c.xacts seat.state) p)) more
          ∙ ap (λ (row : Option Row). unwrap_or (outcome (coming c.tables seat.job) p) row) (sight_taken c tables t toast added seat.state p runs on));
      used = old.used;
      claimed = old.claimed;
      handles = λ name. old.handles name ∙ sym (handles_taken c tables t toast added held seat name runs sound on);
    }

session_taken : (c : CoreState) (tables : List Table) (t : ℕ) (toast : Store) (added : Option ℕ) (later : LogState) (held : SessionLocks) (latest : Rows) (seat : Seat) (job : Job) (state : State) (session : Session) → state ≡ seat.state → Runs c.xacts (xid_of seat.state) → HandlesAreSound c.xacts c.snaps held c.tables seat
    → (later ≡ c.log) ⊎ OnePiece c.xacts c.log later → ValuesOn c tables t toast added → coming tables job ≡ coming c.tables seat.job → SessionStands c.xacts c.snaps held c.log.entries c.tables latest seat state session
    → SessionStands c.xacts c.snaps held later.entries tables latest (record seat { job = job }) state session
session_taken c tables t toast added later held latest seat job states.Outside plain.Outside is runs sound logged on more old = tt
session_taken c tables t toast added later held latest seat job states.Outside plain.Failed is runs sound logged on more old = old
session_taken c tables t toast added later held latest seat job states.Outside (plain.Open transaction) is runs sound logged on more old = old
session_taken c tables t toast added later held latest seat job states.Failed plain.Outside is runs sound logged on more old = old
session_taken c tables t toast added later held latest seat job states.Failed plain.Failed is runs sound logged on more old = tt
session_taken c tables t toast added later held latest seat job states.Failed (plain.Open transaction) is runs sound logged on more old = old
session_taken c tables t toast added later held latest seat job (states.Open level xid snapshot) plain.Outside is runs sound logged on more old = old
session_taken c tables t toast added later held latest seat job (states.Open level xid snapshot) plain.Failed is runs sound logged on more old = old
session_taken c tables t toast added later held latest seat job (states.Open level xid snapshot) (plain.Open transaction) is runs sound logged on more old = transaction_taken c tables t toast added later held latest seat job level transaction runs sound logged on more old

-- ---- the reply that a read comes to

reading_taken : (c : CoreState) (tables : List Table) (t : ℕ) (toast : Store) (own added : Option ℕ) (s other : ℕ) (seat : Seat) (job : Job) (held : SessionLocks) → Restored c.tables tables t toast → StepLeaves own added s (table_at c.tables t).toast toast → Runs c.xacts (xid_of seat.state)
    → ((id : ℕ) → added ≡ Some id → IsUnheld c.xacts c.snaps (table_at c.tables t) id) → JobIsSound c.xacts c.snaps c.ids held c.tables other seat job → pending_of tables job ≡ pending_of c.tables job
reading_taken c tables t toast own added s other seat jobs.Idle held restored leaves runs unheld sound = refl
reading_taken c tables t toast own added s other seat (jobs.Submitted command) held restored leaves runs unheld sound = refl
reading_taken c tables t toast own added s other seat (jobs.Reading n snapshot read) held restored leaves runs unheld sound =
    restored_at c.tables tables t toast n (λ (table : Table). reply_of table.toast read ≡ reply_of (table_at c.tables n).toast read) restored
    (λ is same. reply_left own added s (table_at c.tables n).toast toast read.session read.stage (subst (λ (k : ℕ). StepLeaves own added s (table_at c.tables k).toast toast) (sym is) leaves)
    (read_apart c.xacts c.snaps (table_at c.tables n) seat read other added runs (subst (λ (k : ℕ). (id : ℕ) → added ≡ Some id → IsUnheld c.xacts c.snaps (table_at c.tables k) id) (sym is) unheld) sound.1) sound.1.batch) refl
reading_taken c tables t toast own added s other seat (jobs.Writing n write) held restored leaves runs unheld sound = refl

-- ---- a whole core

values_on : (c : CoreState) (s t : ℕ) (ids : Pool) (log : LogState) (tables : List Table) (toast : Store) (job : Job) (own added : Option ℕ) → StepTaken c s t ids log tables toast job own added → ValuesOn c tables t toast added
values_on c s t ids log tables toast job own added step = record { sound = step.sound; restored = step.restored; values = step.leaves.values; unheld = step.unheld }

pub stands_taken : (c : CoreState) (s t : ℕ) (ids : Pool) (log : LogState) (tables : List Table) (toast : Store) (job : Job) (own added : Option ℕ) (m : Plain) (told : List (Option Reply)) → StepTaken c s t ids log tables toast job own added → ((id : ℕ) → added ≡ Some id → own ≡ Some id)
    → coming tables job ≡ coming c.tables (seat_of c s).job → ((said : Reply) → pending_of tables job ≡ Some said → pending_of c.tables (seat_of c s).job ≡ Some said) → Stands c m told → Stands (after_taken c s ids log tables job) m told
stands_taken c s t ids log tables toast job own added m told step adds mine says stands =
    let on = values_on c s t ids log tables toast job own added step in
    let sound = step.sound in
    let number = number_at s step.session.from_one in
    record {
      latest = λ p. stands.latest p ∙ sym (latest_taken c tables t toast added p on);
      count = stands.count ∙ sym (length-set c.seats (s - 1) seat);
      sessions = λ i other its at at_its. elim (after_set c.seats (s - 1) seat i other at) [
        | inl h ↦ here i other its h.0 h.1 at_its
        | inr h ↦
            let differ : suc i ≢ s = λ e. h.0 (omega (arith, e)) in
            let seat_sound = sound.each i other h.1 in
            session_taken c tables t toast added log (held_by c.locks (suc i)) m.latest other other.job other.state its refl (runs_of c.xacts (suc i) (xid_of other.state) seat_sound.runs) seat_sound.handles step.logged on
            (coming_taken c tables s t i toast added other differ h.1 on (added_apart i other differ h.1)) (stands.sessions i other its h.1 at_its)
      ];
      upkeep = stands.upkeep;
      pending = λ i other said at pends. elim (after_set c.seats (s - 1) seat i other at) [
        | inl h ↦
            let before = says said (sym (ap (λ (x : Seat). pending_of tables x.job) h.1) ∙ pends) in
            subst (λ (k : ℕ). slice_get told k ≡ Some (Some said)) (sym h.0) (stands.pending (s - 1) (seat_of c s) said (seat_there c.seats s step.session) before)
        | inr h ↦
            let differ : suc i ≢ s = λ e. h.0 (omega (arith, e)) in
            let seat_sound = sound.each i other h.1 in
            stands.pending i other said h.1 (sym (reading_taken c tables t toast own added s (suc i) other other.job (held_by c.locks (suc i)) step.restored step.leaves (runs_of c.xacts (suc i) (xid_of other.state) seat_sound.runs) step.unheld seat_sound.job) ∙ pends)
      ];
    }
  where
    seat : Seat
    seat = record (seat_of c s) { job = job }

    added_apart : (i : ℕ) (other : Seat) → suc i ≢ s → slice_get c.seats i ≡ Some other → AreApartIn added t other.job
    added_apart i other differ at = record {
      each = λ write e.
          let apart = (step.apart i other differ at).each write e in
          record { drawn = λ id f g. apart.drawn id f (adds id g); marked = λ id f g. apart.marked id f (adds id g) };
    }

    here : (i : ℕ) (other : Seat) (its : Session) → i ≡ s - 1 → other ≡ seat → slice_get m.sessions i ≡ Some its → SessionStands c.xacts c.snaps (held_by c.locks (suc i)) log.entries tables m.latest other other.state its
    here i other its at is at_its =
        let number : suc i ≡ s = ap suc at ∙ number_at s step.session.from_one in
        let place = seat_there c.seats s step.session in
        let before = stands.sessions i (seat_of c s) its (ap (slice_get c.seats) at ∙ place) at_its in
        let own_sound = sound_of c s step.session step.sound in
        let moved = session_taken c tables t toast added log (held_by c.locks (suc i)) m.latest (seat_of c s) job (seat_of c s).state its refl (runs_of c.xacts s (xid_of (seat_of c s).state) own_sound.runs)
        (subst (λ (n : ℕ). HandlesAreSound c.xacts c.snaps (held_by c.locks n) c.tables (seat_of c s)) (sym number) own_sound.handles) step.logged (values_on c s t ids log tables toast job own added step) mine before in
        subst (λ (x : Seat). SessionStands c.xacts c.snaps (held_by c.locks (suc i)) log.entries tables m.latest x x.state its) (sym is) moved

-- ---- by stages

-- the session's seat after it
job_after : (c : CoreState) (s : ℕ) (ids : Pool) (log : LogState) (tables : List Table) (job : Job) → IsSession c.seats s → (seat_of (after_taken c s ids log tables job) s).job ≡ job
job_after c s ids log tables job there = ap (λ (seat : Seat). seat.job) (seat_written c.seats s (record (seat_of c s) { job = job }) there)

pub saves_stay_all : (c : CoreState) (s t : ℕ) (write : Writing) (toast : Store) → IsSaving write.stage → IsWriteMade c s t write toast → Stays c s (after_write_step c s t write toast) advances.More
saves_stay_all c s t write toast is made = by write.owner write.stage is made
  where
    by : (owner : Owner) (stage : WriteStage) → IsSaving stage → IsWriteMade c s t (write_at owner stage) toast → Stays c s (after_write_step c s t (write_at owner stage) toast) advances.More
    by owner (stages.Saving old new plan at save) is made m told stands =
        let step = saving_taken c s t owner old new plan at save toast made in
        let coming_same = own_coming c s t owner old new plan at save toast made step.leaves.values in
        let job : Job = jobs.Writing t (write_after (parts_at c t) (write_at owner (stages.Saving old new plan at save))) in (
          stands_taken c s t _ _ _ toast job _ _ m told step (λ id e. e)
              (ap (λ (table : Table). option_to_list (change_left t table.toast (stage_after (parts_at c t) owner (stages.Saving old new plan at save)))) step.restored.here ∙ ap (λ (o : Option Change). option_to_list o) coming_same ∙ sym (ap (coming c.tables) made.job))
              (λ said e. ap (pending_of c.tables) made.job ∙ e) stands,
          rw (job_after c s _ _ _ job made.session) refl,
        )
    by owner (stages.Put old new plan) is made m told stands = absurd is
    by owner (stages.Remove old) is made m told stands = absurd is
    by owner (stages.Marking dropped at mark) is made m told stands = absurd is
    by owner stages.Over is made m told stands = absurd is

-- a write that marks has no change to make
marking_none : (t : ℕ) (toast : Store) (owner : Owner) (dropped : List Pointer) (at : ℕ) (mark : Marking) → change_left t toast (marked_on owner dropped at mark) ≡ None
marking_none t toast owner dropped at mark = by (is_over (Walking.stage (Marking.walk mark)))
  where
    by_next : (o : Option Pointer) → change_left t toast (to_mark owner dropped (at + 1) o) ≡ None
    by_next None = refl
    by_next (Some pointer) = refl

    by : (b : Bool) → change_left t toast (cond b (marking_from owner dropped (at + 1)) (stages.Marking dropped at mark)) ≡ None
    by true = by_next (slice_get dropped (at + 1))
    by false = refl

pub marks_stay_all : (c : CoreState) (s t : ℕ) (write : Writing) (toast : Store) → IsMarkingOne write.stage → write_told c t write ≡ writes.More → IsWriteMade c s t write toast → Stays c s (after_write_step c s t write toast) advances.More
marks_stay_all c s t write toast is goes made = by write.owner write.stage is goes made
  where
    none_is : (id : ℕ) → None ≡ Some id → ⊥
    none_is id h = cc

    by : (owner : Owner) (stage : WriteStage) → IsMarkingOne stage → write_told c t (write_at owner stage) ≡ writes.More → IsWriteMade c s t (write_at owner stage) toast → Stays c s (after_write_step c s t (write_at owner stage) toast) advances.More
    by owner (stages.Saving old new plan at save) is goes made m told stands = absurd is
    by owner (stages.Put old new plan) is goes made m told stands = absurd is
    by owner (stages.Remove old) is goes made m told stands = absurd is
    by owner (stages.Marking dropped at mark) is goes made m told stands =
        let step = marking_taken c s t owner dropped at mark toast goes made in
        let tables = with_table c.tables t (with_toast (table_at c.tables t) toast) in
        let job : Job = jobs.Writing t (write_after (parts_at c t) (write_at owner (stages.Marking dropped at mark))) in (
          stands_taken c s t c.ids c.log tables toast job (Some mark.walk.value_id) None m told step (λ id e. absurd (none_is id e))
              (ap (λ (o : Option Change). option_to_list o) (marking_none t (table_at tables t).toast owner dropped at (mark_after (parts_at c t) mark)) ∙ sym (ap (coming c.tables) made.job))
              (λ said e. ap (pending_of c.tables) made.job ∙ e) stands,
          rw (job_after c s c.ids c.log tables job made.session) refl,
        )
    by owner stages.Over is goes made m told stands = absurd is

pub marks_last_stay : (c : CoreState) (s t : ℕ) (write : Writing) (toast : Store) → IsMarkingOne write.stage → write_told c t write ≡ writes.Done → IsWriteMade c s t write toast → Stays c s (after_write_last c s t write toast) (advances.Done replies.Okay)
marks_last_stay c s t write toast is done made = by write.owner write.stage is done made
  where
    none_is : (id : ℕ) → None ≡ Some id → ⊥
    none_is id h = cc

    nothing : (said : Reply) → None ≡ Some said → ⊥
    nothing said h = cc

    by : (owner : Owner) (stage : WriteStage) → IsMarkingOne stage → write_told c t (write_at owner stage) ≡ writes.Done → IsWriteMade c s t (write_at owner stage) toast → Stays c s (after_write_last c s t (write_at owner stage) toast) (advances.Done replies.Okay)
    by owner (stages.Saving old new plan at save) is done made m told stands = absurd is
    by owner (stages.Put old new plan) is done made m told stands = absurd is
    by owner (stages.Remove old) is done made m told stands = absurd is
    by owner (stages.Marking dropped at mark) is done made m told stands =
        let step = last_taken c s t owner dropped at mark toast done made in
        let tables = with_table c.tables t (with_toast (table_at c.tables t) toast) in (
          stands_taken c s t (ids_released c.ids s) c.log tables toast jobs.Idle (Some mark.walk.value_id) None m told step (λ id e. absurd (none_is id e)) (sym (ap (coming c.tables) made.job)) (λ said e. absurd (nothing said e)) stands,
          (stands.pending (s - 1) (seat_of c s) replies.Okay (seat_there c.seats s made.session) (ap (pending_of c.tables) made.job), job_after c s (ids_released c.ids s) c.log tables jobs.Idle made.session),
        )
    by owner stages.Over is done made m told stands = absurd is
