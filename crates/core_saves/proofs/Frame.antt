-- What is true of a session stays where another's step changes one table's store.
use Rattle.std.proofs.Common.{Bool, Contains, List, None, Some, [], ap, arith, false, length, refl, subst, sym, take, true, ℕ, ◌∙◌, ◌∷◌, ◌≡◌, ◌≢◌}
use Rattle.std.proofs.lemmas.Bool.Decides.{nat_tests}
use Rattle.std.specs.Prelude.{IfSome, IsSome, Option, option_to_list, ◌==◌}
use Rattle.list_facts.proofs.Members.{first_in}
use Rattle.external_pointer.specs.declared.external.Pointer.{Pointer}
use Rattle.tuple_layout.specs.Schemas.{TableSchema}
use Rattle.tuple_layout.specs.declared.cell.Stored.{Stored}
use Rattle.change_log.specs.Logs.{LogState}
use Rattle.xact_status.specs.Xacts.{Xacts}
use Rattle.chunk_index.specs.Pinned.{pin_of}
use Rattle.value_ids.specs.Ids.{Pool}
use Rattle.lock_table.specs.declared.held.SessionLocks.{SessionLocks}
use Rattle.snapshot_registry.specs.Snapshots.{Snaps}
use Rattle.value_holders.specs.Stamps.{Runs}
use Rattle.row_versions.specs.Relations.{Relation}
use Rattle.table_rows.specs.Views.{IsViewNow}
use Rattle.toast_store.proofs.Others.{save_left}
use Rattle.toast_store.specs.Fetches.{Fetching}
use Rattle.toast_store.specs.Marks.{Marking}
use Rattle.toast_store.specs.Saves.{Saving, id_of}
use Rattle.toast_store.specs.Stores.{Store}
use Rattle.toast_store.specs.Walks.{CanStep, IsBatchHeld, Walking}
use Rattle.read_steps.specs.Reads.{Reading, fetch_due}
use Rattle.write_steps.proofs.Keeping.{saved_kept}
use Rattle.write_steps.specs.Writes.{Writing, parts_of}
use Rattle.write_steps.specs.declared.stage.OldRow.{OldRow}
use Rattle.write_steps.specs.declared.stage.Owner.{Owner}
use Rattle.write_steps.specs.declared.stage.WriteStage.{WriteStage}
use Rattle.command_set.specs.declared.Reply.{Reply}
use Rattle.table_state.specs.Events.{IsUnheld, with_toast}
use Rattle.table_state.specs.declared.table.Table.{Table}
use Rattle.core_state.proofs.Lists.{in_append_left, in_append_right}
use Rattle.core_state.specs.Coming.{ids_drawn}
use Rattle.core_state.specs.Commands.{IsFitting}
use Rattle.core_state.specs.Facts.{HandleIsSound, HandlesAreSound, IsDropping, JobIsSound, KeepsId, KeepsPointer, KnowsRows, MayPin, PinsAreSound, ReadIsSound, SeatIsSound, ViewIsSound, WorksOn, WriteIsSound, ids_to_read}
use Rattle.core_state.specs.State.{schemas_of, table_at, uses_of, xid_of}
use Rattle.core_state.specs.declared.seat.Handle.{Handle}
use Rattle.core_state.specs.declared.seat.Job.{Job}
use Rattle.core_state.specs.declared.seat.Seat.{Seat}
use Rattle.core_state.specs.declared.seat.State.{State}
use Rattle.core_saves.proofs.Apart.{there_protected, unheld_not}
use Rattle.core_saves.proofs.Columns.{held_drawn, in_list, in_take}
use Rattle.core_saves.proofs.ToRead.{StepLeaves, reply_left}
use Rattle.core_state.specs.declared.seat.Job.TheVariants as jobs
use Rattle.write_steps.specs.Standing as write_standing
use Rattle.write_steps.specs.declared.stage.WriteStage.TheVariants as stages

-- ---- the tables with one store in place of what it was

pub record Restored (tables later : List Table) (t : ℕ) (toast : Store) : Type 0 where
  pub count : length later ≡ length tables
  pub schemas : schemas_of later ≡ schemas_of tables
  pub here : table_at later t ≡ with_toast (table_at tables t) toast
  pub others : (n : ℕ) → n ≢ t → table_at later n ≡ table_at tables n

-- what holds of a table and, if it is this one, of it with the other store holds of the later one
pub restored_at : (tables later : List Table) (t : ℕ) (toast : Store) (n : ℕ) (P : Table → Type 0) → Restored tables later t toast → (n ≡ t → P (table_at tables n) → P (with_toast (table_at tables n) toast)) → P (table_at tables n) → P (table_at later n)
restored_at tables later t toast n P restored moves old = by (n == t) refl
  where
    by : (b : Bool) → (n == t) ≡ b → P (table_at later n)
    by true same =
        let is : n ≡ t = grind (arith, nat_tests, same) in
        subst P (ap (table_at later) (sym is)) (subst P (sym restored.here) (subst (λ (k : ℕ). P (with_toast (table_at tables k) toast)) is (moves is old)))
    by false apart =
        let differ : n ≢ t = grind (arith, nat_tests, apart) in
        subst P (sym (restored.others n differ)) old

pub rows_restored : (tables later : List Table) (t : ℕ) (toast : Store) (n : ℕ) → Restored tables later t toast → (table_at later n).rows ≡ (table_at tables n).rows
rows_restored tables later t toast n restored = restored_at tables later t toast n (λ (table : Table). table.rows ≡ (table_at tables n).rows) restored (λ is same. same) refl

-- ---- what a read relies on

keeps_left : (xacts : Xacts) (snaps : Snaps) (table : Table) (toast : Store) (uses : List ℕ) (own : Option ℕ) (value_id : ℕ) → KeepsId xacts snaps table uses own value_id → KeepsId xacts snaps (with_toast table toast) uses own value_id
keeps_left xacts snaps table toast uses own value_id old = record { tid = old.tid; version = old.version; there = old.there; holds = old.holds; seen = old.seen }

can_left : (own added : Option ℕ) (s other : ℕ) (old new : Store) (o : Option Fetching) → StepLeaves own added s old new → other ≢ s → IfSome o (λ (fetch : Fetching). Walking.session (Fetching.walk fetch) ≡ other)
    → IfSome o (λ (fetch : Fetching). CanStep old.index (Fetching.walk fetch)) → IfSome o (λ (fetch : Fetching). CanStep new.index (Fetching.walk fetch))
can_left own added s other old new None leaves differ mine can = tt
can_left own added s other old new (Some fetch) leaves differ mine can = leaves.others.walks (Fetching.walk fetch) (λ e. differ (sym mine ∙ e)) can

batch_left : (own added : Option ℕ) (s : ℕ) (old new : Store) (o : Option Fetching) → StepLeaves own added s old new → IfSome o (λ (fetch : Fetching). IsBatchHeld old.index.entries (Fetching.walk fetch)) → IfSome o (λ (fetch : Fetching). IsBatchHeld new.index.entries (Fetching.walk fetch))
batch_left own added s old new None leaves held = tt
batch_left own added s old new (Some fetch) leaves held = leaves.others.batches (Fetching.walk fetch) held

-- no value that a read has to read is one that no protected version has
pub read_apart : (xacts : Xacts) (snaps : Snaps) (table : Table) (seat : Seat) (read : Reading) (s : ℕ) (added : Option ℕ) → Runs xacts (xid_of seat.state) → ((id : ℕ) → added ≡ Some id → IsUnheld xacts snaps table id) → ReadIsSound xacts snaps table s seat read
    → (value_id : ℕ) → Contains (ids_to_read read.stage) value_id → added ≢ Some value_id
read_apart xacts snaps table seat read s added runs unheld old value_id e = λ same.
    let keeps = old.kept value_id e in
    unheld_not xacts snaps table keeps.tid keeps.version value_id (unheld value_id same) keeps.there (there_protected xacts snaps (uses_of seat) (xid_of seat.state) keeps.version runs keeps.seen) keeps.holds

pub read_stays : (xacts : Xacts) (snaps : Snaps) (table : Table) (toast : Store) (own added : Option ℕ) (s other : ℕ) (seat : Seat) (read : Reading) → other ≢ s → StepLeaves own added s table.toast toast → Runs xacts (xid_of seat.state)
    → ((id : ℕ) → added ≡ Some id → IsUnheld xacts snaps table id) → ReadIsSound xacts snaps table other seat read → ReadIsSound xacts snaps (with_toast table toast) other seat read
read_stays xacts snaps table toast own added s other seat read differ leaves runs unheld old = record {
  session = old.session;
  walk = old.walk;
  can = record { under_way = old.can.under_way; can_step = can_left own added s other table.toast toast (fetch_due read) leaves differ old.walk old.can.can_step };
  comes = subst (λ (o : Option Reply). IsSome o) (sym (reply_left own added s table.toast toast read.session read.stage leaves (read_apart xacts snaps table seat read other added runs unheld old) old.batch)) old.comes;
  batch = batch_left own added s table.toast toast (fetch_due read) leaves old.batch;
  kept = λ value_id e. keeps_left xacts snaps table toast (uses_of seat) (xid_of seat.state) value_id (old.kept value_id e);
}

-- ---- what a write relies on

-- the id of the value that is being marked
abbrev pub id_marked : WriteStage → Option ℕ
id_marked (stages.Saving old new plan at save) = None
id_marked (stages.Put old new plan) = None
id_marked (stages.Remove old) = None
id_marked (stages.Marking dropped at mark) = Some (Walking.value_id (Marking.walk mark))
id_marked stages.Over = None

-- the id that a step works under is none that another write relies on
pub record IsApart (own : Option ℕ) (stage : WriteStage) : Type 0 where
  pub drawn : (id : ℕ) → Contains (ids_drawn stage) id → own ≢ Some id
  pub marked : (id : ℕ) → id_marked stage ≡ Some id → own ≢ Some id

save_apart : (own : Option ℕ) (old : Option OldRow) (new : Stored) (plan : List ℕ) (at : ℕ) (save : Saving) (id : ℕ) → IsApart own (stages.Saving old new plan at save) → id_of save.stage ≡ Some id → own ≢ Some id
save_apart own old new plan at save id apart e = apart.drawn id (in_append_left (option_to_list (id_of save.stage)) _ id (rw e (first_in id [] id refl)))

stands_left : (rows : Relation) (old new : Store) (ids : Pool) (log : LogState) (owner : Owner) (stage : WriteStage) (own added : Option ℕ) (s : ℕ) → owner.session ≢ s → StepLeaves own added s old new → IsApart own stage
    → write_standing.StandsAt (parts_of rows old ids log) owner stage → write_standing.StandsAt (parts_of rows new ids log) owner stage
stands_left rows old new ids log owner (stages.Saving before row plan at save) own added s differ leaves apart stands = record {
  there = stands.there;
  free = leaves.pins owner.session differ ∙ stands.free;
  fits = stands.fits;
  saved = saved_kept old new ids ids owner row plan at own s leaves.others (λ held mine has. has)
      (λ k p low held. apart.drawn p.value_id (in_append_right (option_to_list (id_of save.stage)) _ p.value_id (held_drawn row.cells (take at plan) held.column p (in_take plan k at held.column low held.planned) held.cell))) stands.saved;
  session = stands.session;
  stands = save_left old new ids ids own s save leaves.others (λ held has. has) (λ id e. save_apart own before row plan at save id apart e) stands.stands;
  fresh = stands.fresh;
}
stands_left rows old new ids log owner (stages.Put before row plan) own added s differ leaves apart stands = record {
  there = stands.there;
  free = leaves.pins owner.session differ ∙ stands.free;
  fits = stands.fits;
  saved = saved_kept old new ids ids owner row plan (length plan) own s leaves.others (λ held mine has. has)
      (λ k p low held. apart.drawn p.value_id (held_drawn row.cells plan held.column p (in_list plan k held.column held.planned) held.cell)) stands.saved;
}
stands_left rows old new ids log owner (stages.Remove before) own added s differ leaves apart stands = record { there = stands.there; free = leaves.pins owner.session differ ∙ stands.free }
stands_left rows old new ids log owner (stages.Marking dropped at mark) own added s differ leaves apart stands = record {
  session = stands.session;
  can = leaves.others.walks (Marking.walk mark) (λ e. differ (sym stands.session ∙ e)) stands.can;
  batch = leaves.others.batches (Marking.walk mark) stands.batch;
  marking = leaves.others.marks mark (apart.marked (Walking.value_id (Marking.walk mark)) refl) stands.marking;
}
stands_left rows old new ids log owner stages.Over own added s differ leaves apart stands = absurd stands

-- what is true of the rows is true with whatever store
pub dropping_left : (xacts : Xacts) (snaps : Snaps) (table : Table) (toast : Store) (xid : ℕ) (pointer : Pointer) → IsDropping xacts snaps table xid pointer → IsDropping xacts snaps (with_toast table toast) xid pointer
dropping_left xacts snaps table toast xid pointer before = record { tid = before.tid; version = before.version; there = before.there; holds = before.holds; inserted = before.inserted; ended_by = before.ended_by; ended = before.ended }

pub rows_left : (xacts : Xacts) (table : Table) (toast : Store) (write : Writing) → KnowsRows xacts table write → KnowsRows xacts (with_toast table toast) write
rows_left xacts table toast write old = record { old = old.old; alone = old.alone }

pub unheld_left : (xacts : Xacts) (snaps : Snaps) (table : Table) (toast : Store) (value_id : ℕ) → IsUnheld xacts snaps table value_id → IsUnheld xacts snaps (with_toast table toast) value_id
unheld_left xacts snaps table toast value_id old = record { none = old.none }

write_stays : (xacts : Xacts) (snaps : Snaps) (ids : Pool) (held : SessionLocks) (table : Table) (toast : Store) (own added : Option ℕ) (s other t : ℕ) (state : State) (write : Writing) → other ≢ s → StepLeaves own added s table.toast toast → IsApart own write.stage
    → WriteIsSound xacts snaps ids held table other t state write → WriteIsSound xacts snaps ids held (with_toast table toast) other t state write
write_stays xacts snaps ids held table toast own added s other t state write differ leaves apart old = record {
  own = old.own;
  stands = λ log. stands_left table.rows table.toast toast ids log write.owner write.stage own added s (λ e. differ (sym old.own.session ∙ e)) leaves apart (old.stands log);
  rows = rows_left xacts table toast write old.rows;
  new = old.new;
  fresh = record { each = λ value_id e. unheld_left xacts snaps table toast value_id (old.fresh.each value_id e) };
  dropping = λ pointer e. dropping_left xacts snaps table toast write.owner.xid pointer (old.dropping pointer e);
}

-- ---- a session

works_left : (held : SessionLocks) (tables later : List Table) (t : ℕ) (toast : Store) (n : ℕ) (state : State) → Restored tables later t toast → WorksOn held tables n state → WorksOn held later n state
works_left held tables later t toast n state restored old =
    let count = restored.count in
    let within = old.of_table.within in
    record { of_table = record { from_one = old.of_table.from_one; within = omega (arith, count, within) }; inside = old.inside; used = old.used }

-- a write of this table that the step's id is apart from
pub record AreApartIn (own : Option ℕ) (t : ℕ) (job : Job) : Type 0 where
  pub each : (write : Writing) → job ≡ jobs.Writing t write → IsApart own write.stage

job_left : (xacts : Xacts) (snaps : Snaps) (ids : Pool) (held : SessionLocks) (tables later : List Table) (t : ℕ) (toast : Store) (own added : Option ℕ) (s other : ℕ) (seat : Seat) (job : Job) → other ≢ s → Restored tables later t toast
    → StepLeaves own added s (table_at tables t).toast toast → Runs xacts (xid_of seat.state) → ((id : ℕ) → added ≡ Some id → IsUnheld xacts snaps (table_at tables t) id) → AreApartIn own t job
    → JobIsSound xacts snaps ids held tables other seat job → JobIsSound xacts snaps ids held later other seat job
job_left xacts snaps ids held tables later t toast own added s other seat jobs.Idle differ restored leaves runs unheld apart old = tt
job_left xacts snaps ids held tables later t toast own added s other seat (jobs.Submitted command) differ restored leaves runs unheld apart old = subst (λ (schemas : List TableSchema). IsFitting schemas command) (sym restored.schemas) old
job_left xacts snaps ids held tables later t toast own added s other seat (jobs.Reading n snapshot read) differ restored leaves runs unheld apart old = (
  works_left held tables later t toast n seat.state restored old.0,
  restored_at tables later t toast n (λ (table : Table). ReadIsSound xacts snaps table other seat read) restored
      (λ is. read_stays xacts snaps (table_at tables n) toast own added s other seat read differ (subst (λ (k : ℕ). StepLeaves own added s (table_at tables k).toast toast) (sym is) leaves) runs (subst (λ (k : ℕ). (id : ℕ) → added ≡ Some id → IsUnheld xacts snaps (table_at tables k) id) (sym is) unheld)) old.1,
)
job_left xacts snaps ids held tables later t toast own added s other seat (jobs.Writing n write) differ restored leaves runs unheld apart old = (
  works_left held tables later t toast n seat.state restored old.0,
  restored_at tables later t toast n (λ (table : Table). WriteIsSound xacts snaps ids held table other n seat.state write) restored
      (λ is. write_stays xacts snaps ids held (table_at tables n) toast own added s other n seat.state write differ (subst (λ (k : ℕ). StepLeaves own added s (table_at tables k).toast toast) (sym is) leaves) (apart.each write (ap (λ (k : ℕ). jobs.Writing k write) is))) old.1,
)

handle_left : (xacts : Xacts) (snaps : Snaps) (held : SessionLocks) (tables later : List Table) (t : ℕ) (toast : Store) (own : Option ℕ) (handle : Handle) → Restored tables later t toast → HandleIsSound xacts snaps held tables own handle → HandleIsSound xacts snaps held later own handle
handle_left xacts snaps held tables later t toast own handle restored old =
    let count = restored.count in
    let within = old.of_table.within in
    record {
      of_table = record { from_one = old.of_table.from_one; within = omega (arith, count, within) };
      used = old.used;
      kept = λ pointer e. restored_at tables later t toast handle.table (λ (table : Table). KeepsPointer xacts snaps table (handle.snapshot ∷ []) own pointer) restored
          (λ is before. record { tid = before.tid; version = before.version; there = before.there; holds = before.holds; seen = before.seen }) (old.kept pointer e);
      most = old.most;
    }

-- handles and views rest on rows alone
pub handles_left : (xacts : Xacts) (snaps : Snaps) (held : SessionLocks) (tables later : List Table) (t : ℕ) (toast : Store) (seat : Seat) → Restored tables later t toast → HandlesAreSound xacts snaps held tables seat → HandlesAreSound xacts snaps held later seat
handles_left xacts snaps held tables later t toast seat restored old = record {
  outside = old.outside;
  named = old.named;
  each = λ handle e. handle_left xacts snaps held tables later t toast (xid_of seat.state) handle restored (old.each handle e);
}

pub view_left : (xacts : Xacts) (snaps : Snaps) (held : SessionLocks) (tables later : List Table) (t : ℕ) (toast : Store) (state : State) → Restored tables later t toast → ViewIsSound xacts snaps held tables state → ViewIsSound xacts snaps held later state
view_left xacts snaps held tables later t toast state restored old = record {
  level = old.level;
  claimed = λ snapshot own row e f g. subst (λ (rows : Relation). IsViewNow xacts snapshot own rows.pages row.key) (sym (rows_restored tables later t toast row.table restored)) (old.claimed snapshot own row e f g);
}

pins_left : (own added : Option ℕ) (s other : ℕ) (tables later : List Table) (t : ℕ) (toast : Store) (job : Job) → other ≢ s → Restored tables later t toast → StepLeaves own added s (table_at tables t).toast toast → PinsAreSound tables other job → PinsAreSound later other job
pins_left own added s other tables later t toast job differ restored leaves old = record {
  each = λ n leaf. restored_at tables later t toast n (λ (table : Table). pin_of table.toast.index.pins other ≡ Some leaf → MayPin n job) restored
      (λ is before e. before (sym (subst (λ (k : ℕ). pin_of toast.index.pins other ≡ pin_of (table_at tables k).toast.index.pins other) (sym is) (leaves.pins other differ)) ∙ e)) (old.each n leaf);
}

-- what is true of a session is true where another's step has changed a table's store
pub seat_left : (xacts : Xacts) (snaps : Snaps) (ids : Pool) (held : SessionLocks) (tables later : List Table) (t : ℕ) (toast : Store) (own added : Option ℕ) (s other : ℕ) (seat : Seat) → other ≢ s → Restored tables later t toast
    → StepLeaves own added s (table_at tables t).toast toast → Runs xacts (xid_of seat.state) → ((id : ℕ) → added ≡ Some id → IsUnheld xacts snaps (table_at tables t) id) → AreApartIn own t seat.job
    → SeatIsSound xacts snaps ids held tables other seat → SeatIsSound xacts snaps ids held later other seat
seat_left xacts snaps ids held tables later t toast own added s other seat differ restored leaves runs unheld apart old = record {
  runs = old.runs;
  locks = old.locks;
  view = view_left xacts snaps held tables later t toast seat.state restored old.view;
  handles = handles_left xacts snaps held tables later t toast seat restored old.handles;
  job = job_left xacts snaps ids held tables later t toast own added s other seat seat.job differ restored leaves runs unheld apart old.job;
  pins = pins_left own added s other tables later t toast seat.job differ restored leaves old.pins;
  hands = old.hands;
}
