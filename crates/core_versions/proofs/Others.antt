-- What is true of another session stays true through a version step of one.
use Rattle.std.proofs.Common.{ap, inl, inr, refl, subst, sym, ◌∙◌}
use Rattle.std.specs.Option.{option_map_or}
use Rattle.std.specs.Prelude.{Contains, List, None, Option, Some, [], false, is_some, map, option_to_list, true, ℕ, ℤ, ◌∷◌, ◌≡◌, ◌≢◌}
use Rattle.list_facts.proofs.Members.{first_in}
use Rattle.external_pointer.specs.declared.external.Pointer.{Pointer}
use Rattle.tuple_layout.specs.Schemas.{TableSchema}
use Rattle.tuple_layout.specs.declared.cell.Cell.{Cell}
use Rattle.tuple_layout.specs.declared.cell.Stored.{Stored}
use Rattle.slot_page.specs.Pages.{item_in, slot_of}
use Rattle.slot_page.specs.Slots.{IsNormal, item_of}
use Rattle.slot_page.specs.declared.line.LinePointer.{LinePointer}
use Rattle.slot_page.specs.declared.line.LinePointer.TheVariants.{Dead, Normal, Unused}
use Rattle.slot_page.specs.declared.line.Tid.{Tid}
use Rattle.xact_status.specs.Versions.{counts_for}
use Rattle.xact_status.specs.Xacts.{Xacts, is_committed, is_running, session_at}
use Rattle.snapshot_registry.specs.Snapshots.{Snaps, is_protected}
use Rattle.value_holders.proofs.Tests.{clash, counts_cases, not_true, protected_running, protected_unended, runs_uncommitted}
use Rattle.value_holders.proofs.VersionSteps.{open_is_protected, version_step_tells}
use Rattle.value_holders.specs.Laws.{VersionStepTells}
use Rattle.row_versions.specs.Relations.{Pages, Relation}
use Rattle.row_versions.specs.declared.keys.KeyEntry.{KeyEntry}
use Rattle.row_versions.specs.declared.version.Version.{Version}
use Rattle.chunk_index.specs.Pinned.{pin_of}
use Rattle.value_ids.specs.Ids.{Pool}
use Rattle.value_ids.specs.declared.pool.InHand.{InHand}
use Rattle.change_log.specs.Logs.{LogState}
use Rattle.lock_table.specs.Held.{holds_row}
use Rattle.lock_table.specs.declared.held.SessionLocks.{SessionLocks}
use Rattle.toast_store.specs.Stores.{Store}
use Rattle.table_rows.specs.Steps.{ended_by, stamp_of}
use Rattle.table_rows.specs.Views.{IsViewNow}
use Rattle.table_rows.specs.Worlds.{Own}
use Rattle.table_state.proofs.Ids.{id_from}
use Rattle.table_state.proofs.Places.{holder_from}
use Rattle.table_state.specs.Cells.{cells_in}
use Rattle.table_state.specs.Events.{IsUnheld, with_rows}
use Rattle.table_state.specs.Holders.{holders_of}
use Rattle.table_state.specs.Rows.{has_id}
use Rattle.table_state.specs.Tables.{cells_of}
use Rattle.table_state.specs.declared.table.Table.{Table}
use Rattle.read_steps.specs.Reads.{Reading}
use Rattle.write_steps.specs.Standing.{IsOldThere, StandsAt}
use Rattle.write_steps.specs.Writes.{Writing, parts_of}
use Rattle.write_steps.specs.declared.stage.OldRow.{OldRow}
use Rattle.write_steps.specs.declared.stage.Owner.{Owner}
use Rattle.write_steps.specs.declared.stage.WriteStage.{WriteStage}
use Rattle.core_state.proofs.Lists.{in_append_left}
use Rattle.core_state.specs.Coming.{keys_left, new_left, old_left}
use Rattle.core_state.specs.Commands.{IsFitting}
use Rattle.core_state.specs.Facts.{AreInHand, HandleIsSound, HandlesAreSound, IsDropping, JobIsSound, KeepsPointer, KnowsRows, PinsAreSound, ReadIsSound, SeatIsSound, ViewIsSound, WorksOn, WriteIsSound}
use Rattle.core_state.specs.State.{IsTableOf, table_at, uses_of, xid_of}
use Rattle.core_state.specs.declared.seat.Handle.{Handle}
use Rattle.core_state.specs.declared.seat.Job.{Job}
use Rattle.core_state.specs.declared.seat.Seat.{Seat}
use Rattle.core_state.specs.declared.seat.State.{State}
use Rattle.core_versions.proofs.Hands.{Drawn, Given, Kept, drawn_hand}
use Rattle.core_versions.proofs.Kept.{keeps_id, keeps_pointer}
use Rattle.core_versions.proofs.Steps.{Closed, Closes, IsStep, Put, Stands, Stood}
use Rattle.core_versions.proofs.Tables.{Steps, at_table, toast_same}
use Rattle.core_state.specs.declared.seat.Job.TheVariants as jobs
use Rattle.write_steps.specs.declared.stage.WriteStage.TheVariants as stages

-- session s makes a version step of its transaction x in table t
pub record Acts (xacts : Xacts) (snaps : Snaps) (ids : Pool) (tables later : List Table) (s t x : ℕ) (pages : Pages) (entries : List KeyEntry) (keys : List ℤ) (cells : List Cell) : Type 0 where
  pub runs : session_at xacts x ≡ Some s
  pub steps : Steps tables later t pages entries
  pub step : IsStep t xacts snaps x (table_at tables t) pages entries keys cells
  pub given : (value_id : ℕ) → has_id value_id cells ≡ true → Given xacts snaps ids.in_hand (table_at tables t) s t x value_id

pub running_from : (xacts : Xacts) (x s : ℕ) → session_at xacts x ≡ Some s → is_running xacts x ≡ true
running_from xacts x s runs = ap is_some runs

-- ---- slots and versions

pub normal_item : (line : LinePointer Version) → IsNormal line → (version : Version) × (item_of line ≡ Some version)
normal_item (Normal size version) normal = (version, refl)
normal_item Dead normal = absurd normal
normal_item Unused normal = absurd normal

item_normal : (line : LinePointer Version) (version : Version) → item_of line ≡ Some version → IsNormal line
item_normal (Normal size it) version e = tt
item_normal Dead version e = absurd (cc)
item_normal Unused version e = absurd (cc)

-- ---- any session: its view and its handles

pub view_stepped : (xacts : Xacts) (snaps : Snaps) (ids : Pool) (held : SessionLocks) (tables later : List Table) (s t x n : ℕ) (pages : Pages) (entries : List KeyEntry) (keys : List ℤ) (cells : List Cell) (state : State)
    → Acts xacts snaps ids tables later s t x pages entries keys cells → ((xid : ℕ) → xid_of state ≡ Some xid → session_at xacts xid ≡ Some n)
    → ViewIsSound xacts snaps held tables state → ViewIsSound xacts snaps held later state
view_stepped xacts snaps ids held tables later s t x n pages entries keys cells state acts runs old = record {
  level = old.level;
  claimed = λ snapshot own row e f g.
      at_table tables later t row.table pages entries (λ (table : Table). IsViewNow xacts snapshot own table.rows.pages row.key) acts.steps
      (λ is. acts.step.view snapshot own row.key (running_from xacts own n (runs own f)) (subst (λ (k : ℕ). IsViewNow xacts snapshot own (table_at tables k).rows.pages row.key) is (old.claimed snapshot own row e f g)))
      (λ differ. old.claimed snapshot own row e f g);
}

of_table : (tables later : List Table) (t k : ℕ) (pages : Pages) (entries : List KeyEntry) → Steps tables later t pages entries → IsTableOf tables k → IsTableOf later k
of_table tables later t k pages entries steps old = record { from_one = old.from_one; within = rw (steps.count) old.within }

pub works_stepped : (held : SessionLocks) (tables later : List Table) (t k : ℕ) (pages : Pages) (entries : List KeyEntry) (state : State) → Steps tables later t pages entries → WorksOn held tables k state → WorksOn held later k state
works_stepped held tables later t k pages entries state steps old = record { of_table = of_table tables later t k pages entries steps old.of_table; inside = old.inside; used = old.used }

handle_stepped : (xacts : Xacts) (snaps : Snaps) (ids : Pool) (held : SessionLocks) (tables later : List Table) (s t x : ℕ) (pages : Pages) (entries : List KeyEntry) (keys : List ℤ) (cells : List Cell) (own : Option ℕ) (handle : Handle)
    → Acts xacts snaps ids tables later s t x pages entries keys cells → HandleIsSound xacts snaps held tables own handle → HandleIsSound xacts snaps held later own handle
handle_stepped xacts snaps ids held tables later s t x pages entries keys cells own handle acts old = record {
  of_table = of_table tables later t handle.table pages entries acts.steps old.of_table;
  used = old.used;
  kept = λ pointer e.
      at_table tables later t handle.table pages entries (λ (table : Table). KeepsPointer xacts snaps table (handle.snapshot ∷ []) own pointer) acts.steps
      (λ is. keeps_pointer t xacts snaps x (table_at tables t) pages entries keys cells (handle.snapshot ∷ []) own pointer (running_from xacts x s acts.runs) acts.step
      (subst (λ (k : ℕ). KeepsPointer xacts snaps (table_at tables k) (handle.snapshot ∷ []) own pointer) is (old.kept pointer e)))
      (λ differ. old.kept pointer e);
  most = old.most;
}

pub handles_stepped : (xacts : Xacts) (snaps : Snaps) (ids : Pool) (held : SessionLocks) (tables later : List Table) (s t x : ℕ) (pages : Pages) (entries : List KeyEntry) (keys : List ℤ) (cells : List Cell) (seat : Seat)
    → Acts xacts snaps ids tables later s t x pages entries keys cells → HandlesAreSound xacts snaps held tables seat → HandlesAreSound xacts snaps held later seat
handles_stepped xacts snaps ids held tables later s t x pages entries keys cells seat acts old = record {
  outside = old.outside;
  named = old.named;
  each = λ handle e. handle_stepped xacts snaps ids held tables later s t x pages entries keys cells (xid_of seat.state) handle acts (old.each handle e);
}

pins_stepped : (tables later : List Table) (t n : ℕ) (pages : Pages) (entries : List KeyEntry) (job : Job) → Steps tables later t pages entries → PinsAreSound tables n job → PinsAreSound later n job
pins_stepped tables later t n pages entries job steps old = record {
  each = λ k leaf e. old.each k leaf (ap (λ (store : Store). pin_of store.index.pins n) (sym (toast_same tables later t k pages entries steps)) ∙ e);
}

-- ---- a read

read_stepped : (number : ℕ) (xacts : Xacts) (snaps : Snaps) (x : ℕ) (table : Table) (pages : Pages) (entries : List KeyEntry) (keys : List ℤ) (cells : List Cell) (n : ℕ) (seat : Seat) (read : Reading) → is_running xacts x ≡ true → IsStep number xacts snaps x table pages entries keys cells
    → ReadIsSound xacts snaps table n seat read → ReadIsSound xacts snaps (with_rows table pages entries) n seat read
read_stepped number xacts snaps x table pages entries keys cells n seat read runs step old = record {
  session = old.session;
  walk = old.walk;
  can = old.can;
  comes = old.comes;
  batch = old.batch;
  kept = λ value_id e. keeps_id number xacts snaps x table pages entries keys cells (uses_of seat) (xid_of seat.state) value_id runs step (old.kept value_id e);
}

-- ---- a write

-- the slot of the old version that a write relies on
pub old_there : (rows : Relation) (toast : Store) (ids : Pool) (log : LogState) (owner : Owner) (stage : WriteStage) (row : OldRow) → StandsAt (parts_of rows toast ids log) owner stage → old_left stage ≡ Some row → IsNormal (slot_of rows.pages row.tid)
old_there rows toast ids log owner (stages.Saving old new plan at save) row stands e = stands.there row e
old_there rows toast ids log owner (stages.Put old new plan) row stands e = stands.there row e
old_there rows toast ids log owner (stages.Remove old) row stands e = stands.there row e
old_there rows toast ids log owner (stages.Marking dropped at mark) row stands e = absurd (cc)
old_there rows toast ids log owner stages.Over row stands e = absurd (cc)

-- an old version is there still
there_stepped : (number : ℕ) (xacts : Xacts) (snaps : Snaps) (x : ℕ) (table : Table) (pages : Pages) (entries : List KeyEntry) (keys : List ℤ) (cells : List Cell) (old : Option OldRow) → IsStep number xacts snaps x table pages entries keys cells
    → IsOldThere table.rows old → IsOldThere (with_rows table pages entries).rows old
there_stepped number xacts snaps x table pages entries keys cells old step there = λ row e.
    let was = normal_item (slot_of table.rows.pages row.tid) (there row e) in
    elim (step.goes row.tid was.0 was.1) [
      | Stands at ↦ item_normal (slot_of pages row.tid) was.0 at
      | Closes at opened claimed ↦ item_normal (slot_of pages row.tid) (ended_by x was.0) at
    ]

stands_stepped : (number : ℕ) (xacts : Xacts) (snaps : Snaps) (x : ℕ) (table : Table) (pages : Pages) (entries : List KeyEntry) (keys : List ℤ) (cells : List Cell) (ids : Pool) (log : LogState) (owner : Owner) (stage : WriteStage) → IsStep number xacts snaps x table pages entries keys cells
    → StandsAt (parts_of table.rows table.toast ids log) owner stage → StandsAt (parts_of (with_rows table pages entries).rows table.toast ids log) owner stage
stands_stepped number xacts snaps x table pages entries keys cells ids log owner (stages.Saving old new plan at save) step stands = record {
  there = there_stepped number xacts snaps x table pages entries keys cells old step stands.there;
  free = stands.free;
  fits = record { one_each = stands.fits.one_each; limits = stands.fits.limits; size = stands.fits.size };
  saved = stands.saved;
  session = stands.session;
  stands = stands.stands;
  fresh = stands.fresh;
}
stands_stepped number xacts snaps x table pages entries keys cells ids log owner (stages.Put old new plan) step stands = record {
  there = there_stepped number xacts snaps x table pages entries keys cells old step stands.there;
  free = stands.free;
  fits = record { one_each = stands.fits.one_each; limits = stands.fits.limits; size = stands.fits.size };
  saved = stands.saved;
}
stands_stepped number xacts snaps x table pages entries keys cells ids log owner (stages.Remove old) step stands = record { there = there_stepped number xacts snaps x table pages entries keys cells (Some old) step stands.there; free = stands.free }
stands_stepped number xacts snaps x table pages entries keys cells ids log owner (stages.Marking dropped at mark) step stands = stands
stands_stepped number xacts snaps x table pages entries keys cells ids log owner stages.Over step stands = stands

-- the old version's key is one of the keys of a write
old_key_left : (stage : WriteStage) (row : OldRow) → old_left stage ≡ Some row → Contains (keys_left stage) row.stored.key
old_key_left stage row e = rw e (in_append_left (row.stored.key ∷ []) (map (λ (new : Stored). new.key) (option_to_list (new_left stage))) row.stored.key (first_in row.stored.key [] row.stored.key refl))

-- what another writer knows of the rows
rows_stepped : (number : ℕ) (xacts : Xacts) (snaps : Snaps) (ids : Pool) (held : SessionLocks) (x : ℕ) (table : Table) (pages : Pages) (entries : List KeyEntry) (keys : List ℤ) (cells : List Cell) (n t : ℕ) (state : State) (write : Writing) (log : LogState)
    → IsStep number xacts snaps x table pages entries keys cells → is_running xacts write.owner.xid ≡ true → write.owner.xid ≢ x → ((key : ℤ) → Contains keys key → holds_row held.rows (record { table = t; key = key }) ≡ false)
    → WriteIsSound xacts snaps ids held table n t state write → KnowsRows xacts (with_rows table pages entries) write
rows_stepped number xacts snaps ids held x table pages entries keys cells n t state write log step its differ apart old = record {
  old = λ row version e at. elim (step.came row.tid version at) [
    | Stood was ↦ old.rows.old row version e was
    | Put new ↦
        let was = normal_item (slot_of table.rows.pages row.tid) (old_there table.rows table.toast ids log write.owner write.stage row (old.stands log) e) in
        let none = new.free in
        let some = was.1 in
        absurd (some_none (item_in table.rows.pages row.tid) was.0 some none)
    | Closed closed ↦
        let before = old.rows.old row closed.was e closed.there in
        let claimed = old.own.claimed row.stored.key (old_key_left write.stage row e) in
        let free = apart row.stored.key (subst (λ (key : ℤ). Contains keys key) before.0 closed.claimed) in
        absurd (clash (holds_row held.rows (record { table = t; key = row.stored.key })) claimed free)
  ];
  alone = λ stored e f. step.others (Own write.owner.xid) stored.key its (λ same. differ (own_is write.owner.xid x same)) ∙ old.rows.alone stored e f;
}
  where
    some_none : (o : Option Version) (version : Version) → o ≡ Some version → o ≡ None → ⊥
    some_none o version e f = cc

    own_is : (a b : ℕ) → Own a ≡ Own b → a ≡ b
    own_is a b e = cc

-- the new version has no id that another session has drawn
fresh_given : (xacts : Xacts) (snaps : Snaps) (in_hand : List InHand) (table : Table) (s n t x value_id : ℕ) → is_running xacts x ≡ true → AreInHand in_hand → n ≢ s → Contains in_hand (record { table = t; session = n; id = value_id }) → IsUnheld xacts snaps table value_id
    → Given xacts snaps in_hand table s t x value_id → ⊥
fresh_given xacts snaps in_hand table s n t x value_id runs hands differ mine unheld given = elim given [
  | Drawn his free ↦ differ (hands.once (record { table = t; session = n; id = value_id }) (record { table = t; session = s; id = value_id }) mine his refl refl)
  | Kept tid old there opened has ↦ unheld.none tid (stamp_of old) (record {
    there = holder_from (λ (tuple : List ℕ). has_id value_id (cells_in table.rows.schema.storages tuple)) table.rows.pages tid old there has;
    protected = open_is_protected xacts snaps x (stamp_of old) runs opened;
  })
]

tells : VersionStepTells Tid
tells = version_step_tells

-- a version that a running transaction has ended must be kept
dropping_protected : (xacts : Xacts) (snaps : Snaps) (y inserter : ℕ) (ender : Option ℕ) → is_running xacts y ≡ true → counts_for xacts (Some y) inserter ≡ true → ender ≡ Some y → is_protected xacts snaps inserter ender ≡ true
dropping_protected xacts snaps y inserter ender its inserted ended = elim (counts_cases xacts y inserter inserted) [
  | inl same ↦ protected_running xacts snaps inserter ender (ap (is_running xacts) (sym same) ∙ its)
  | inr committed ↦ protected_unended xacts snaps inserter ender committed (ap (λ (o : Option ℕ). option_map_or (is_committed xacts) o false) ended ∙ not_true (is_committed xacts y) (λ c. runs_uncommitted xacts y its c))
]

-- nor one of a value that another has dropped
dropped_given : (xacts : Xacts) (snaps : Snaps) (in_hand : List InHand) (table : Table) (s t x y : ℕ) (pointer : Pointer) → is_running xacts x ≡ true → is_running xacts y ≡ true → IsDropping xacts snaps table y pointer
    → Given xacts snaps in_hand table s t x pointer.value_id → ⊥
dropped_given xacts snaps in_hand table s t x y pointer runs its old given = elim given [
  | Drawn his unheld ↦ unheld.none old.tid (stamp_of old.version) (record {
    there = holder_from (λ (tuple : List ℕ). has_id pointer.value_id (cells_in table.rows.schema.storages tuple)) table.rows.pages old.tid old.version old.there (id_from pointer.value_id (cells_of table old.version) pointer refl old.holds);
    protected = dropping_protected xacts snaps y old.version.inserter old.version.ender its old.inserted old.ended_by;
  })
  | Kept tid held there opened has ↦ tells.closed xacts snaps (holders_of table.rows.schema.storages table.rows.pages pointer.value_id) y x tid (stamp_of held) its runs old.ended
      (holder_from (λ (tuple : List ℕ). has_id pointer.value_id (cells_in table.rows.schema.storages tuple)) table.rows.pages tid held there has) opened
]

dropping_stepped : (number : ℕ) (xacts : Xacts) (snaps : Snaps) (x : ℕ) (table : Table) (pages : Pages) (entries : List KeyEntry) (keys : List ℤ) (cells : List Cell) (y : ℕ) (pointer : Pointer) → IsStep number xacts snaps x table pages entries keys cells
    → is_running xacts y ≡ true → (has_id pointer.value_id cells ≡ true → ⊥) → IsDropping xacts snaps table y pointer → IsDropping xacts snaps (with_rows table pages entries) y pointer
dropping_stepped number xacts snaps x table pages entries keys cells y pointer step its other old = record {
  tid = old.tid;
  version = old.version;
  there = elim (step.goes old.tid old.version old.there) [
    | Stands at ↦ at
    | Closes at opened claimed ↦ absurd (clash (is_running xacts y) its (opened.unended.not_ending y old.ended_by))
  ];
  holds = old.holds;
  inserted = old.inserted;
  ended_by = old.ended_by;
  ended = step.ended pointer.value_id y its (not_true (has_id pointer.value_id cells) other) old.ended;
}

write_stepped : (xacts : Xacts) (snaps : Snaps) (ids : Pool) (held : SessionLocks) (tables later : List Table) (s t x : ℕ) (pages : Pages) (entries : List KeyEntry) (keys : List ℤ) (cells : List Cell) (n : ℕ) (state : State) (write : Writing) (log : LogState)
    → Acts xacts snaps ids tables later s t x pages entries keys cells → AreInHand ids.in_hand → n ≢ s → session_at xacts write.owner.xid ≡ Some n → ((key : ℤ) → Contains keys key → holds_row held.rows (record { table = t; key = key }) ≡ false)
    → WriteIsSound xacts snaps ids held (table_at tables t) n t state write → WriteIsSound xacts snaps ids held (with_rows (table_at tables t) pages entries) n t state write
write_stepped xacts snaps ids held tables later s t x pages entries keys cells n state write log acts hands differ its apart old =
    let runs = running_from xacts x s acts.runs in
    let mine = running_from xacts write.owner.xid n its in
    record {
      own = old.own;
      stands = λ any. stands_stepped t xacts snaps x (table_at tables t) pages entries keys cells ids any write.owner write.stage acts.step (old.stands any);
      rows = rows_stepped t xacts snaps ids held x (table_at tables t) pages entries keys cells n t state write log acts.step mine (λ same. differ (session_is n s (sym its ∙ ap (session_at xacts) same ∙ acts.runs))) apart old;
      new = old.new;
      fresh = record {
        each = λ value_id e.
            let hand = in_hand value_id (drawn_hand (parts_of (table_at tables t).rows (table_at tables t).toast ids log) write.owner write.stage value_id old.own.stage (old.stands log) e) in
            acts.step.unheld value_id
            (not_true (has_id value_id cells) (λ has. fresh_given xacts snaps ids.in_hand (table_at tables t) s n t x value_id runs hands differ hand (old.fresh.each value_id e) (acts.given value_id has)))
            (old.fresh.each value_id e);
      };
      dropping = λ pointer e. dropping_stepped t xacts snaps x (table_at tables t) pages entries keys cells write.owner.xid pointer acts.step mine
          (λ has. dropped_given xacts snaps ids.in_hand (table_at tables t) s t x write.owner.xid pointer runs mine (old.dropping pointer e) (acts.given pointer.value_id has)) (old.dropping pointer e);
    }
  where
    session_is : (a b : ℕ) → Some a ≡ Some b → a ≡ b
    session_is a b e = cc

    in_hand : (value_id : ℕ) → Contains ids.in_hand (record { table = write.owner.table; session = write.owner.session; id = value_id }) → Contains ids.in_hand (record { table = t; session = n; id = value_id })
    in_hand value_id e =
        subst (λ (k : ℕ). Contains ids.in_hand (record { table = t; session = k; id = value_id })) old.own.session
        (subst (λ (k : ℕ). Contains ids.in_hand (record { table = k; session = write.owner.session; id = value_id })) old.own.of_table e)

-- ---- a job, and a session

job_stepped : (xacts : Xacts) (snaps : Snaps) (ids : Pool) (held : SessionLocks) (tables later : List Table) (s t x : ℕ) (pages : Pages) (entries : List KeyEntry) (keys : List ℤ) (cells : List Cell) (n : ℕ) (seat : Seat) (log : LogState) (job : Job)
    → Acts xacts snaps ids tables later s t x pages entries keys cells → AreInHand ids.in_hand → n ≢ s → ((xid : ℕ) → xid_of seat.state ≡ Some xid → session_at xacts xid ≡ Some n) → ((key : ℤ) → Contains keys key → holds_row held.rows (record { table = t; key = key }) ≡ false)
    → JobIsSound xacts snaps ids held tables n seat job → JobIsSound xacts snaps ids held later n seat job
job_stepped xacts snaps ids held tables later s t x pages entries keys cells n seat log jobs.Idle acts hands differ its apart old = tt
job_stepped xacts snaps ids held tables later s t x pages entries keys cells n seat log (jobs.Submitted command) acts hands differ its apart old = subst (λ (schemas : List TableSchema). IsFitting schemas command) (sym acts.steps.schemas) old
job_stepped xacts snaps ids held tables later s t x pages entries keys cells n seat log (jobs.Reading k snapshot read) acts hands differ its apart old = (
  works_stepped held tables later t k pages entries seat.state acts.steps old.0,
  at_table tables later t k pages entries (λ (table : Table). ReadIsSound xacts snaps table n seat read) acts.steps
      (λ is. read_stepped t xacts snaps x (table_at tables t) pages entries keys cells n seat read (running_from xacts x s acts.runs) acts.step (subst (λ (j : ℕ). ReadIsSound xacts snaps (table_at tables j) n seat read) is old.1))
      (λ other. old.1),
)
job_stepped xacts snaps ids held tables later s t x pages entries keys cells n seat log (jobs.Writing k write) acts hands differ its apart old = (
  works_stepped held tables later t k pages entries seat.state acts.steps old.0,
  at_table tables later t k pages entries (λ (table : Table). WriteIsSound xacts snaps ids held table n k seat.state write) acts.steps
      (λ is. subst (λ (j : ℕ). WriteIsSound xacts snaps ids held (with_rows (table_at tables t) pages entries) n j seat.state write) (sym is)
      (write_stepped xacts snaps ids held tables later s t x pages entries keys cells n seat.state write log acts hands differ (its write.owner.xid old.1.own.xid) apart
      (subst (λ (j : ℕ). WriteIsSound xacts snaps ids held (table_at tables j) n j seat.state write) is old.1)))
      (λ other. old.1),
)

-- what is true of another session stays so
pub seat_stepped : (xacts : Xacts) (snaps : Snaps) (ids : Pool) (held : SessionLocks) (tables later : List Table) (s t x : ℕ) (pages : Pages) (entries : List KeyEntry) (keys : List ℤ) (cells : List Cell) (n : ℕ) (seat : Seat) (log : LogState)
    → Acts xacts snaps ids tables later s t x pages entries keys cells → AreInHand ids.in_hand → n ≢ s → ((key : ℤ) → Contains keys key → holds_row held.rows (record { table = t; key = key }) ≡ false)
    → SeatIsSound xacts snaps ids held tables n seat → SeatIsSound xacts snaps ids held later n seat
seat_stepped xacts snaps ids held tables later s t x pages entries keys cells n seat log acts hands differ apart old = record {
  runs = old.runs;
  locks = old.locks;
  view = view_stepped xacts snaps ids held tables later s t x n pages entries keys cells seat.state acts old.runs old.view;
  handles = handles_stepped xacts snaps ids held tables later s t x pages entries keys cells seat acts old.handles;
  job = job_stepped xacts snaps ids held tables later s t x pages entries keys cells n seat log seat.job acts hands differ old.runs apart old.job;
  pins = pins_stepped tables later t n pages entries seat.job acts.steps old.pins;
  hands = old.hands;
}
