-- Every other session goes on as it was where a step of one session's read changes that session's pin in a table.
use Rattle.std.proofs.Common.{ap, arith, refl, subst, sym, ◌∙◌}
use Rattle.std.specs.Prelude.{IfSome, IsSome, List, None, Option, Some, [], length, ℕ, ◌∷◌, ◌≡◌, ◌≢◌}
use Rattle.external_pointer.specs.declared.external.Pointer.{Pointer}
use Rattle.tuple_layout.specs.Schemas.{TableSchema}
use Rattle.tuple_layout.specs.declared.cell.Stored.{Stored}
use Rattle.slot_page.specs.declared.line.Tid.{Tid}
use Rattle.xact_status.specs.Xacts.{Xacts}
use Rattle.snapshot_registry.specs.Snapshots.{Snaps}
use Rattle.row_versions.specs.Relations.{Relation}
use Rattle.chunk_relation.specs.declared.chunk.Chunk.{Chunk}
use Rattle.chunk_index.specs.Pinned.{pin_of}
use Rattle.chunk_index.specs.declared.entry.Pin.{Pin}
use Rattle.value_ids.specs.Ids.{Pool}
use Rattle.change_log.specs.Logs.{LogState}
use Rattle.lock_table.specs.declared.held.SessionLocks.{SessionLocks}
use Rattle.toast_store.proofs.Walked.{can_still}
use Rattle.toast_store.specs.Fetches.{Fetching}
use Rattle.toast_store.specs.Marks.{Marking}
use Rattle.toast_store.specs.PieceJobs.{HasPut, PiecesStandAt, Piecing, chunk_of}
use Rattle.toast_store.specs.Saves.{Drawing, IsSaved, Laying, Saving, Stage, StandsAt, pieces_of}
use Rattle.toast_store.specs.Stores.{Store}
use Rattle.toast_store.specs.Walks.{CanStep, Walking}
use Rattle.toast_store.specs.declared.piece_job.PieceStage.{PieceStage}
use Rattle.command_set.specs.declared.Reply.{Reply}
use Rattle.table_rows.specs.Views.{IsViewNow}
use Rattle.table_state.specs.declared.table.Table.{Table}
use Rattle.read_steps.specs.Reads.{Reading, fetch_due}
use Rattle.write_steps.specs.Standing.{AreSaved}
use Rattle.write_steps.specs.Writes.{Writing, new_save, parts_of}
use Rattle.write_steps.specs.declared.stage.Owner.{Owner}
use Rattle.write_steps.specs.declared.stage.WriteStage.{WriteStage}
use Rattle.core_state.proofs.Readers.{reply_same}
use Rattle.core_state.specs.Commands.{IsFitting}
use Rattle.core_state.specs.Facts.{HandleIsSound, JobIsSound, KeepsId, KeepsPointer, PinsAreSound, ReadIsSound, SeatIsSound, ViewIsSound, WorksOn, WriteIsSound}
use Rattle.core_state.specs.State.{schemas_of, table_at, uses_of, xid_of}
use Rattle.core_state.specs.declared.seat.Handle.{Handle}
use Rattle.core_state.specs.declared.seat.Job.{Job}
use Rattle.core_state.specs.declared.seat.Seat.{Seat}
use Rattle.core_state.specs.declared.seat.State.{State}
use Rattle.core_state.specs.declared.seat.Job.TheVariants as jobs
use Rattle.toast_store.specs.declared.piece_job.PieceStage.TheVariants as pieces
use Rattle.write_steps.specs.Standing as write_standing
use Rattle.write_steps.specs.declared.stage.WriteStage.TheVariants as stages

-- a store, and a table, with other pins
abbrev pub with_pins : Store → List Pin → Store
with_pins store pins = record store { index = record store.index { pins = pins } }

abbrev pub repinned : Table → List Pin → Table
repinned table pins = record table { toast = with_pins table.toast pins }

-- of all sessions but one the pins are the same
pub record SamePins (pins later : List Pin) (s : ℕ) : Type 0 where
  pub others : (o : ℕ) → o ≢ s → pin_of later o ≡ pin_of pins o

-- ---- what a read relies on

can_repinned : (store : Store) (pins : List Pin) (s : ℕ) (walk : Walking) → walk.session ≢ s → SamePins store.index.pins pins s → CanStep store.index walk → CanStep (record store.index { pins = pins }) walk
can_repinned store pins s walk differ same old = can_still store.index (record store.index { pins = pins }) walk (same.others walk.session differ) old

fetch_repinned : (store : Store) (pins : List Pin) (s o : ℕ) (f : Option Fetching) → o ≢ s → SamePins store.index.pins pins s → IfSome f (λ (fetch : Fetching). Walking.session (Fetching.walk fetch) ≡ o)
    → IfSome f (λ (fetch : Fetching). CanStep store.index (Fetching.walk fetch)) → IfSome f (λ (fetch : Fetching). CanStep (record store.index { pins = pins }) (Fetching.walk fetch))
fetch_repinned store pins s o None differ same walks old = tt
fetch_repinned store pins s o (Some fetch) differ same walks old = can_repinned store pins s (Fetching.walk fetch) (λ e. differ (sym walks ∙ e)) same old

pub keeps_repinned : (xacts : Xacts) (snaps : Snaps) (table : Table) (pins : List Pin) (uses : List ℕ) (own : Option ℕ) (value_id : ℕ) → KeepsId xacts snaps table uses own value_id → KeepsId xacts snaps (repinned table pins) uses own value_id
keeps_repinned xacts snaps table pins uses own value_id old = record { tid = old.tid; version = old.version; there = old.there; holds = old.holds; seen = old.seen }

read_repinned : (xacts : Xacts) (snaps : Snaps) (table : Table) (pins : List Pin) (s o : ℕ) (seat : Seat) (read : Reading) → o ≢ s → SamePins table.toast.index.pins pins s → ReadIsSound xacts snaps table o seat read → ReadIsSound xacts snaps (repinned table pins) o seat read
read_repinned xacts snaps table pins s o seat read differ same old = record {
  session = old.session;
  walk = old.walk;
  can = record { under_way = old.can.under_way; can_step = fetch_repinned table.toast pins s o (fetch_due read) differ same old.walk old.can.can_step };
  comes = subst (λ (r : Option Reply). IsSome r) (sym (reply_same table.toast (with_pins table.toast pins) read.session read.stage (λ fetch. refl))) old.comes;
  batch = old.batch;
  kept = λ value_id e. keeps_repinned xacts snaps table pins (uses_of seat) (xid_of seat.state) value_id (old.kept value_id e);
}

-- ---- what a write relies on

put_repinned : (store : Store) (pins : List Pin) (chunk : Chunk) (tid : Tid) → HasPut store chunk tid → HasPut (with_pins store pins) chunk tid
put_repinned store pins chunk tid old = record { there = old.there; unnamed = old.unnamed }

pieces_repinned : (store : Store) (pins : List Pin) (job : Piecing) (at : PieceStage) → PiecesStandAt store job at → PiecesStandAt (with_pins store pins) job at
pieces_repinned store pins job (pieces.Putting seq) old = old
pieces_repinned store pins job (pieces.Indexing seq tid) old = (old.0, put_repinned store pins (chunk_of job seq) tid old.1)
pieces_repinned store pins job pieces.Over old = old

save_repinned : (store : Store) (pins : List Pin) (ids : Pool) (save : Saving) (stage : Stage) → StandsAt store ids save stage → StandsAt (with_pins store pins) ids save stage
save_repinned store pins ids save Drawing old = tt
save_repinned store pins ids save (Laying value_id at) old = record { in_hand = old.in_hand; pieces = pieces_repinned store pins (pieces_of save value_id at) at old.pieces }

saved_repinned : (store : Store) (pins : List Pin) (ids : Pool) (save : Saving) (pointer : Pointer) → IsSaved store ids save pointer → IsSaved (with_pins store pins) ids save pointer
saved_repinned store pins ids save pointer old = record { of_table = old.of_table; in_range = old.in_range; whole = record { chunks = old.whole.chunks; size = old.whole.size }; chunks = old.chunks; in_hand = old.in_hand }

are_repinned : (store : Store) (pins : List Pin) (ids : Pool) (owner : Owner) (new : Stored) (plan : List ℕ) (to : ℕ) → AreSaved store ids owner new plan to → AreSaved (with_pins store pins) ids owner new plan to
are_repinned store pins ids owner new plan to old = record {
  out = old.out;
  saved = λ at pointer e f. let before = old.saved at pointer e f in (before.0, saved_repinned store pins ids (new_save owner before.0) pointer before.1);
  apart = old.apart;
}

stands_repinned : (rows : Relation) (toast : Store) (pins : List Pin) (s : ℕ) (ids : Pool) (log : LogState) (owner : Owner) (stage : WriteStage) → owner.session ≢ s → SamePins toast.index.pins pins s
    → write_standing.StandsAt (parts_of rows toast ids log) owner stage → write_standing.StandsAt (parts_of rows (with_pins toast pins) ids log) owner stage
stands_repinned rows toast pins s ids log owner (stages.Saving old new plan at save) differ same stands = record {
  there = stands.there;
  free = same.others owner.session differ ∙ stands.free;
  fits = stands.fits;
  saved = are_repinned toast pins ids owner new plan at stands.saved;
  session = stands.session;
  stands = save_repinned toast pins ids save save.stage stands.stands;
  fresh = stands.fresh;
}
stands_repinned rows toast pins s ids log owner (stages.Put old new plan) differ same stands = record {
  there = stands.there;
  free = same.others owner.session differ ∙ stands.free;
  fits = stands.fits;
  saved = are_repinned toast pins ids owner new plan (length plan) stands.saved;
}
stands_repinned rows toast pins s ids log owner (stages.Remove old) differ same stands = record { there = stands.there; free = same.others owner.session differ ∙ stands.free }
stands_repinned rows toast pins s ids log owner (stages.Marking dropped at mark) differ same stands = record {
  session = stands.session;
  can = can_repinned toast pins s (Marking.walk mark) (λ e. differ (sym stands.session ∙ e)) same stands.can;
  batch = stands.batch;
  marking = record { each = stands.marking.each };
}
stands_repinned rows toast pins s ids log owner stages.Over differ same stands = absurd stands

write_repinned : (xacts : Xacts) (snaps : Snaps) (ids : Pool) (held : SessionLocks) (table : Table) (pins : List Pin) (s o t : ℕ) (state : State) (write : Writing) → o ≢ s → SamePins table.toast.index.pins pins s
    → WriteIsSound xacts snaps ids held table o t state write → WriteIsSound xacts snaps ids held (repinned table pins) o t state write
write_repinned xacts snaps ids held table pins s o t state write differ same old = record {
  own = old.own;
  stands = λ log. stands_repinned table.rows table.toast pins s ids log write.owner write.stage (λ e. differ (sym old.own.session ∙ e)) same (old.stands log);
  rows = record { old = old.rows.old; alone = old.rows.alone };
  new = old.new;
  fresh = record { each = λ value_id e. record { none = (old.fresh.each value_id e).none } };
  dropping = λ pointer e.
      let before = old.dropping pointer e in
      record { tid = before.tid; version = before.version; there = before.there; holds = before.holds; inserted = before.inserted; ended_by = before.ended_by; ended = before.ended };
}

-- ---- tables with other pins of a session

-- tables are as they were but for the pins of a session
pub record Repins (tables later : List Table) (s : ℕ) : Type 0 where
  pub count : length later ≡ length tables
  pub schemas : schemas_of later ≡ schemas_of tables
  pub each : (t : ℕ) → (pins : List Pin) × (table_at later t ≡ repinned (table_at tables t) pins) × SamePins (table_at tables t).toast.index.pins pins s

-- what holds of a table with whatever pins holds of the later one
pub repins_at : (tables later : List Table) (s t : ℕ) (P : Table → Type 0) → Repins tables later s
    → ((pins : List Pin) → SamePins (table_at tables t).toast.index.pins pins s → P (table_at tables t) → P (repinned (table_at tables t) pins)) → P (table_at tables t) → P (table_at later t)
repins_at tables later s t P repins moves old =
    let its = repins.each t in
    subst P (sym its.1) (moves its.0 its.2 old)

pub rows_repinned : (tables later : List Table) (s t : ℕ) → Repins tables later s → (table_at later t).rows ≡ (table_at tables t).rows
rows_repinned tables later s t repins = ap (λ (table : Table). table.rows) (repins.each t).1

pub works_repinned : (held : SessionLocks) (tables later : List Table) (s t : ℕ) (state : State) → Repins tables later s → WorksOn held tables t state → WorksOn held later t state
works_repinned held tables later s t state repins old =
    let count = repins.count in
    let within = old.of_table.within in
    record { of_table = record { from_one = old.of_table.from_one; within = omega (arith, count, within) }; inside = old.inside; used = old.used }

job_repinned : (xacts : Xacts) (snaps : Snaps) (ids : Pool) (held : SessionLocks) (tables later : List Table) (s o : ℕ) (seat : Seat) (job : Job) → o ≢ s → Repins tables later s
    → JobIsSound xacts snaps ids held tables o seat job → JobIsSound xacts snaps ids held later o seat job
job_repinned xacts snaps ids held tables later s o seat jobs.Idle differ repins old = tt
job_repinned xacts snaps ids held tables later s o seat (jobs.Submitted command) differ repins old = subst (λ (schemas : List TableSchema). IsFitting schemas command) (sym repins.schemas) old
job_repinned xacts snaps ids held tables later s o seat (jobs.Reading t snapshot read) differ repins old = (
  works_repinned held tables later s t seat.state repins old.0,
  repins_at tables later s t (λ (table : Table). ReadIsSound xacts snaps table o seat read) repins (λ pins same. read_repinned xacts snaps (table_at tables t) pins s o seat read differ same) old.1,
)
job_repinned xacts snaps ids held tables later s o seat (jobs.Writing t write) differ repins old = (
  works_repinned held tables later s t seat.state repins old.0,
  repins_at tables later s t (λ (table : Table). WriteIsSound xacts snaps ids held table o t seat.state write) repins (λ pins same. write_repinned xacts snaps ids held (table_at tables t) pins s o t seat.state write differ same) old.1,
)

pub handle_repinned : (xacts : Xacts) (snaps : Snaps) (held : SessionLocks) (tables later : List Table) (s : ℕ) (own : Option ℕ) (handle : Handle) → Repins tables later s → HandleIsSound xacts snaps held tables own handle → HandleIsSound xacts snaps held later own handle
handle_repinned xacts snaps held tables later s own handle repins old =
    let count = repins.count in
    let within = old.of_table.within in
    record {
      of_table = record { from_one = old.of_table.from_one; within = omega (arith, count, within) };
      used = old.used;
      kept = λ pointer e. repins_at tables later s handle.table (λ (table : Table). KeepsPointer xacts snaps table (handle.snapshot ∷ []) own pointer) repins
          (λ pins same before. record { tid = before.tid; version = before.version; there = before.there; holds = before.holds; seen = before.seen }) (old.kept pointer e);
      most = old.most;
    }

pub view_repinned : (xacts : Xacts) (snaps : Snaps) (held : SessionLocks) (tables later : List Table) (s : ℕ) (state : State) → Repins tables later s → ViewIsSound xacts snaps held tables state → ViewIsSound xacts snaps held later state
view_repinned xacts snaps held tables later s state repins old = record {
  level = old.level;
  claimed = λ snapshot own row e f g. subst (λ (rows : Relation). IsViewNow xacts snapshot own rows.pages row.key) (sym (rows_repinned tables later s row.table repins)) (old.claimed snapshot own row e f g);
}

-- the pin of another session in a table is the same
pub pin_stays : (tables later : List Table) (s o t : ℕ) → o ≢ s → Repins tables later s → pin_of (table_at later t).toast.index.pins o ≡ pin_of (table_at tables t).toast.index.pins o
pin_stays tables later s o t differ repins =
    let its = repins.each t in
    ap (λ (table : Table). pin_of table.toast.index.pins o) its.1 ∙ its.2.others o differ

pins_repinned : (tables later : List Table) (s o : ℕ) (job : Job) → o ≢ s → Repins tables later s → PinsAreSound tables o job → PinsAreSound later o job
pins_repinned tables later s o job differ repins old = record { each = λ t leaf e. old.each t leaf (sym (pin_stays tables later s o t differ repins) ∙ e) }

-- what is true of a session is true where another's pins have changed
pub seat_repinned : (xacts : Xacts) (snaps : Snaps) (ids : Pool) (held : SessionLocks) (tables later : List Table) (s o : ℕ) (seat : Seat) → o ≢ s → Repins tables later s
    → SeatIsSound xacts snaps ids held tables o seat → SeatIsSound xacts snaps ids held later o seat
seat_repinned xacts snaps ids held tables later s o seat differ repins old = record {
  runs = old.runs;
  locks = old.locks;
  view = view_repinned xacts snaps held tables later s seat.state repins old.view;
  handles = record {
    outside = old.handles.outside;
    named = old.handles.named;
    each = λ handle e. handle_repinned xacts snaps held tables later s (xid_of seat.state) handle repins (old.handles.each handle e);
  };
  job = job_repinned xacts snaps ids held tables later s o seat seat.job differ repins old.job;
  pins = pins_repinned tables later s o seat.job differ repins old.pins;
  hands = old.hands;
}
