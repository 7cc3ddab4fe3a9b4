-- A session goes on as it was when another's pin is dropped, or the ids that another has in hand change.
use Rattle.std.proofs.Common.{ap, arith, cond, inl, inr, refl, subst, sym, ◌∙◌}
use Rattle.std.specs.Prelude.{Bool, IfSome, IsSome, List, None, Option, Some, [], false, find, length, not, option_map, true, ℕ, ◌==◌, ◌∷◌, ◌≡◌, ◌⊎◌}
use Rattle.external_pointer.specs.declared.external.Pointer.{Pointer}
use Rattle.tuple_layout.specs.Schemas.{TableSchema}
use Rattle.tuple_layout.specs.declared.cell.Stored.{Stored}
use Rattle.slot_page.specs.declared.line.Tid.{Tid}
use Rattle.xact_status.specs.Xacts.{Xacts}
use Rattle.snapshot_registry.specs.Snapshots.{Snaps}
use Rattle.row_versions.specs.Relations.{Relation}
use Rattle.chunk_relation.specs.declared.chunk.Chunk.{Chunk}
use Rattle.chunk_index.specs.Indexes.{Index}
use Rattle.chunk_index.specs.Leaves.{Leaf}
use Rattle.chunk_index.specs.Pinned.{pin_of, without_pin}
use Rattle.chunk_index.specs.declared.entry.Pin.{Pin}
use Rattle.value_ids.specs.Ids.{Pool}
use Rattle.change_log.specs.Logs.{LogState}
use Rattle.lock_table.specs.declared.held.SessionLocks.{SessionLocks}
use Rattle.toast_store.specs.Fetches.{Fetching}
use Rattle.toast_store.specs.Marks.{Marking}
use Rattle.toast_store.specs.PieceJobs.{HasPut, PiecesStandAt, Piecing, chunk_of}
use Rattle.toast_store.specs.Saves.{Drawing, IsSaved, Laying, Saving, Stage, StandsAt, pieces_of}
use Rattle.toast_store.specs.Stores.{Store}
use Rattle.toast_store.specs.Walks.{CanStep, MayAsk, Walking}
use Rattle.toast_store.specs.declared.piece_job.PieceStage.{PieceStage}
use Rattle.toast_store.specs.declared.walk.WalkStage.{WalkStage}
use Rattle.command_set.specs.declared.Reply.{Reply}
use Rattle.table_rows.specs.Views.{IsViewNow}
use Rattle.table_state.specs.declared.table.Table.{Table}
use Rattle.read_steps.specs.Reads.{Reading, fetch_due}
use Rattle.write_steps.specs.Standing.{AreSaved}
use Rattle.write_steps.specs.Writes.{Writing, new_save, parts_of}
use Rattle.write_steps.specs.declared.stage.Owner.{Owner}
use Rattle.write_steps.specs.declared.stage.WriteStage.{WriteStage}
use Rattle.core_state.proofs.Readers.{reply_same}
use Rattle.core_state.specs.Commands.{IsFitting}
use Rattle.core_state.specs.Facts.{HandleIsSound, JobIsSound, KeepsId, KeepsPointer, PinsAreSound, ReadIsSound, SeatIsSound, WorksOn, WriteIsSound}
use Rattle.core_state.specs.Lines.{table_unpinned}
use Rattle.core_state.specs.State.{schemas_of, table_at, uses_of, xid_of}
use Rattle.core_state.specs.declared.seat.Handle.{Handle}
use Rattle.core_state.specs.declared.seat.Job.{Job}
use Rattle.core_state.specs.declared.seat.Seat.{Seat}
use Rattle.core_state.specs.declared.seat.State.{State}
use Rattle.core_state.specs.declared.seat.Job.TheVariants as jobs
use Rattle.toast_store.specs.declared.piece_job.PieceStage.TheVariants as pieces
use Rattle.toast_store.specs.declared.walk.WalkStage.TheVariants as walks
use Rattle.write_steps.specs.Standing as write_standing
use Rattle.write_steps.specs.declared.stage.WriteStage.TheVariants as stages

-- a store without a session's pin
abbrev pub unpinned : Store → ℕ → Store
unpinned store s = record store { index = record store.index { pins = without_pin store.index.pins s } }

-- who has no pin has none still
no_pin : (pins : List Pin) (s other : ℕ) → pin_of pins other ≡ None → pin_of (without_pin pins s) other ≡ None
no_pin [] s other e = refl
no_pin (pin ∷ pins) s other e = by (not (pin.session == s)) (pin.session == other) refl e (λ rest. no_pin pins s other rest)
  where
    by : (kept found : Bool) → (pin.session == other) ≡ found → option_map (λ (p : Pin). p.leaf) (cond found (Some pin) (find (λ (p : Pin). p.session == other) pins)) ≡ None → (pin_of pins other ≡ None → pin_of (without_pin pins s) other ≡ None)
        → option_map (λ (p : Pin). p.leaf) (find (λ (p : Pin). p.session == other) (cond kept (pin ∷ without_pin pins s) (without_pin pins s))) ≡ None
    by kept true f e rest = absurd (cc)
    by true false f e rest = rw f (rest e)
    by false false f e rest = rest e

may_ask : (index : Index) (s session : ℕ) (stage : WalkStage) → MayAsk index session stage → MayAsk (record index { pins = without_pin index.pins s }) session stage
may_ask index s session walks.Empty old = tt
may_ask index s session (walks.Asking after) old = no_pin index.pins s session old
may_ask index s session (walks.Reading batch at) old = tt
may_ask index s session walks.Over old = tt

can_step : (index : Index) (s : ℕ) (walk : Walking) → CanStep index walk → CanStep (record index { pins = without_pin index.pins s }) walk
can_step index s walk old = (old.0, may_ask index s walk.session walk.stage old.1)

can_fetch : (index : Index) (s : ℕ) (o : Option Fetching) → IfSome o (λ (fetch : Fetching). CanStep index (Fetching.walk fetch)) → IfSome o (λ (fetch : Fetching). CanStep (record index { pins = without_pin index.pins s }) (Fetching.walk fetch))
can_fetch index s None old = tt
can_fetch index s (Some fetch) old = can_step index s (Fetching.walk fetch) old

keeps_unpinned : (xacts : Xacts) (snaps : Snaps) (table : Table) (other : ℕ) (uses : List ℕ) (own : Option ℕ) (value_id : ℕ) → KeepsId xacts snaps table uses own value_id → KeepsId xacts snaps (table_unpinned table other) uses own value_id
keeps_unpinned xacts snaps table other uses own value_id old = record { tid = old.tid; version = old.version; there = old.there; holds = old.holds; seen = old.seen }

read_unpinned : (xacts : Xacts) (snaps : Snaps) (table : Table) (other s : ℕ) (seat : Seat) (read : Reading) → ReadIsSound xacts snaps table s seat read → ReadIsSound xacts snaps (table_unpinned table other) s seat read
read_unpinned xacts snaps table other s seat read old = record {
  session = old.session;
  walk = old.walk;
  can = record { under_way = old.can.under_way; can_step = can_fetch table.toast.index other (fetch_due read) old.can.can_step };
  comes = subst (λ (o : Option Reply). IsSome o) (sym (reply_same table.toast (unpinned table.toast other) read.session read.stage (λ fetch. refl))) old.comes;
  batch = old.batch;
  kept = λ value_id e. keeps_unpinned xacts snaps table other (uses_of seat) (xid_of seat.state) value_id (old.kept value_id e);
}

-- ---- what a write relies on

put_unpinned : (store : Store) (other : ℕ) (chunk : Chunk) (tid : Tid) → HasPut store chunk tid → HasPut (unpinned store other) chunk tid
put_unpinned store other chunk tid old = record { there = old.there; unnamed = old.unnamed }

pieces_unpinned : (store : Store) (other : ℕ) (job : Piecing) (at : PieceStage) → PiecesStandAt store job at → PiecesStandAt (unpinned store other) job at
pieces_unpinned store other job (pieces.Putting seq) old = old
pieces_unpinned store other job (pieces.Indexing seq tid) old = (old.0, put_unpinned store other (chunk_of job seq) tid old.1)
pieces_unpinned store other job pieces.Over old = old

save_unpinned : (store : Store) (other : ℕ) (ids : Pool) (save : Saving) (stage : Stage) → StandsAt store ids save stage → StandsAt (unpinned store other) ids save stage
save_unpinned store other ids save Drawing old = tt
save_unpinned store other ids save (Laying value_id at) old = record { in_hand = old.in_hand; pieces = pieces_unpinned store other (pieces_of save value_id at) at old.pieces }

saved_unpinned : (store : Store) (other : ℕ) (ids : Pool) (save : Saving) (pointer : Pointer) → IsSaved store ids save pointer → IsSaved (unpinned store other) ids save pointer
saved_unpinned store other ids save pointer old = record { of_table = old.of_table; in_range = old.in_range; whole = record { chunks = old.whole.chunks; size = old.whole.size }; chunks = old.chunks; in_hand = old.in_hand }

are_unpinned : (store : Store) (other : ℕ) (ids : Pool) (owner : Owner) (new : Stored) (plan : List ℕ) (to : ℕ) → AreSaved store ids owner new plan to → AreSaved (unpinned store other) ids owner new plan to
are_unpinned store other ids owner new plan to old = record {
  out = old.out;
  saved = λ at pointer e f. let before = old.saved at pointer e f in (before.0, saved_unpinned store other ids (new_save owner before.0) pointer before.1);
  apart = old.apart;
}

stands_unpinned : (rows : Relation) (toast : Store) (other : ℕ) (ids : Pool) (log : LogState) (owner : Owner) (stage : WriteStage) → write_standing.StandsAt (parts_of rows toast ids log) owner stage → write_standing.StandsAt (parts_of rows (unpinned toast other) ids log) owner stage
stands_unpinned rows toast other ids log owner (stages.Saving old new plan at save) stands = record {
  there = stands.there;
  free = no_pin toast.index.pins other owner.session stands.free;
  fits = stands.fits;
  saved = are_unpinned toast other ids owner new plan at stands.saved;
  session = stands.session;
  stands = save_unpinned toast other ids save save.stage stands.stands;
  fresh = stands.fresh;
}
stands_unpinned rows toast other ids log owner (stages.Put old new plan) stands = record {
  there = stands.there;
  free = no_pin toast.index.pins other owner.session stands.free;
  fits = stands.fits;
  saved = are_unpinned toast other ids owner new plan (length plan) stands.saved;
}
stands_unpinned rows toast other ids log owner (stages.Remove old) stands = record { there = stands.there; free = no_pin toast.index.pins other owner.session stands.free }
stands_unpinned rows toast other ids log owner (stages.Marking dropped at mark) stands = record {
  session = stands.session;
  can = can_step toast.index other (Marking.walk mark) stands.can;
  batch = stands.batch;
  marking = record { each = stands.marking.each };
}
stands_unpinned rows toast other ids log owner stages.Over stands = absurd stands

write_unpinned : (xacts : Xacts) (snaps : Snaps) (ids : Pool) (held : SessionLocks) (table : Table) (other s t : ℕ) (state : State) (write : Writing) → WriteIsSound xacts snaps ids held table s t state write → WriteIsSound xacts snaps ids held (table_unpinned table other) s t state write
write_unpinned xacts snaps ids held table other s t state write old = record {
  own = old.own;
  stands = λ log. stands_unpinned table.rows table.toast other ids log write.owner write.stage (old.stands log);
  rows = record { old = old.rows.old; alone = old.rows.alone };
  new = old.new;
  fresh = record { each = λ value_id e. record { none = (old.fresh.each value_id e).none } };
  dropping = λ pointer e.
      let before = old.dropping pointer e in
      record { tid = before.tid; version = before.version; there = before.there; holds = before.holds; inserted = before.inserted; ended_by = before.ended_by; ended = before.ended };
}

-- ---- tables without a session's pin

-- tables are as they were but for a session's pin
pub record Unpins (tables later : List Table) (s : ℕ) : Type 0 where
  pub count : length later ≡ length tables
  pub schemas : schemas_of later ≡ schemas_of tables
  pub each : (t : ℕ) → (table_at later t ≡ table_at tables t) ⊎ (table_at later t ≡ table_unpinned (table_at tables t) s)

-- what holds of a table with and without the pin holds of the later one
pub unpins_at : (tables later : List Table) (s t : ℕ) (P : Table → Type 0) → Unpins tables later s → (P (table_at tables t) → P (table_unpinned (table_at tables t) s)) → P (table_at tables t) → P (table_at later t)
unpins_at tables later s t P unpins moves old = elim (unpins.each t) [
  | inl h ↦ subst P (sym h) old
  | inr h ↦ subst P (sym h) (moves old)
]

works_unpinned : (held : SessionLocks) (tables later : List Table) (other t : ℕ) (state : State) → Unpins tables later other → WorksOn held tables t state → WorksOn held later t state
works_unpinned held tables later other t state unpins old =
    let count = unpins.count in
    let within = old.of_table.within in
    record { of_table = record { from_one = old.of_table.from_one; within = omega (arith, count, within) }; inside = old.inside; used = old.used }

job_unpinned : (xacts : Xacts) (snaps : Snaps) (ids : Pool) (held : SessionLocks) (tables later : List Table) (other s : ℕ) (seat : Seat) (job : Job) → Unpins tables later other → JobIsSound xacts snaps ids held tables s seat job → JobIsSound xacts snaps ids held later s seat job
job_unpinned xacts snaps ids held tables later other s seat jobs.Idle unpins old = tt
job_unpinned xacts snaps ids held tables later other s seat (jobs.Submitted command) unpins old = subst (λ (schemas : List TableSchema). IsFitting schemas command) (sym unpins.schemas) old
job_unpinned xacts snaps ids held tables later other s seat (jobs.Reading t snapshot read) unpins old =
    (works_unpinned held tables later other t seat.state unpins old.0, unpins_at tables later other t (λ (table : Table). ReadIsSound xacts snaps table s seat read) unpins (read_unpinned xacts snaps (table_at tables t) other s seat read) old.1)
job_unpinned xacts snaps ids held tables later other s seat (jobs.Writing t write) unpins old =
    (works_unpinned held tables later other t seat.state unpins old.0, unpins_at tables later other t (λ (table : Table). WriteIsSound xacts snaps ids held table s t seat.state write) unpins (write_unpinned xacts snaps ids held (table_at tables t) other s t seat.state write) old.1)

handle_unpinned : (xacts : Xacts) (snaps : Snaps) (held : SessionLocks) (tables later : List Table) (other : ℕ) (own : Option ℕ) (handle : Handle) → Unpins tables later other → HandleIsSound xacts snaps held tables own handle → HandleIsSound xacts snaps held later own handle
handle_unpinned xacts snaps held tables later other own handle unpins old =
    let count = unpins.count in
    let within = old.of_table.within in
    record {
      of_table = record { from_one = old.of_table.from_one; within = omega (arith, count, within) };
      used = old.used;
      kept = λ pointer e. unpins_at tables later other handle.table (λ (table : Table). KeepsPointer xacts snaps table (handle.snapshot ∷ []) own pointer) unpins
          (λ before. record { tid = before.tid; version = before.version; there = before.there; holds = before.holds; seen = before.seen }) (old.kept pointer e);
      most = old.most;
    }

-- a pin that is left was there
left_pin : (pins : List Pin) (s other : ℕ) (leaf : Leaf) → pin_of (without_pin pins s) other ≡ Some leaf → pin_of pins other ≡ Some leaf ⊎ (pin_of pins other ≡ None → ⊥)
left_pin pins s other leaf e = by (pin_of pins other) refl
  where
    by : (o : Option Leaf) → pin_of pins other ≡ o → (pin_of pins other ≡ Some leaf) ⊎ (pin_of pins other ≡ None → ⊥)
    by None f = absurd (some_or_none (sym (no_pin pins s other f) ∙ e))
      where
        some_or_none : None ≡ Some leaf → ⊥
        some_or_none g = absurd (cc)
    by (Some its) f = inr (λ g. absurd (cc))

some_pin : (o : Option Leaf) → (o ≡ None → ⊥) → (leaf : Leaf) × (o ≡ Some leaf)
some_pin None h = absurd (h refl)
some_pin (Some leaf) h = (leaf, refl)

pins_unpinned : (tables later : List Table) (other s : ℕ) (job : Job) → Unpins tables later other → PinsAreSound tables s job → PinsAreSound later s job
pins_unpinned tables later other s job unpins old = record {
  each = λ t leaf e. elim (unpins.each t) [
    | inl h ↦ old.each t leaf (ap (λ (table : Table). pin_of table.toast.index.pins s) (sym h) ∙ e)
    | inr h ↦
        let left = left_pin (table_at tables t).toast.index.pins other s leaf (ap (λ (table : Table). pin_of table.toast.index.pins s) (sym h) ∙ e) in
        elim left [
          | inl f ↦ old.each t leaf f
          | inr f ↦
              let its = some_pin (pin_of (table_at tables t).toast.index.pins s) f in
              old.each t its.0 its.1
        ]
  ];
}

pub rows_unpinned : (tables later : List Table) (other t : ℕ) → Unpins tables later other → (table_at later t).rows ≡ (table_at tables t).rows
rows_unpinned tables later other t unpins = elim (unpins.each t) [
  | inl h ↦ ap (λ (table : Table). table.rows) h
  | inr h ↦ ap (λ (table : Table). table.rows) h
]

-- what is true of a session is true where another's pin is dropped
pub seat_unpinned : (xacts : Xacts) (snaps : Snaps) (ids : Pool) (held : SessionLocks) (tables later : List Table) (other s : ℕ) (seat : Seat) → Unpins tables later other → SeatIsSound xacts snaps ids held tables s seat → SeatIsSound xacts snaps ids held later s seat
seat_unpinned xacts snaps ids held tables later other s seat unpins old = record {
  runs = old.runs;
  locks = old.locks;
  view = record {
    level = old.view.level;
    claimed = λ snapshot own row e f g. subst (λ (rows : Relation). IsViewNow xacts snapshot own rows.pages row.key) (sym (rows_unpinned tables later other row.table unpins)) (old.view.claimed snapshot own row e f g);
  };
  handles = record {
    outside = old.handles.outside;
    named = old.handles.named;
    each = λ handle e. handle_unpinned xacts snaps held tables later other (xid_of seat.state) handle unpins (old.handles.each handle e);
  };
  job = job_unpinned xacts snaps ids held tables later other s seat seat.job unpins old.job;
  pins = pins_unpinned tables later other s seat.job unpins old.pins;
  hands = old.hands;
}
