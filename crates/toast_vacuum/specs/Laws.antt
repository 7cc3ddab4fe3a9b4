-- What each event keeps while a vacuum is under way, and what follows from it.
-- A put's inserter and an ender are running transactions of other sessions. `target_at`, `vacuum_at` and `answer_at` are what `Vacuum::step` makes of its target and of the vacuum and what it answers, at the stage where the vacuum stands; CanStep is what it asks.
use Rattle.std.specs.Prelude.{ℕ, ◌≡◌, ◌≢◌, ◌<◌, ◌≤◌, ◌⊎◌, true, false, Option, Some, None, List, Contains, length}
use Rattle.slot_page.specs.declared.line.Tid.{Tid}
use Rattle.slot_page.specs.Slots.{IsDead}
use Rattle.slot_page.specs.Pages.{slot_of, item_in, with_put_on}
use Rattle.xact_status.specs.Xacts.{Xacts, is_running, after_assign, after_commit, after_abort}
use Rattle.chunk_relation.specs.declared.chunk.Chunk.{Chunk}
use Rattle.chunk_relation.specs.Chunks.{chunk_stamp, is_dead_chunk}
use Rattle.chunk_relation.specs.Relations.{AreAssigned, with_ended}
use Rattle.chunk_index.specs.declared.entry.Entry.{Entry}
use Rattle.chunk_index.specs.Pinned.{pin_of, without_pin}
use Rattle.chunk_index.specs.Indexes.{after_batch, bounds_with}
use Rattle.toast_store.specs.Between.{Adds}
use Rattle.toast_store.specs.Stores.{Store, IsStore, Names, NamesChunk}
use Rattle.toast_store.specs.Walks.{Walking, IsStage, MayAsk, batch_left, entry_at, index_walked, new_walk, walk_after}
use Rattle.row_versions.specs.declared.keys.KeyEntry.{KeyEntry}
use Rattle.row_versions.specs.declared.version.Version.{Version}
use Rattle.row_versions.specs.Versions.{is_dead_version, version_stamp}
use Rattle.row_versions.specs.Relations as rows
use Rattle.row_versions.specs.Relations.{Relation, IsRelation, version_in, with_version}
use Rattle.toast_vacuum.specs.declared.stage.Stage.{Stage}
use Rattle.toast_vacuum.specs.declared.stage.Stage.TheVariants.{Sweeping, Ended}
use Rattle.toast_vacuum.specs.declared.stage.VacuumStep.TheVariants as steps
use Rattle.toast_vacuum.specs.Vacuums.{Vacuuming}
use Rattle.toast_vacuum.specs.Machines.{CanStep, answer_at, begun, steps_left, target_at, vacuum_at}
use Rattle.toast_vacuum.specs.Targets.{row_ops, toast_ops}
use Rattle.toast_vacuum.specs.Holds.{IsHorizon, IsSpared, VacuumHolds, RowVacuumHolds, BatchHolds, IsLater, StartHolds}

-- what holds of a store and a vacuum of it
pub record VacuumsStand : Type 0 where
  -- from the start on
  pub begins : (xacts : Xacts) (s : Store) (horizon : ℕ) → IsHorizon xacts horizon → VacuumHolds xacts s (begun horizon (length s.rel.pages))
  -- others put a chunk, end one, add an entry, of which a leaf may be split, ask for a batch, and drop a pin
  pub put : (xacts : Xacts) (s : Store) (v : Vacuuming) (size : ℕ) (chunk : Chunk) → chunk.ender ≡ None → is_running xacts chunk.inserter ≡ true → VacuumHolds xacts s v → VacuumHolds xacts (record s { rel = record s.rel { pages = with_put_on size chunk s.rel.pages } }) v
  pub ended : (xacts : Xacts) (s : Store) (v : Vacuuming) (tid : Tid) (xid : ℕ) → is_running xacts xid ≡ true → VacuumHolds xacts s v → VacuumHolds xacts (record s { rel = record s.rel { pages = with_ended xid s.rel.pages tid } }) v
  pub added : (xacts : Xacts) (old new : Store) (v : Vacuuming) (e : Entry) → Adds old new e → new.index.bounds ≡ bounds_with old.index.bounds old.index.entries e → VacuumHolds xacts old v → VacuumHolds xacts new v
  pub batch : (xacts : Xacts) (s : Store) (v : Vacuuming) (session : ℕ) (wanted : List Entry) → VacuumHolds xacts s v → VacuumHolds xacts (record s { index = after_batch s.index session wanted }) v
  pub unpinned : (xacts : Xacts) (s : Store) (v : Vacuuming) (session : ℕ) → VacuumHolds xacts s v → VacuumHolds xacts (record s { index = record s.index { pins = without_pin s.index.pins session } }) v
  -- a transaction starts, commits or aborts
  pub assigned : (xacts : Xacts) (s : Store) (v : Vacuuming) (session : ℕ) → VacuumHolds xacts s v → VacuumHolds (after_assign xacts session) s v
  pub committed : (xacts : Xacts) (s : Store) (v : Vacuuming) (ends : ℕ) → is_running xacts ends ≡ true → VacuumHolds xacts s v → VacuumHolds (after_commit xacts ends) s v
  pub aborted : (xacts : Xacts) (s : Store) (v : Vacuuming) (ends : ℕ) → is_running xacts ends ≡ true → VacuumHolds xacts s v → VacuumHolds (after_abort xacts ends) s v
  -- the vacuum may make its next step, whichever it is, and makes it; so a slot that it frees is dead, and no entry names it
  pub may_step : (xacts : Xacts) (s : Store) (v : Vacuuming) → AreAssigned xacts s.rel.pages → VacuumHolds xacts s v → CanStep toast_ops xacts v s v.stage
  pub step : (xacts : Xacts) (s : Store) (v : Vacuuming) → IsStore s → VacuumHolds xacts s v → VacuumHolds xacts (target_at toast_ops xacts v s v.stage) (vacuum_at toast_ops xacts v s v.stage)

-- and of the batch of each session
pub record BatchesStand : Type 0 where
  -- before its first step, and where a vacuum begins
  pub new : (s : Store) (value_id first end session : ℕ) (stage : Stage) → BatchHolds s (new_walk value_id first end session) stage
  pub begins : (s : Store) (walk : Walking) (horizon pages : ℕ) → BatchHolds s walk Ended → BatchHolds s walk (Vacuuming.stage (begun horizon pages))
  -- others put a chunk, end one, add an entry, ask for a batch, and drop their pin
  pub put : (s : Store) (walk : Walking) (stage : Stage) (size : ℕ) (chunk : Chunk) → BatchHolds s walk stage → BatchHolds (record s { rel = record s.rel { pages = with_put_on size chunk s.rel.pages } }) walk stage
  pub ended : (s : Store) (walk : Walking) (stage : Stage) (tid : Tid) (xid : ℕ) → BatchHolds s walk stage → BatchHolds (record s { rel = record s.rel { pages = with_ended xid s.rel.pages tid } }) walk stage
  pub added : (old new : Store) (walk : Walking) (stage : Stage) (e : Entry) → Adds old new e → new.index.pins ≡ old.index.pins → BatchHolds old walk stage → BatchHolds new walk stage
  pub batch : (s : Store) (walk : Walking) (stage : Stage) (session : ℕ) (wanted : List Entry) → walk.session ≢ session → pin_of s.index.pins session ≡ None → BatchHolds s walk stage → BatchHolds (record s { index = after_batch s.index session wanted }) walk stage
  pub unpinned : (s : Store) (walk : Walking) (stage : Stage) (session : ℕ) → walk.session ≢ session → BatchHolds s walk stage → BatchHolds (record s { index = record s.index { pins = without_pin s.index.pins session } }) walk stage
  -- the walk's own step, beside a vacuum and without one
  pub walked : (xacts : Xacts) (s : Store) (v : Vacuuming) (walk : Walking) → IsStore s → VacuumHolds xacts s v → IsStage walk.first walk.end walk.stage → MayAsk s.index walk.session walk.stage → BatchHolds s walk v.stage → BatchHolds (record s { index = index_walked s.index walk }) (walk_after s.index walk) v.stage
  pub walked_alone : (s : Store) (walk : Walking) → IsStore s → IsStage walk.first walk.end walk.stage → MayAsk s.index walk.session walk.stage → BatchHolds s walk Ended → BatchHolds (record s { index = index_walked s.index walk }) (walk_after s.index walk) Ended
  -- the vacuum's step, whichever it is
  pub step : (xacts : Xacts) (s : Store) (v : Vacuuming) (walk : Walking) → IsStore s → VacuumHolds xacts s v → BatchHolds s walk v.stage → BatchHolds (target_at toast_ops xacts v s v.stage) walk (Vacuuming.stage (vacuum_at toast_ops xacts v s v.stage))
  -- so each entry still to be taken names a chunk of its id and number or a dead slot, and the one that a walk takes stands in the index: no slot that was freed, and no other value's chunk
  pub named : (s : Store) (walk : Walking) (stage : Stage) (e : Entry) → IsStore s → BatchHolds s walk stage → Contains (batch_left walk.stage) e → Names e (slot_of s.rel.pages e.tid)
  pub taken : (s : Store) (walk : Walking) (stage : Stage) (e : Entry) → IsStore s → BatchHolds s walk stage → entry_at walk.stage ≡ Some e → Contains s.index.entries e × Names e (slot_of s.rel.pages e.tid)

-- what a step of a store's vacuum does and answers
pub record StepsTell : Type 0 where
  -- each chunk stays as it is, or was dead under the horizon in this step and is gone
  pub chunks : (xacts : Xacts) (s : Store) (v : Vacuuming) (t : Tid) → VacuumHolds xacts s v → (item_in (Store.rel (target_at toast_ops xacts v s v.stage)).pages t ≡ item_in s.rel.pages t)
      ⊎ ((chunk : Chunk) × (item_in s.rel.pages t ≡ Some chunk) × (is_dead_chunk xacts v.horizon chunk ≡ true) × (item_in (Store.rel (target_at toast_ops xacts v s v.stage)).pages t ≡ None))
  -- the transactions that chunks name stay ones that were given their xids
  pub given : (xacts : Xacts) (s : Store) (v : Vacuuming) → AreAssigned xacts s.rel.pages → AreAssigned xacts (Store.rel (target_at toast_ops xacts v s v.stage)).pages
  -- `Pinned` names the least session that has the leaf of the cursor pinned, and comes where one has
  pub pinned : (xacts : Xacts) (s : Store) (v : Vacuuming) (from : Option Entry) (session : ℕ) → IsStore s → VacuumHolds xacts s v → v.stage ≡ Sweeping from → answer_at toast_ops v s v.stage ≡ steps.Pinned session
      → (pin_of s.index.pins session ≡ Some from) × ((other : ℕ) → pin_of s.index.pins other ≡ Some from → session ≤ other)
  pub waits : (xacts : Xacts) (s : Store) (v : Vacuuming) (from : Option Entry) (other : ℕ) → IsStore s → VacuumHolds xacts s v → v.stage ≡ Sweeping from → pin_of s.index.pins other ≡ Some from
      → (session : ℕ) × (answer_at toast_ops v s v.stage ≡ steps.Pinned session)
  -- `More` leaves fewer steps, and some; `Done` comes where one is left
  pub last : (s : Store) (v : Vacuuming) (removed : ℕ) → answer_at toast_ops v s v.stage ≡ steps.Done removed → steps_left toast_ops v s ≡ 1
  pub left : (xacts : Xacts) (s : Store) (v : Vacuuming) → IsStore s → VacuumHolds xacts s v → answer_at toast_ops v s v.stage ≡ steps.More
      → (0 < steps_left toast_ops (vacuum_at toast_ops xacts v s v.stage) (target_at toast_ops xacts v s v.stage)) × (steps_left toast_ops (vacuum_at toast_ops xacts v s v.stage) (target_at toast_ops xacts v s v.stage) < steps_left toast_ops v s)

-- what `Done` of a store's vacuum tells, of the store as it then is
pub record DoneTells : Type 0 where
  -- no slot is dead, and each entry names a chunk of its id and number
  pub none_dead : (xacts : Xacts) (s : Store) (v : Vacuuming) (removed : ℕ) → VacuumHolds xacts s v → answer_at toast_ops v s v.stage ≡ steps.Done removed → (t : Tid) → IsDead (slot_of s.rel.pages t) → ⊥
  pub named : (xacts : Xacts) (s : Store) (v : Vacuuming) (removed : ℕ) → IsStore s → VacuumHolds xacts s v → answer_at toast_ops v s v.stage ≡ steps.Done removed → (e : Entry) → Contains s.index.entries e → NamesChunk s.rel.pages e
  -- no chunk has an aborted inserter or a committed ender below the horizon
  pub spared : (xacts : Xacts) (s : Store) (v : Vacuuming) (removed : ℕ) → VacuumHolds xacts s v → answer_at toast_ops v s v.stage ≡ steps.Done removed → (t : Tid) (chunk : Chunk) → item_in s.rel.pages t ≡ Some chunk → IsSpared xacts v.horizon (chunk_stamp chunk)
  -- and none is there that was dead under it by how the transactions stood at the start
  pub gone : (first : Xacts) (s : Store) (v : Vacuuming) (removed : ℕ) → StartHolds chunk_stamp first s.rel.pages v → answer_at toast_ops v s v.stage ≡ steps.Done removed → (t : Tid) (chunk : Chunk) → item_in s.rel.pages t ≡ Some chunk → is_dead_chunk first v.horizon chunk ≡ false

-- what a vacuum of a store has removed since its start stays removed
pub record StartsStand : Type 0 where
  pub begins : (xacts : Xacts) (s : Store) (horizon : ℕ) → StartHolds chunk_stamp xacts s.rel.pages (begun horizon (length s.rel.pages))
  pub put : (first xacts : Xacts) (s : Store) (v : Vacuuming) (size : ℕ) (chunk : Chunk) → IsLater first xacts → chunk.ender ≡ None → is_running xacts chunk.inserter ≡ true → StartHolds chunk_stamp first s.rel.pages v → StartHolds chunk_stamp first (with_put_on size chunk s.rel.pages) v
  pub ended : (first xacts : Xacts) (s : Store) (v : Vacuuming) (tid : Tid) (xid : ℕ) → IsLater first xacts → is_running xacts xid ≡ true → StartHolds chunk_stamp first s.rel.pages v → StartHolds chunk_stamp first (with_ended xid s.rel.pages tid) v
  pub step : (first xacts : Xacts) (s : Store) (v : Vacuuming) → IsLater first xacts → VacuumHolds xacts s v → StartHolds chunk_stamp first s.rel.pages v → StartHolds chunk_stamp first (Store.rel (target_at toast_ops xacts v s v.stage)).pages (vacuum_at toast_ops xacts v s v.stage)
  -- the same of rows
  pub rows_begin : (xacts : Xacts) (s : Relation) (horizon : ℕ) → StartHolds version_stamp xacts s.pages (begun horizon (length s.pages))
  pub rows_put : (first xacts : Xacts) (s : Relation) (v : Vacuuming) (version : Version) → IsLater first xacts → version.ender ≡ None → is_running xacts version.inserter ≡ true → StartHolds version_stamp first s.pages v → StartHolds version_stamp first (Relation.pages (with_version s version)) v
  pub rows_ended : (first xacts : Xacts) (s : Relation) (v : Vacuuming) (tid : Tid) (xid : ℕ) → IsLater first xacts → is_running xacts xid ≡ true → StartHolds version_stamp first s.pages v → StartHolds version_stamp first (Relation.pages (rows.with_ended xid s tid)) v
  pub rows_step : (first xacts : Xacts) (s : Relation) (v : Vacuuming) → IsLater first xacts → RowVacuumHolds xacts s v → StartHolds version_stamp first s.pages v → StartHolds version_stamp first (Relation.pages (target_at row_ops xacts v s v.stage)) (vacuum_at row_ops xacts v s v.stage)
  -- and how the transactions stood stays behind
  pub first : (xacts : Xacts) → IsLater xacts xacts
  pub assigned : (first xacts : Xacts) (session : ℕ) → IsLater first xacts → IsLater first (after_assign xacts session)
  pub committed : (first xacts : Xacts) (ends : ℕ) → is_running xacts ends ≡ true → IsLater first xacts → IsLater first (after_commit xacts ends)
  pub aborted : (first xacts : Xacts) (ends : ℕ) → is_running xacts ends ≡ true → IsLater first xacts → IsLater first (after_abort xacts ends)

-- what holds of a relation of rows and a vacuum of it
pub record RowVacuumsStand : Type 0 where
  pub begins : (xacts : Xacts) (s : Relation) (horizon : ℕ) → IsHorizon xacts horizon → RowVacuumHolds xacts s (begun horizon (length s.pages))
  -- others put a version and end one; a transaction starts, commits or aborts
  pub put : (xacts : Xacts) (s : Relation) (v : Vacuuming) (version : Version) → version.ender ≡ None → is_running xacts version.inserter ≡ true → RowVacuumHolds xacts s v → RowVacuumHolds xacts (with_version s version) v
  pub ended : (xacts : Xacts) (s : Relation) (v : Vacuuming) (tid : Tid) (xid : ℕ) → is_running xacts xid ≡ true → RowVacuumHolds xacts s v → RowVacuumHolds xacts (rows.with_ended xid s tid) v
  pub assigned : (xacts : Xacts) (s : Relation) (v : Vacuuming) (session : ℕ) → RowVacuumHolds xacts s v → RowVacuumHolds (after_assign xacts session) s v
  pub committed : (xacts : Xacts) (s : Relation) (v : Vacuuming) (ends : ℕ) → is_running xacts ends ≡ true → RowVacuumHolds xacts s v → RowVacuumHolds (after_commit xacts ends) s v
  pub aborted : (xacts : Xacts) (s : Relation) (v : Vacuuming) (ends : ℕ) → is_running xacts ends ≡ true → RowVacuumHolds xacts s v → RowVacuumHolds (after_abort xacts ends) s v
  -- the vacuum may make its next step, and makes it
  pub may_step : (xacts : Xacts) (s : Relation) (v : Vacuuming) → rows.AreAssigned xacts s.pages → RowVacuumHolds xacts s v → CanStep row_ops xacts v s v.stage
  pub step : (xacts : Xacts) (s : Relation) (v : Vacuuming) → RowVacuumHolds xacts s v → RowVacuumHolds xacts (target_at row_ops xacts v s v.stage) (vacuum_at row_ops xacts v s v.stage)
  pub given : (xacts : Xacts) (s : Relation) (v : Vacuuming) → rows.AreAssigned xacts s.pages → rows.AreAssigned xacts (Relation.pages (target_at row_ops xacts v s v.stage))
  -- a version stays as it is, or was dead under the horizon in this step and is gone
  pub versions : (xacts : Xacts) (s : Relation) (v : Vacuuming) (t : Tid) → RowVacuumHolds xacts s v → (version_in (target_at row_ops xacts v s v.stage) t ≡ version_in s t)
      ⊎ ((version : Version) × (version_in s t ≡ Some version) × (is_dead_version xacts v.horizon version ≡ true) × (version_in (target_at row_ops xacts v s v.stage) t ≡ None))
  -- `More` leaves fewer steps, and some
  pub left : (xacts : Xacts) (s : Relation) (v : Vacuuming) → RowVacuumHolds xacts s v → answer_at row_ops v s v.stage ≡ steps.More
      → (0 < steps_left row_ops (vacuum_at row_ops xacts v s v.stage) (target_at row_ops xacts v s v.stage)) × (steps_left row_ops (vacuum_at row_ops xacts v s v.stage) (target_at row_ops xacts v s v.stage) < steps_left row_ops v s)
  -- at `Done` no slot is dead, each entry of the key map names a version of its key, no version has an aborted inserter or a committed ender below the horizon, and none is there that was dead under it at the start
  pub none_dead : (xacts : Xacts) (s : Relation) (v : Vacuuming) (removed : ℕ) → RowVacuumHolds xacts s v → answer_at row_ops v s v.stage ≡ steps.Done removed → (t : Tid) → IsDead (slot_of s.pages t) → ⊥
  pub named : (xacts : Xacts) (s : Relation) (v : Vacuuming) (removed : ℕ) → IsRelation s → RowVacuumHolds xacts s v → answer_at row_ops v s v.stage ≡ steps.Done removed → (e : KeyEntry) → Contains s.entries e → (version : Version) × (version_in s e.tid ≡ Some version) × (version.key ≡ e.key)
  pub spared : (xacts : Xacts) (s : Relation) (v : Vacuuming) (removed : ℕ) → RowVacuumHolds xacts s v → answer_at row_ops v s v.stage ≡ steps.Done removed → (t : Tid) (version : Version) → version_in s t ≡ Some version → IsSpared xacts v.horizon (version_stamp version)
  pub gone : (first : Xacts) (s : Relation) (v : Vacuuming) (removed : ℕ) → StartHolds version_stamp first s.pages v → answer_at row_ops v s v.stage ≡ steps.Done removed → (t : Tid) (version : Version) → version_in s t ≡ Some version → is_dead_version first v.horizon version ≡ false
