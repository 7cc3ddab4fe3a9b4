-- A version step leaves the state that a core stands for: the laws of each stage.
use Rattle.std.proofs.Common.{ap, refl, ◌∙◌}
use Rattle.std.specs.Option.{unwrap_or}
use Rattle.std.specs.Ordering.{int_cmp, is_eq}
use Rattle.std.specs.Prelude.{Bool, List, None, Option, Some, [], false, if◌then◌else◌, map, not, slice_get, true, ℕ, ℤ, ◌-◌, ◌∷◌, ◌≡◌}
use Rattle.external_pointer.specs.declared.external.Pointer.{Pointer}
use Rattle.tuple_layout.specs.Places.{Row}
use Rattle.tuple_layout.specs.Tuples.{tuple}
use Rattle.tuple_layout.specs.declared.Place.{Place}
use Rattle.tuple_layout.specs.declared.cell.Cell.{Cell}
use Rattle.tuple_layout.specs.declared.cell.Stored.{Stored}
use Rattle.xact_status.specs.Versions.{counts_for}
use Rattle.row_versions.specs.Relations.{Pages}
use Rattle.row_versions.specs.declared.keys.KeyEntry.{KeyEntry}
use Rattle.change_log.specs.declared.entry.LogEntry.{LogEntry}
use Rattle.lock_table.specs.Locks.{held_by}
use Rattle.toast_store.specs.Marks.{new_mark}
use Rattle.toast_store.specs.Stores.{Store}
use Rattle.command_set.specs.Changes.{outcome}
use Rattle.command_set.specs.declared.Reply.{Reply}
use Rattle.command_set.specs.declared.state.Change.{Change}
use Rattle.command_set.specs.declared.state.Change.TheVariants.{Insert, Move, Remove, Update}
use Rattle.command_set.specs.declared.state.Plain.{Plain}
use Rattle.table_rows.proofs.Worlds.{key_is}
use Rattle.table_state.specs.Rows.{cell_value}
use Rattle.table_state.specs.declared.table.Table.{Table}
use Rattle.write_steps.specs.Dropped.{dropped_of}
use Rattle.write_steps.specs.Writes.{row_entry}
use Rattle.write_steps.specs.declared.stage.OldRow.{OldRow}
use Rattle.write_steps.specs.declared.stage.Owner.{Owner}
use Rattle.write_steps.specs.declared.stage.WriteStage.{WriteStage}
use Rattle.write_steps.specs.declared.stage.WriteStep.{WriteStep}
use Rattle.core_state.proofs.Seats.{seat_there, seat_written}
use Rattle.core_state.specs.Coming.{changed_row}
use Rattle.core_state.specs.Events.{told_by_write, write_on_by, write_told}
use Rattle.core_state.specs.Facts.{PartsAreSound}
use Rattle.core_state.specs.Lines.{ids_released}
use Rattle.core_state.specs.Moves.{Stays}
use Rattle.core_state.specs.Stands.{Stands, change_logged, coming, pending_of}
use Rattle.core_state.specs.State.{CoreState, is_past_moment, seat_of, table_at}
use Rattle.core_state.specs.Views.{row_at}
use Rattle.core_state.specs.declared.seat.Job.{Job}
use Rattle.core_state.specs.declared.seat.Seat.{Seat}
use Rattle.core_versions.proofs.Goes.{at_stage, step_by}
use Rattle.core_versions.proofs.Keeps.{IsStepOf, IsWriting, acts_of, parts_moved, parts_put, parts_removed, step_moved, step_put, step_removed, table_made, tables_then}
use Rattle.core_versions.proofs.Made.{knows_old, rows_moved, rows_put, rows_removed, world_moved, world_put, world_removed}
use Rattle.core_versions.proofs.Others.{running_from}
use Rattle.core_versions.proofs.Rows.{new_row}
use Rattle.core_versions.proofs.Sound.{stepped}
use Rattle.core_versions.proofs.Stand.{MakesChange, stands_stepped}
use Rattle.core_versions.proofs.Tables.{steps_at, toast_same}
use Rattle.core_versions.proofs.Worlds.{row_moved, row_put, row_removed, row_updated}
use Rattle.change_log.specs.declared.entry.LogEntry.TheVariants as entries
use Rattle.command_set.specs.declared.Reply.TheVariants as replies
use Rattle.core_state.specs.declared.seat.Job.TheVariants as jobs
use Rattle.write_steps.specs.declared.stage.WriteStage.TheVariants as stages
use Rattle.write_steps.specs.declared.stage.WriteStep.TheVariants as writes

-- ---- the change of each step

-- the change that was to come is the one that is made
pub record IsChangeOf (c : CoreState) (t : ℕ) (owner : Owner) (stage : WriteStage) (later : List Table) (entry : LogEntry) : Type 0 where
  pub change : Change
  pub told : change_logged later entry ≡ Some change
  pub coming_was : coming c.tables (jobs.Writing t (at_stage owner stage)) ≡ change ∷ []
  pub world : (p : Place) → row_at later (counts_for c.xacts (Some owner.xid)) p ≡ unwrap_or (outcome (change ∷ []) p) (row_at c.tables (counts_for c.xacts (Some owner.xid)) p)

-- the values of the new row
abbrev new_values : CoreState → ℕ → Stored → Row
new_values c t new = map (cell_value (table_at c.tables t).toast) new.cells

change_put : (c : CoreState) (s t : ℕ) (owner : Owner) (new : Stored) (plan : List ℕ) → IsWriting c s t owner (stages.Put None new plan) → PartsAreSound c
    → IsChangeOf c t owner (stages.Put None new plan) (tables_then c t (rows_put (table_at c.tables t) owner.xid new).pages (rows_put (table_at c.tables t) owner.xid new).entries) (row_entry owner None new)
change_put c s t owner new plan writing parts =
    let rows = rows_put (table_at c.tables t) owner.xid new in
    let later = tables_then c t rows.pages rows.entries in
    let steps = steps_at c.tables t rows.pages rows.entries writing.works.of_table in
    let fresh = new_row c.xacts c.snaps c.ids (held_by c.locks s) (table_at c.tables t) s t (seat_of c s).state owner None new plan c.log writing.write (λ row e. absurd (cc)) (table_made c t writing.works.of_table parts) writing.table in
    record {
      change = Insert t new.key (new_values c t new);
      told =
          ap (λ (n : ℕ). Some (Insert n new.key (map (cell_value (table_at later n).toast) new.cells))) writing.write.own.of_table
          ∙ ap (λ (store : Store). Some (Insert t new.key (map (cell_value store) new.cells))) (toast_same c.tables later t t rows.pages rows.entries steps);
      coming_was = refl;
      world = λ p. row_put c.tables later t rows.pages rows.entries (counts_for c.xacts (Some owner.xid)) new.key (tuple (table_at c.tables t).rows.schema.storages new) (new_values c t new) p steps
          (λ key. world_put c.xacts c.snaps c.ids (held_by c.locks s) (table_at c.tables t) s t (seat_of c s).state owner new plan key writing.write)
          (ap (λ (cells : List Cell). map (cell_value (table_at c.tables t).toast) cells) fresh.cells);
    }

change_moved : (c : CoreState) (s t : ℕ) (owner : Owner) (row : OldRow) (new : Stored) (plan : List ℕ) → IsWriting c s t owner (stages.Put (Some row) new plan) → PartsAreSound c
    → IsChangeOf c t owner (stages.Put (Some row) new plan) (tables_then c t (rows_moved (table_at c.tables t) owner.xid row new).pages (rows_moved (table_at c.tables t) owner.xid row new).entries) (row_entry owner (Some row) new)
change_moved c s t owner row new plan writing parts =
    let rows = rows_moved (table_at c.tables t) owner.xid row new in
    let later = tables_then c t rows.pages rows.entries in
    let steps = steps_at c.tables t rows.pages rows.entries writing.works.of_table in
    let runs = running_from c.xacts owner.xid s writing.runs in
    let knows = knows_old c.xacts c.snaps c.ids (held_by c.locks s) (table_at c.tables t) s t (seat_of c s).state owner (stages.Put (Some row) new plan) c.log writing.write in
    let old = knows row refl in
    let fresh = new_row c.xacts c.snaps c.ids (held_by c.locks s) (table_at c.tables t) s t (seat_of c s).state owner (Some row) new plan c.log writing.write knows (table_made c t writing.works.of_table parts) writing.table in
    let world = λ (key : ℤ). world_moved c.xacts c.snaps c.ids (held_by c.locks s) (table_at c.tables t) s t (seat_of c s).state owner row new plan old.0 key writing.write runs old.1 writing.table in
    let values = ap (λ (cells : List Cell). map (cell_value (table_at c.tables t).toast) cells) fresh.cells in
    record {
      change = changed_row t (Some row) new.key (new_values c t new);
      told =
          ap (λ (n : ℕ). Some (if is_eq (int_cmp row.stored.key new.key) then Update n new.key (map (cell_value (table_at later n).toast) new.cells) else Move n row.stored.key new.key (map (cell_value (table_at later n).toast) new.cells))) writing.write.own.of_table
          ∙ (ap (λ (store : Store). Some (if is_eq (int_cmp row.stored.key new.key) then Update t new.key (map (cell_value store) new.cells) else Move t row.stored.key new.key (map (cell_value store) new.cells))) (toast_same c.tables later t t rows.pages rows.entries steps)
          ∙ turned (is_eq (int_cmp row.stored.key new.key)) (new_values c t new));
      coming_was = refl;
      world = λ p. by (is_eq (int_cmp row.stored.key new.key)) refl p
          (λ same. row_updated c.tables later t rows.pages rows.entries (counts_for c.xacts (Some owner.xid)) row.stored.key new.key (tuple (table_at c.tables t).rows.schema.storages new) (new_values c t new) p steps world same values)
          (row_moved c.tables later t rows.pages rows.entries (counts_for c.xacts (Some owner.xid)) row.stored.key new.key (tuple (table_at c.tables t).rows.schema.storages new) (new_values c t new) p steps world values);
    }
  where
    turned : (b : Bool) (values : Row) → Some (if b then Update t new.key values else Move t row.stored.key new.key values) ≡ Some (if not b then Move t row.stored.key new.key values else Update t new.key values)
    turned true values = refl
    turned false values = refl

    by : (b : Bool) → is_eq (int_cmp row.stored.key new.key) ≡ b → (p : Place)
        → (row.stored.key ≡ new.key → row_at (tables_then c t (rows_moved (table_at c.tables t) owner.xid row new).pages (rows_moved (table_at c.tables t) owner.xid row new).entries) (counts_for c.xacts (Some owner.xid)) p
        ≡ unwrap_or (outcome (Update t new.key (new_values c t new) ∷ []) p) (row_at c.tables (counts_for c.xacts (Some owner.xid)) p))
        → row_at (tables_then c t (rows_moved (table_at c.tables t) owner.xid row new).pages (rows_moved (table_at c.tables t) owner.xid row new).entries) (counts_for c.xacts (Some owner.xid)) p
        ≡ unwrap_or (outcome (Move t row.stored.key new.key (new_values c t new) ∷ []) p) (row_at c.tables (counts_for c.xacts (Some owner.xid)) p)
        → row_at (tables_then c t (rows_moved (table_at c.tables t) owner.xid row new).pages (rows_moved (table_at c.tables t) owner.xid row new).entries) (counts_for c.xacts (Some owner.xid)) p
        ≡ unwrap_or (outcome ((if not b then Move t row.stored.key new.key (new_values c t new) else Update t new.key (new_values c t new)) ∷ []) p) (row_at c.tables (counts_for c.xacts (Some owner.xid)) p)
    by true e p updated moved = updated (key_is row.stored.key new.key e)
    by false e p updated moved = moved

change_removed : (c : CoreState) (s t : ℕ) (owner : Owner) (row : OldRow) → IsWriting c s t owner (stages.Remove row)
    → IsChangeOf c t owner (stages.Remove row) (tables_then c t (rows_removed (table_at c.tables t) owner.xid row).pages (rows_removed (table_at c.tables t) owner.xid row).entries) (entries.Delete owner.xid owner.table row.stored.key)
change_removed c s t owner row writing =
    let rows = rows_removed (table_at c.tables t) owner.xid row in
    let later = tables_then c t rows.pages rows.entries in
    let steps = steps_at c.tables t rows.pages rows.entries writing.works.of_table in
    let runs = running_from c.xacts owner.xid s writing.runs in
    let old = knows_old c.xacts c.snaps c.ids (held_by c.locks s) (table_at c.tables t) s t (seat_of c s).state owner (stages.Remove row) c.log writing.write row refl in
    record {
      change = Remove t row.stored.key;
      told = ap (λ (n : ℕ). Some (Remove n row.stored.key)) writing.write.own.of_table;
      coming_was = refl;
      world = λ p. row_removed c.tables later t rows.pages rows.entries (counts_for c.xacts (Some owner.xid)) row.stored.key p steps (λ key. world_removed t c.xacts c.snaps (table_at c.tables t) owner.xid row old.0 key runs old.1 writing.table);
    }

-- ---- the core then

-- the reply of a write's moment
said_okay : (c : CoreState) (s t : ℕ) (owner : Owner) (stage : WriteStage) (m : Plain) (told : List (Option Reply)) → IsWriting c s t owner stage → Stands c m told → slice_get told (s - 1) ≡ Some (Some replies.Okay)
said_okay c s t owner stage m told writing stands = stands.pending (s - 1) (seat_of c s) replies.Okay (seat_there c.seats s writing.session) (ap (pending_of c.tables) writing.job)

moved_to : (c : CoreState) (s t : ℕ) (owner : Owner) (stage : WriteStage) (pages : Pages) (names : List KeyEntry) (keys : List ℤ) (cells : List Cell) (dropped : List Pointer) (entry : LogEntry) (job : Job)
    → IsWriting c s t owner stage → IsStepOf c s t owner stage pages names keys cells dropped entry → IsChangeOf c t owner stage (tables_then c t pages names) entry → coming (tables_then c t pages names) job ≡ []
    → MakesChange c.xacts c.tables (tables_then c t pages names) owner.xid entry (seat_of c s).job job
moved_to c s t owner stage pages names keys cells dropped entry job writing step makes none =
    record { change = makes.change; by = step.tells.by; told = makes.told; coming_was = ap (coming c.tables) writing.job ∙ makes.coming_was; coming_is = none; world = makes.world }

moved_last : (c : CoreState) (s t : ℕ) (owner : Owner) (stage : WriteStage) (pages : Pages) (names : List KeyEntry) (keys : List ℤ) (cells : List Cell) (dropped : List Pointer) (entry : LogEntry)
    → IsWriting c s t owner stage → IsStepOf c s t owner stage pages names keys cells dropped entry → IsChangeOf c t owner stage (tables_then c t pages names) entry
    → Stays c s (stepped c s (ids_released c.ids s) (tables_then c t pages names) entry jobs.Idle) (told_by_write writes.Done)
moved_last c s t owner stage pages names keys cells dropped entry writing step makes m told stands = (
  stands_stepped c s t owner.xid pages names keys cells (ids_released c.ids s) (tables_then c t pages names) entry jobs.Idle m told writing.session writing.sound
      (acts_of c s t owner stage pages names keys cells dropped writing step.made) writing.write.own.xid
      (moved_to c s t owner stage pages names keys cells dropped entry jobs.Idle writing step makes refl) (λ said e. absurd (cc)) stands,
  (
    said_okay c s t owner stage m told writing stands,
    ap (λ (seat : Seat). seat.job) (seat_written c.seats s (record (seat_of c s) { job = jobs.Idle }) writing.session),
  ),
)

moved_marking : (c : CoreState) (s t : ℕ) (owner : Owner) (stage : WriteStage) (pages : Pages) (names : List KeyEntry) (keys : List ℤ) (cells : List Cell) (dropped : List Pointer) (entry : LogEntry) (first : Pointer)
    → IsWriting c s t owner stage → IsStepOf c s t owner stage pages names keys cells dropped entry → IsChangeOf c t owner stage (tables_then c t pages names) entry
    → Stays c s (stepped c s c.ids (tables_then c t pages names) entry (jobs.Writing t (at_stage owner (stages.Marking dropped 0 (new_mark first owner.xid owner.session))))) (told_by_write writes.More)
moved_marking c s t owner stage pages names keys cells dropped entry first writing step makes m told stands = (
  stands_stepped c s t owner.xid pages names keys cells c.ids (tables_then c t pages names) entry job m told writing.session writing.sound (acts_of c s t owner stage pages names keys cells dropped writing step.made) writing.write.own.xid
      (moved_to c s t owner stage pages names keys cells dropped entry job writing step makes refl) (λ said e. said_okay c s t owner stage m told writing stands ∙ ap Some e) stands,
  ap (λ (seat : Seat). is_past_moment seat.job) (seat_written c.seats s (record (seat_of c s) { job = job }) writing.session),
)
  where
    job : Job
    job = jobs.Writing t (at_stage owner (stages.Marking dropped 0 (new_mark first owner.xid owner.session)))

-- ---- the laws

pub moves_put : (c : CoreState) (s t : ℕ) (owner : Owner) (toast : Store) (old : Option OldRow) (new : Stored) (plan : List ℕ) → IsWriting c s t owner (stages.Put old new plan) → toast ≡ (table_at c.tables t).toast → PartsAreSound c
    → Stays c s (write_on_by c s t (at_stage owner (stages.Put old new plan)) toast (write_told c t (at_stage owner (stages.Put old new plan)))) (told_by_write (write_told c t (at_stage owner (stages.Put old new plan))))
moves_put c s t owner toast None new plan writing left parts =
    let rows = rows_put (table_at c.tables t) owner.xid new in
    let step = step_put c s t owner new plan writing parts in
    let makes = change_put c s t owner new plan writing parts in
    step_by c s t owner (stages.Put None new plan) toast (tables_then c t rows.pages rows.entries) (row_entry owner None new) [] (λ (core : CoreState) (told : WriteStep). Stays c s core (told_by_write told)) refl (parts_put c t owner new plan toast left)
    (moved_last c s t owner (stages.Put None new plan) rows.pages rows.entries (new.key ∷ []) new.cells [] (row_entry owner None new) writing step makes)
    (λ first e. moved_marking c s t owner (stages.Put None new plan) rows.pages rows.entries (new.key ∷ []) new.cells [] (row_entry owner None new) first writing step makes)
moves_put c s t owner toast (Some row) new plan writing left parts =
    let rows = rows_moved (table_at c.tables t) owner.xid row new in
    let step = step_moved c s t owner row new plan writing parts in
    let makes = change_moved c s t owner row new plan writing parts in
    let keys = row.stored.key ∷ new.key ∷ [] in
    step_by c s t owner (stages.Put (Some row) new plan) toast (tables_then c t rows.pages rows.entries) (row_entry owner (Some row) new) (dropped_of row.stored.cells new.cells) (λ (core : CoreState) (told : WriteStep). Stays c s core (told_by_write told)) refl (parts_moved c t owner row new plan toast left)
    (moved_last c s t owner (stages.Put (Some row) new plan) rows.pages rows.entries keys new.cells (dropped_of row.stored.cells new.cells) (row_entry owner (Some row) new) writing step makes)
    (λ first e. moved_marking c s t owner (stages.Put (Some row) new plan) rows.pages rows.entries keys new.cells (dropped_of row.stored.cells new.cells) (row_entry owner (Some row) new) first writing step makes)

pub moves_removed : (c : CoreState) (s t : ℕ) (owner : Owner) (toast : Store) (row : OldRow) → IsWriting c s t owner (stages.Remove row) → toast ≡ (table_at c.tables t).toast → PartsAreSound c
    → Stays c s (write_on_by c s t (at_stage owner (stages.Remove row)) toast (write_told c t (at_stage owner (stages.Remove row)))) (told_by_write (write_told c t (at_stage owner (stages.Remove row))))
moves_removed c s t owner toast row writing left parts =
    let rows = rows_removed (table_at c.tables t) owner.xid row in
    let step = step_removed c s t owner row writing parts in
    let makes = change_removed c s t owner row writing in
    let entry = entries.Delete owner.xid owner.table row.stored.key in
    step_by c s t owner (stages.Remove row) toast (tables_then c t rows.pages rows.entries) entry (dropped_of row.stored.cells []) (λ (core : CoreState) (told : WriteStep). Stays c s core (told_by_write told)) refl (parts_removed c t owner row toast left)
    (moved_last c s t owner (stages.Remove row) rows.pages rows.entries (row.stored.key ∷ []) [] (dropped_of row.stored.cells []) entry writing step makes)
    (λ first e. moved_marking c s t owner (stages.Remove row) rows.pages rows.entries (row.stored.key ∷ []) [] (dropped_of row.stored.cells []) entry first writing step makes)
