-- What the types of a core's parts tell of them is still true after an event.
use Rattle.std.proofs.Common.{ap, arith, cond, inl, inr, refl, subst, sym, ◌∙◌}
use Rattle.std.proofs.lemmas.List.Kept.{IsStrictlySortedBy-filter}
use Rattle.std.specs.Prelude.{Bool, Contains, List, None, Option, Some, [], length, not, slice_index_or, slice_set, suc, true, false, zero, ℕ, ◌-◌, ◌<◌, ◌==◌, ◌∷◌, ◌≡◌}
use Rattle.list_facts.proofs.Members.{cases_in, filter_holds, first_in, later_in, none_in_nil}
use Rattle.xact_status.specs.Xacts.{Xacts}
use Rattle.snapshot_registry.specs.Snapshots.{after_take, least_free}
use Rattle.chunk_index.specs.Pinned.{pin_cmp}
use Rattle.value_ids.proofs.Drawn.{after_within, drawn_within}
use Rattle.value_ids.specs.Ids.{IsPool, Pool}
use Rattle.change_log.specs.declared.entry.LogEntry.{LogEntry}
use Rattle.toast_store.specs.Saves.{IsDrawn, Saving, Stage, drawn_id, ids_after, stage_after}
use Rattle.toast_store.specs.Stores.{Store, is_used}
use Rattle.table_state.specs.declared.table.Table.{Table}
use Rattle.read_steps.specs.Reads.{Reading}
use Rattle.read_steps.specs.declared.stage.ReadStep.{ReadStep}
use Rattle.write_steps.specs.Steps.{IsDrawnAt}
use Rattle.write_steps.specs.Writes.{Parts, Writing, ids_at}
use Rattle.write_steps.specs.declared.stage.WriteStage.{WriteStage}
use Rattle.write_steps.specs.declared.stage.WriteStep.{WriteStep}
use Rattle.core_state.specs.Events.{MomentLine, at_moment, line_due}
use Rattle.core_state.specs.Facts.{IsTableMade, PartsAreSound}
use Rattle.core_state.specs.Lines.{after_end_of, after_use, once_unpinned, seated, table_unpinned, takes_copy, with_snapshot}
use Rattle.core_state.specs.State.{CoreState, IsTableOf, is_repeatable, job_table, no_table, seat_of, table_at}
use Rattle.core_state.specs.declared.advance.Advance.{Advance}
use Rattle.core_state.specs.declared.seat.Job.{Job}
use Rattle.core_state.specs.declared.seat.State.{State}
use Rattle.core_looks.specs.Due.{reply_due}
use Rattle.core_parts.specs.Later.{IsStepMade, StepsBy, lent_at}
use Rattle.core_parts.specs.Steps.{GoesOn, Lent, parts_lent, read_by, write_by}
use Rattle.core_parts.specs.Takes.{locked, with_copy}
use Rattle.core_events.specs.Advanced.{IsAdvanced, IsAdvancedBy}
use Rattle.core_state.specs.Events as lines
use Rattle.core_state.specs.declared.seat.Job.TheVariants as jobs
use Rattle.read_steps.specs.declared.stage.ReadStep.TheVariants as reads
use Rattle.toast_store.specs.Saves as saves
use Rattle.write_steps.specs.declared.stage.WriteStage.TheVariants as stages
use Rattle.write_steps.specs.declared.stage.WriteStep.TheVariants as writes

-- ---- lists

-- what is true of an element that is written and of all before is true of all then
each_set : {T : Type 0} (P : T → Type 0) (xs : List T) (i : ℕ) (y : T) → P y → ((x : T) → Contains xs x → P x) → (x : T) → Contains (slice_set xs i y) x → P x
each_set P [] i y new old x h = absurd (none_in_nil x h)
each_set P (z ∷ zs) zero y new old x h = elim (cases_in y zs x h) [
  | inl e ↦ subst P e new
  | inr e ↦ old x (later_in z zs x e)
]
each_set P (z ∷ zs) (suc i) y new old x h = elim (cases_in z (slice_set zs i y) x h) [
  | inl e ↦ old x (first_in z zs x e)
  | inr e ↦ each_set P zs i y new (λ w f. old w (later_in z zs w f)) x e
]

-- an element at a place is one of the list
item_in : {T : Type 0} (xs : List T) (i : ℕ) (d : T) → i < length xs → Contains xs (slice_index_or xs i d)
item_in [] i d within = absurd (omega (arith, within))
item_in (x ∷ xs) zero d within = first_in x xs x refl
item_in (x ∷ xs) (suc i) d within = later_in x xs (slice_index_or xs i d) (item_in xs i d (omega (arith, within)))

table_in : (tables : List Table) (t : ℕ) → IsTableOf tables t → Contains tables (table_at tables t)
table_in tables zero there = absurd (omega (arith, there.from_one))
table_in tables (suc i) there =
    let within = there.within in
    item_in tables i no_table (omega (arith, within))

-- ---- tables

-- a pin is given up
unpinned_made : (table : Table) (s : ℕ) → IsTableMade table → IsTableMade (table_unpinned table s)
unpinned_made table s made =
    let index = made.toast.index in
    record {
      columns = made.columns;
      rows = made.rows;
      toast = record {
        index = record {
          entries_sorted = index.entries_sorted;
          bounds_sorted = index.bounds_sorted;
          pins_sorted = IsStrictlySortedBy-filter pin_cmp (λ pin. not (pin.session == s)) table.toast.index.pins index.pins_sorted;
          pinned = λ pin held. index.pinned pin (filter_holds (λ pin. not (pin.session == s)) table.toast.index.pins pin held).0;
          within = index.within;
        };
        names = made.toast.names;
        sized = made.toast.sized;
      };
    }

tables_unpinned : (tables : List Table) (s : ℕ) (o : Option ℕ) → ((t : ℕ) → o ≡ Some t → IsTableOf tables t) → ((table : Table) → Contains tables table → IsTableMade table) → (table : Table) → Contains (once_unpinned tables s o) table → IsTableMade table
tables_unpinned tables s None there made = made
tables_unpinned tables s (Some t) there made = each_set IsTableMade tables (t - 1) (table_unpinned (table_at tables t) s) (unpinned_made (table_at tables t) s (made (table_at tables t) (table_in tables t (there t refl)))) made

-- ---- ids

drawn_pool : (store : Store) (ids : Pool) (save : Saving) (stage : Stage) → IsDrawn store ids save stage (stage_after store ids save stage) → IsPool ids → IsPool (ids_after store ids save stage)
drawn_pool store ids save saves.Drawing drawn pool =
    let within = drawn_within (is_used store) ids save.table (drawn_id store ids save) pool drawn in
    let next = after_within ids (drawn_id store ids save) pool within.0 within.1 in
    record { from_low = next.0; to_high = next.1 }
drawn_pool store ids save (saves.Laying value_id at) drawn pool = pool

step_pool : (parts : Parts) (stage : WriteStage) → IsDrawnAt parts stage → IsPool parts.ids → IsPool (ids_at parts.toast parts.ids stage)
step_pool parts (stages.Saving old new plan at save) drawn pool = drawn_pool parts.toast parts.ids save save.stage drawn pool
step_pool parts (stages.Put old new plan) drawn pool = pool
step_pool parts (stages.Remove old) drawn pool = pool
step_pool parts (stages.Marking dropped at mark) drawn pool = pool
step_pool parts stages.Over drawn pool = pool

-- ---- an end

pub parts_ended : (c : CoreState) (s : ℕ) (xacts : Xacts) (end : Option LogEntry) (state : State) → ((t : ℕ) → job_table (seat_of c s).job ≡ Some t → IsTableOf c.tables t) → PartsAreSound c → PartsAreSound (after_end_of c s xacts end state)
parts_ended c s xacts end state there parts = record {
  ids = record { from_low = parts.ids.from_low; to_high = parts.ids.to_high };
  tables = tables_unpinned c.tables s (job_table (seat_of c s).job) there parts.tables;
}

-- ---- a moment

parts_used : (c : CoreState) (s t : ℕ) → PartsAreSound c → PartsAreSound (after_use c s t)
parts_used c s t parts = by (takes_copy (seat_of c s).state)
  where
    by : (b : Bool) → PartsAreSound (cond b (seated (record (locked c s t) { snaps = after_take c.snaps c.xacts }) s (record (seat_of c s) { state = with_snapshot (seat_of c s).state (least_free c.snaps) })) (locked c s t))
    by true = record { ids = parts.ids; tables = parts.tables }
    by false = record { ids = parts.ids; tables = parts.tables }

pub parts_copied : (c : CoreState) (s : ℕ) → PartsAreSound c → PartsAreSound (with_copy c s)
parts_copied c s parts = by (takes_copy (seat_of c s).state)
  where
    by : (b : Bool) → PartsAreSound (cond b (seated (record c { snaps = after_take c.snaps c.xacts }) s (record (seat_of c s) { state = with_snapshot (seat_of c s).state (least_free c.snaps) })) c)
    by true = record { ids = parts.ids; tables = parts.tables }
    by false = parts

parts_read : (c : CoreState) (s t : ℕ) (read : Reading) (b : Bool) → PartsAreSound c
    → PartsAreSound (cond b (seated c s (record (seat_of c s) { job = jobs.Reading t None read })) (seated (record c { snaps = after_take c.snaps c.xacts }) s (record (seat_of c s) { job = jobs.Reading t (Some (least_free c.snaps)) read })))
parts_read c s t read true parts = record { ids = parts.ids; tables = parts.tables }
parts_read c s t read false parts = record { ids = parts.ids; tables = parts.tables }

parts_moment : (c : CoreState) (s : ℕ) (line : MomentLine) → ((t : ℕ) → job_table (seat_of c s).job ≡ Some t → IsTableOf c.tables t) → PartsAreSound c → PartsAreSound (at_moment line c s)
parts_moment c s (lines.Over state) there parts = record { ids = parts.ids; tables = parts.tables }
parts_moment c s (lines.Looked t) there parts =
    let used = parts_used c s t parts in
    record { ids = used.ids; tables = used.tables }
parts_moment c s lines.Committed there parts = parts_ended c s _ _ _ there parts
parts_moment c s (lines.GivenUp state) there parts = parts_ended c s _ _ state there parts
parts_moment c s (lines.ReadBegun t read) there parts = parts_read (after_use c s t) s t read (is_repeatable (seat_of (after_use c s t) s).state) (parts_used c s t parts)
parts_moment c s (lines.FetchBegun t read) there parts = record { ids = parts.ids; tables = parts.tables }
parts_moment c s (lines.WriteBegun t keys write) there parts =
    let used = parts_used c s t parts in
    record { ids = used.ids; tables = used.tables }
parts_moment c s (lines.Opened t name held) there parts =
    let used = parts_used c s t parts in
    record { ids = used.ids; tables = used.tables }
parts_moment c s (lines.Closed handle) there parts = record { ids = parts.ids; tables = parts.tables }

-- ---- a later step

read_pool : (old : Lent) (t : ℕ) (snapshot : Option ℕ) (read : Reading) (step : ReadStep) → (read_by old t snapshot read step).ids ≡ old.ids
read_pool old t snapshot read reads.More = refl
read_pool old t snapshot read (reads.Done reply) = refl

write_pool : (old : Lent) (s t : ℕ) (write : Writing) (parts : Parts) (step : WriteStep) → IsPool parts.ids → IsPool (write_by old s t write parts step).ids
write_pool old s t write parts writes.More pool = pool
write_pool old s t write parts writes.Done pool = record { from_low = pool.from_low; to_high = pool.to_high }

lent_pool : (old : Lent) (s : ℕ) (job : Job) (new : Lent) (advance : Advance) → GoesOn old s job new advance → IsPool old.ids → IsPool new.ids
lent_pool old s jobs.Idle new advance goes pool = absurd goes
lent_pool old s (jobs.Submitted command) new advance goes pool = absurd goes
lent_pool old s (jobs.Reading t snapshot read) new advance goes pool = subst IsPool (sym (ap (λ (x : Lent). x.ids) goes.is ∙ read_pool old t snapshot read _)) pool
lent_pool old s (jobs.Writing t write) new advance goes pool =
    subst (λ (x : Lent). IsPool x.ids) (sym goes.is)
    (write_pool old s t goes.after goes.parts goes.step (subst IsPool (sym goes.steps.ids) (step_pool (parts_lent old) write.stage goes.steps.drawn pool)))

parts_stepped : (c : CoreState) (s : ℕ) (new : CoreState) (advance : Advance) → ((t : ℕ) → job_table (seat_of c s).job ≡ Some t → IsTableOf c.tables t) → PartsAreSound c → IsStepMade c s new advance → PartsAreSound new
parts_stepped c s new advance there parts made = by (job_table (seat_of c s).job) made.by
  where
    by : (o : Option ℕ) → StepsBy o c s new advance → PartsAreSound new
    by None same = subst PartsAreSound (sym same.0) parts
    by (Some t) step = elim step [
      | inl stepped ↦ subst PartsAreSound (sym stepped.is) (record {
        ids = lent_pool (lent_at c s t) s (seat_of c s).job stepped.lent advance stepped.steps.goes parts.ids;
        tables = each_set IsTableMade c.tables (t - 1) stepped.lent.table stepped.steps.made parts.tables;
      })
      | inr refused ↦ subst PartsAreSound (sym refused.is) (parts_ended c s _ _ _ there parts)
    ]

-- ---- an advance

pub parts_advanced : (c : CoreState) (s : ℕ) (new : CoreState) (advance : Advance) → ((t : ℕ) → job_table (seat_of c s).job ≡ Some t → IsTableOf c.tables t) → PartsAreSound c → IsAdvanced c s new advance → PartsAreSound new
parts_advanced c s new advance there parts made = by (seat_of c s).job made.by
  where
    by : (job : Job) → IsAdvancedBy job c s new advance → PartsAreSound new
    by jobs.Idle step = parts_stepped c s new advance there parts step
    by (jobs.Submitted command) moment = subst PartsAreSound (sym moment.is) (parts_moment c s (line_due c s command (reply_due c s command)) there parts)
    by (jobs.Reading t snapshot read) step = parts_stepped c s new advance there parts step
    by (jobs.Writing t write) step = parts_stepped c s new advance there parts step
