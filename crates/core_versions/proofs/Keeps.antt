-- Every core is sound after a version step: the laws of each stage.
use Rattle.std.proofs.Common.{ap, arith, inl, inr, refl, subst, sym}
use Rattle.std.specs.Prelude.{Contains, List, None, Option, Some, [], false, length, not, slice_get, slice_index_or, suc, zero, ℕ, ℤ, ◌<◌, ◌==◌, ◌∷◌, ◌≡◌, ◌≤◌}
use Rattle.list_facts.proofs.Members.{cases_in, filter_holds, first_in, later_in}
use Rattle.external_pointer.specs.declared.external.Pointer.{Pointer}
use Rattle.tuple_layout.specs.declared.Place.{Place}
use Rattle.tuple_layout.specs.declared.cell.Cell.{Cell}
use Rattle.tuple_layout.specs.declared.cell.Stored.{Stored}
use Rattle.xact_status.specs.Xacts.{session_at}
use Rattle.row_versions.specs.Relations.{Pages}
use Rattle.row_versions.specs.declared.keys.KeyEntry.{KeyEntry}
use Rattle.row_versions.specs.declared.version.Version.{Version}
use Rattle.value_ids.specs.Ids.{Pool}
use Rattle.value_ids.specs.declared.pool.InHand.{InHand}
use Rattle.change_log.specs.declared.entry.LogEntry.{LogEntry}
use Rattle.lock_table.specs.Locks.{held_by}
use Rattle.toast_store.specs.Marks.{new_mark}
use Rattle.toast_store.specs.Stores.{Store}
use Rattle.command_set.specs.Changes.{place}
use Rattle.table_rows.specs.Views.{IsOwnAt}
use Rattle.table_state.specs.Events.{with_rows}
use Rattle.table_state.specs.Tables.{IsTable}
use Rattle.table_state.specs.declared.table.Table.{Table}
use Rattle.write_steps.proofs.Pointers.{sized_dropped}
use Rattle.write_steps.specs.Dropped.{dropped_of}
use Rattle.write_steps.specs.Standing.{AreSized, HoldsNoPin}
use Rattle.write_steps.specs.Writes.{Writing, row_entry, with_logged}
use Rattle.write_steps.specs.declared.stage.OldRow.{OldRow}
use Rattle.write_steps.specs.declared.stage.Owner.{Owner}
use Rattle.write_steps.specs.declared.stage.WriteStage.{WriteStage}
use Rattle.write_steps.specs.declared.stage.WriteStep.{WriteStep}
use Rattle.core_state.proofs.Hands.{same_released}
use Rattle.core_state.proofs.Lists.{only_one, read_found, read_there}
use Rattle.core_state.proofs.Seats.{sound_of}
use Rattle.core_state.specs.Events.{write_on_by, write_told}
use Rattle.core_state.specs.Facts.{AreInHand, HandsAreSound, HasPut, IsChanged, IsSound, IsTableMade, JobIsSound, PartsAreSound, PinsAreSound, WorksOn, WriteIsSound, write_has_batch}
use Rattle.core_state.specs.Lines.{after_write_parts, ids_released, with_table}
use Rattle.core_state.specs.State.{CoreState, IsSession, IsTableOf, job_snapshot, no_table, seat_of, table_at}
use Rattle.core_state.specs.declared.seat.Job.{Job}
use Rattle.core_versions.proofs.Cells.{dropped_few}
use Rattle.core_versions.proofs.Goes.{at_stage, step_by}
use Rattle.core_versions.proofs.Logs.{Claims, Tells}
use Rattle.core_versions.proofs.Made.{IsMade, has_moved, has_put, knows_old, made_moved, made_put, made_removed, rows_moved, rows_put, rows_removed}
use Rattle.core_versions.proofs.Others.{Acts, running_from, works_stepped}
use Rattle.core_versions.proofs.Own.{hands_none, marking_stands, pins_none}
use Rattle.core_versions.proofs.Rows.{OldVersion, new_row}
use Rattle.core_versions.proofs.Sound.{sound_stepped, stepped}
use Rattle.core_versions.proofs.Tables.{steps_at}
use Rattle.change_log.specs.declared.entry.LogEntry.TheVariants as entries
use Rattle.core_state.specs.declared.seat.Job.TheVariants as jobs
use Rattle.write_steps.specs.declared.stage.WriteStage.TheVariants as stages

-- ---- what a core tells of a write under way

table_sound : (c : CoreState) (t : ℕ) → IsTableOf c.tables t → IsSound c → IsTable t c.xacts c.snaps (table_at c.tables t)
table_sound c zero there sound =
    let low = there.from_one in
    absurd (omega (arith, low))
table_sound c (suc i) there sound =
    let high = there.within in
    sound.tables i (slice_index_or c.tables i no_table) (read_there c.tables i no_table (omega (arith, high)))

pub table_made : (c : CoreState) (t : ℕ) → IsTableOf c.tables t → PartsAreSound c → IsTableMade (table_at c.tables t)
table_made c zero there parts =
    let low = there.from_one in
    absurd (omega (arith, low))
table_made c (suc i) there parts =
    let high = there.within in
    let low : i < length c.tables = omega (arith, high) in
    parts.tables (slice_index_or c.tables i no_table) (i, low, read_found c.tables i (slice_index_or c.tables i no_table) (slice_index_or c.tables i no_table) (read_there c.tables i no_table low))

-- a session's write at a stage, in a sound core
pub record IsWriting (c : CoreState) (s t : ℕ) (owner : Owner) (stage : WriteStage) : Type 0 where
  pub session : IsSession c.seats s
  pub sound : IsSound c
  pub job : (seat_of c s).job ≡ jobs.Writing t (at_stage owner stage)
  pub works : WorksOn (held_by c.locks s) c.tables t (seat_of c s).state
  pub write : WriteIsSound c.xacts c.snaps c.ids (held_by c.locks s) (table_at c.tables t) s t (seat_of c s).state (at_stage owner stage)
  pub runs : session_at c.xacts owner.xid ≡ Some s
  pub table : IsTable t c.xacts c.snaps (table_at c.tables t)

pub is_writing : (c : CoreState) (s t : ℕ) (owner : Owner) (stage : WriteStage) → IsSession c.seats s → (seat_of c s).job ≡ jobs.Writing t (at_stage owner stage) → IsSound c → IsWriting c s t owner stage
is_writing c s t owner stage there job sound =
    let seat = sound_of c s there sound in
    let both = subst (λ (its : Job). JobIsSound c.xacts c.snaps c.ids (held_by c.locks s) c.tables s (seat_of c s) its) job seat.job in
    record { session = there; sound = sound; job = job; works = both.0; write = both.1; runs = seat.runs owner.xid both.1.own.xid; table = table_sound c t both.0.of_table sound }

-- ---- its step

-- the tables then
abbrev pub tables_then : CoreState → ℕ → Pages → List KeyEntry → List Table
tables_then c t pages names = with_table c.tables t (with_rows (table_at c.tables t) pages names)

pub acts_of : (c : CoreState) (s t : ℕ) (owner : Owner) (stage : WriteStage) (pages : Pages) (names : List KeyEntry) (keys : List ℤ) (cells : List Cell) (dropped : List Pointer) → IsWriting c s t owner stage
    → IsMade c.xacts c.snaps c.ids.in_hand (table_at c.tables t) s t owner.xid pages names keys cells dropped
    → Acts c.xacts c.snaps c.ids c.tables (tables_then c t pages names) s t owner.xid pages names keys cells
acts_of c s t owner stage pages names keys cells dropped writing made = record {
  runs = writing.runs;
  steps = steps_at c.tables t pages names writing.works.of_table;
  step = made.step;
  given = made.given;
}

-- a place that its change names
changed_at : (c : CoreState) (s t : ℕ) (owner : Owner) (stage : WriteStage) (pages : Pages) (names : List KeyEntry) (keys : List ℤ) (cells : List Cell) (dropped : List Pointer) (key : ℤ) → IsWriting c s t owner stage
    → IsMade c.xacts c.snaps c.ids.in_hand (table_at c.tables t) s t owner.xid pages names keys cells dropped → Claims c.locks s t keys → Contains keys key
    → IsChanged c.xacts c.locks (tables_then c t pages names) s owner.xid (place owner.table key)
changed_at c s t owner stage pages names keys cells dropped key writing made claims e =
    let steps = steps_at c.tables t pages names writing.works.of_table in
    subst (λ (n : ℕ). IsChanged c.xacts c.locks (tables_then c t pages names) s owner.xid (place n key)) (sym writing.write.own.of_table) (record {
      claimed = claims.rows key e;
      own = subst (λ (table : Table). IsOwnAt c.xacts owner.xid table.rows.pages key) (sym steps.here) (made.own_at key e);
    })

-- the version that its entry tells of
put_at : (c : CoreState) (s t : ℕ) (owner : Owner) (stage : WriteStage) (pages : Pages) (names : List KeyEntry) (new : Stored) → IsWriting c s t owner stage → HasPut (with_rows (table_at c.tables t) pages names) owner.xid new.key new.cells
    → HasPut (table_at (tables_then c t pages names) owner.table) owner.xid new.key new.cells
put_at c s t owner stage pages names new writing put =
    let steps = steps_at c.tables t pages names writing.works.of_table in
    subst (λ (n : ℕ). HasPut (table_at (tables_then c t pages names) n) owner.xid new.key new.cells) (sym writing.write.own.of_table)
    (subst (λ (table : Table). HasPut table owner.xid new.key new.cells) (sym steps.here) put)

-- what it is to the core
pub record IsStepOf (c : CoreState) (s t : ℕ) (owner : Owner) (stage : WriteStage) (pages : Pages) (names : List KeyEntry) (keys : List ℤ) (cells : List Cell) (dropped : List Pointer) (entry : LogEntry) : Type 0 where
  pub made : IsMade c.xacts c.snaps c.ids.in_hand (table_at c.tables t) s t owner.xid pages names keys cells dropped
  pub claims : Claims c.locks s t keys
  pub tells : Tells c.xacts c.locks (tables_then c t pages names) s owner.xid entry
  pub bare : write_has_batch stage ≡ false
  pub free : HoldsNoPin (table_at c.tables t).toast owner
  pub sized : AreSized dropped
  pub few : length dropped ≤ 8

hands_released : (ids : Pool) (s : ℕ) → AreInHand ids.in_hand → AreInHand (ids_released ids s).in_hand
hands_released ids s old = record {
  once = λ a b e f. old.once a b (filter_holds (λ (held : InHand). not (held.session == s)) ids.in_hand a e).0 (filter_holds (λ (held : InHand). not (held.session == s)) ids.in_hand b f).0;
}

-- the write is over
sound_last : (c : CoreState) (s t : ℕ) (owner : Owner) (stage : WriteStage) (pages : Pages) (names : List KeyEntry) (keys : List ℤ) (cells : List Cell) (dropped : List Pointer) (entry : LogEntry)
    → IsWriting c s t owner stage → IsStepOf c s t owner stage pages names keys cells dropped entry → IsSound (stepped c s (ids_released c.ids s) (tables_then c t pages names) entry jobs.Idle)
sound_last c s t owner stage pages names keys cells dropped entry writing step =
    let acts = acts_of c s t owner stage pages names keys cells dropped writing step.made in
    let seat = sound_of c s writing.session writing.sound in
    sound_stepped c s t owner.xid pages names keys cells (ids_released c.ids s) (tables_then c t pages names) entry jobs.Idle writing.session writing.sound (ap job_snapshot writing.job) refl acts step.claims step.tells
    (hands_released c.ids s writing.sound.hands) (λ n differ. same_released c.ids s n differ) tt
    (pins_none c.tables (tables_then c t pages names) t s pages names (at_stage owner stage) jobs.Idle acts.steps step.bare (subst (λ (job : Job). PinsAreSound c.tables s job) writing.job seat.pins))
    (hands_none c.ids s)

-- the write goes on to mark what it drops
sound_marking : (c : CoreState) (s t : ℕ) (owner : Owner) (stage : WriteStage) (pages : Pages) (names : List KeyEntry) (keys : List ℤ) (cells : List Cell) (dropped : List Pointer) (entry : LogEntry) (first : Pointer)
    → IsWriting c s t owner stage → IsStepOf c s t owner stage pages names keys cells dropped entry → slice_get dropped 0 ≡ Some first
    → IsSound (stepped c s c.ids (tables_then c t pages names) entry (jobs.Writing t (at_stage owner (stages.Marking dropped 0 (new_mark first owner.xid owner.session)))))
sound_marking c s t owner stage pages names keys cells dropped entry first writing step e =
    let acts = acts_of c s t owner stage pages names keys cells dropped writing step.made in
    let seat = sound_of c s writing.session writing.sound in
    sound_stepped c s t owner.xid pages names keys cells c.ids (tables_then c t pages names) entry job writing.session writing.sound (ap job_snapshot writing.job) refl acts step.claims step.tells
    writing.sound.hands (λ n differ. record { kept = λ one f g. g; back = λ one f g. g }) (
      works_stepped (held_by c.locks s) c.tables (tables_then c t pages names) t t pages names (seat_of c s).state acts.steps writing.works,
      subst (λ (table : Table). WriteIsSound c.xacts c.snaps c.ids (held_by c.locks s) table s t (seat_of c s).state write) (sym acts.steps.here)
          (marking_stands c.xacts c.snaps c.ids (held_by c.locks s) (table_at c.tables t) pages names s t (seat_of c s).state owner stage dropped first writing.write.own step.free step.sized step.few e step.made.dropping),
    )
    (pins_none c.tables (tables_then c t pages names) t s pages names (at_stage owner stage) job acts.steps step.bare (subst (λ (its : Job). PinsAreSound c.tables s its) writing.job seat.pins))
    (record { each = λ one f g. (subst (λ (its : Job). HandsAreSound c.ids.in_hand s its) writing.job seat.hands).each one f g })
  where
    write : Writing
    write = at_stage owner (stages.Marking dropped 0 (new_mark first owner.xid owner.session))

    job : Job
    job = jobs.Writing t write

-- ---- the three of them

-- an insert
pub step_put : (c : CoreState) (s t : ℕ) (owner : Owner) (new : Stored) (plan : List ℕ) → IsWriting c s t owner (stages.Put None new plan) → PartsAreSound c
    → IsStepOf c s t owner (stages.Put None new plan) (rows_put (table_at c.tables t) owner.xid new).pages (rows_put (table_at c.tables t) owner.xid new).entries (new.key ∷ []) new.cells [] (row_entry owner None new)
step_put c s t owner new plan writing parts =
    let rows = rows_put (table_at c.tables t) owner.xid new in
    let runs = running_from c.xacts owner.xid s writing.runs in
    let fresh = new_row c.xacts c.snaps c.ids (held_by c.locks s) (table_at c.tables t) s t (seat_of c s).state owner None new plan c.log writing.write (λ row e. absurd (cc)) (table_made c t writing.works.of_table parts) writing.table in
    let made = made_put c.xacts c.snaps c.ids (held_by c.locks s) (table_at c.tables t) s t (seat_of c s).state owner new plan writing.write runs writing.table fresh in
    let claims : Claims c.locks s t (new.key ∷ []) = record { used = writing.works.used; rows = λ k e. writing.write.own.claimed k e } in
    record {
      made = made;
      claims = claims;
      tells = record {
        by = refl;
        put = put_at c s t owner (stages.Put None new plan) rows.pages rows.entries new writing (has_put c.xacts c.snaps c.ids.in_hand (table_at c.tables t) s t owner.xid new fresh);
        changed = λ p e.
            subst (λ (q : Place). IsChanged c.xacts c.locks (tables_then c t rows.pages rows.entries) s owner.xid q) (only_one (place owner.table new.key) p e)
            (changed_at c s t owner (stages.Put None new plan) rows.pages rows.entries (new.key ∷ []) new.cells [] new.key writing made claims (first_in new.key [] new.key refl));
      };
      bare = refl;
      free = (writing.write.stands c.log).free;
      sized = sized_dropped [] new.cells;
      few = omega arith;
    }

-- how many pointers of an old row can be dropped
few_dropped : (c : CoreState) (t x : ℕ) (row : OldRow) (version : Version) (news : List Cell) → IsTable t c.xacts c.snaps (table_at c.tables t) → IsTableMade (table_at c.tables t) → OldVersion c.xacts (table_at c.tables t) x row version
    → length (dropped_of row.stored.cells news) ≤ 8
few_dropped c t x row version news is made old =
    let few = dropped_few row.stored.cells news in
    let same = ap (λ (cells : List Cell). length cells) old.cells in
    let each = (is.tuples row.tid version old.there).stored.has.one_each in
    let columns = made.columns.1 in
    omega (arith, few, same, each, columns)

-- an update, or a move to another key
pub step_moved : (c : CoreState) (s t : ℕ) (owner : Owner) (row : OldRow) (new : Stored) (plan : List ℕ) → IsWriting c s t owner (stages.Put (Some row) new plan) → PartsAreSound c
    → IsStepOf c s t owner (stages.Put (Some row) new plan) (rows_moved (table_at c.tables t) owner.xid row new).pages (rows_moved (table_at c.tables t) owner.xid row new).entries (row.stored.key ∷ new.key ∷ []) new.cells (dropped_of row.stored.cells new.cells) (row_entry owner (Some row) new)
step_moved c s t owner row new plan writing parts =
    let rows = rows_moved (table_at c.tables t) owner.xid row new in
    let runs = running_from c.xacts owner.xid s writing.runs in
    let knows = knows_old c.xacts c.snaps c.ids (held_by c.locks s) (table_at c.tables t) s t (seat_of c s).state owner (stages.Put (Some row) new plan) c.log writing.write in
    let old = knows row refl in
    let table = table_made c t writing.works.of_table parts in
    let fresh = new_row c.xacts c.snaps c.ids (held_by c.locks s) (table_at c.tables t) s t (seat_of c s).state owner (Some row) new plan c.log writing.write knows table writing.table in
    let made = made_moved c.xacts c.snaps c.ids (held_by c.locks s) (table_at c.tables t) s t (seat_of c s).state owner row new plan old.0 writing.write runs old.1 writing.table fresh in
    let claims : Claims c.locks s t (row.stored.key ∷ new.key ∷ []) = record { used = writing.works.used; rows = λ k e. writing.write.own.claimed k e } in
    let from = changed_at c s t owner (stages.Put (Some row) new plan) rows.pages rows.entries (row.stored.key ∷ new.key ∷ []) new.cells (dropped_of row.stored.cells new.cells) row.stored.key writing made claims (first_in row.stored.key (new.key ∷ []) row.stored.key refl) in
    let to = changed_at c s t owner (stages.Put (Some row) new plan) rows.pages rows.entries (row.stored.key ∷ new.key ∷ []) new.cells (dropped_of row.stored.cells new.cells) new.key writing made claims (later_in row.stored.key (new.key ∷ []) new.key (first_in new.key [] new.key refl)) in
    record {
      made = made;
      claims = claims;
      tells = record {
        by = refl;
        put = put_at c s t owner (stages.Put (Some row) new plan) rows.pages rows.entries new writing (has_moved c.xacts c.snaps c.ids.in_hand (table_at c.tables t) s t owner.xid row new old.0 old.1 fresh);
        changed = λ p e. elim (cases_in (place owner.table row.stored.key) (place owner.table new.key ∷ []) p e) [
          | inl h ↦ subst (λ (q : Place). IsChanged c.xacts c.locks (tables_then c t rows.pages rows.entries) s owner.xid q) h from
          | inr h ↦ subst (λ (q : Place). IsChanged c.xacts c.locks (tables_then c t rows.pages rows.entries) s owner.xid q) (only_one (place owner.table new.key) p h) to
        ];
      };
      bare = refl;
      free = (writing.write.stands c.log).free;
      sized = sized_dropped row.stored.cells new.cells;
      few = few_dropped c t owner.xid row old.0 new.cells writing.table table old.1;
    }

-- a delete
pub step_removed : (c : CoreState) (s t : ℕ) (owner : Owner) (row : OldRow) → IsWriting c s t owner (stages.Remove row) → PartsAreSound c
    → IsStepOf c s t owner (stages.Remove row) (rows_removed (table_at c.tables t) owner.xid row).pages (rows_removed (table_at c.tables t) owner.xid row).entries (row.stored.key ∷ []) [] (dropped_of row.stored.cells []) (entries.Delete owner.xid owner.table row.stored.key)
step_removed c s t owner row writing parts =
    let rows = rows_removed (table_at c.tables t) owner.xid row in
    let runs = running_from c.xacts owner.xid s writing.runs in
    let old = knows_old c.xacts c.snaps c.ids (held_by c.locks s) (table_at c.tables t) s t (seat_of c s).state owner (stages.Remove row) c.log writing.write row refl in
    let made = made_removed c.xacts c.snaps c.ids.in_hand (table_at c.tables t) s t owner.xid row old.0 runs old.1 writing.table in
    let claims : Claims c.locks s t (row.stored.key ∷ []) = record { used = writing.works.used; rows = λ k e. writing.write.own.claimed k e } in
    record {
      made = made;
      claims = claims;
      tells = record {
        by = refl;
        put = tt;
        changed = λ p e.
            subst (λ (q : Place). IsChanged c.xacts c.locks (tables_then c t rows.pages rows.entries) s owner.xid q) (only_one (place owner.table row.stored.key) p e)
            (changed_at c s t owner (stages.Remove row) rows.pages rows.entries (row.stored.key ∷ []) [] (dropped_of row.stored.cells []) row.stored.key writing made claims (first_in row.stored.key [] row.stored.key refl));
      };
      bare = refl;
      free = (writing.write.stands c.log).free;
      sized = sized_dropped row.stored.cells [];
      few = few_dropped c t owner.xid row old.0 [] writing.table (table_made c t writing.works.of_table parts) old.1;
    }

-- ---- the parts after each

pub parts_put : (c : CoreState) (t : ℕ) (owner : Owner) (new : Stored) (plan : List ℕ) (toast : Store) → toast ≡ (table_at c.tables t).toast
    → after_write_parts c t (at_stage owner (stages.Put None new plan)) toast
    ≡ record c { log = with_logged c.log (row_entry owner None new); tables = tables_then c t (rows_put (table_at c.tables t) owner.xid new).pages (rows_put (table_at c.tables t) owner.xid new).entries }
parts_put c t owner new plan toast left =
    ap (λ (store : Store). record c { log = with_logged c.log (row_entry owner None new); tables = with_table c.tables t (record { rows = rows_put (table_at c.tables t) owner.xid new; toast = store }) }) left

pub parts_moved : (c : CoreState) (t : ℕ) (owner : Owner) (row : OldRow) (new : Stored) (plan : List ℕ) (toast : Store) → toast ≡ (table_at c.tables t).toast
    → after_write_parts c t (at_stage owner (stages.Put (Some row) new plan)) toast
    ≡ record c { log = with_logged c.log (row_entry owner (Some row) new); tables = tables_then c t (rows_moved (table_at c.tables t) owner.xid row new).pages (rows_moved (table_at c.tables t) owner.xid row new).entries }
parts_moved c t owner row new plan toast left =
    ap (λ (store : Store). record c { log = with_logged c.log (row_entry owner (Some row) new); tables = with_table c.tables t (record { rows = rows_moved (table_at c.tables t) owner.xid row new; toast = store }) }) left

pub parts_removed : (c : CoreState) (t : ℕ) (owner : Owner) (row : OldRow) (toast : Store) → toast ≡ (table_at c.tables t).toast
    → after_write_parts c t (at_stage owner (stages.Remove row)) toast
    ≡ record c { log = with_logged c.log (entries.Delete owner.xid owner.table row.stored.key); tables = tables_then c t (rows_removed (table_at c.tables t) owner.xid row).pages (rows_removed (table_at c.tables t) owner.xid row).entries }
parts_removed c t owner row toast left =
    ap (λ (store : Store). record c { log = with_logged c.log (entries.Delete owner.xid owner.table row.stored.key); tables = with_table c.tables t (record { rows = rows_removed (table_at c.tables t) owner.xid row; toast = store }) }) left

-- ---- the laws

pub keeps_put : (c : CoreState) (s t : ℕ) (owner : Owner) (toast : Store) (old : Option OldRow) (new : Stored) (plan : List ℕ) → IsWriting c s t owner (stages.Put old new plan) → toast ≡ (table_at c.tables t).toast → PartsAreSound c
    → IsSound (write_on_by c s t (at_stage owner (stages.Put old new plan)) toast (write_told c t (at_stage owner (stages.Put old new plan))))
keeps_put c s t owner toast None new plan writing left parts =
    let rows = rows_put (table_at c.tables t) owner.xid new in
    let step = step_put c s t owner new plan writing parts in
    step_by c s t owner (stages.Put None new plan) toast (tables_then c t rows.pages rows.entries) (row_entry owner None new) [] (λ (core : CoreState) (told : WriteStep). IsSound core) refl (parts_put c t owner new plan toast left)
    (sound_last c s t owner (stages.Put None new plan) rows.pages rows.entries (new.key ∷ []) new.cells [] (row_entry owner None new) writing step)
    (λ first e. sound_marking c s t owner (stages.Put None new plan) rows.pages rows.entries (new.key ∷ []) new.cells [] (row_entry owner None new) first writing step e)
keeps_put c s t owner toast (Some row) new plan writing left parts =
    let rows = rows_moved (table_at c.tables t) owner.xid row new in
    let step = step_moved c s t owner row new plan writing parts in
    let keys = row.stored.key ∷ new.key ∷ [] in
    step_by c s t owner (stages.Put (Some row) new plan) toast (tables_then c t rows.pages rows.entries) (row_entry owner (Some row) new) (dropped_of row.stored.cells new.cells) (λ (core : CoreState) (told : WriteStep). IsSound core) refl (parts_moved c t owner row new plan toast left)
    (sound_last c s t owner (stages.Put (Some row) new plan) rows.pages rows.entries keys new.cells (dropped_of row.stored.cells new.cells) (row_entry owner (Some row) new) writing step)
    (λ first e. sound_marking c s t owner (stages.Put (Some row) new plan) rows.pages rows.entries keys new.cells (dropped_of row.stored.cells new.cells) (row_entry owner (Some row) new) first writing step e)

pub keeps_removed : (c : CoreState) (s t : ℕ) (owner : Owner) (toast : Store) (row : OldRow) → IsWriting c s t owner (stages.Remove row) → toast ≡ (table_at c.tables t).toast → PartsAreSound c
    → IsSound (write_on_by c s t (at_stage owner (stages.Remove row)) toast (write_told c t (at_stage owner (stages.Remove row))))
keeps_removed c s t owner toast row writing left parts =
    let rows = rows_removed (table_at c.tables t) owner.xid row in
    let step = step_removed c s t owner row writing parts in
    let entry = entries.Delete owner.xid owner.table row.stored.key in
    step_by c s t owner (stages.Remove row) toast (tables_then c t rows.pages rows.entries) entry (dropped_of row.stored.cells []) (λ (core : CoreState) (told : WriteStep). IsSound core) refl (parts_removed c t owner row toast left)
    (sound_last c s t owner (stages.Remove row) rows.pages rows.entries (row.stored.key ∷ []) [] (dropped_of row.stored.cells []) entry writing step)
    (λ first e. sound_marking c s t owner (stages.Remove row) rows.pages rows.entries (row.stored.key ∷ []) [] (dropped_of row.stored.cells []) entry first writing step e)
