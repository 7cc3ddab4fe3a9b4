-- At the moment of a write its plan has as many columns as the stream says that the write pushes.
use Rattle.std.proofs.Common.{ap, arith, cond, inl, refl, subst, sym, ◌∙◌}
use Rattle.std.proofs.Math.Seq.{drop-append_seam}
use Rattle.std.proofs.lemmas.List.Sums.{sum_by-cons}
use Rattle.std.specs.Option.{option_map_or}
use Rattle.std.specs.Prelude.{Bool, List, None, Option, Some, [], drop, false, if◌then◌else◌, length, map as mapped, slice_get, sum_by, true, ℕ, ℤ, ◌==◌, ◌∷◌, ◌≡◌, ◌≤◌}
use Rattle.tuple_layout.specs.Places.{Row}
use Rattle.tuple_layout.specs.Sizes.{Width, widths}
use Rattle.tuple_layout.specs.Tuples.{cell_widths}
use Rattle.tuple_layout.specs.declared.Place.{Place}
use Rattle.tuple_layout.specs.declared.Storage.{Storage}
use Rattle.tuple_layout.specs.declared.cell.Stored.{Stored}
use Rattle.tuple_toaster.specs.Pushed.{is_among, pushed, tuple_target}
use Rattle.snapshot_registry.specs.Snapshots.{after_take, least_free}
use Rattle.command_set.specs.Changes.{place}
use Rattle.command_set.specs.Journals.{is_data}
use Rattle.command_set.specs.Replies.{schema_of}
use Rattle.command_set.specs.declared.Command.{Command}
use Rattle.command_set.specs.declared.Script.{Script}
use Rattle.command_set.specs.declared.Set.{Set}
use Rattle.command_set.specs.declared.state.Change.{Change}
use Rattle.command_set.specs.declared.state.Change.TheVariants.{Move, Remove, Update}
use Rattle.toast_store.specs.Stores.{Store}
use Rattle.table_state.specs.Rows.{cell_value}
use Rattle.read_steps.specs.Reads.{held_read}
use Rattle.write_steps.specs.Writes.{first_stage, to_save}
use Rattle.write_steps.specs.declared.stage.OldRow.{OldRow}
use Rattle.write_steps.specs.declared.stage.Owner.{Owner}
use Rattle.core_state.proofs.Seats.{seat_written}
use Rattle.core_state.specs.Begun.{cell_in_line, held_size, inserted_row, part_wanted, plan_of, row_read, span_of, updated_row, write_begun}
use Rattle.core_state.specs.Coming.{change_to, changed_row, is_elsewhere}
use Rattle.core_state.specs.Events.{MomentLine, at_moment, line_granted}
use Rattle.core_state.specs.Facts.{IsSound}
use Rattle.core_state.specs.Lines.{after_use, seated}
use Rattle.core_state.specs.State.{CoreState, IsSession, IsTableOf, handle_of, is_open, is_repeatable, schemas_of, seat_of, table_at}
use Rattle.core_state.specs.Views.{row_seen}
use Rattle.core_state.specs.declared.seat.Seat.{Seat}
use Rattle.core_draws.specs.Draws.{draws_left, draws_of}
use Rattle.change_stream.specs.Streams.{kept_by, outs_with, unset, written_as}
use Rattle.change_stream.specs.declared.written.Written.{Written}
use Rattle.core_outs.proofs.Begun.{BeginsOut, begun_core, begun_seat, old_out}
use Rattle.core_outs.proofs.Moments.{begun_open, found_key, grown, schema_at}
use Rattle.core_outs.proofs.Quiet.{IsMomentOf, IsQuiet, fetching_quiet, found_quiet, reading_quiet, there_then, use_leaves}
use Rattle.core_outs.proofs.Widths.{inserted_widths, updated_widths}
use Rattle.core_outs.specs.Counts.{pushed_by}
use Rattle.core_outs.specs.Outs.{AreOut}
use Rattle.command_set.specs.declared.Command.TheVariants as commands
use Rattle.core_state.specs.Events as lines
use Rattle.core_state.specs.declared.seat.Job.TheVariants as jobs
use Rattle.read_steps.specs.declared.wanted.Wanted.TheVariants as wanteds

-- ---- a write

-- a write that begins owes no more draws than its plan has columns
first_owed : (owner : Owner) (old : Option OldRow) (new : Option Stored) (plan : List ℕ) → draws_left (first_stage owner old new plan) ≤ length plan
first_owed owner None None plan = omega arith
first_owed owner (Some row) None plan = omega arith
first_owed owner old (Some stored) plan = by (slice_get plan 0)
  where
    by : (o : Option ℕ) → draws_left (to_save owner old stored plan 0 o) ≤ length plan
    by None = omega arith
    by (Some column) = omega arith

-- how many columns its plan has, for a table
abbrev planned : List Storage → ℕ → Option Stored → ℕ → ℕ
planned storages t new n = if t == n then length (plan_of storages new) else 0

begun_owed : (c : CoreState) (s t : ℕ) (keys : List ℤ) (old : Option OldRow) (new : Option Stored) (n : ℕ) → IsSession c.seats s → is_open (seat_of c s).state ≡ true → draws_of n (seat_of (begun_core c s t keys old new) s).job ≤ planned (table_at c.tables t).rows.schema.storages t new n
begun_owed c s t keys old new n there opened =
    let write = write_begun c s t old new in
    let is : draws_of n (seat_of (begun_core c s t keys old new) s).job ≡ draws_of n (jobs.Writing t write) = ap (draws_of n) (begun_seat c s t keys old new there opened).0 in
    let most = by (t == n) write.owner in
    omega (arith, is, most)
  where
    by : (b : Bool) (owner : Owner) → (if b then draws_left (first_stage owner old new (plan_of (table_at c.tables t).rows.schema.storages new)) else 0) ≤ (if b then length (plan_of (table_at c.tables t).rows.schema.storages new) else 0)
    by true owner = first_owed owner old new (plan_of (table_at c.tables t).rows.schema.storages new)
    by false owner = omega arith

-- the stream pushes as many
pushed_is : (script : Script) (t n : ℕ) (toast : Store) (storages : List Storage) (old : Option OldRow) (new : Stored) (kept : List ℕ) → (schema_of script.schemas t).storages ≡ storages → cell_widths new.cells ≡ widths (mapped (cell_value toast) new.cells) (is_among kept)
    → planned storages t (Some new) n ≡ pushed_by script n (written_as script (changed_row t old new.key (mapped (cell_value toast) new.cells)) kept)
pushed_is script t n toast storages old new kept schema same = ap (λ (k : ℕ). if t == n then k else 0) (ap length columns) ∙ by old
  where
    columns : pushed storages (cell_widths new.cells) tuple_target ≡ pushed (schema_of script.schemas t).storages (widths (mapped (cell_value toast) new.cells) (is_among kept)) tuple_target
    columns = ap (λ (ws : List Width). pushed storages ws tuple_target) same ∙ ap (λ (its : List Storage). pushed its (widths (mapped (cell_value toast) new.cells) (is_among kept)) tuple_target) (sym schema)

    moved : (from : ℤ) (b : Bool) → (if t == n then length (pushed (schema_of script.schemas t).storages (widths (mapped (cell_value toast) new.cells) (is_among kept)) tuple_target) else 0)
        ≡ pushed_by script n (written_as script (if b then Move t from new.key (mapped (cell_value toast) new.cells) else Update t new.key (mapped (cell_value toast) new.cells)) kept)
    moved from true = refl
    moved from false = refl

    by : (o : Option OldRow) → (if t == n then length (pushed (schema_of script.schemas t).storages (widths (mapped (cell_value toast) new.cells) (is_among kept)) tuple_target) else 0)
        ≡ pushed_by script n (written_as script (changed_row t o new.key (mapped (cell_value toast) new.cells)) kept)
    by None = refl
    by (Some row) = moved row.stored.key (is_elsewhere (Some row) new.key)

-- at the moment of a write
draws_write : (c : CoreState) (s t : ℕ) (keys : List ℤ) (old : Option OldRow) (new : Option Stored) (script : Script) (kept : List ℕ) (outs : Place → List ℕ) (written later : ℕ → List Written) (command : Command) (change : Change) (n : ℕ)
    → IsMomentOf c (begun_core c s t keys old new) s script kept outs written later → IsSound (begun_core c s t keys old new) → (seat_of c s).job ≡ jobs.Submitted command → (old ≡ None → new ≡ None → ⊥) → change_to t (table_at c.tables t).toast old new ≡ Some change
    → (BeginsOut c s t keys old new outs written → IsTableOf c.tables t → planned (table_at c.tables t).rows.schema.storages t new n ≤ pushed_by script n (written_as script change kept))
    → draws_of n (seat_of (begun_core c s t keys old new) s).job ≤ sum_by (pushed_by script n) (drop (length (written s)) (later s))
draws_write c s t keys old new script kept outs written later command change n at sound job some to counts =
    let opens = begun_open c s t keys old new at.there (there_then c (begun_core c s t keys old new) s at.there at.others) sound in
    let begins : BeginsOut c s t keys old new outs written = record { there = at.there; sound = at.sound; begun = sound; opened = opens.0; none = at.none; others = at.others; told = at.old } in
    let owed = begun_owed c s t keys old new n at.there opens.0 in
    let most = counts begins opens.2 in
    let left : drop (length (written s)) (later s) ≡ written_as script change kept ∷ [] =
    ap (drop (length (written s))) (grown c s t keys old new script kept outs written later command change at job opens.0 opens.1 some to) ∙ drop-append_seam (written s) (written_as script change kept ∷ []) in
    let all : sum_by (pushed_by script n) (drop (length (written s)) (later s)) ≡ sum_by (pushed_by script n) (written_as script change kept ∷ []) = ap (sum_by (pushed_by script n)) left in
    omega (arith, owed, most, all, sum_by-cons (pushed_by script n) (written_as script change kept) [])

draws_insert : (c : CoreState) (s t : ℕ) (key : ℤ) (row : Row) (script : Script) (outs : Place → List ℕ) (written later : ℕ → List Written) (n : ℕ)
    → IsMomentOf c (at_moment (line_granted c s (commands.Insert t key row)) c s) s script [] outs written later → IsSound (at_moment (line_granted c s (commands.Insert t key row)) c s) → (seat_of c s).job ≡ jobs.Submitted (commands.Insert t key row)
    → script.schemas ≡ schemas_of c.tables → draws_of n (seat_of (at_moment (line_granted c s (commands.Insert t key row)) c s) s).job ≤ sum_by (pushed_by script n) (drop (length (written s)) (later s))
draws_insert c s t key row script outs written later n at sound job schemas =
    draws_write c s t (key ∷ []) None (Some (inserted_row key row)) script [] outs written later (commands.Insert t key row) (changed_row t None key (mapped (cell_value (table_at c.tables t).toast) (mapped cell_in_line row))) n at sound job (λ e f. absurd (cc)) refl
    (λ begins table.
    let same = pushed_is script t n (table_at c.tables t).toast (table_at c.tables t).rows.schema.storages None (inserted_row key row) [] (schema_at c t script schemas table) (inserted_widths (table_at c.tables t).toast row) in
    omega (arith, same))

draws_set : (c : CoreState) (s t : ℕ) (key to : ℤ) (keys : List ℤ) (sets : List Set) (row : OldRow) (script : Script) (outs : Place → List ℕ) (written later : ℕ → List Written) (command : Command) (n : ℕ) → row_seen c s t key ≡ Some row
    → IsMomentOf c (begun_core c s t keys (Some row) (Some (updated_row row.stored to sets))) s script (unset sets (outs_with outs (written s) (place t key))) outs written later → IsSound (begun_core c s t keys (Some row) (Some (updated_row row.stored to sets)))
    → (seat_of c s).job ≡ jobs.Submitted command → script.schemas ≡ schemas_of c.tables
    → draws_of n (seat_of (begun_core c s t keys (Some row) (Some (updated_row row.stored to sets))) s).job ≤ sum_by (pushed_by script n) (drop (length (written s)) (later s))
draws_set c s t key to keys sets row script outs written later command n found at sound job schemas =
    let toast = (table_at c.tables t).toast in
    let new = updated_row row.stored to sets in
    draws_write c s t keys (Some row) (Some new) script (unset sets (outs_with outs (written s) (place t key))) outs written later command (changed_row t (Some row) to (mapped (cell_value toast) new.cells)) n at sound job (λ e f. absurd (cc)) refl
    (λ begins table.
    let was : AreOut (outs_with outs (written s) (place t key)) row.stored.cells = subst (λ (k : ℤ). AreOut (outs_with outs (written s) (place t k)) row.stored.cells) (found_key c s t key row found) (old_out c s t keys row (Some new) outs written begins) in
    let same = pushed_is script t n toast (table_at c.tables t).rows.schema.storages (Some row) new (unset sets (outs_with outs (written s) (place t key))) (schema_at c t script schemas table) (updated_widths toast sets (outs_with outs (written s) (place t key)) row.stored.cells was) in
    omega (arith, same))

draws_delete : (c : CoreState) (s t : ℕ) (keys : List ℤ) (row : OldRow) (script : Script) (outs : Place → List ℕ) (written later : ℕ → List Written) (command : Command) (n : ℕ)
    → IsMomentOf c (begun_core c s t keys (Some row) None) s script [] outs written later → IsSound (begun_core c s t keys (Some row) None) → (seat_of c s).job ≡ jobs.Submitted command
    → draws_of n (seat_of (begun_core c s t keys (Some row) None) s).job ≤ sum_by (pushed_by script n) (drop (length (written s)) (later s))
draws_delete c s t keys row script outs written later command n at sound job =
    draws_write c s t keys (Some row) None script [] outs written later command (Remove t row.stored.key) n at sound job (λ e f. absurd (cc)) refl (λ begins table. by (t == n))
  where
    by : (b : Bool) → (if b then 0 else 0) ≤ 0
    by true = omega arith
    by false = omega arith

-- ---- other commands

-- after a quiet line nothing is to be drawn
quiet_draws : (c : CoreState) (s n : ℕ) (line : MomentLine) → IsSession c.seats s → IsQuiet c s line → draws_of n (seat_of (at_moment line c s) s).job ≡ 0
quiet_draws c s n (lines.Over state) there quiet = ap (λ (seat : Seat). draws_of n seat.job) (seat_written c.seats s _ there)
quiet_draws c s n (lines.Looked t) there quiet = ap (λ (seat : Seat). draws_of n seat.job) (seat_written (after_use c s t).seats s _ (use_leaves c s t there).there)
quiet_draws c s n lines.Committed there quiet = absurd quiet
quiet_draws c s n (lines.GivenUp state) there quiet = ap (λ (seat : Seat). draws_of n seat.job) (seat_written c.seats s _ there)
quiet_draws c s n (lines.ReadBegun t read) there quiet = by (is_repeatable (seat_of (after_use c s t) s).state)
  where
    u : CoreState
    u = after_use c s t

    by : (b : Bool) → draws_of n (seat_of (cond b (seated u s (record (seat_of u s) { job = jobs.Reading t None read })) (seated (record u { snaps = after_take u.snaps u.xacts }) s (record (seat_of u s) { job = jobs.Reading t (Some (least_free u.snaps)) read }))) s).job ≡ 0
    by true = ap (λ (seat : Seat). draws_of n seat.job) (seat_written u.seats s _ (use_leaves c s t there).there)
    by false = ap (λ (seat : Seat). draws_of n seat.job) (seat_written u.seats s _ (use_leaves c s t there).there)
quiet_draws c s n (lines.FetchBegun t read) there quiet = ap (λ (seat : Seat). draws_of n seat.job) (seat_written c.seats s _ there)
quiet_draws c s n (lines.WriteBegun t keys write) there quiet = absurd quiet
quiet_draws c s n (lines.Opened t name held) there quiet = ap (λ (seat : Seat). draws_of n seat.job) (seat_written (after_use c s t).seats s _ (use_leaves c s t there).there)
quiet_draws c s n (lines.Closed handle) there quiet = ap (λ (seat : Seat). draws_of n seat.job) (seat_written c.seats s _ there)

none_drawn : (k : ℕ) (m : ℕ) → k ≡ 0 → k ≤ m
none_drawn k m e = omega (arith, e)

-- the granted moment of a data command
pub granted_draws : (c : CoreState) (s : ℕ) (script : Script) (outs : Place → List ℕ) (written later : ℕ → List Written) (command : Command) (n : ℕ) → is_data command ≡ true → (seat_of c s).job ≡ jobs.Submitted command → IsSound (at_moment (line_granted c s command) c s)
    → script.schemas ≡ schemas_of c.tables → IsMomentOf c (at_moment (line_granted c s command) c s) s script (kept_by command (outs_with outs (written s))) outs written later
    → draws_of n (seat_of (at_moment (line_granted c s command) c s) s).job ≤ sum_by (pushed_by script n) (drop (length (written s)) (later s))
granted_draws c s script outs written later (commands.Begin level) n data_is job sound schemas at = absurd (cc)
granted_draws c s script outs written later commands.Commit n data_is job sound schemas at = absurd (cc)
granted_draws c s script outs written later commands.Rollback n data_is job sound schemas at = absurd (cc)
granted_draws c s script outs written later (commands.Get t key) n data_is job sound schemas at =
    none_drawn _ _ (quiet_draws c s n (line_granted c s (commands.Get t key)) at.there (found_quiet c s _ (row_seen c s t key) (lines.Looked t) (λ old. reading_quiet c s t (row_read s wanteds.Row old)) tt))
granted_draws c s script outs written later (commands.Part t key column offset len) n data_is job sound schemas at =
    none_drawn _ _ (quiet_draws c s n (line_granted c s (commands.Part t key column offset len)) at.there (found_quiet c s _ (row_seen c s t key) (lines.Looked t) (λ old. reading_quiet c s t (row_read s (part_wanted old column offset len) old)) tt))
granted_draws c s script outs written later (commands.Open name t key column) n data_is job sound schemas at =
    none_drawn _ _ (quiet_draws c s n (line_granted c s (commands.Open name t key column)) at.there (found_quiet c s _ (row_seen c s t key) (lines.Looked t) (λ old. tt) tt))
granted_draws c s script outs written later (commands.Fetch name offset len) n data_is job sound schemas at =
    none_drawn _ _ (quiet_draws c s n (line_granted c s (commands.Fetch name offset len)) at.there
    (found_quiet c s _ (handle_of (seat_of c s).handles name) (lines.Over (seat_of c s).state) (λ handle. fetching_quiet c s handle.table (held_read handle.held (span_of (held_size handle.held) offset len) s)) (inl refl)))
granted_draws c s script outs written later (commands.Close name) n data_is job sound schemas at =
    none_drawn _ _ (quiet_draws c s n (line_granted c s (commands.Close name)) at.there (found_quiet c s _ (handle_of (seat_of c s).handles name) (lines.Over (seat_of c s).state) (λ handle. tt) (inl refl)))
granted_draws c s script outs written later (commands.Insert t key row) n data_is job sound schemas at = draws_insert c s t key row script outs written later n at sound job schemas
granted_draws c s script outs written later (commands.Update t key sets) n data_is job sound schemas at = by (row_seen c s t key) refl sound at
  where
    line : Option OldRow → MomentLine
    line o = option_map_or (λ old. lines.WriteBegun t (key ∷ []) (write_begun c s t (Some old) (Some (updated_row old.stored key sets)))) o (lines.Looked t)

    by : (o : Option OldRow) → row_seen c s t key ≡ o → IsSound (at_moment (line o) c s) → IsMomentOf c (at_moment (line o) c s) s script (unset sets (outs_with outs (written s) (place t key))) outs written later
        → draws_of n (seat_of (at_moment (line o) c s) s).job ≤ sum_by (pushed_by script n) (drop (length (written s)) (later s))
    by None e its told = none_drawn _ _ (quiet_draws c s n (lines.Looked t) told.there tt)
    by (Some row) e its told = draws_set c s t key key (key ∷ []) sets row script outs written later (commands.Update t key sets) n e told its job schemas
granted_draws c s script outs written later (commands.Rekey t from to sets) n data_is job sound schemas at = by (row_seen c s t from) refl sound at
  where
    line : Option OldRow → MomentLine
    line o = option_map_or (λ old. lines.WriteBegun t (from ∷ to ∷ []) (write_begun c s t (Some old) (Some (updated_row old.stored to sets)))) o (lines.Looked t)

    by : (o : Option OldRow) → row_seen c s t from ≡ o → IsSound (at_moment (line o) c s) → IsMomentOf c (at_moment (line o) c s) s script (unset sets (outs_with outs (written s) (place t from))) outs written later
        → draws_of n (seat_of (at_moment (line o) c s) s).job ≤ sum_by (pushed_by script n) (drop (length (written s)) (later s))
    by None e its told = none_drawn _ _ (quiet_draws c s n (lines.Looked t) told.there tt)
    by (Some row) e its told = draws_set c s t from to (from ∷ to ∷ []) sets row script outs written later (commands.Rekey t from to sets) n e told its job schemas
granted_draws c s script outs written later (commands.Delete t key) n data_is job sound schemas at = by (row_seen c s t key) refl sound at
  where
    line : Option OldRow → MomentLine
    line o = option_map_or (λ old. lines.WriteBegun t (key ∷ []) (write_begun c s t (Some old) None)) o (lines.Looked t)

    by : (o : Option OldRow) → row_seen c s t key ≡ o → IsSound (at_moment (line o) c s) → IsMomentOf c (at_moment (line o) c s) s script [] outs written later
        → draws_of n (seat_of (at_moment (line o) c s) s).job ≤ sum_by (pushed_by script n) (drop (length (written s)) (later s))
    by None e its told = none_drawn _ _ (quiet_draws c s n (lines.Looked t) told.there tt)
    by (Some row) e its told = draws_delete c s t (key ∷ []) row script outs written later (commands.Delete t key) n told its job
granted_draws c s script outs written later (commands.VacuumMain t) n data_is job sound schemas at = absurd (cc)
granted_draws c s script outs written later (commands.VacuumToast t) n data_is job sound schemas at = absurd (cc)
granted_draws c s script outs written later (commands.Rewrite t) n data_is job sound schemas at = absurd (cc)
