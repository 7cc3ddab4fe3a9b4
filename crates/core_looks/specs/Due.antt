-- The reply of a command's moment, by what the core itself finds: of its refusals the first that is there, in the plain store's order, else what is granted.
use Rattle.std.specs.List.{enumerate_from, find}
use Rattle.std.specs.Option.{option_map, option_map_or, unwrap_or}
use Rattle.std.specs.Prelude.{Bool, List, None, Option, [], false, is_none, is_some, nat_lt, not, true, ℕ, ℤ, ◌&&◌, ◌++◌, ◌==◌, ◌||◌, ◌∷◌}
use Rattle.tuple_layout.specs.Sizes.{largest_tuple}
use Rattle.tuple_layout.specs.Slices.{slice}
use Rattle.tuple_layout.specs.Tuples.{cell_widths}
use Rattle.tuple_layout.specs.declared.cell.Cell.{Cell}
use Rattle.tuple_layout.specs.declared.cell.Cell.TheVariants.{Inline, Null, Out}
use Rattle.tuple_layout.specs.declared.cell.Stored.{Stored}
use Rattle.tuple_toaster.specs.Pushed.{all_moved_size}
use Rattle.slot_page.specs.Pages.{item_in}
use Rattle.slot_page.specs.declared.line.Tid.{Tid}
use Rattle.xact_status.specs.Xacts.{Xacts, is_committed}
use Rattle.lock_table.specs.Held.{holds_row}
use Rattle.lock_table.specs.Locks.{held_by}
use Rattle.lock_table.specs.declared.held.SessionLocks.{SessionLocks}
use Rattle.lock_table.specs.declared.lock.RowKey.{RowKey}
use Rattle.command_set.specs.Replies.{answers_if, bad_offset, first_of}
use Rattle.command_set.specs.declared.Command.{Command}
use Rattle.command_set.specs.declared.Reply.{Reply}
use Rattle.table_state.specs.Rows.{cell_value}
use Rattle.table_state.specs.declared.table.Table.{Table}
use Rattle.read_steps.specs.Reads.{cell_of}
use Rattle.write_steps.specs.declared.stage.OldRow.{OldRow}
use Rattle.core_state.specs.Begun.{inserted_row, updated_row}
use Rattle.core_state.specs.Stands.{row_in_table}
use Rattle.core_state.specs.State.{CoreState, handle_of, seat_of, snapshot_of, table_at}
use Rattle.core_state.specs.Views.{found_row, held_value, in_sight, registered, row_seen}
use Rattle.core_state.specs.declared.seat.Handle.{Handle}
use Rattle.core_state.specs.declared.seat.State.{State}
use Rattle.command_set.specs.declared.Command.TheVariants as commands
use Rattle.command_set.specs.declared.Reply.TheVariants as replies
use Rattle.core_state.specs.declared.seat.State.TheVariants as states

-- ---- what a session finds

-- the row that is there for its transaction at a key now, whatever its snapshot shows
abbrev pub row_now : CoreState → ℕ → ℕ → ℤ → Option OldRow
row_now c s t key = found_row (table_at c.tables t) (in_sight c.xacts (seat_of c s).state) key

-- the cells of a row that was found; none where there is no row
abbrev pub cells_found : Option OldRow → List Cell
cells_found old = option_map_or (λ old. old.stored.cells) old []

-- the claim of a key of a table
abbrev pub claim_of : ℕ → ℤ → RowKey
claim_of t key = record { table = t; key = key }

-- the least other session that has claimed a row, if one has
abbrev pub claimer_of : List SessionLocks → ℕ → RowKey → Option ℕ
claimer_of locks s row = option_map (λ (n, held). n) (find (λ (n, held). not (n == s) && holds_row held.rows row) (enumerate_from 0 locks))

-- whether the end of the version at a tid has committed
abbrev pub is_ended_at : Xacts → Table → Tid → Bool
is_ended_at xacts table tid = option_map_or (λ version. option_map_or (is_committed xacts) version.ender false) (item_in table.rows.pages tid) false

-- whether a found row has changed since the snapshot of the session's transaction, if it has one: another session's change of it has committed, and the session has not claimed it
abbrev pub has_changed : CoreState → ℕ → ℕ → ℤ → OldRow → Bool
has_changed c s t key old = is_some (registered c.snaps (snapshot_of (seat_of c s).state)) && (is_ended_at c.xacts (table_at c.tables t) old.tid && not (holds_row (held_by c.locks s).rows (claim_of t key)))

abbrev pub is_outside : State → Bool
is_outside states.Outside = true
is_outside states.Failed = false
is_outside (states.Open level xid snapshot) = false

abbrev pub is_failed : State → Bool
is_failed states.Outside = false
is_failed states.Failed = true
is_failed (states.Open level xid snapshot) = false

abbrev pub is_null : Cell → Bool
is_null Null = true
is_null (Inline value) = false
is_null (Out pointer) = false

-- ---- the refusals, each where its test holds

-- the session is in no transaction; in one, open or failed; in a failed one
abbrev pub outside_due : State → Option Reply
outside_due state = answers_if (is_outside state) replies.Outside

abbrev pub inside_due : State → Option Reply
inside_due state = answers_if (not (is_outside state)) replies.Inside

abbrev pub failed_due : State → Option Reply
failed_due state = answers_if (is_failed state) replies.Failed

-- the transaction that ends has failed
abbrev pub rolled_back_due : State → Option Reply
rolled_back_due state = answers_if (is_failed state) replies.RolledBack

-- the session's reads find no row at the key
abbrev pub absent_due : Option OldRow → Option Reply
absent_due old = answers_if (is_none old) replies.Absent

-- the column of the row that they find is null
abbrev pub null_due : Option OldRow → ℕ → Option Reply
null_due old column = answers_if (is_null (cell_of (cells_found old) column)) replies.Null

-- another session has claimed the row
abbrev pub busy_due : CoreState → ℕ → ℕ → ℤ → Option Reply
busy_due c s t key = option_map replies.Busy (claimer_of c.locks s (claim_of t key))

-- the row that was found has changed since
abbrev pub changed_due : CoreState → ℕ → ℕ → ℤ → Option OldRow → Option Reply
changed_due c s t key old = answers_if (option_map_or (has_changed c s t key) old false) replies.Changed

-- a row is at the key, there now or found by the session's reads
abbrev pub taken_due : CoreState → ℕ → ℕ → ℤ → Option Reply
taken_due c s t key = answers_if (is_some (row_now c s t key) || is_some (row_seen c s t key)) replies.Taken

-- the row's tuple is too large with every column out of line that may be
abbrev pub too_big_due : CoreState → ℕ → Stored → Option Reply
too_big_due c t new = let n = all_moved_size (table_at c.tables t).rows.schema.storages (cell_widths new.cells) in answers_if (nat_lt largest_tuple n) (replies.TooBig n)

-- the same of a row that was found, once it is changed
abbrev pub too_big_once : CoreState → ℕ → (Stored → Stored) → Option OldRow → Option Reply
too_big_once c t change old = option_map_or (λ old. too_big_due c t (change old.stored)) old None

-- no handle of the name is open, or one is
abbrev pub no_handle_due : CoreState → ℕ → ℕ → Option Reply
no_handle_due c s name = answers_if (is_none (handle_of (seat_of c s).handles name)) replies.NoHandle

abbrev pub handle_there_due : CoreState → ℕ → ℕ → Option Reply
handle_there_due c s name = answers_if (is_some (handle_of (seat_of c s).handles name)) replies.HandleThere

-- ---- a command's

-- the refusals of a data command that come before any other. No table is locked against its use, as no upkeep is built
abbrev pub refusals_first : CoreState → ℕ → List (Option Reply)
refusals_first c s = outside_due (seat_of c s).state ∷ failed_due (seat_of c s).state ∷ []

-- the refusals of a command in their order. Upkeep is never submitted, and has none
abbrev pub refusals_due : CoreState → ℕ → Command → List (Option Reply)
refusals_due c s (commands.Begin level) = inside_due (seat_of c s).state ∷ []
refusals_due c s commands.Commit = outside_due (seat_of c s).state ∷ rolled_back_due (seat_of c s).state ∷ []
refusals_due c s commands.Rollback = outside_due (seat_of c s).state ∷ []
refusals_due c s (commands.Get t key) = refusals_first c s ++ absent_due (row_seen c s t key) ∷ []
refusals_due c s (commands.Part t key column offset len) =
    let old = row_seen c s t key in
    refusals_first c s ++ absent_due old ∷ null_due old column ∷ bad_offset offset ∷ []
refusals_due c s (commands.Open name t key column) =
    let old = row_seen c s t key in
    refusals_first c s ++ handle_there_due c s name ∷ absent_due old ∷ null_due old column ∷ []
refusals_due c s (commands.Fetch name offset len) = refusals_first c s ++ no_handle_due c s name ∷ bad_offset offset ∷ []
refusals_due c s (commands.Close name) = refusals_first c s ++ no_handle_due c s name ∷ []
refusals_due c s (commands.Insert t key row) = refusals_first c s ++ busy_due c s t key ∷ taken_due c s t key ∷ too_big_due c t (inserted_row key row) ∷ []
refusals_due c s (commands.Update t key sets) =
    let old = row_seen c s t key in
    refusals_first c s ++ absent_due old ∷ busy_due c s t key ∷ changed_due c s t key old ∷ too_big_once c t (λ stored. updated_row stored key sets) old ∷ []
refusals_due c s (commands.Delete t key) =
    let old = row_seen c s t key in
    refusals_first c s ++ absent_due old ∷ busy_due c s t key ∷ changed_due c s t key old ∷ []
refusals_due c s (commands.Rekey t from to sets) =
    let old = row_seen c s t from in
    refusals_first c s ++ absent_due old ∷ busy_due c s t from ∷ changed_due c s t from old ∷ busy_due c s t to ∷ taken_due c s t to ∷ too_big_once c t (λ stored. updated_row stored to sets) old ∷ []
refusals_due c s command = []

-- what a granted command answers: a read what it finds, with the bytes of its values
abbrev pub granted_due : CoreState → ℕ → Command → Reply
granted_due c s (commands.Get t key) = replies.Row key (row_in_table c.tables t (cells_found (row_seen c s t key)))
granted_due c s (commands.Part t key column offset len) =
    let cell = cell_of (cells_found (row_seen c s t key)) column in
    replies.Bytes (slice (unwrap_or (cell_value (table_at c.tables t).toast cell) []) offset len)
granted_due c s (commands.Fetch name offset len) =
    let bytes = option_map_or (λ (handle : Handle). held_value c.tables handle.table handle.held) (handle_of (seat_of c s).handles name) [] in
    replies.Bytes (slice bytes offset len)
granted_due c s (commands.VacuumMain t) = replies.Started
granted_due c s (commands.VacuumToast t) = replies.Started
granted_due c s (commands.Rewrite t) = replies.Started
granted_due c s command = replies.Okay

-- the reply of a command's moment
abbrev pub reply_due : CoreState → ℕ → Command → Reply
reply_due c s command = first_of (refusals_due c s command) (granted_due c s command)
