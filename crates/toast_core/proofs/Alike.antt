-- What a command's moment answers, and the line that is due then, do not depend on the session's job.
use Rattle.std.proofs.Common.{ap, refl, ◌∙◌}
use Rattle.std.specs.Option.{option_map_or, unwrap_or}
use Rattle.std.specs.Prelude.{List, None, Option, Some, [], if◌then◌else◌, is_none, is_some, not, ℕ, ℤ, ◌&&◌, ◌++◌, ◌||◌, ◌∷◌, ◌≡◌}
use Rattle.tuple_layout.specs.Slices.{slice}
use Rattle.tuple_layout.specs.declared.cell.Stored.{Stored}
use Rattle.xact_status.specs.Xacts.{next_xid}
use Rattle.lock_table.specs.Held.{holds_row}
use Rattle.lock_table.specs.Locks.{held_by}
use Rattle.command_set.specs.Answers.{table_of}
use Rattle.command_set.specs.Replies.{answers_if, bad_offset, first_of, is_granted}
use Rattle.command_set.specs.declared.Command.{Command}
use Rattle.command_set.specs.declared.Reply.{Reply}
use Rattle.table_state.specs.Rows.{cell_value}
use Rattle.read_steps.specs.Reads.{cell_of, held_read}
use Rattle.read_steps.specs.declared.wanted.Wanted.{Wanted}
use Rattle.write_steps.specs.Writes.{new_write}
use Rattle.write_steps.specs.declared.stage.OldRow.{OldRow}
use Rattle.core_state.proofs.Seats.{seat_written}
use Rattle.core_state.specs.Begun.{held_in, held_size, inserted_row, keys_claimed, part_wanted, plan_of, row_read, span_of, updated_row, write_begun}
use Rattle.core_state.specs.Events.{MomentLine, line_due, line_fetching, line_granted, line_reading, line_refused}
use Rattle.core_state.specs.Stands.{row_in_table}
use Rattle.core_state.specs.State.{CoreState, IsSession, handle_of, is_open, seat_of, snapshot_of, table_at, xid_of}
use Rattle.core_state.specs.Views.{found_row, held_value, in_sight, in_view, registered, row_seen}
use Rattle.core_state.specs.declared.seat.Handle.{Handle}
use Rattle.core_state.specs.declared.seat.Seat.{Seat}
use Rattle.core_state.specs.declared.seat.State.{State}
use Rattle.core_looks.specs.Due.{absent_due, busy_due, cells_found, changed_due, claim_of, failed_due, granted_due, handle_there_due, inside_due, is_ended_at, null_due, outside_due, refusals_due, refusals_first, reply_due, rolled_back_due, row_now, taken_due, too_big_due, too_big_once}
use Rattle.core_parts.specs.Moments.{idled}
use Rattle.command_set.specs.declared.Command.TheVariants as commands
use Rattle.command_set.specs.declared.Reply.TheVariants as replies
use Rattle.core_state.specs.Events as lines
use Rattle.core_state.specs.declared.seat.Job.TheVariants as jobs
use Rattle.core_state.specs.declared.seat.State.TheVariants as states
use Rattle.read_steps.specs.declared.wanted.Wanted.TheVariants as wanteds

-- ---- what the session has and finds

seat_idled : (c : CoreState) (s : ℕ) → IsSession c.seats s → seat_of (idled c s) s ≡ record (seat_of c s) { job = jobs.Idle }
seat_idled c s there = seat_written c.seats s (record (seat_of c s) { job = jobs.Idle }) there

state_idled : (c : CoreState) (s : ℕ) → IsSession c.seats s → (seat_of (idled c s) s).state ≡ (seat_of c s).state
state_idled c s there = ap (λ (seat : Seat). seat.state) (seat_idled c s there)

handle_idled : (c : CoreState) (s name : ℕ) → IsSession c.seats s → handle_of (seat_of (idled c s) s).handles name ≡ handle_of (seat_of c s).handles name
handle_idled c s name there = ap (λ (seat : Seat). handle_of seat.handles name) (seat_idled c s there)

seen_idled : (c : CoreState) (s t : ℕ) (key : ℤ) → IsSession c.seats s → row_seen (idled c s) s t key ≡ row_seen c s t key
seen_idled c s t key there = ap (λ (state : State). found_row (table_at c.tables t) (in_view c.xacts c.snaps state) key) (state_idled c s there)

now_idled : (c : CoreState) (s t : ℕ) (key : ℤ) → IsSession c.seats s → row_now (idled c s) s t key ≡ row_now c s t key
now_idled c s t key there = ap (λ (state : State). found_row (table_at c.tables t) (in_sight c.xacts state) key) (state_idled c s there)

-- ---- the reply

first_idled : (c : CoreState) (s : ℕ) → IsSession c.seats s → (rest : List (Option Reply)) (later : List (Option Reply)) → rest ≡ later → refusals_first (idled c s) s ++ rest ≡ refusals_first c s ++ later
first_idled c s there rest later is =
    ap (λ (state : State). outside_due state ∷ failed_due state ∷ rest) (state_idled c s there)
    ∙ ap (λ (xs : List (Option Reply)). refusals_first c s ++ xs) is

taken_idled : (c : CoreState) (s t : ℕ) (key : ℤ) → IsSession c.seats s → taken_due (idled c s) s t key ≡ taken_due c s t key
taken_idled c s t key there =
    ap (λ (o : Option OldRow). answers_if (is_some o || is_some (row_seen (idled c s) s t key)) replies.Taken) (now_idled c s t key there)
    ∙ ap (λ (o : Option OldRow). answers_if (is_some (row_now c s t key) || is_some o) replies.Taken) (seen_idled c s t key there)

changed_idled : (c : CoreState) (s t : ℕ) (key : ℤ) (old : Option OldRow) → IsSession c.seats s → changed_due (idled c s) s t key old ≡ changed_due c s t key old
changed_idled c s t key None there = refl
changed_idled c s t key (Some old) there = ap (λ (state : State). answers_if (is_some (registered c.snaps (snapshot_of state)) && (is_ended_at c.xacts (table_at c.tables t) old.tid && not (holds_row (held_by c.locks s).rows (claim_of t key)))) replies.Changed) (state_idled c s there)

-- the refusals of a write of a row that was found, by that row
abbrev write_refusals : CoreState → ℕ → ℕ → ℤ → List (Option Reply) → Option OldRow → List (Option Reply)
write_refusals c s t key rest old = absent_due old ∷ busy_due c s t key ∷ changed_due c s t key old ∷ rest

write_idled : (c : CoreState) (s t : ℕ) (key : ℤ) (rest later : Option OldRow → List (Option Reply)) → IsSession c.seats s → ((old : Option OldRow) → rest old ≡ later old)
    → write_refusals (idled c s) s t key (rest (row_seen (idled c s) s t key)) (row_seen (idled c s) s t key) ≡ write_refusals c s t key (later (row_seen c s t key)) (row_seen c s t key)
write_idled c s t key rest later there same =
    ap (λ (old : Option OldRow). write_refusals (idled c s) s t key (rest old) old) (seen_idled c s t key there)
    ∙ ap (λ (changed : Option Reply). absent_due (row_seen c s t key) ∷ busy_due c s t key ∷ changed ∷ rest (row_seen c s t key)) (changed_idled c s t key (row_seen c s t key) there)
    ∙ ap (λ (xs : List (Option Reply)). write_refusals c s t key xs (row_seen c s t key)) (same (row_seen c s t key))

refusals_idled : (c : CoreState) (s : ℕ) (command : Command) → IsSession c.seats s → refusals_due (idled c s) s command ≡ refusals_due c s command
refusals_idled c s (commands.Begin level) there = ap (λ (state : State). inside_due state ∷ []) (state_idled c s there)
refusals_idled c s commands.Commit there = ap (λ (state : State). outside_due state ∷ rolled_back_due state ∷ []) (state_idled c s there)
refusals_idled c s commands.Rollback there = ap (λ (state : State). outside_due state ∷ []) (state_idled c s there)
refusals_idled c s (commands.Get t key) there = first_idled c s there _ _ (ap (λ (old : Option OldRow). absent_due old ∷ []) (seen_idled c s t key there))
refusals_idled c s (commands.Part t key column offset len) there = first_idled c s there _ _ (ap (λ (old : Option OldRow). absent_due old ∷ null_due old column ∷ bad_offset offset ∷ []) (seen_idled c s t key there))
refusals_idled c s (commands.Open name t key column) there =
    first_idled c s there _ _
    (ap (λ (handle : Option Handle). answers_if (is_some handle) replies.HandleThere ∷ absent_due (row_seen (idled c s) s t key) ∷ null_due (row_seen (idled c s) s t key) column ∷ []) (handle_idled c s name there)
    ∙ ap (λ (old : Option OldRow). handle_there_due c s name ∷ absent_due old ∷ null_due old column ∷ []) (seen_idled c s t key there))
refusals_idled c s (commands.Fetch name offset len) there = first_idled c s there _ _ (ap (λ (handle : Option Handle). answers_if (is_none handle) replies.NoHandle ∷ bad_offset offset ∷ []) (handle_idled c s name there))
refusals_idled c s (commands.Close name) there = first_idled c s there _ _ (ap (λ (handle : Option Handle). answers_if (is_none handle) replies.NoHandle ∷ []) (handle_idled c s name there))
refusals_idled c s (commands.Insert t key row) there = first_idled c s there _ _ (ap (λ (taken : Option Reply). busy_due c s t key ∷ taken ∷ too_big_due c t (inserted_row key row) ∷ []) (taken_idled c s t key there))
refusals_idled c s (commands.Update t key sets) there =
    first_idled c s there _ _ (write_idled c s t key (λ old. too_big_once c t (λ stored. updated_row stored key sets) old ∷ []) (λ old. too_big_once c t (λ stored. updated_row stored key sets) old ∷ []) there (λ old. refl))
refusals_idled c s (commands.Delete t key) there = first_idled c s there _ _ (write_idled c s t key (λ old. []) (λ old. []) there (λ old. refl))
refusals_idled c s (commands.Rekey t from to sets) there =
    first_idled c s there _ _
    (write_idled c s t from (λ old. busy_due c s t to ∷ taken_due (idled c s) s t to ∷ too_big_once c t (λ stored. updated_row stored to sets) old ∷ []) (λ old. busy_due c s t to ∷ taken_due c s t to ∷ too_big_once c t (λ stored. updated_row stored to sets) old ∷ []) there
    (λ old. ap (λ (taken : Option Reply). busy_due c s t to ∷ taken ∷ too_big_once c t (λ stored. updated_row stored to sets) old ∷ []) (taken_idled c s t to there)))
refusals_idled c s (commands.VacuumMain t) there = refl
refusals_idled c s (commands.VacuumToast t) there = refl
refusals_idled c s (commands.Rewrite t) there = refl

granted_idled : (c : CoreState) (s : ℕ) (command : Command) → IsSession c.seats s → granted_due (idled c s) s command ≡ granted_due c s command
granted_idled c s (commands.Begin level) there = refl
granted_idled c s commands.Commit there = refl
granted_idled c s commands.Rollback there = refl
granted_idled c s (commands.Get t key) there = ap (λ (old : Option OldRow). replies.Row key (row_in_table c.tables t (cells_found old))) (seen_idled c s t key there)
granted_idled c s (commands.Part t key column offset len) there =
    ap (λ (old : Option OldRow). replies.Bytes (slice (unwrap_or (cell_value (table_at c.tables t).toast (cell_of (cells_found old) column)) []) offset len)) (seen_idled c s t key there)
granted_idled c s (commands.Open name t key column) there = refl
granted_idled c s (commands.Fetch name offset len) there =
    ap (λ (o : Option Handle). replies.Bytes (slice (option_map_or (λ (handle : Handle). held_value c.tables handle.table handle.held) o []) offset len)) (handle_idled c s name there)
granted_idled c s (commands.Close name) there = refl
granted_idled c s (commands.Insert t key row) there = refl
granted_idled c s (commands.Update t key sets) there = refl
granted_idled c s (commands.Delete t key) there = refl
granted_idled c s (commands.Rekey t from to sets) there = refl
granted_idled c s (commands.VacuumMain t) there = refl
granted_idled c s (commands.VacuumToast t) there = refl
granted_idled c s (commands.Rewrite t) there = refl

pub reply_idled : (c : CoreState) (s : ℕ) (command : Command) → IsSession c.seats s → reply_due (idled c s) s command ≡ reply_due c s command
reply_idled c s command there =
    ap (λ (refusals : List (Option Reply)). first_of refusals (granted_due (idled c s) s command)) (refusals_idled c s command there)
    ∙ ap (λ (reply : Reply). first_of (refusals_due c s command) reply) (granted_idled c s command there)

-- ---- the line

begun_idled : (c : CoreState) (s t : ℕ) (old : Option OldRow) (new : Option Stored) → IsSession c.seats s → write_begun (idled c s) s t old new ≡ write_begun c s t old new
begun_idled c s t old new there = ap (λ (state : State). new_write t s (unwrap_or (xid_of state) (next_xid c.xacts)) old new (plan_of (table_at c.tables t).rows.schema.storages new)) (state_idled c s there)

-- the line of a write of a row that was found
abbrev line_writing : CoreState → ℕ → ℕ → List ℤ → (OldRow → Option Stored) → Option OldRow → MomentLine
line_writing c s t keys new o = option_map_or (λ old. lines.WriteBegun t keys (write_begun c s t (Some old) (new old))) o (lines.Looked t)

writing_idled : (c : CoreState) (s t : ℕ) (key : ℤ) (keys : List ℤ) (new : OldRow → Option Stored) → IsSession c.seats s → line_writing (idled c s) s t keys new (row_seen (idled c s) s t key) ≡ line_writing c s t keys new (row_seen c s t key)
writing_idled c s t key keys new there = ap (line_writing (idled c s) s t keys new) (seen_idled c s t key there) ∙ by (row_seen c s t key)
  where
    by : (o : Option OldRow) → line_writing (idled c s) s t keys new o ≡ line_writing c s t keys new o
    by None = refl
    by (Some old) = ap (lines.WriteBegun t keys) (begun_idled c s t (Some old) (new old) there)

-- the line of a read of a row that was found
abbrev line_of_row : ℕ → ℕ → (OldRow → Wanted) → Option OldRow → MomentLine
line_of_row s t wanted o = option_map_or (λ old. line_reading t (row_read s (wanted old) old)) o (lines.Looked t)

granted_line_idled : (c : CoreState) (s : ℕ) (command : Command) → IsSession c.seats s → line_granted (idled c s) s command ≡ line_granted c s command
granted_line_idled c s (commands.Begin level) there = refl
granted_line_idled c s commands.Commit there = refl
granted_line_idled c s commands.Rollback there = ap (λ (state : State). if is_open state then lines.GivenUp states.Outside else lines.Over states.Outside) (state_idled c s there)
granted_line_idled c s (commands.Get t key) there = ap (line_of_row s t (λ old. wanteds.Row)) (seen_idled c s t key there)
granted_line_idled c s (commands.Part t key column offset len) there = ap (line_of_row s t (λ old. part_wanted old column offset len)) (seen_idled c s t key there)
granted_line_idled c s (commands.Open name t key column) there = ap (λ (o : Option OldRow). option_map_or (λ (old : OldRow). lines.Opened t name (held_in (cell_of old.stored.cells column))) o (lines.Looked t)) (seen_idled c s t key there)
granted_line_idled c s (commands.Fetch name offset len) there =
    ap (λ (seat : Seat). option_map_or (λ (handle : Handle). line_fetching seat.state handle.table (held_read handle.held (span_of (held_size handle.held) offset len) s)) (handle_of seat.handles name) (lines.Over seat.state)) (seat_idled c s there)
granted_line_idled c s (commands.Close name) there = ap (λ (seat : Seat). option_map_or lines.Closed (handle_of seat.handles name) (lines.Over seat.state)) (seat_idled c s there)
granted_line_idled c s (commands.Insert t key row) there = ap (lines.WriteBegun t (keys_claimed (commands.Insert t key row))) (begun_idled c s t None (Some (inserted_row key row)) there)
granted_line_idled c s (commands.Update t key sets) there = writing_idled c s t key (keys_claimed (commands.Update t key sets)) (λ old. Some (updated_row old.stored key sets)) there
granted_line_idled c s (commands.Rekey t from to sets) there = writing_idled c s t from (keys_claimed (commands.Rekey t from to sets)) (λ old. Some (updated_row old.stored to sets)) there
granted_line_idled c s (commands.Delete t key) there = writing_idled c s t key (keys_claimed (commands.Delete t key)) (λ old. None) there
granted_line_idled c s (commands.VacuumMain t) there = ap lines.Over (state_idled c s there)
granted_line_idled c s (commands.VacuumToast t) there = ap lines.Over (state_idled c s there)
granted_line_idled c s (commands.Rewrite t) there = ap lines.Over (state_idled c s there)

pub line_idled : (c : CoreState) (s : ℕ) (command : Command) (reply : Reply) → IsSession c.seats s → line_due (idled c s) s command reply ≡ line_due c s command reply
line_idled c s command reply there =
    ap (λ (line : MomentLine). if is_granted reply then line else line_refused (seat_of (idled c s) s).state (table_of command) reply) (granted_line_idled c s command there)
    ∙ ap (λ (state : State). if is_granted reply then line_granted c s command else line_refused state (table_of command) reply) (state_idled c s there)
