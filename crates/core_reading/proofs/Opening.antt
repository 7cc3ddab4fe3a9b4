-- The moment of an open, by what it finds.
use Rattle.std.proofs.Common.{ap, refl, sym, ◌∙◌}
use Rattle.std.specs.Option.{unwrap_or}
use Rattle.std.specs.Prelude.{Err, List, None, Option, Some, [], if◌then◌else◌, is_none, is_some, ℕ, ℤ, ◌-◌, ◌∷◌, ◌≡◌}
use Rattle.list_facts.proofs.Changed.{set_twice}
use Rattle.tuple_layout.specs.declared.cell.Cell.{Cell}
use Rattle.tuple_layout.specs.declared.cell.Cell.TheVariants.{Inline, Null, Out}
use Rattle.snapshot_registry.specs.Snapshots.{Snaps, after_share, after_take, least_free}
use Rattle.command_set.specs.Replies.{answers_if, first_of}
use Rattle.command_set.specs.declared.Reply.{Reply}
use Rattle.read_steps.specs.Reads.{cell_of}
use Rattle.read_steps.specs.declared.wanted.Held.{Held}
use Rattle.write_steps.specs.declared.stage.OldRow.{OldRow}
use Rattle.core_state.specs.Lines.{after_looking, after_open, seated, with_handle}
use Rattle.core_state.specs.State.{CoreState, IsSession, handle_of, seat_of, snapshot_of}
use Rattle.core_state.specs.Views.{row_seen}
use Rattle.core_state.specs.declared.advance.Advance.{Advance}
use Rattle.core_state.specs.declared.seat.Handle.{Handle}
use Rattle.core_state.specs.declared.seat.Job.{Job}
use Rattle.core_state.specs.declared.seat.Seat.{Seat}
use Rattle.core_looks.specs.Due.{absent_due, granted_due, handle_there_due, is_null, null_due, reply_due}
use Rattle.core_parts.proofs.Made.{copied_seat, first_inside}
use Rattle.core_parts.proofs.Taking.{copy_is}
use Rattle.core_parts.specs.Moments.{IsMade}
use Rattle.core_parts.specs.Takes.{copied_state, locked, with_copy}
use Rattle.core_reading.proofs.Made.{looked_made}
use Rattle.core_reading.specs.Handles.{column_due, once_opened, seat_with, snaps_with, value_due}
use Rattle.core_reading.specs.Reads.{IsInside}
use Rattle.command_set.specs.declared.Command.TheVariants as commands
use Rattle.command_set.specs.declared.Reply.TheVariants as replies
use Rattle.core_state.specs.declared.advance.Advance.TheVariants as advances
use Rattle.core_state.specs.declared.seat.Job.TheVariants as jobs

-- ---- the line

-- a seat with a handle more, whose command is over
abbrev opened_seat : Snaps → ℕ → ℕ → Held → Seat → Seat
opened_seat snaps t name held seat =
    let handle : Handle = record { name = name; snapshot = unwrap_or (snapshot_of seat.state) (least_free snaps); table = t; held = held } in
    record seat { handles = with_handle seat.handles handle; job = jobs.Idle }

-- and a core in which a session uses its table, whose seat is this
abbrev opened_in : CoreState → ℕ → ℕ → ℕ → Held → Seat → CoreState
opened_in used s t name held seat =
    seated (record used { snaps = if is_none (snapshot_of seat.state) then after_take used.snaps used.xacts else after_share used.snaps (unwrap_or (snapshot_of seat.state) (least_free used.snaps)) }) s (opened_seat used.snaps t name held seat)

pub opened_is : (c : CoreState) (s t name : ℕ) (held : Held) → IsSession c.seats s → (seat_of c s).job ≡ jobs.Idle → once_opened (locked c s t) s name t held ≡ after_open c s t name held
opened_is c s t name held there idle =
    ap (λ (job : Job). seated (record used { snaps = snaps_with (seat_of c s) c.snaps c.xacts }) s (record (seat_with (seat_of c s) c.snaps c.xacts name t held) { job = job })) idle
    ∙ ap (λ (seats : List Seat). record used { snaps = snaps_with (seat_of c s) c.snaps c.xacts; seats = seats }) (sym (set_twice c.seats (s - 1) copied (record (seat_with (seat_of c s) c.snaps c.xacts name t held) { job = jobs.Idle })))
    ∙ ap (λ (u : CoreState). opened_in u s t name held copied) (copy_is used s there)
    ∙ ap (opened_in (with_copy used s) s t name held) (sym (copied_seat used s there))
  where
    used : CoreState
    used = locked c s t

    copied : Seat
    copied = record (seat_of c s) { state = copied_state (seat_of c s).state c.snaps }

-- ---- its reply

-- the rest of its refusals
rest_due : (c : CoreState) (s name t : ℕ) (key : ℤ) (column : ℕ) → IsInside c s t → reply_due c s (commands.Open name t key column) ≡ first_of (handle_there_due c s name ∷ absent_due (row_seen c s t key) ∷ null_due (row_seen c s t key) column ∷ []) replies.Okay
rest_due c s name t key column inside = first_inside (seat_of c s).state (handle_there_due c s name ∷ absent_due (row_seen c s t key) ∷ null_due (row_seen c s t key) column ∷ []) (granted_due c s (commands.Open name t key column)) inside.inside

-- with a new name
new_due : (c : CoreState) (s name t : ℕ) (key : ℤ) (column : ℕ) (o : Option OldRow) → IsInside c s t → handle_of (seat_of c s).handles name ≡ None → row_seen c s t key ≡ o
    → reply_due c s (commands.Open name t key column) ≡ first_of (absent_due o ∷ null_due o column ∷ []) replies.Okay
new_due c s name t key column o inside new seen =
    rest_due c s name t key column inside
    ∙ ap (λ (h : Option Handle). first_of (answers_if (is_some h) replies.HandleThere ∷ absent_due (row_seen c s t key) ∷ null_due (row_seen c s t key) column ∷ []) replies.Okay) new
    ∙ ap (λ (r : Option OldRow). first_of (absent_due r ∷ null_due r column ∷ []) replies.Okay) seen

-- nothing to keep
pub none_made : (c : CoreState) (s name t : ℕ) (key : ℤ) (column : ℕ) (reply : Reply) (new : CoreState) (advance : Advance) → IsInside c s t → handle_of (seat_of c s).handles name ≡ None → value_due (row_seen c s t key) column ≡ Err reply → new ≡ after_looking c s t
    → advance ≡ advances.Done reply → IsMade c s (commands.Open name t key column) new advance
none_made c s name t key column reply new advance inside at none is told = by (row_seen c s t key) refl none
  where
    null : (old : OldRow) (cell : Cell) → row_seen c s t key ≡ Some old → cell_of old.stored.cells column ≡ cell → column_due cell ≡ Err reply → IsMade c s (commands.Open name t key column) new advance
    null old Null seen cell_is e =
        let same : reply ≡ replies.Null = cc in
        looked_made c s t (commands.Open name t key column) replies.Null new advance inside
        (new_due c s name t key column (Some old) inside at seen ∙ ap (λ (x : Cell). first_of (answers_if (is_null x) replies.Null ∷ []) replies.Okay) cell_is) refl is (told ∙ ap advances.Done same)
    null old (Inline value) seen cell_is e = absurd (cc)
    null old (Out pointer) seen cell_is e = absurd (cc)

    by : (o : Option OldRow) → row_seen c s t key ≡ o → value_due o column ≡ Err reply → IsMade c s (commands.Open name t key column) new advance
    by None seen e =
        let same : reply ≡ replies.Absent = cc in
        looked_made c s t (commands.Open name t key column) replies.Absent new advance inside (new_due c s name t key column None inside at seen) refl is (told ∙ ap advances.Done same)
    by (Some old) seen e = null old (cell_of old.stored.cells column) seen refl e
