-- What the moments of handles need of a core, and make of it.
use Rattle.std.specs.List.Sorted.{IsStrictlySortedBy}
use Rattle.std.specs.Ordering.{nat_cmp}
use Rattle.std.specs.Prelude.{Err, List, None, Ok, Option, Result, Some, length, option_map, slice_get, true, ℕ, ℤ, ◌<◌, ◌≡◌, ◌≤◌}
use Rattle.tuple_layout.specs.declared.cell.Cell.{Cell}
use Rattle.tuple_layout.specs.declared.cell.Cell.TheVariants.{Inline, Null, Out}
use Rattle.xact_status.specs.Xacts.{Xacts}
use Rattle.snapshot_registry.specs.Snapshots.{Snaps, holders_at, is_registered}
use Rattle.command_set.specs.declared.Reply.{Reply}
use Rattle.read_steps.specs.Reads.{Reading, cell_of, held_read, needs_store, reply_of}
use Rattle.read_steps.specs.declared.wanted.Held.{Held}
use Rattle.write_steps.specs.declared.stage.OldRow.{OldRow}
use Rattle.core_state.specs.Begun.{held_size}
use Rattle.core_state.specs.Events.{at_moment, line_fetching}
use Rattle.core_state.specs.Lines.{seated, with_handle}
use Rattle.core_state.specs.State.{CoreState, handle_of, is_open, seat_of, snapshot_of, table_at}
use Rattle.core_state.specs.declared.advance.Advance.{Advance}
use Rattle.core_state.specs.declared.seat.Handle.{Handle}
use Rattle.core_state.specs.declared.seat.Seat.{Seat}
use Rattle.core_parts.specs.Moments.{told_at}
use Rattle.core_parts.specs.Takes.{copied_snaps, copied_state, handle_snaps, id_for_handle}
use Rattle.core_reading.specs.Spans.{span_due}
use Rattle.core_sights.specs.Ready.{IsReady}
use Rattle.command_set.specs.declared.Reply.TheVariants as replies
use Rattle.read_steps.specs.declared.wanted.Held.TheVariants as helds

-- a session is at a moment, in an open transaction
pub record InTransaction (c : CoreState) (s : ℕ) : Type 0 where
  pub ready : IsReady c s
  pub inside : is_open (seat_of c s).state ≡ true

-- ---- how many handles there are

-- they stand in the order of their names
abbrev pub AreNamed : List Handle → Type 0
AreNamed handles = IsStrictlySortedBy (λ (handle other : Handle). nat_cmp handle.name other.name) handles

-- each session that has them so has at most as many as there are names
pub record AreFew (seats : List Seat) : Type 0 where
  pub each : (i : ℕ) (seat : Seat) → slice_get seats i ≡ Some seat → AreNamed seat.handles → length seat.handles ≤ 65536

-- ---- a handle is opened

-- the value of a column, as a handle keeps it
abbrev pub column_due : Cell → Result Held Reply
column_due Null = Err replies.Null
column_due (Inline value) = Ok (helds.Inline value)
column_due (Out pointer) = Ok (helds.Out pointer)

-- of a row that was found
abbrev pub value_due : Option OldRow → ℕ → Result Held Reply
value_due None column = Err replies.Absent
value_due (Some old) column = column_due (cell_of old.stored.cells column)

-- a handle of a new name can be put among those of a session, whose transaction's snapshot can have a holder more
pub record CanKeep (seat : Seat) (snaps : Snaps) (name : ℕ) : Type 0 where
  pub named : AreNamed seat.handles
  pub new : handle_of seat.handles name ≡ None
  pub registered : (id : ℕ) → snapshot_of seat.state ≡ Some id → is_registered snaps id ≡ true
  pub few : (id : ℕ) → holders_at snaps id < 4294967295

-- the seat of a session that keeps a value more, and the snapshots then
abbrev pub seat_with : Seat → Snaps → Xacts → ℕ → ℕ → Held → Seat
seat_with seat snaps xacts name t held =
    let state = copied_state seat.state snaps in
    record seat { state = state; handles = with_handle seat.handles (record { name = name; snapshot = id_for_handle state (copied_snaps seat.state snaps xacts); table = t; held = held }) }

abbrev pub snaps_with : Seat → Snaps → Xacts → Snaps
snaps_with seat snaps xacts = handle_snaps (copied_state seat.state snaps) (copied_snaps seat.state snaps xacts) xacts

-- the core then
abbrev pub once_opened : CoreState → ℕ → ℕ → ℕ → Held → CoreState
once_opened c s name t held = seated (record c { snaps = snaps_with (seat_of c s) c.snaps c.xacts }) s (seat_with (seat_of c s) c.snaps c.xacts name t held)

-- ---- a part of a kept value is fetched

-- the read of a slice of it; none where the offset is negative
abbrev pub slice_read : ℕ → ℤ → ℤ → Held → Option Reading
slice_read s offset len held = option_map (λ span. held_read held span s) (span_due (held_size held) offset len)

-- it goes on from its moment, or is over with the reply that it comes to
pub record BeginsFetch (c : CoreState) (s t : ℕ) (read : Reading) (new : CoreState) (advance : Advance) : Type 0 where
  pub is : new ≡ at_moment (line_fetching (seat_of c s).state t read) c s
  pub told : (reply : Reply) → reply_of (table_at c.tables t).toast read ≡ Some reply → advance ≡ told_at (needs_store read) reply
