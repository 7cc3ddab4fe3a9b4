-- How a write begins at its moment: its table is used and its keys are claimed; its transaction has its copy and an xid; and it is its session's job.
use Rattle.std.specs.Option.{unwrap_or}
use Rattle.std.specs.Prelude.{List, Option, nat_lt, true, ℕ, ℤ, ◌≡◌}
use Rattle.tuple_layout.specs.Sizes.{largest_tuple}
use Rattle.tuple_layout.specs.Tuples.{cell_widths}
use Rattle.tuple_layout.specs.declared.Storage.{Storage}
use Rattle.tuple_layout.specs.declared.cell.Stored.{Stored}
use Rattle.tuple_toaster.specs.Pushed.{all_moved_size}
use Rattle.xact_status.specs.Xacts.{next_xid}
use Rattle.lock_table.specs.Locks.{granted, table_lock}
use Rattle.lock_table.specs.declared.lock.LockMode.TheVariants.{Use}
use Rattle.command_set.specs.Replies.{answers_if}
use Rattle.command_set.specs.declared.Command.{Command}
use Rattle.command_set.specs.declared.Reply.{Reply}
use Rattle.write_steps.specs.Writes.{new_write}
use Rattle.write_steps.specs.declared.stage.OldRow.{OldRow}
use Rattle.core_state.specs.Events.{at_moment, line_granted}
use Rattle.core_state.specs.Lines.{once_assigned, once_claimed, once_kept, seated, with_xid}
use Rattle.core_state.specs.State.{CoreState, is_past_moment, seat_of, xid_of}
use Rattle.core_looks.specs.Due.{reply_due}
use Rattle.core_parts.specs.Takes.{with_copy}
use Rattle.command_set.specs.declared.Reply.TheVariants as replies
use Rattle.core_state.specs.declared.seat.Job.TheVariants as jobs

-- a session uses a table and has claimed some keys of it
abbrev pub keys_locked : CoreState → ℕ → ℕ → List ℤ → CoreState
keys_locked c s t keys = record c { locks = once_claimed (granted c.locks s (table_lock t Use)) s t keys }

-- the xid of a session's transaction, or the next one
abbrev pub own_xid : CoreState → ℕ → ℕ
own_xid c s = unwrap_or (xid_of (seat_of c s).state) (next_xid c.xacts)

-- a session's transaction has its copy, and an xid
abbrev pub once_given : CoreState → ℕ → CoreState
once_given c s =
    let copied = with_copy c s in
    let seat = seat_of copied s in
    let xid = xid_of seat.state in
    seated (record copied { xacts = once_assigned copied.xacts s xid; log = once_kept copied.log xid }) s
    (record seat { state = with_xid seat.state (own_xid copied s) })

-- and a write of these rows is its session's job
abbrev pub once_begun : CoreState → ℕ → ℕ → Option OldRow → Option Stored → List ℕ → CoreState
once_begun c s t old new plan =
    let given = once_given c s in
    let write = new_write t s (own_xid (with_copy c s) s) old new plan in
    seated given s (record (seat_of given s) { job = jobs.Writing t write })

-- a row's tuple is too large for a table of these columns with every column out of line that may be
abbrev pub too_big_for : List Storage → Stored → Option Reply
too_big_for storages new = let n = all_moved_size storages (cell_widths new.cells) in answers_if (nat_lt largest_tuple n) (replies.TooBig n)

-- the write of a command has begun by the line that is due, and goes on past its moment, as no refusal holds
pub record HasBegun (c : CoreState) (s : ℕ) (command : Command) (new : CoreState) : Type 0 where
  pub is : new ≡ at_moment (line_granted c s command) c s
  pub past : is_past_moment (seat_of new s).job ≡ true
  pub due : reply_due c s command ≡ replies.Okay
