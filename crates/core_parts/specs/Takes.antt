-- What a session takes at a command's moment: each as one total function of the parts that it changes.
use Rattle.std.specs.Option.{unwrap_or}
use Rattle.std.specs.Prelude.{None, Option, Some, if◌then◌else◌, is_none, ℕ, ℤ}
use Rattle.xact_status.specs.Xacts.{Xacts}
use Rattle.snapshot_registry.specs.Snapshots.{Snaps, after_release, after_share, after_take, least_free}
use Rattle.lock_table.specs.Locks.{after_asking, granted, row_lock, table_lock}
use Rattle.lock_table.specs.declared.lock.LockMode.TheVariants.{Use}
use Rattle.read_steps.specs.Reads.{Reading}
use Rattle.core_parts.specs.Found.{without_handle}
use Rattle.core_state.specs.Lines.{seated, takes_copy, with_snapshot}
use Rattle.core_state.specs.State.{CoreState, is_repeatable, seat_of, snapshot_of}
use Rattle.core_state.specs.declared.seat.State.{State}
use Rattle.core_state.specs.declared.seat.Job.TheVariants as jobs

-- a transaction's state, and the snapshots, once it has its copy
abbrev pub copied_state : State → Snaps → State
copied_state state snaps = if takes_copy state then with_snapshot state (least_free snaps) else state

abbrev pub copied_snaps : State → Snaps → Xacts → Snaps
copied_snaps state snaps xacts = if takes_copy state then after_take snaps xacts else snaps

-- the snapshots once a read has what it reads by
abbrev pub read_snaps : State → Snaps → Xacts → Snaps
read_snaps state snaps xacts = if is_repeatable state then copied_snaps state snaps xacts else after_take snaps xacts

-- the snapshot of a handle that is opened, and the snapshots then, by the state once it has its copy and the snapshots then
abbrev pub id_for_handle : State → Snaps → ℕ
id_for_handle state snaps = unwrap_or (snapshot_of state) (least_free snaps)

abbrev pub handle_snaps : State → Snaps → Xacts → Snaps
handle_snaps state snaps xacts = if is_none (snapshot_of state) then after_take snaps xacts else after_share snaps (id_for_handle state snaps)

-- ---- the same of a core

-- a session uses a table
abbrev pub locked : CoreState → ℕ → ℕ → CoreState
locked c s t = record c { locks = granted c.locks s (table_lock t Use) }

-- a session has asked for the claim of a key, and another has it, or none
abbrev pub once_asked : CoreState → ℕ → ℕ → ℤ → Option ℕ → CoreState
once_asked c s t key other = record c { locks = after_asking c.locks s (row_lock t key) other }

-- its transaction has its copy
abbrev pub with_copy : CoreState → ℕ → CoreState
with_copy c s =
    let seat = seat_of c s in
    if takes_copy seat.state
    then seated (record c { snaps = after_take c.snaps c.xacts }) s (record seat { state = with_snapshot seat.state (least_free c.snaps) })
    else c

-- a read goes on from its moment, in a core where its table is used
abbrev pub read_begun : CoreState → ℕ → ℕ → Reading → CoreState
read_begun c s t read =
    let used = with_copy c s in
    let seat = seat_of used s in
    if is_repeatable seat.state
    then seated used s (record seat { job = jobs.Reading t None read })
    else seated (record used { snaps = after_take used.snaps used.xacts }) s (record seat { job = jobs.Reading t (Some (least_free used.snaps)) read })

-- a session's handle of this name, with this snapshot, is given up
abbrev pub without_named : CoreState → ℕ → ℕ → ℕ → CoreState
without_named c s name snapshot = seated (record c { snaps = after_release c.snaps snapshot }) s (record (seat_of c s) { handles = without_handle (seat_of c s).handles name })
