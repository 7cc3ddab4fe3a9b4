-- How a session stands whose open handles have changed with those of the plain store's transaction.
use Rattle.std.proofs.Common.{ap, sym, ◌∙◌}
use Rattle.std.specs.FinMap as map
use Rattle.std.specs.Option.{unwrap_or}
use Rattle.std.specs.Ordering.{nat_cmp}
use Rattle.std.specs.Prelude.{List, option_map, ℕ, ◌++◌, ◌≡◌}
use Rattle.tuple_layout.specs.Places.{Rows}
use Rattle.xact_status.specs.Xacts.{Xacts}
use Rattle.snapshot_registry.specs.Snapshots.{Snaps}
use Rattle.change_log.specs.declared.entry.LogEntry.{LogEntry}
use Rattle.lock_table.specs.declared.held.SessionLocks.{SessionLocks}
use Rattle.command_set.specs.Changes.{outcome}
use Rattle.command_set.specs.declared.Level.{Level}
use Rattle.command_set.specs.declared.state.Change.{Change}
use Rattle.command_set.specs.declared.state.Transaction.{Transaction}
use Rattle.table_state.specs.declared.table.Table.{Table}
use Rattle.core_state.specs.Stands.{SessionStands, TransactionStands, coming, logged_changes}
use Rattle.core_state.specs.State.{handle_of, xid_of}
use Rattle.core_state.specs.Views.{held_value, in_sight, row_at}
use Rattle.core_state.specs.declared.seat.Handle.{Handle}
use Rattle.core_state.specs.declared.seat.Job.{Job}
use Rattle.core_state.specs.declared.seat.Seat.{Seat}
use Rattle.core_state.specs.declared.seat.State.{State}
use Rattle.command_set.specs.declared.state.Session.TheVariants as plain
use Rattle.core_state.specs.declared.seat.State.TheVariants as states

-- the values under names are those of the handles
abbrev pub HandlesStand : List Table → List Handle → map.FinMap nat_cmp (List ℕ) → Type 0
HandlesStand tables handles values = (name : ℕ) → map.get values name ≡ option_map (λ (handle : Handle). held_value tables handle.table handle.held) (handle_of handles name)

transaction_kept : (xacts : Xacts) (snaps : Snaps) (held : SessionLocks) (log : List LogEntry) (tables : List Table) (latest : Rows) (seat : Seat) (level : Level) (t : Transaction) (handles : List Handle) (job : Job) (values : map.FinMap nat_cmp (List ℕ))
    → coming tables job ≡ coming tables seat.job → (HandlesStand tables seat.handles t.handles → HandlesStand tables handles values) → TransactionStands xacts snaps held log tables latest seat level t
    → TransactionStands xacts snaps held log tables latest (record seat { handles = handles; job = job }) level (record t { handles = values })
transaction_kept xacts snaps held log tables latest seat level t handles job values same edit old = record {
  level_is = old.level_is;
  copy = old.copy;
  changes = old.changes ∙ ap (λ (more : List Change). logged_changes tables log (xid_of seat.state) ++ more) (sym same);
  now = λ p. old.now p ∙ ap (λ (more : List Change). unwrap_or (outcome more p) (row_at tables (in_sight xacts seat.state) p)) (sym same);
  used = old.used;
  claimed = old.claimed;
  handles = edit old.handles;
}

pub session_kept : (xacts : Xacts) (snaps : Snaps) (held : SessionLocks) (log : List LogEntry) (tables : List Table) (latest : Rows) (seat : Seat) (state : State) (t : Transaction) (handles : List Handle) (job : Job) (values : map.FinMap nat_cmp (List ℕ))
    → coming tables job ≡ coming tables seat.job → (HandlesStand tables seat.handles t.handles → HandlesStand tables handles values) → SessionStands xacts snaps held log tables latest seat state (plain.Open t)
    → SessionStands xacts snaps held log tables latest (record seat { handles = handles; job = job }) state (plain.Open (record t { handles = values }))
session_kept xacts snaps held log tables latest seat states.Outside t handles job values same edit old = old
session_kept xacts snaps held log tables latest seat states.Failed t handles job values same edit old = old
session_kept xacts snaps held log tables latest seat (states.Open level xid snapshot) t handles job values same edit old = transaction_kept xacts snaps held log tables latest seat level t handles job values same edit old
