-- The facts of a table when transactions start and end and snapshots are taken and given up.
use Rattle.std.proofs.Common.{ℕ, ℤ, ◌≡◌, ◌≢◌, ◌⊎◌, true}
use Rattle.slot_page.specs.declared.line.Tid.{Tid}
use Rattle.xact_status.specs.Xacts.{Xacts, is_running, after_assign, after_commit, after_abort}
use Rattle.snapshot_registry.specs.Snapshots.{Snaps, after_take, after_share, after_release}
use Rattle.snapshot_registry.specs.Laws.{IsRegistryOf}
use Rattle.chunk_relation.proofs.Events.{assigned_later}
use Rattle.value_holders.specs.Holders.{IsHeld}
use Rattle.value_holders.specs.Laws.{EventsKeepHeld}
use Rattle.value_holders.proofs.Events.{events_keep_held}
use Rattle.value_holders.proofs.Later.{IsLater, later_assign, later_commit, later_abort, later_take, later_share, later_release}
use Rattle.table_rows.specs.Worlds.{AreOne, IsUntouched}
use Rattle.table_rows.proofs.Unique.{are_one_assigned, are_one_committed, are_one_aborted, are_one_taken_now, are_one_shared, are_one_released}
use Rattle.table_state.specs.declared.table.Table.{Table}
use Rattle.table_state.specs.Holders.{holders_of, chunk_stamps}
use Rattle.table_state.specs.Tables.{IsTable}
use Rattle.table_state.proofs.Chunks.{chunks_given}

held_events : EventsKeepHeld Tid
held_events = events_keep_held

keeps_later : (number : ℕ) (old new : Xacts) (before after : Snaps) (table : Table) → IsLater old new before after → AreOne new after table.rows.pages → ((value_id : ℕ) → IsHeld new after (holders_of table.rows.schema.storages table.rows.pages value_id) (chunk_stamps table.toast value_id))
    → IsTable number old before table → IsTable number new after table
keeps_later number old new before after table later one held is = record {
  relation = is.relation;
  tuples = is.tuples;
  whole = λ tid version pointer at protected. is.whole tid version pointer at (later.protected version.inserter version.ender (is.given.inserter tid version at) protected);
  one = one;
  held = held;
  sound = λ tid version at. let was = is.sound tid version at in record {
    given = later.given version.inserter was.given;
    own_end = λ e runs names. was.own_end e (later.runs version.inserter was.given runs) names;
  };
  given = record { inserter = λ tid version at. later.given version.inserter (is.given.inserter tid version at); ender = λ tid version e at names. later.given e (is.given.ender tid version e at names) };
  assigned = assigned_later old new table.toast.rel.pages later.given is.assigned;
}

pub table_assigned : (number : ℕ) (xacts : Xacts) (snaps : Snaps) (session : ℕ) (table : Table) → IsRegistryOf xacts snaps → IsTable number xacts snaps table → IsTable number (after_assign xacts session) snaps table
table_assigned number xacts snaps session table registry is = keeps_later number xacts (after_assign xacts session) snaps snaps table (later_assign xacts snaps session registry) (are_one_assigned xacts snaps session table.rows.pages is.given is.one)
    (λ value_id. held_events.assigned xacts snaps session _ _ registry (chunks_given xacts table.toast value_id is.assigned) (is.held value_id)) is

pub table_committed : (number : ℕ) (xacts : Xacts) (snaps : Snaps) (x : ℕ) (table : Table) → is_running xacts x ≡ true → IsRegistryOf xacts snaps → ((y : ℕ) (key : ℤ) → is_running xacts y ≡ true → y ≢ x → IsUntouched x table.rows.pages key ⊎ IsUntouched y table.rows.pages key)
    → IsTable number xacts snaps table → IsTable number (after_commit xacts x) snaps table
table_committed number xacts snaps x table runs registry apart is = keeps_later number xacts (after_commit xacts x) snaps snaps table (later_commit xacts snaps x runs registry) (are_one_committed xacts snaps x table.rows.pages runs registry apart is.one)
    (λ value_id. held_events.committed xacts snaps x _ _ runs registry (is.held value_id)) is

pub table_aborted : (number : ℕ) (xacts : Xacts) (snaps : Snaps) (x : ℕ) (table : Table) → is_running xacts x ≡ true → IsRegistryOf xacts snaps → IsTable number xacts snaps table → IsTable number (after_abort xacts x) snaps table
table_aborted number xacts snaps x table runs registry is = keeps_later number xacts (after_abort xacts x) snaps snaps table (later_abort xacts snaps x runs registry) (are_one_aborted xacts snaps x table.rows.pages runs is.one)
    (λ value_id. held_events.aborted xacts snaps x _ _ runs registry (is.held value_id)) is

pub table_taken : (number : ℕ) (xacts : Xacts) (snaps : Snaps) (table : Table) → IsTable number xacts snaps table → IsTable number xacts (after_take snaps xacts) table
table_taken number xacts snaps table is = keeps_later number xacts xacts snaps (after_take snaps xacts) table (later_take xacts snaps) (are_one_taken_now xacts snaps table.rows.pages is.one) (λ value_id. held_events.taken xacts snaps _ _ (is.held value_id)) is

pub table_shared : (number : ℕ) (xacts : Xacts) (snaps : Snaps) (id : ℕ) (table : Table) → IsTable number xacts snaps table → IsTable number xacts (after_share snaps id) table
table_shared number xacts snaps id table is = keeps_later number xacts xacts snaps (after_share snaps id) table (later_share xacts snaps id) (are_one_shared xacts snaps id table.rows.pages is.one) (λ value_id. held_events.shared xacts snaps id _ _ (is.held value_id)) is

pub table_released : (number : ℕ) (xacts : Xacts) (snaps : Snaps) (id : ℕ) (table : Table) → IsTable number xacts snaps table → IsTable number xacts (after_release snaps id) table
table_released number xacts snaps id table is = keeps_later number xacts xacts snaps (after_release snaps id) table (later_release xacts snaps id) (are_one_released xacts snaps id table.rows.pages is.one) (λ value_id. held_events.released xacts snaps id _ _ (is.held value_id)) is
