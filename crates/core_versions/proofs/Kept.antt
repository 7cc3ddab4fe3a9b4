-- What is kept for a reader stays through a version step: the versions that it rests on stay, with the same inserter and cells.
use Rattle.std.proofs.Common.{inl, inr, refl}
use Rattle.std.specs.Option.{option_map_or}
use Rattle.std.specs.Prelude.{Bool, List, None, Option, Some, false, not, true, ℕ, ℤ, ◌&&◌, ◌≡◌}
use Rattle.external_pointer.specs.declared.external.Pointer.{Pointer}
use Rattle.tuple_layout.specs.declared.cell.Cell.{Cell}
use Rattle.xact_status.proofs.Events.{running_is_uncommitted}
use Rattle.xact_status.specs.Xacts.{Xacts, is_running}
use Rattle.snapshot_registry.specs.Snapshots.{Snaps, held_at, sees, sees_at, takes_effect}
use Rattle.snapshot_registry.specs.declared.Held.{Held}
use Rattle.row_versions.specs.Relations.{Pages}
use Rattle.row_versions.specs.declared.keys.KeyEntry.{KeyEntry}
use Rattle.row_versions.specs.declared.version.Version.{Version}
use Rattle.table_rows.proofs.Sessions.{there_parts}
use Rattle.table_rows.proofs.Tests.{not_shown}
use Rattle.table_rows.specs.Steps.{ended_by}
use Rattle.table_state.specs.Events.{with_rows}
use Rattle.table_state.specs.declared.table.Table.{Table}
use Rattle.core_state.specs.Facts.{IsThereFor, KeepsId, KeepsPointer}
use Rattle.core_versions.proofs.Steps.{Closes, IsStep, Stands}

-- a snapshot that sees a version sees it with the end of a running transaction
sees_ended : (xacts : Xacts) (snaps : Snaps) (id x inserter : ℕ) (ender : Option ℕ) → is_running xacts x ≡ true → sees_at xacts snaps id inserter ender None ≡ true → sees_at xacts snaps id inserter (Some x) None ≡ true
sees_ended xacts snaps id x inserter ender runs seen = by (held_at snaps id) seen
  where
    both : (a b : Bool) → a ≡ true → b ≡ false → (a && not b) ≡ true
    both true true e f = absurd (cc)
    both true false e f = refl
    both false b e f = absurd (cc)

    by : (o : Option Held) → option_map_or (λ (held : Held). sees xacts held.snapshot inserter ender None) o false ≡ true → option_map_or (λ (held : Held). sees xacts held.snapshot inserter (Some x) None) o false ≡ true
    by None e = absurd (cc)
    by (Some held) e =
        let parts = there_parts (takes_effect xacts held.snapshot None) inserter ender e in
        both (takes_effect xacts held.snapshot None inserter) (takes_effect xacts held.snapshot None x) parts.0 (not_shown xacts held.snapshot x (running_is_uncommitted xacts x runs))

there_ended : (xacts : Xacts) (snaps : Snaps) (uses : List ℕ) (own : Option ℕ) (x : ℕ) (version : Version) → is_running xacts x ≡ true → IsThereFor xacts snaps uses own version → IsThereFor xacts snaps uses own (ended_by x version)
there_ended xacts snaps uses own x version runs there = elim there [
  | inl h ↦ inl h
  | inr h ↦ inr (h.0, h.1, sees_ended xacts snaps h.0 x version.inserter version.ender runs h.2)
]

pub keeps_id : (number : ℕ) (xacts : Xacts) (snaps : Snaps) (x : ℕ) (table : Table) (later : Pages) (entries : List KeyEntry) (keys : List ℤ) (cells : List Cell) (uses : List ℕ) (own : Option ℕ) (value_id : ℕ)
    → is_running xacts x ≡ true → IsStep number xacts snaps x table later entries keys cells → KeepsId xacts snaps table uses own value_id → KeepsId xacts snaps (with_rows table later entries) uses own value_id
keeps_id number xacts snaps x table later entries keys cells uses own value_id runs step old = elim (step.goes old.tid old.version old.there) [
  | Stands at ↦ record { tid = old.tid; version = old.version; there = at; holds = old.holds; seen = old.seen }
  | Closes at opened claimed ↦ record { tid = old.tid; version = ended_by x old.version; there = at; holds = old.holds; seen = there_ended xacts snaps uses own x old.version runs old.seen }
]

pub keeps_pointer : (number : ℕ) (xacts : Xacts) (snaps : Snaps) (x : ℕ) (table : Table) (later : Pages) (entries : List KeyEntry) (keys : List ℤ) (cells : List Cell) (uses : List ℕ) (own : Option ℕ) (pointer : Pointer)
    → is_running xacts x ≡ true → IsStep number xacts snaps x table later entries keys cells → KeepsPointer xacts snaps table uses own pointer → KeepsPointer xacts snaps (with_rows table later entries) uses own pointer
keeps_pointer number xacts snaps x table later entries keys cells uses own pointer runs step old = elim (step.goes old.tid old.version old.there) [
  | Stands at ↦ record { tid = old.tid; version = old.version; there = at; holds = old.holds; seen = old.seen }
  | Closes at opened claimed ↦ record { tid = old.tid; version = ended_by x old.version; there = at; holds = old.holds; seen = there_ended xacts snaps uses own x old.version runs old.seen }
]
