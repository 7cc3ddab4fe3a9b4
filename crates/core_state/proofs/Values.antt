-- What a core's tables give stays where a session's pin is dropped, and the end of a transaction tells no change.
use Rattle.std.proofs.Common.{ap, refl, ◌∙◌}
use Rattle.std.specs.Ordering.{int_cmp, is_eq}
use Rattle.std.specs.Prelude.{Bool, List, None, Option, Some, [], if◌then◌else◌, map, option_map, ℕ, ◌∷◌, ◌≡◌}
use Rattle.tuple_layout.specs.Places.{Row}
use Rattle.tuple_layout.specs.declared.Place.{Place}
use Rattle.tuple_layout.specs.declared.cell.Cell.{Cell}
use Rattle.tuple_layout.specs.declared.cell.Cell.TheVariants.{Inline, Null, Out}
use Rattle.change_log.specs.declared.entry.LogEntry.{LogEntry}
use Rattle.toast_store.specs.Stores.{Store}
use Rattle.toast_store.specs.Values.{value_in}
use Rattle.command_set.specs.declared.state.Change.TheVariants.{Insert, Move, Update}
use Rattle.table_rows.specs.Worlds.{tuple_in}
use Rattle.table_state.specs.Cells.{cells_in}
use Rattle.table_state.specs.Rows.{cell_value}
use Rattle.table_state.specs.Tables.{row_in}
use Rattle.table_state.specs.declared.table.Table.{Table}
use Rattle.read_steps.specs.Reads.{reply_of}
use Rattle.read_steps.specs.declared.wanted.Held.{Held}
use Rattle.core_state.proofs.Pins.{Unpins, unpinned, unpins_at}
use Rattle.core_state.proofs.Readers.{reply_same}
use Rattle.core_state.specs.Stands.{change_logged, pending_of, row_in_table}
use Rattle.core_state.specs.State.{table_at}
use Rattle.core_state.specs.Views.{held_value, row_at}
use Rattle.core_state.specs.declared.seat.Job.{Job}
use Rattle.change_log.specs.declared.entry.LogEntry.TheVariants as entries
use Rattle.core_state.specs.declared.seat.Job.TheVariants as jobs
use Rattle.read_steps.specs.declared.wanted.Held.TheVariants as helds

value_unpinned : (store : Store) (s : ℕ) (cell : Cell) → cell_value (unpinned store s) cell ≡ cell_value store cell
value_unpinned store s Null = refl
value_unpinned store s (Inline value) = refl
value_unpinned store s (Out pointer) = refl

pub values_unpinned : (store : Store) (s : ℕ) (cells : List Cell) → map (cell_value (unpinned store s)) cells ≡ map (cell_value store) cells
values_unpinned store s [] = refl
values_unpinned store s (cell ∷ cells) = ap (λ (value : Option (List ℕ)). value ∷ map (cell_value (unpinned store s)) cells) (value_unpinned store s cell) ∙ ap (λ (row : Row). cell_value store cell ∷ row) (values_unpinned store s cells)

-- the rows of a world
pub row_unpins : (tables later : List Table) (s : ℕ) (counts : ℕ → Bool) (p : Place) → Unpins tables later s → row_at later counts p ≡ row_at tables counts p
row_unpins tables later s counts p unpins =
    unpins_at tables later s p.table (λ (table : Table). row_in table counts p.key ≡ row_at tables counts p) unpins
    (λ same. by (tuple_in counts (table_at tables p.table).rows.pages p.key)) refl
  where
    by : (o : Option (List ℕ)) → option_map (λ (tuple : List ℕ). map (cell_value (unpinned (table_at tables p.table).toast s)) (cells_in (table_at tables p.table).rows.schema.storages tuple)) o
        ≡ option_map (λ (tuple : List ℕ). map (cell_value (table_at tables p.table).toast) (cells_in (table_at tables p.table).rows.schema.storages tuple)) o
    by None = refl
    by (Some tuple) = ap Some (values_unpinned (table_at tables p.table).toast s (cells_in (table_at tables p.table).rows.schema.storages tuple))

-- the values of cells, and of a kept value
pub cells_unpins : (tables later : List Table) (s t : ℕ) (cells : List Cell) → Unpins tables later s → row_in_table later t cells ≡ row_in_table tables t cells
cells_unpins tables later s t cells unpins =
    unpins_at tables later s t (λ (table : Table). map (cell_value table.toast) cells ≡ map (cell_value (table_at tables t).toast) cells) unpins (λ same. values_unpinned (table_at tables t).toast s cells) refl

pub held_unpins : (tables later : List Table) (s t : ℕ) (held : Held) → Unpins tables later s → held_value later t held ≡ held_value tables t held
held_unpins tables later s t (helds.Inline bytes) unpins = refl
held_unpins tables later s t (helds.Out pointer) unpins =
    unpins_at tables later s t (λ (table : Table). value_in table.toast pointer ≡ value_in (table_at tables t).toast pointer) unpins (λ same. refl) refl

-- the changes that the log tells
pub change_unpins : (tables later : List Table) (s : ℕ) (entry : LogEntry) → Unpins tables later s → change_logged later entry ≡ change_logged tables entry
change_unpins tables later s (entries.Chunk xid t value_id seq bytes) unpins = refl
change_unpins tables later s (entries.Insert xid t key cells) unpins = ap (λ (row : Row). Some (Insert t key row)) (cells_unpins tables later s t cells unpins)
change_unpins tables later s (entries.Update xid t from to cells) unpins =
    ap (λ (row : Row). Some (if is_eq (int_cmp from to) then Update t to row else Move t from to row)) (cells_unpins tables later s t cells unpins)
change_unpins tables later s (entries.Delete xid t key) unpins = refl
change_unpins tables later s (entries.Commit xid) unpins = refl
change_unpins tables later s (entries.Abort xid) unpins = refl

-- the reply that a read under way comes to
pub pending_unpins : (tables later : List Table) (s : ℕ) (job : Job) → Unpins tables later s → pending_of later job ≡ pending_of tables job
pending_unpins tables later s jobs.Idle unpins = refl
pending_unpins tables later s (jobs.Submitted command) unpins = refl
pending_unpins tables later s (jobs.Reading t snapshot read) unpins =
    unpins_at tables later s t (λ (table : Table). reply_of table.toast read ≡ reply_of (table_at tables t).toast read) unpins
    (λ same. reply_same (table_at tables t).toast (unpinned (table_at tables t).toast s) read.session read.stage (λ fetch. refl)) refl
pending_unpins tables later s (jobs.Writing t write) unpins = refl
