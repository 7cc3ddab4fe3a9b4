-- What is true of a row that a session sees: its values are whole, and a read of it may begin.
use Rattle.std.proofs.Common.{ap, arith, cond, refl, subst, sym, ◌∙◌}
use Rattle.std.specs.Option.{option_map}
use Rattle.std.specs.Prelude.{Bool, IfSome, List, None, Option, Some, [], false, is_some, length, nat_lt, negsuc, pos, slice_index_or, suc, true, zero, ℕ, ℤ, ◌-◌, ◌∷◌, ◌≡◌, ◌≤◌}
use Rattle.tuple_layout.specs.Schemas.{TableSchema}
use Rattle.external_pointer.specs.declared.external.Pointer.{Pointer}
use Rattle.tuple_layout.specs.declared.Storage.{Storage}
use Rattle.tuple_layout.specs.declared.Storage.TheVariants.{External, Plain}
use Rattle.tuple_layout.specs.declared.cell.Cell.{Cell}
use Rattle.tuple_layout.specs.declared.cell.Cell.TheVariants.{Inline, Null, Out}
use Rattle.slice_fetch.specs.declared.Span.{Span}
use Rattle.chunk_index.specs.Indexes.{Index}
use Rattle.chunk_index.specs.Leaves.{Leaf}
use Rattle.chunk_index.specs.Pinned.{pin_of}
use Rattle.toast_store.proofs.Walked.{begun}
use Rattle.toast_store.specs.Fetches.{Fetching, end_of, first_of, new_fetch}
use Rattle.toast_store.specs.Walks.{CanStep}
use Rattle.table_state.specs.Tables.{AreCellsOf, IsCellOf, longest_value, toast_rel_of}
use Rattle.table_state.specs.declared.table.FoundRow.{FoundRow}
use Rattle.read_steps.specs.Columns.{next_out, whole_span}
use Rattle.read_steps.specs.Reads.{Reading, cell_of, fetch_at, reply_of, whole_fetch}
use Rattle.read_steps.specs.declared.wanted.Wanted.{Wanted}
use Rattle.write_steps.specs.declared.stage.OldRow.{OldRow}
use Rattle.core_state.proofs.Seats.{sound_of}
use Rattle.core_state.specs.Begun.{cell_size, part_wanted, row_read, span_of}
use Rattle.core_state.specs.Commands.{IsColumnIn, storages_of}
use Rattle.core_state.specs.Facts.{MayPin}
use Rattle.core_state.specs.State.{CoreState, schemas_of, table_at}
use Rattle.core_state.specs.Views.{row_seen}
use Rattle.core_looks.proofs.Before.{schema_is}
use Rattle.core_looks.proofs.Sights.{table_made, table_sound}
use Rattle.core_looks.proofs.Whole.{seen_long, seen_row_is, seen_whole}
use Rattle.core_parts.specs.Found.{as_old, size_found}
use Rattle.core_reads.proofs.Replies.{AreWhole, part_comes, part_due, pointer_of_column, row_comes}
use Rattle.core_reading.specs.Reads.{CanBegin, HasFound, IsInside}
use Rattle.core_reading.specs.Spans.{HasColumn, span_due}
use Rattle.core_sights.specs.Ready.{IsReady}
use Rattle.read_steps.specs.declared.stage.ReadStage.TheVariants as stages
use Rattle.read_steps.specs.declared.wanted.Wanted.TheVariants as wanteds

-- ---- what a look-up finds

pub seen_some : (found : Option FoundRow) (row : FoundRow) (o : Option OldRow) → option_map as_old found ≡ o → found ≡ Some row → o ≡ Some (as_old row)
seen_some found row o is some = sym is ∙ ap (option_map as_old) some

-- ---- its values

pub whole_seen : (c : CoreState) (s t : ℕ) (key : ℤ) (old : OldRow) → IsInside c s t → row_seen c s t key ≡ Some old → AreWhole (table_at c.tables t).toast old.stored.cells
whole_seen c s t key old inside seen pointer e = seen_whole c s t key old pointer inside.ready.there inside.of_table inside.ready.sound seen e

-- a cell of a row is not too long
cells_most : (rel : ℕ) (storages : List Storage) (cells : List Cell) (k : ℕ) → length cells ≡ length storages → AreCellsOf rel storages cells → cell_size (slice_index_or cells k Null) ≤ longest_value
cells_most rel storages [] k long are = omega arith
cells_most rel [] (cell ∷ cells) k long are = absurd (omega (arith, long))
cells_most rel (storage ∷ storages) (cell ∷ cells) zero long are = by storage cell are.0
  where
    by : (its : Storage) (x : Cell) → IsCellOf rel its x → cell_size x ≤ longest_value
    by Plain Null is = omega arith
    by External Null is = omega arith
    by Plain (Inline value) is = is
    by External (Inline value) is = is
    by Plain (Out pointer) is = absurd is
    by External (Out pointer) is = is.2
cells_most rel (storage ∷ storages) (cell ∷ cells) (suc k) long are = cells_most rel storages cells k (omega (arith, long)) are.1

-- ---- its read may begin

pub free_pin : (c : CoreState) (s t : ℕ) → IsReady c s → pin_of (table_at c.tables t).toast.index.pins s ≡ None
free_pin c s t ready = by (pin_of (table_at c.tables t).toast.index.pins s) refl
  where
    by : (o : Option Leaf) → pin_of (table_at c.tables t).toast.index.pins s ≡ o → o ≡ None
    by None e = refl
    by (Some leaf) e = absurd (subst (MayPin t) ready.idle ((sound_of c s ready.there ready.sound).pins.each t leaf e))

fetch_begins : (index : Index) (s : ℕ) (pointer : Pointer) (span : Span) → pin_of index.pins s ≡ None → CanStep index (Fetching.walk (new_fetch pointer span s))
fetch_begins index s pointer span free = begun index (Fetching.walk (new_fetch pointer span s)) pointer.value_id (first_of span) (end_of span) s refl free

row_begins : (index : Index) (s : ℕ) (next : Option (ℕ × Pointer)) → pin_of index.pins s ≡ None → IfSome (option_map (λ (x : ℕ × Pointer). whole_fetch x.1 s) next) (λ fetch. CanStep index (Fetching.walk fetch))
row_begins index s None free = tt
row_begins index s (Some (at, pointer)) free = fetch_begins index s pointer (whole_span pointer) free

pub part_begins : (index : Index) (s : ℕ) (cell : Cell) (span : Span) → pin_of index.pins s ≡ None → IfSome (fetch_at s (stages.Part cell span)) (λ fetch. CanStep index (Fetching.walk fetch))
part_begins index s Null span free = tt
part_begins index s (Inline value) span free = tt
part_begins index s (Out pointer) span free = by (nat_lt span.start span.end)
  where
    by : (b : Bool) → IfSome (cond b (Some (new_fetch pointer span s)) None) (λ fetch. CanStep index (Fetching.walk fetch))
    by true = fetch_begins index s pointer span free
    by false = tt

-- ---- a get and a part

pub row_can : (c : CoreState) (s t : ℕ) (key : ℤ) (old : OldRow) (read : Reading) → IsInside c s t → row_seen c s t key ≡ Some old → read ≡ row_read s wanteds.Row old → CanBegin (table_at c.tables t).toast read
row_can c s t key old read inside seen is = subst (CanBegin (table_at c.tables t).toast) (sym is) (record {
  can = record { under_way = tt; can_step = row_begins (table_at c.tables t).toast.index s (next_out old.stored.cells) (free_pin c s t inside.ready) };
  comes = ap is_some (row_comes (table_at c.tables t).toast s old.stored (table_made c t inside.of_table inside.ready.parts).toast (whole_seen c s t key old inside seen));
})

-- a column of a row that is seen
pub has_column : (c : CoreState) (s t : ℕ) (key : ℤ) (old : OldRow) (column : ℕ) → IsInside c s t → row_seen c s t key ≡ Some old → IsColumnIn (schemas_of c.tables) t column → HasColumn old.stored column
has_column c s t key old column inside seen fits =
    let row = seen_row_is c s t key old inside.ready.there inside.ready.sound seen in
    let tuple = (table_sound c t inside.of_table inside.ready.sound).tuples old.tid row.version row.there in
    let are : AreCellsOf (toast_rel_of t) (table_at c.tables t).rows.schema.storages old.stored.cells = subst (λ (cells : List Cell). AreCellsOf (toast_rel_of t) (table_at c.tables t).rows.schema.storages cells) row.cells tuple.cells in
    let long = seen_long c s t key old inside.ready.there inside.of_table inside.ready.sound seen in
    let same : length (storages_of (schemas_of c.tables) t) ≡ length (table_at c.tables t).rows.schema.storages = ap (λ (schema : TableSchema). length schema.storages) (schema_is c t inside.of_table) in
    let within = fits.within in
    record {
      from_one = fits.from_one;
      within = omega (arith, long, same, within);
      most = cells_most (toast_rel_of t) (table_at c.tables t).rows.schema.storages old.stored.cells (column - 1) long are;
    }

pub found_by : (c : CoreState) (s t : ℕ) (key : ℤ) (old : OldRow) (column : ℕ) → IsInside c s t → row_seen c s t key ≡ Some old → IsColumnIn (schemas_of c.tables) t column → HasFound c s t old column
found_by c s t key old column inside seen fits = record { inside = inside; key = key; seen = seen; has = has_column c s t key old column inside seen fits }

-- how many bytes it has
pub size_is : (cell : Cell) (size : ℕ) → size_found cell ≡ Some size → cell_size cell ≡ size
size_is Null size is = absurd (cc)
size_is (Inline value) size is = cc
size_is (Out pointer) size is = cc

-- what it comes to
pub part_comes_seen : (c : CoreState) (s t : ℕ) (key : ℤ) (old : OldRow) (column n : ℕ) (len : ℤ) → IsInside c s t → row_seen c s t key ≡ Some old
    → reply_of (table_at c.tables t).toast (row_read s (part_wanted old column (pos n) len) old) ≡ Some (part_due (table_at c.tables t).toast n len (cell_of old.stored.cells column))
part_comes_seen c s t key old column n len inside seen =
    part_comes (table_at c.tables t).toast s (cell_of old.stored.cells column) n len (table_made c t inside.of_table inside.ready.parts).toast
    (λ pointer e. whole_seen c s t key old inside seen pointer (pointer_of_column old.stored.cells (column - 1) pointer e))

-- the part that is wanted, where its span is due
pub record IsPartOf (old : OldRow) (column : ℕ) (offset len : ℤ) (span : Span) : Type 0 where
  pub n : ℕ
  pub is : offset ≡ pos n
  pub wanted : wanteds.Part column span ≡ part_wanted old column (pos n) len

pub part_of : (old : OldRow) (column size : ℕ) (offset len : ℤ) (span : Span) → size_found (cell_of old.stored.cells column) ≡ Some size → span_due size offset len ≡ Some span → IsPartOf old column offset len span
part_of old column size (pos n) len span some due =
    let is : span_of size (pos n) len ≡ span = cc in
    record {
      n = n;
      is = refl;
      wanted = ap (wanteds.Part column) (sym is) ∙ ap (λ (k : ℕ). wanteds.Part column (span_of k (pos n) len)) (sym (size_is (cell_of old.stored.cells column) size some));
    }
part_of old column size (negsuc n) len span some due = absurd (cc)

pub part_can : (c : CoreState) (s t : ℕ) (key : ℤ) (old : OldRow) (column size : ℕ) (offset len : ℤ) (span : Span) (read : Reading) → IsInside c s t → row_seen c s t key ≡ Some old → size_found (cell_of old.stored.cells column) ≡ Some size
    → span_due size offset len ≡ Some span → read ≡ row_read s (wanteds.Part column span) old → CanBegin (table_at c.tables t).toast read
part_can c s t key old column size offset len span read inside seen some due is =
    let part = part_of old column size offset len span some due in
    subst (CanBegin (table_at c.tables t).toast) (sym (is ∙ ap (λ (wanted : Wanted). row_read s wanted old) part.wanted)) (record {
      can = record {
        under_way = tt;
        can_step = part_begins (table_at c.tables t).toast.index s (cell_of old.stored.cells column) (span_of (cell_size (cell_of old.stored.cells column)) (pos part.n) len) (free_pin c s t inside.ready);
      };
      comes = ap is_some (part_comes_seen c s t key old column part.n len inside seen);
    })
