-- What a change of the new values keeps of the copies and of the version that is being copied.
use Rattle.std.proofs.Common.{◌≡◌, ◌≢◌, ℕ, ◌<◌, true, Option, Some, None, List, length, map, slice_get, refl, sym, ap, ◌∙◌, arith}
use Rattle.external_pointer.specs.declared.external.Pointer.{Pointer}
use Rattle.slot_page.specs.declared.line.Tid.{Tid}
use Rattle.tuple_layout.specs.declared.cell.Cell.{Cell}
use Rattle.tuple_layout.specs.declared.cell.Cell.TheVariants.{Out}
use Rattle.row_versions.specs.declared.version.Version.{Version}
use Rattle.toast_store.specs.Stores.{Store, is_used}
use Rattle.toast_store.specs.Values.{piece_in, value_in}
use Rattle.toast_store.specs.Between.{LeavesValue}
use Rattle.toast_store.proofs.ValueIn.{value_left}
use Rattle.table_state.specs.declared.table.Table.{Table}
use Rattle.rewrite_facts.specs.Copies.{Copied, IsCopy, IsNewPointer, IsNewRow, id_at, ids_of}
use Rattle.rewrite_facts.specs.Holds.{AreShared, IsPlacing}
use Rattle.rewrite_facts.specs.declared.stage.RowCopy.{RowCopy}
use Rattle.rewrite_facts.proofs.Cells.{pointer_sizes, values_left}
use Rattle.rewrite_facts.proofs.Used.{used_left, whole_left, whole_used}

-- each value no piece of which is on its way is left, and none that is used comes on its way
pub record Spares (new later : Store) (busy after : Option ℕ) : Type 0 where
  pub leaves : (id : ℕ) → busy ≢ Some id → LeavesValue id new later
  pub idle : (id : ℕ) → busy ≢ Some id → is_used new id ≡ true → after ≢ Some id

-- nothing changes, and no value comes on its way
pub spares_all : (new : Store) (busy : Option ℕ) → Spares new new busy None
spares_all new busy = record { leaves = λ id other. refl; idle = λ id other used. λ same. cc }

-- the id of a pointer of a copy is used
pointer_used : (old : Table) (new : Store) (busy : Option ℕ) (was : Version) (cells : List Cell) (n : ℕ) (p : Pointer) → IsNewRow old new busy was cells → slice_get cells n ≡ Some (Out p) → is_used new p.value_id ≡ true
pointer_used old new busy was cells n p row there =
    let whole = IsNewPointer.whole (row.pointers n p there) in
    let sizes = pointer_sizes old.rows.schema.storages cells n p row.has.one_each row.limits there in
    let some : 0 < length (value_in new p) = omega (arith, sizes.0, whole.size) in
    whole_used new p (value_in new p) some whole

pub row_kept : (old : Table) (new later : Store) (busy after : Option ℕ) (was : Version) (cells : List Cell) → Spares new later busy after → IsNewRow old new busy was cells → IsNewRow old later after was cells
row_kept old new later busy after was cells spares row = record {
  has = row.has;
  limits = row.limits;
  row = values_left new later cells (λ n p there. value_left new later p (spares.leaves p.value_id (IsNewPointer.settled (row.pointers n p there)))) ∙ row.row;
  pointers = λ n p there. pointer n p there (row.pointers n p there);
}
  where
    pointer : (n : ℕ) (p : Pointer) → slice_get cells n ≡ Some (Out p) → IsNewPointer old.toast new busy (id_at (ids_of old was) n) p → IsNewPointer old.toast later after (id_at (ids_of old was) n) p
    pointer n p there is = record {
      whole = whole_left new later p (spares.leaves p.value_id is.settled) is.whole;
      settled = spares.idle p.value_id is.settled (pointer_used old new busy was cells n p row there);
      own = is.own;
      id = is.id;
    }

pub copy_kept : (old : Table) (new later : Store) (busy after : Option ℕ) (copy : Copied) → Spares new later busy after → IsCopy old new busy copy → IsCopy old later after copy
copy_kept old new later busy after copy spares is = record { old_one = is.old_one; new_one = row_kept old new later busy after copy.was copy.cells spares is.new_one; out = is.out }

pub placing_kept : (old : Table) (new later : Store) (busy after : Option ℕ) (place : Tid) (copy : RowCopy) (columns : List ℕ) (at : ℕ) → Spares new later busy after → IsPlacing old new busy place copy columns at → IsPlacing old later after place copy columns at
placing_kept old new later busy after place copy columns at spares is = record { was = is.was; of = is.of; new_one = row_kept old new later busy after is.was copy.cells spares is.new_one; out = is.out; push = is.push }

-- the ids that both stores use
pub shared_kept : (old new later : Store) (busy after : Option ℕ) → ((id : ℕ) → after ≢ Some id → (busy ≢ Some id) × LeavesValue id new later) → AreShared old new busy → AreShared old later after
shared_kept old new later busy after left shared = record {
  each = λ id other in_new in_old.
      let is = left id other in
      ap (map piece_in) is.1 ∙ shared.each id is.0 (sym (used_left new later id is.1) ∙ in_new) in_old;
}
