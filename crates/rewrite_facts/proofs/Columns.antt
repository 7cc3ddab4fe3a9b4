-- The columns of the version that is being copied: they are read, and go out.
use Rattle.std.proofs.Common.{◌≡◌, ◌≢◌, ℕ, zero, suc, ◌+◌, ◌-◌, ◌≤◌, inl, inr, true, false, Option, Some, None, List, [], ◌∷◌, length, drop, slice_get, slice_set, nat_eq, refl, sym, ap, ◌∙◌, subst, arith}
use Rattle.std.specs.List.{All, AllByRecursion, IsDistinct}
use Rattle.std.specs.Option.{option_map}
use Rattle.std.proofs.lemmas.Bool.{false≢true}
use Rattle.std.proofs.lemmas.Bool.Decides.{nat_tests}
use Rattle.std.proofs.lemmas.List.{drop_all, drop_more}
use Rattle.std.proofs.lemmas.Option.{get_or_from_slice_get, none-some, same_Some, slice_get-map, slice_get_within}
use Rattle.list_facts.proofs.Changed.{after_set, get_set_other}
use Rattle.slot_page.specs.declared.line.Tid.{Tid}
use Rattle.external_pointer.specs.declared.external.Pointer.{Pointer}
use Rattle.external_pointer.specs.Spelling.{IsInRange}
use Rattle.tuple_layout.specs.declared.Storage.{Storage}
use Rattle.tuple_layout.specs.declared.Storage.TheVariants.{External}
use Rattle.tuple_layout.specs.declared.cell.Cell.{Cell}
use Rattle.tuple_layout.specs.declared.cell.Cell.TheVariants.{Null, Inline, Out}
use Rattle.tuple_layout.specs.Sizes.{Width, Within}
use Rattle.tuple_layout.specs.Tuples.{cell_width, cell_widths}
use Rattle.tuple_toaster.specs.Kept.{MayGo}
use Rattle.tuple_toaster.specs.Pushed.{moved, pushed, tuple_target}
use Rattle.tuple_toaster.proofs.Going.{pushed_distinct, pushed_go}
use Rattle.toast_store.specs.Stores.{Store}
use Rattle.toast_store.specs.Values.{Whole, value_in}
use Rattle.toast_store.proofs.ValueIn.{value_whole}
use Rattle.table_state.specs.declared.table.Table.{Table}
use Rattle.table_state.specs.Tables.{longest_value}
use Rattle.rewrite_facts.specs.Copies.{AreRowCells, IsIdOf, IsNewPointer, IsRowCell, chosen_widths, id_at, ids_of, inline_widths, row_in_old, with_cells}
use Rattle.rewrite_facts.specs.Holds.{CanGoOut, CanPush, IsFilling, IsPlacing}
use Rattle.rewrite_facts.specs.Rewrites.{with_cell, with_value}
use Rattle.rewrite_facts.specs.declared.stage.RowCopy.{RowCopy}
use Rattle.rewrite_facts.proofs.Cells.{inline_size, limits_set, pointer_sizes, tuple_set, values_left, values_set}
use Rattle.rewrite_facts.proofs.Sizes.{inline_is}
use Rattle.rewrite_facts.proofs.Used.{whole_value}
use Rattle.rewrite_facts.proofs.Widths.{moved-none, moved-out}

-- ---- values are read

-- the value of a column stands in its place
pub filled : (old : Table) (place : Tid) (copy : RowCopy) (at : ℕ) (p : Pointer) (value : List ℕ) → slice_get copy.cells at ≡ Some (Out p) → value ≡ value_in old.toast p → IsFilling old place copy → IsFilling old place (with_value copy at value)
filled old place copy at p value here is filling = record {
  was = filling.was;
  of = record { old_one = filling.of.old_one; key = filling.of.key; stamp = filling.of.stamp; ids = filling.of.ids };
  has = tuple_set schema (with_cells filling.was.key copy.cells) (with_cells filling.was.key (slice_set copy.cells at (Inline value))) at (Inline value) refl refl (omega (arith, most)) filling.has;
  limits = limits_set schema copy.cells at (Inline value) (λ storage e. most) filling.limits;
  row = values_set old.toast copy.cells at (Out p) (Inline value) here (ap Some is) ∙ filling.row;
  whole = record {
    each = λ n q there. elim (after_set copy.cells at (Inline value) n (Out q) there) [
      | inl h ↦ absurd (cc)
      | inr h ↦ filling.whole.each n q h.1
    ];
  };
}
  where
    schema : List Storage
    schema = old.rows.schema.storages

    most : length value ≤ longest_value
    most =
        let sizes = pointer_sizes schema copy.cells at p filling.has.one_each filling.limits here in
        let whole = Whole.size (filling.whole.each at p here) in
        omega (arith, sizes.1, whole, ap length is)

-- ---- columns are chosen

-- a width of so many bytes is that of an inline value
inline_at : (cells : List Cell) (n size : ℕ) → slice_get (cell_widths cells) n ≡ Some (Within size) → (value : List ℕ) × (slice_get cells n ≡ Some (Inline value)) × (length value ≡ size)
inline_at cells n size e = by_cell (slice_get cells n) (sym (slice_get-map cell_width cells n) ∙ e)
  where
    by_cell : (o : Option Cell) → option_map cell_width o ≡ Some (Within size) → (value : List ℕ) × (o ≡ Some (Inline value)) × (length value ≡ size)
    by_cell None h = absurd (none-some (Within size) h)
    by_cell (Some Null) h = absurd (cc)
    by_cell (Some (Inline value)) h = (value, refl, cc)
    by_cell (Some (Out p)) h = absurd (cc)

all_at : {X : Type 0} (P : X → Type 0) (xs : List X) (n : ℕ) (x : X) → All P xs → slice_get xs n ≡ Some x → P x
all_at P xs n x all there = subst P (get_or_from_slice_get xs n x x there) (all n x (slice_get_within xs n x there))

-- the elements of a list without doubles stand at one place each
apart_from : (x : ℕ) (xs : List ℕ) (n : ℕ) → AllByRecursion (λ y. nat_eq x y ≡ false) xs → slice_get xs n ≡ Some x → ⊥
apart_from x [] n apart there = cc
apart_from x (y ∷ ys) zero apart there = let same : y ≡ x = same_Some y x there in let e : nat_eq x y ≡ true = grind (arith, nat_tests) in false≢true (sym apart.0 ∙ e)
apart_from x (y ∷ ys) (suc n) apart there = apart_from x ys n apart.1 there

once_at : (xs : List ℕ) (n k x : ℕ) → IsDistinct nat_eq xs → slice_get xs n ≡ Some x → slice_get xs k ≡ Some x → n ≡ k
unfolding IsDistinct
once_at [] n k x apart e f = absurd (cc)
once_at (y ∷ ys) zero zero x apart e f = refl
once_at (y ∷ ys) zero (suc k) x apart e f = absurd (apart_from y ys k apart.0 (f ∙ sym e))
once_at (y ∷ ys) (suc n) zero x apart e f = absurd (apart_from y ys n apart.0 (e ∙ sym f))
once_at (y ∷ ys) (suc n) (suc k) x apart e f = ap (λ i. suc i) (once_at ys n k x apart.1 e f)

-- the columns that are chosen of cells may go out
pub may_push : (schema : List Storage) (cells : List Cell) → length cells ≡ length schema → AreRowCells schema cells → CanPush schema cells (pushed schema (cell_widths cells) tuple_target) 0
may_push schema cells one_each limits = record {
  values = λ at column from there. goes at column there;
  once = λ at other column e f. once_at (pushed schema (cell_widths cells) tuple_target) at other column (pushed_distinct schema (cell_widths cells) tuple_target) e f;
  there = λ at column there. MayGo.from (may at column there);
}
  where
    may : (at column : ℕ) → slice_get (pushed schema (cell_widths cells) tuple_target) at ≡ Some column → MayGo schema (cell_widths cells) column
    may at column there = all_at (MayGo schema (cell_widths cells)) (pushed schema (cell_widths cells) tuple_target) at column (pushed_go schema (cell_widths cells) tuple_target) there

    goes : (at column : ℕ) → slice_get (pushed schema (cell_widths cells) tuple_target) at ≡ Some column → CanGoOut schema cells column
    goes at column there =
        let is = may at column there in
        let value = inline_at cells (column - 1) is.size is.inline in
        record {
          value = value.0;
          from = is.from;
          external = is.external;
          inline = value.1;
          least = omega (arith, is.long, value.2);
          most = inline_size schema cells (column - 1) value.0 one_each limits value.1;
        }

-- once all is read, the columns are chosen
pub planned : (old : Table) (new : Store) (place : Tid) (copy : RowCopy) (columns : List ℕ) → ((n : ℕ) (p : Pointer) → slice_get copy.cells n ≡ Some (Out p) → ⊥) → columns ≡ pushed old.rows.schema.storages (cell_widths copy.cells) tuple_target
    → IsFilling old place copy → IsPlacing old new None place copy columns 0
planned old new place copy columns none is filling = record {
  was = filling.was;
  of = filling.of;
  new_one = record {
    has = filling.has;
    limits = filling.limits;
    row = values_left old.toast new copy.cells (λ n p there. absurd (none n p there)) ∙ filling.row;
    pointers = λ n p there. absurd (none n p there);
  };
  out = ap (λ (cs : List ℕ). moved cs (cell_widths copy.cells)) is ∙ ap (λ (ws : List Width). moved (pushed schema ws tuple_target) ws) widths;
  push = subst (λ (cs : List ℕ). CanPush schema copy.cells cs 0) (sym is) (may_push schema copy.cells filling.has.one_each filling.limits);
}
  where
    schema : List Storage
    schema = old.rows.schema.storages

    widths : cell_widths copy.cells ≡ inline_widths (row_in_old old filling.was)
    widths = inline_is old.toast copy.cells none ∙ ap inline_widths filling.row

-- ---- a column goes out

-- from a place of the columns on, its column comes first
pub drop_at : (columns : List ℕ) (at column : ℕ) → slice_get columns at ≡ Some column → drop at columns ≡ column ∷ drop (at + 1) columns
drop_at columns at column here = drop_more columns at column (slice_get_within columns at column here) ∙ ap (λ n. n ∷ drop (at + 1) columns) (get_or_from_slice_get columns at column column here)

push_with : (schema : List Storage) (cells : List Cell) (columns : List ℕ) (at column : ℕ) (cell : Cell) → slice_get columns at ≡ Some column → CanPush schema cells columns at → CanPush schema (slice_set cells (column - 1) cell) columns (at + 1)
push_with schema cells columns at column cell here push = record {
  values = λ place other from there. moved_on place other from there (push.values place other (omega (arith, from)) there);
  once = push.once;
  there = push.there;
}
  where
    moved_on : (place other : ℕ) → at + 1 ≤ place → slice_get columns place ≡ Some other → CanGoOut schema cells other → CanGoOut schema (slice_set cells (column - 1) cell) other
    moved_on place other from there can =
        let first = push.there at column here in
        let differ : other ≢ column = λ same. omega (arith, from, push.once place at column (there ∙ ap (λ (n : ℕ). Some n) same) here) in
        let apart : other - 1 ≢ column - 1 = λ same. differ (omega (arith, same, first, can.from)) in
        record { value = can.value; from = can.from; external = can.external; inline = get_set_other cells (column - 1) (other - 1) cell apart ∙ can.inline; least = can.least; most = can.most }

pub column_out : (old : Table) (new : Store) (place : Tid) (copy : RowCopy) (columns : List ℕ) (at column : ℕ) (p : Pointer) (value : List ℕ) → slice_get columns at ≡ Some column → slice_get copy.cells (column - 1) ≡ Some (Inline value)
    → IsInRange p → Whole new p value → p.toast_rel ≡ old.toast.rel.rel_id → IsIdOf old.toast (id_at copy.ids (column - 1)) p.value_id
    → IsPlacing old new None place copy columns at → IsPlacing old new None place (with_cell copy column (Out p)) columns (at + 1)
column_out old new place copy columns at column p value here inline in_range whole own id placing = record {
  was = placing.was;
  of = record { old_one = placing.of.old_one; key = placing.of.key; stamp = placing.of.stamp; ids = placing.of.ids };
  new_one = record {
    has = tuple_set schema (with_cells placing.was.key copy.cells) (with_cells placing.was.key (slice_set copy.cells (column - 1) (Out p))) (column - 1) (Out p) refl refl in_range placing.new_one.has;
    limits = limits_set schema copy.cells (column - 1) (Out p) (λ storage e. fits storage e) placing.new_one.limits;
    row = values_set new copy.cells (column - 1) (Inline value) (Out p) inline (ap Some (value_whole new p value whole)) ∙ placing.new_one.row;
    pointers = λ n q there. elim (after_set copy.cells (column - 1) (Out p) n (Out q) there) [
      | inl is ↦ here_pointer n q is.0 (cc)
      | inr other ↦ placing.new_one.pointers n q other.1
    ];
  };
  out = sym widths ∙ placing.out;
  push = push_with schema copy.cells columns at column (Out p) here placing.push;
}
  where
    schema : List Storage
    schema = old.rows.schema.storages

    can : CanGoOut schema copy.cells column
    can = placing.push.values at column (omega arith) here

    same_value : can.value ≡ value
    same_value = let e : Inline can.value ≡ Inline value = same_Some (Inline can.value) (Inline value) (sym can.inline ∙ inline) in cc

    fits : (storage : Storage) → slice_get schema (column - 1) ≡ Some storage → IsRowCell storage (Out p)
    fits storage e =
        let is : External ≡ storage = same_Some External storage (sym can.external ∙ e) in
        subst (λ (s : Storage). IsRowCell s (Out p)) is (omega (arith, can.least, whole.size, ap length same_value), omega (arith, can.most, whole.size, ap length same_value))

    pointer : IsNewPointer old.toast new None (id_at (ids_of old placing.was) (column - 1)) p
    pointer = record { whole = whole_value new p value whole; settled = λ same. cc; own = own; id = subst (λ (ids : List (Option ℕ)). IsIdOf old.toast (id_at ids (column - 1)) p.value_id) placing.of.ids id }

    here_pointer : (n : ℕ) (q : Pointer) → n ≡ column - 1 → p ≡ q → IsNewPointer old.toast new None (id_at (ids_of old placing.was) n) q
    here_pointer n q place_is same = subst (λ (k : ℕ). IsNewPointer old.toast new None (id_at (ids_of old placing.was) k) q) (sym place_is) (subst (IsNewPointer old.toast new None (id_at (ids_of old placing.was) (column - 1))) same pointer)

    column_is : column ≡ 1 + (column - 1)
    column_is = omega (arith, can.from)

    widths : moved (drop at columns) (cell_widths copy.cells) ≡ moved (drop (at + 1) columns) (cell_widths (slice_set copy.cells (column - 1) (Out p)))
    widths =
        ap (λ (cs : List ℕ). moved cs (cell_widths copy.cells)) (drop_at columns at column here ∙ ap (λ n. n ∷ drop (at + 1) columns) column_is)
        ∙ moved-out 1 (drop (at + 1) columns) copy.cells (column - 1) p (slice_get_within copy.cells (column - 1) (Inline value) inline)

-- with no column left, the cells have the widths that are chosen
pub all_out : (old : Table) (new : Store) (busy : Option ℕ) (place : Tid) (copy : RowCopy) (columns : List ℕ) (at : ℕ) → length columns ≤ at → (placing : IsPlacing old new busy place copy columns at) → cell_widths copy.cells ≡ chosen_widths old.rows.schema.storages (row_in_old old placing.was)
all_out old new busy place copy columns at over placing = sym (ap (λ (cs : List ℕ). moved cs (cell_widths copy.cells)) (drop_all at columns over) ∙ moved-none 1 (cell_widths copy.cells)) ∙ placing.out
