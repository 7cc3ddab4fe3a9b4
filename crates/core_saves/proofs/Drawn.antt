-- No protected version has the id that a draw gives: the value of each pointer of one has bytes, so that its id is used.
use Rattle.std.proofs.Common.{Bool, Contains, List, Some, [], ap, arith, false, inl, inr, length, refl, subst, suc, sym, true, zero, ℕ, ◌||◌, ◌∙◌, ◌∷◌, ◌≡◌, ◌≤◌}
use Rattle.std.specs.Prelude.{map}
use Rattle.list_facts.proofs.Members.{cases_in, none_in_nil}
use Rattle.external_pointer.specs.declared.external.Pointer.{Pointer}
use Rattle.tuple_layout.specs.Sizes.{least_out}
use Rattle.tuple_layout.specs.declared.Storage.TheVariants.{External, Plain}
use Rattle.tuple_layout.specs.declared.Storage.{Storage}
use Rattle.tuple_layout.specs.declared.cell.Cell.TheVariants.{Inline, Null, Out}
use Rattle.tuple_layout.specs.declared.cell.Cell.{Cell}
use Rattle.slot_page.specs.declared.line.Tid.{Tid}
use Rattle.xact_status.specs.Xacts.{Xacts}
use Rattle.xact_status.specs.declared.Stamp.{Stamp}
use Rattle.value_ids.proofs.Drawn.{drawn_free}
use Rattle.value_ids.specs.Ids.{Pool, first_free_id, is_held}
use Rattle.snapshot_registry.specs.Snapshots.{Snaps, is_protected}
use Rattle.value_holders.specs.Holders.{Protects}
use Rattle.toast_store.proofs.Laying.{unused_none}
use Rattle.toast_store.specs.Stores.{Store, is_used}
use Rattle.toast_store.specs.Values.{Whole, piece_count, piece_in, pieces_of, value_in}
use Rattle.table_state.proofs.Ids.{id_in}
use Rattle.table_state.proofs.Places.{clash, holder_is}
use Rattle.table_state.specs.Cells.{cells_in}
use Rattle.table_state.specs.Events.{IsUnheld}
use Rattle.table_state.specs.Holders.{holders_of}
use Rattle.table_state.specs.Rows.{has_id, pointers_in}
use Rattle.table_state.specs.Tables.{AreCellsOf, IsTable, cells_of, toast_rel_of}
use Rattle.table_state.specs.declared.table.Table.{Table}

-- each pointer of a row's cells is of a value that is long enough to go out
pub cells_sized : (toast_rel : ℕ) (storages : List Storage) (cells : List Cell) (pointer : Pointer) → length cells ≡ length storages → AreCellsOf toast_rel storages cells → Contains (pointers_in cells) pointer → least_out ≤ pointer.size
cells_sized toast_rel [] [] pointer one are e = absurd (none_in_nil pointer e)
cells_sized toast_rel [] (cell ∷ cells) pointer one are e = absurd (omega (arith, one))
cells_sized toast_rel (storage ∷ storages) [] pointer one are e = absurd (none_in_nil pointer e)
cells_sized toast_rel (storage ∷ storages) (Null ∷ cells) pointer one are e = cells_sized toast_rel storages cells pointer (omega (arith, one)) are.1 e
cells_sized toast_rel (storage ∷ storages) (Inline value ∷ cells) pointer one are e = cells_sized toast_rel storages cells pointer (omega (arith, one)) are.1 e
cells_sized toast_rel (Plain ∷ storages) (Out first ∷ cells) pointer one are e = absurd are.0
cells_sized toast_rel (External ∷ storages) (Out first ∷ cells) pointer one are e = elim (cases_in first (pointers_in cells) pointer e) [
  | inl is ↦ subst (λ (p : Pointer). least_out ≤ p.size) is are.0.1
  | inr later ↦ cells_sized toast_rel storages cells pointer (omega (arith, one)) are.1 later
]

-- with no chunk there is no piece
none_pieces : (value : List ℕ) (n : ℕ) → [] ≡ pieces_of value 0 n → n ≡ 0
none_pieces value zero e = refl
none_pieces value (suc n) e = absurd (cc)

-- the id of a value with bytes that is whole is used
pub whole_used : (store : Store) (pointer : Pointer) (value : List ℕ) → Whole store pointer value → 1 ≤ pointer.size → is_used store pointer.value_id ≡ true
whole_used store pointer value whole some = by (is_used store pointer.value_id) refl
  where
    by : (b : Bool) → is_used store pointer.value_id ≡ b → is_used store pointer.value_id ≡ true
    by true used = used
    by false unused =
        let none : [] ≡ pieces_of value 0 (piece_count (length value)) = sym (ap (map piece_in) (unused_none store pointer.value_id unused)) ∙ whole.chunks in
        let count : piece_count (length value) ≡ 0 = none_pieces value (piece_count (length value)) none in
        let size = whole.size in
        absurd (omega (arith, count, size, some))

pub drawn_unheld : (number : ℕ) (xacts : Xacts) (snaps : Snaps) (table : Table) (ids : Pool) (t id : ℕ) → IsTable number xacts snaps table → first_free_id (is_used table.toast) ids t ≡ Some id → IsUnheld xacts snaps table id
drawn_unheld number xacts snaps table ids t id is drawn = record { none = λ tid stamp protects. none tid stamp protects }
  where
    free : is_used table.toast id ≡ false
    free = by (is_used table.toast id) (drawn_free (is_used table.toast) ids t id drawn)
      where
        by : (b : Bool) → (b || is_held ids.in_hand t id) ≡ false → b ≡ false
        by true e = absurd (cc)
        by false e = refl

    none : (tid : Tid) (stamp : Stamp) → Protects xacts snaps (holders_of table.rows.schema.storages table.rows.pages id) tid stamp → ⊥
    none tid stamp protects =
        let holder = holder_is (λ (tuple : List ℕ). has_id id (cells_in table.rows.schema.storages tuple)) table.rows.pages tid stamp protects.there in
        let version = holder.0 in
        let there = holder.1.there in
        let protected = subst (λ (x : Stamp). is_protected xacts snaps x.inserter x.ender ≡ true) holder.1.stamp_is protects.protected in
        let found = id_in id (cells_of table version) holder.1.holds_it in
        let pointer = found.0 in
        let row = is.tuples tid version there in
        let size = cells_sized (toast_rel_of number) table.rows.schema.storages (cells_of table version) pointer row.stored.has.one_each row.cells found.2 in
        let whole = is.whole tid version pointer there protected found.2 in
        let used : is_used table.toast id ≡ true = subst (λ (k : ℕ). is_used table.toast k ≡ true) found.1 (whole_used table.toast pointer (value_in table.toast pointer) whole (omega (arith, size))) in
        clash (is_used table.toast id) used free
