-- What steps leave of what a write relies on.
use Rattle.std.proofs.Common.{◌≡◌, ◌≢◌, ℕ, ◌+◌, ◌-◌, ◌<◌, ◌≤◌, Bool, true, false, nat_lt, Some, Option, List, length, refl, sym, ap, ◌∙◌, subst, inl, inr, arith}
use Rattle.std.specs.Prelude.{◌⊎◌, slice_get, slice_set, Contains, ◌==◌, ◌&&◌, ◌||◌}
use Rattle.std.proofs.lemmas.List.Folds.{list_any_at}
use Rattle.std.proofs.lemmas.Bool.{false≢true, ltb-false, ltb-true}
use Rattle.std.proofs.lemmas.Bool.Decides.{nat_tests}
use Rattle.slot_page.specs.declared.line.LinePointer.{LinePointer}
use Rattle.slot_page.specs.declared.line.LinePointer.TheVariants.{Normal}
use Rattle.slot_page.specs.Slots.{IsNormal}
use Rattle.slot_page.specs.Pages.{put_tid, slot_of, with_put_on}
use Rattle.slot_page.proofs.Pages.{slot_of-put}
use Rattle.external_pointer.specs.declared.external.Pointer.{Pointer}
use Rattle.tuple_layout.specs.declared.cell.Cell.{Cell}
use Rattle.tuple_layout.specs.declared.cell.Cell.TheVariants.{Out}
use Rattle.tuple_layout.specs.declared.cell.Stored.{Stored}
use Rattle.row_versions.specs.declared.version.Version.{Version}
use Rattle.row_versions.specs.Relations.{Relation, with_version}
use Rattle.value_ids.specs.declared.pool.InHand.{InHand}
use Rattle.value_ids.specs.Ids.{Pool, first_free_id, is_held}
use Rattle.value_ids.proofs.Drawn.{drawn_free}
use Rattle.toast_store.specs.Stores.{Store, is_used}
use Rattle.toast_store.specs.Saves.{IsOfTable, IsSaved, Saving, held_by}
use Rattle.toast_store.specs.PieceJobs.{all_put}
use Rattle.toast_store.specs.Others.{LeavesOthers}
use Rattle.toast_store.proofs.Kept.{whole_kept}
use Rattle.write_steps.specs.Writes.{cell_of, new_save, with_cell}
use Rattle.write_steps.specs.Standing.{AreSaved, Holds, IsColumn, IsOldThere}
use Rattle.write_steps.specs.declared.stage.OldRow.{OldRow}
use Rattle.write_steps.specs.declared.stage.Owner.{Owner}
use Rattle.write_steps.proofs.Plans.{cell_other, cell_same}

-- ---- the rows

-- a version that is put leaves each that is there
pub there_put : (rows : Relation) (version : Version) (old : Option OldRow) → IsOldThere rows old → IsOldThere (with_version rows version) old
there_put rows version old there = λ row e. by_slot row (there row e) (slot_of-put (length version.tuple) version rows.pages row.tid)
  where
    by_slot : (row : OldRow) → IsNormal (slot_of rows.pages row.tid) → (slot_of (with_put_on (length version.tuple) version rows.pages) row.tid ≡ slot_of rows.pages row.tid) ⊎ ((row.tid ≡ put_tid (length version.tuple) rows.pages) × (slot_of (with_put_on (length version.tuple) version rows.pages) row.tid ≡ Normal (length version.tuple) version))
        → IsNormal (slot_of (with_put_on (length version.tuple) version rows.pages) row.tid)
    by_slot row normal (inl same) = subst (λ (line : LinePointer Version). IsNormal line) (sym same) normal
    by_slot row normal (inr put) = subst (λ (line : LinePointer Version). IsNormal line) (sym put.1) tt

-- ---- the columns that are saved

-- who leaves the values under their ids, and the ids in hand, leaves them saved
pub saved_kept : (old new : Store) (ids later : Pool) (owner : Owner) (row : Stored) (plan : List ℕ) (to : ℕ) (own : Option ℕ) (session : ℕ) → LeavesOthers own session old new → ((held : InHand) → held.session ≡ owner.session → Contains ids.in_hand held → Contains later.in_hand held)
    → ((at : ℕ) (p : Pointer) → at < to → Holds row plan at p → own ≢ Some p.value_id) → AreSaved old ids owner row plan to → AreSaved new later owner row plan to
saved_kept old new ids later owner row plan to own session leaves holds fresh saved = record {
  out = saved.out;
  saved = λ at p before held.
      let was = saved.saved at p before held in
      let left = leaves.values p.value_id (fresh at p before held) in
      (was.0, record { of_table = was.1.of_table; in_range = was.1.in_range; whole = whole_kept old new p was.0 left was.1.whole; chunks = left ∙ was.1.chunks; in_hand = holds (held_by (new_save owner was.0) p.value_id) refl was.1.in_hand });
  apart = saved.apart;
}

-- what another column of the row has makes no difference
held_before : (row : Stored) (plan : List ℕ) (at column : ℕ) (cell : Cell) (place : ℕ) (p : Pointer) → slice_get plan at ≡ Some column → IsColumn row column → ((k : ℕ) (c : ℕ) → slice_get plan k ≡ Some c → 1 ≤ c) → ((k other c : ℕ) → slice_get plan k ≡ Some c → slice_get plan other ≡ Some c → k ≡ other)
    → place ≢ at → Holds (with_cell row column cell) plan place p → Holds row plan place p
held_before row plan at column cell place p here there least once differ held = record {
  column = held.column;
  planned = held.planned;
  cell = sym (cell_other row column held.column cell there.0 (least place held.column held.planned) (λ same. differ (once place at column (held.planned ∙ ap (λ n. Some n) same) here))) ∙ held.cell;
}

-- an id that a pool gives is not in hand for the table
held_found : (in_hand : List InHand) (held : InHand) → Contains in_hand held → is_held in_hand held.table held.id ≡ true
held_found in_hand held there = list_any_at (λ (x : InHand). (x.table == held.table) && (x.id == held.id)) in_hand there.0 held there.1 (subst (λ (x : InHand). ((x.table == held.table) && (x.id == held.id)) ≡ true) (sym there.2) (same held.table held.id))
  where
    same : (a b : ℕ) → ((a == a) && (b == b)) ≡ true
    same a b = grind (arith, nat_tests)

pub drawn_fresh : (used : ℕ → Bool) (ids : Pool) (held : InHand) → Contains ids.in_hand held → first_free_id used ids held.table ≢ Some held.id
drawn_fresh used ids held there drawn = by_used (used held.id) (drawn_free used ids held.table held.id drawn) (held_found ids.in_hand held there)
  where
    by_used : (b : Bool) → (b || is_held ids.in_hand held.table held.id) ≡ false → is_held ids.in_hand held.table held.id ≡ true → ⊥
    by_used true free found = false≢true (sym free)
    by_used false free found = false≢true (sym free ∙ found)

-- so a saved pointer's id is not drawn
pub saved_fresh : (toast : Store) (ids : Pool) (owner : Owner) (value : List ℕ) (p : Pointer) → IsSaved toast ids (new_save owner value) p → first_free_id (is_used toast) ids owner.table ≢ Some p.value_id
saved_fresh toast ids owner value p saved = drawn_fresh (is_used toast) ids (held_by (new_save owner value) p.value_id) saved.in_hand

-- a save of the write saves as one that has its owner's table, session and xid
pub saved_of : (toast : Store) (ids : Pool) (owner : Owner) (save : Saving) (p : Pointer) → save.table ≡ owner.table → save.session ≡ owner.session → save.xid ≡ owner.xid → IsSaved toast ids save p → IsSaved toast ids (new_save owner save.value) p
saved_of toast ids owner save p table session xid saved = record {
  of_table = subst (λ n. IsOfTable n p) table saved.of_table;
  in_range = saved.in_range;
  whole = saved.whole;
  chunks = saved.chunks ∙ ap (λ n. all_put n p.value_id save.value) xid;
  in_hand = subst (λ (held : InHand). Contains ids.in_hand held) (ap (λ n. record { table = n; session = save.session; id = p.value_id }) table ∙ ap (λ n. record { table = owner.table; session = n; id = p.value_id }) session) saved.in_hand;
}

-- ---- the plan's columns, as one more is saved

-- each column of a plan is at least 1, and none comes twice
pub record IsPlan (plan : List ℕ) : Type 0 where
  pub least : (at column : ℕ) → slice_get plan at ≡ Some column → 1 ≤ column
  pub once : (at other column : ℕ) → slice_get plan at ≡ Some column → slice_get plan other ≡ Some column → at ≡ other

-- a row whose columns up to a place are saved, with another cell in the column there
pub saved_with : (toast : Store) (ids : Pool) (owner : Owner) (row : Stored) (plan : List ℕ) (at column : ℕ) (cell : Cell) → IsPlan plan → slice_get plan at ≡ Some column → IsColumn row column → AreSaved toast ids owner row plan at → AreSaved toast ids owner (with_cell row column cell) plan at
saved_with toast ids owner row plan at column cell is here there saved = record {
  out = λ place other before e.
      let differ : other ≢ column = λ same. omega (arith, before, is.once place at column (e ∙ ap (λ n. Some n) same) here) in
      let out = saved.out place other before e in
      (out.0, cell_other row column other cell there.0 (is.least place other e) differ ∙ out.1);
  saved = λ place p before held. saved.saved place p before (earlier place p before held);
  apart = λ place other p q before earlier_one differ held kept. saved.apart place other p q before earlier_one differ (earlier place p before held) (earlier other q earlier_one kept);
}
  where
    earlier : (place : ℕ) (p : Pointer) → place < at → Holds (with_cell row column cell) plan place p → Holds row plan place p
    earlier place p before held = held_before row plan at column cell place p here there is.least is.once (λ e. omega (arith, before, e)) held

-- and with the pointer of a value that was saved there
pub saved_more : (toast : Store) (ids : Pool) (owner : Owner) (row : Stored) (plan : List ℕ) (at column : ℕ) (value : List ℕ) (pointer : Pointer) → IsPlan plan → slice_get plan at ≡ Some column → IsColumn row column → IsSaved toast ids (new_save owner value) pointer
    → ((place : ℕ) (p : Pointer) → place < at → Holds row plan place p → pointer.value_id ≢ p.value_id) → AreSaved toast ids owner row plan at → AreSaved toast ids owner (with_cell row column (Out pointer)) plan (at + 1)
saved_more toast ids owner row plan at column value pointer is here there whole fresh saved = record {
  out = λ place other before e. by_out place other e (last place before);
  saved = λ place p before held. by_saved place p held (last place before);
  apart = λ place other p q before also differ held kept. by_apart place other p q differ held kept (last place before) (last other also);
}
  where
    last : (place : ℕ) → place < at + 1 → (place < at) ⊎ (place ≡ at)
    last place before = by_test (nat_lt place at) refl
      where
        by_test : (b : Bool) → nat_lt place at ≡ b → (place < at) ⊎ (place ≡ at)
        by_test true less = inl (ltb-true place at less)
        by_test false less = inr (omega (arith, before, ltb-false place at less))

    column_is : (place other : ℕ) → slice_get plan place ≡ Some other → place ≡ at → other ≡ column
    column_is place other e same = some_is (sym e ∙ ap (slice_get plan) same ∙ here)
      where
        some_is : Some other ≡ Some column → other ≡ column
        some_is h = cc

    pointer_is : (place : ℕ) (p : Pointer) → Holds (with_cell row column (Out pointer)) plan place p → place ≡ at → pointer ≡ p
    pointer_is place p held same = cell_is (sym (cell_same row column (Out pointer) there) ∙ ap (cell_of (slice_set row.cells (column - 1) (Out pointer))) (sym (column_is place held.column held.planned same)) ∙ held.cell)
      where
        cell_is : Out pointer ≡ Out p → pointer ≡ p
        cell_is h = cc

    earlier : (place : ℕ) (p : Pointer) → place < at → Holds (with_cell row column (Out pointer)) plan place p → Holds row plan place p
    earlier place p before held = held_before row plan at column (Out pointer) place p here there is.least is.once (λ e. omega (arith, before, e)) held

    by_out : (place other : ℕ) → slice_get plan place ≡ Some other → (place < at) ⊎ (place ≡ at) → (p : Pointer) × (cell_of (Stored.cells (with_cell row column (Out pointer))) other ≡ Out p)
    by_out place other e (inl before) =
        let differ : other ≢ column = λ same. omega (arith, before, is.once place at column (e ∙ ap (λ n. Some n) same) here) in
        let out = saved.out place other before e in
        (out.0, cell_other row column other (Out pointer) there.0 (is.least place other e) differ ∙ out.1)
    by_out place other e (inr same) = (pointer, ap (cell_of (slice_set row.cells (column - 1) (Out pointer))) (column_is place other e same) ∙ cell_same row column (Out pointer) there)

    by_saved : (place : ℕ) (p : Pointer) → Holds (with_cell row column (Out pointer)) plan place p → (place < at) ⊎ (place ≡ at) → (v : List ℕ) × IsSaved toast ids (new_save owner v) p
    by_saved place p held (inl before) = saved.saved place p before (earlier place p before held)
    by_saved place p held (inr same) = (value, subst (λ (q : Pointer). IsSaved toast ids (new_save owner value) q) (pointer_is place p held same) whole)

    by_apart : (place other : ℕ) (p q : Pointer) → place ≢ other → Holds (with_cell row column (Out pointer)) plan place p → Holds (with_cell row column (Out pointer)) plan other q → (place < at) ⊎ (place ≡ at) → (other < at) ⊎ (other ≡ at) → p.value_id ≢ q.value_id
    by_apart place other p q differ held kept (inl before) (inl also) = saved.apart place other p q before also differ (earlier place p before held) (earlier other q also kept)
    by_apart place other p q differ held kept (inr here_one) (inl also) = λ e. fresh other q also (earlier other q also kept) (ap (λ (x : Pointer). x.value_id) (pointer_is place p held here_one) ∙ e)
    by_apart place other p q differ held kept (inl before) (inr here_one) = λ e. fresh place p before (earlier place p before held) (ap (λ (x : Pointer). x.value_id) (pointer_is other q kept here_one) ∙ sym e)
    by_apart place other p q differ held kept (inr here_one) (inr also) = absurd (differ (here_one ∙ sym also))
