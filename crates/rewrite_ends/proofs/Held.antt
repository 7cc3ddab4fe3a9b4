-- The holders of each new value, and its chunks.
use Rattle.std.proofs.Common.{ℕ, ◌≡◌, inr, true, false, Option, Some, None, List, slice_get, Contains, refl, sym, ap, subst, ◌∙◌}
use Rattle.std.proofs.lemmas.Option.{none-some}
use Rattle.list_facts.proofs.Members.{from_chosen, from_map}
use Rattle.slot_page.specs.declared.line.Tid.{Tid}
use Rattle.slot_page.specs.Pages.{item_in}
use Rattle.external_pointer.specs.declared.external.Pointer.{Pointer}
use Rattle.tuple_layout.specs.declared.cell.Cell.TheVariants.{Out}
use Rattle.xact_status.specs.declared.Stamp.{Stamp}
use Rattle.xact_status.specs.Xacts.{Xacts, is_committed, is_running}
use Rattle.xact_status.specs.Versions.{is_current}
use Rattle.snapshot_registry.specs.Snapshots.{Snaps}
use Rattle.row_versions.specs.declared.version.Version.{Version}
use Rattle.chunk_relation.specs.Chunks.{chunk_stamp}
use Rattle.chunk_index.specs.declared.entry.Entry.{Entry}
use Rattle.chunk_index.specs.Entries.{of_id}
use Rattle.toast_store.specs.Stores.{chunks_of, is_used}
use Rattle.value_holders.specs.Holders.{IsHeld}
use Rattle.value_holders.specs.Stamps.{IsSoundStamp, Runs}
use Rattle.value_holders.proofs.Tests.{clash}
use Rattle.table_rows.specs.Steps.{stamp_of}
use Rattle.table_state.specs.declared.table.Table.{Table}
use Rattle.table_state.specs.Cells.{cells_in}
use Rattle.table_state.specs.Holders.{chunk_stamps, holders_of}
use Rattle.table_state.specs.Rows.{has_id}
use Rattle.table_state.specs.Tables.{IsTable}
use Rattle.table_state.proofs.Places.{holder_from, holder_is}
use Rattle.rewrite_facts.specs.Chunks.{Made}
use Rattle.rewrite_facts.specs.Copies.{Copied, IsCopy, IsIdOf, id_at, ids_of}
use Rattle.rewrite_facts.specs.Rewrites.{Rewriting, busy_at}
use Rattle.rewrite_ends.specs.Quiet.{AreQuiet}
use Rattle.rewrite_ends.specs.Ends.{IsReady}
use Rattle.rewrite_ends.specs.Laws.{ValuesHeld}
use Rattle.rewrite_ends.proofs.Laid.{LiesAt, lies_once}
use Rattle.rewrite_ends.proofs.Chosen.{IsQuiet}
use Rattle.rewrite_ends.proofs.Events.{quiet_at}
use Rattle.rewrite_ends.proofs.Cells.{column_with, had_at, id_there}
use Rattle.rewrite_ends.proofs.Copied.{copy_cells, new_version, same_schema}

-- ---- ids

-- a column of a copy has its old id, or one that the old store does not use
pub data Comes (old : Table) (copy : Copied) (n : ℕ) (pointer : Pointer) : Type 0 where
  Kept : (was : Pointer) → slice_get (cells_in old.rows.schema.storages copy.was.tuple) n ≡ Some (Out was) → was.value_id ≡ pointer.value_id → Comes old copy n pointer
  Drawn : is_used old.toast pointer.value_id ≡ false → Comes old copy n pointer

pub comes : (old : Table) (r : Rewriting) (copy : Copied) (n : ℕ) (pointer : Pointer) → IsCopy old r.toast (busy_at r.stage) copy → slice_get copy.cells n ≡ Some (Out pointer) → Comes old copy n pointer
comes old r copy n pointer made here = by_id (id_at (ids_of old copy.was) n) refl (made.new_one.pointers n pointer here).id
  where
    by_id : (o : Option ℕ) → id_at (ids_of old copy.was) n ≡ o → IsIdOf old.toast o pointer.value_id → Comes old copy n pointer
    by_id (Some id) had is = let was = had_at (cells_in old.rows.schema.storages copy.was.tuple) n id had in Kept was.pointer was.here (was.is ∙ sym is)
    by_id None none unused = Drawn unused

-- ---- holders

-- a version that holds a new value: that of a copy with a pointer to it
pub record IsNewHolder (xacts : Xacts) (old : Table) (r : Rewriting) (copies : List Copied) (value_id : ℕ) (tid : Tid) (stamp : Stamp) : Type 0 where
  pub copy : Copied
  pub among : Contains copies copy
  pub lies : LiesAt old.rows.schema copies tid copy
  pub made : IsCopy old r.toast (busy_at r.stage) copy
  pub quiet : IsQuiet xacts copy.was
  pub stamp_is : stamp ≡ stamp_of copy.was
  pub column : ℕ
  pub pointer : Pointer
  pub here : slice_get copy.cells column ≡ Some (Out pointer)
  pub id : pointer.value_id ≡ value_id

new_holder : (xacts : Xacts) (snaps : Snaps) (old : Table) (r : Rewriting) (ready : IsReady xacts snaps old r) → AreQuiet xacts old.rows.pages → (value_id : ℕ) (tid : Tid) (stamp : Stamp)
    → holders_of old.rows.schema.storages r.rows.pages value_id tid ≡ Some stamp → IsNewHolder xacts old r ready.holds.copies value_id tid stamp
new_holder xacts snaps old r ready quiet value_id tid stamp is =
    let holder = holder_is (λ tuple. has_id value_id (cells_in old.rows.schema.storages tuple)) r.rows.pages tid stamp is in
    let new = new_version xacts snaps old r ready.holds tid holder.0 holder.1.there in
    let has = sym (ap (has_id value_id) (copy_cells old r new.copy ready.columns new.made)) ∙ ap (λ (v : Version). has_id value_id (cells_in old.rows.schema.storages v.tuple)) new.is ∙ holder.1.holds_it in
    let column = column_with value_id new.copy.cells has in
    record {
      copy = new.copy;
      among = new.among;
      lies = new.lies;
      made = new.made;
      quiet = quiet_at xacts old.rows.pages new.copy.from new.copy.was quiet new.made.old_one.there;
      stamp_is = holder.1.stamp_is ∙ ap stamp_of (sym new.is);
      column = column.column;
      pointer = column.pointer;
      here = column.here;
      id = column.id;
    }

-- an old version with the value
old_holder : (old : Table) (r : Rewriting) (copy : Copied) (value_id n : ℕ) (was : Pointer) → IsCopy old r.toast (busy_at r.stage) copy → slice_get (cells_in old.rows.schema.storages copy.was.tuple) n ≡ Some (Out was) → was.value_id ≡ value_id
    → holders_of old.rows.schema.storages old.rows.pages value_id copy.from ≡ Some (stamp_of copy.was)
old_holder old r copy value_id n was made here is = holder_from (λ tuple. has_id value_id (cells_in old.rows.schema.storages tuple)) old.rows.pages copy.from copy.was made.old_one.there (id_there value_id (cells_in old.rows.schema.storages copy.was.tuple) n was here is)

-- two that are there are one: a kept value's old versions were one, and an id was drawn once
same_from : (number : ℕ) (xacts : Xacts) (snaps : Snaps) (old : Table) (r : Rewriting) (ready : IsReady xacts snaps old r) → IsTable number xacts snaps old → (own : Option ℕ) → Runs xacts own → (value_id : ℕ) (t u : Tid) (stamp its : Stamp)
    → (first : IsNewHolder xacts old r ready.holds.copies value_id t stamp) (second : IsNewHolder xacts old r ready.holds.copies value_id u its) → is_current xacts own stamp ≡ true → is_current xacts own its ≡ true → first.copy.from ≡ second.copy.from
same_from number xacts snaps old r ready table own runs value_id t u stamp its first second current current_too = by_ids (comes old r first.copy first.column first.pointer first.made first.here) (comes old r second.copy second.column second.pointer second.made second.here)
  where
    by_ids : Comes old first.copy first.column first.pointer → Comes old second.copy second.column second.pointer → first.copy.from ≡ second.copy.from
    by_ids (Kept was here is) (Kept other here_too is_too) = (table.held value_id).one_current own first.copy.from second.copy.from (stamp_of first.copy.was) (stamp_of second.copy.was) runs
        (old_holder old r first.copy value_id first.column was first.made here (is ∙ first.id)) (old_holder old r second.copy value_id second.column other second.made here_too (is_too ∙ second.id))
        (ap (is_current xacts own) (sym first.stamp_is) ∙ current) (ap (is_current xacts own) (sym second.stamp_is) ∙ current_too)
    by_ids (Drawn unused) from = (ready.holds.chunks.once first.copy.from second.copy.from first.column second.column first.pointer second.pointer (Made first.copy first.among refl first.here) (Made second.copy second.among refl second.here) (first.id ∙ sym second.id) unused).0
    by_ids (Kept was here is) (Drawn unused) = sym (ready.holds.chunks.once second.copy.from first.copy.from second.column first.column second.pointer first.pointer (Made second.copy second.among refl second.here) (Made first.copy first.among refl first.here) (second.id ∙ sym first.id) unused).0

-- ---- chunks

-- each chunk of a new value was put by the rewrite, and none has ended it
pub record IsNewStamp (r : Rewriting) (chunk : Stamp) : Type 0 where
  pub inserter : chunk.inserter ≡ r.xid
  pub ender : chunk.ender ≡ None

new_stamp : (xacts : Xacts) (snaps : Snaps) (old : Table) (r : Rewriting) → IsReady xacts snaps old r → (value_id : ℕ) (chunk : Stamp) → Contains (chunk_stamps r.toast value_id) chunk → IsNewStamp r chunk
new_stamp xacts snaps old r ready value_id chunk held =
    let found = from_map chunk_stamp (chunks_of r.toast value_id) chunk held in
    let entry = from_chosen (λ (e : Entry). item_in r.toast.rel.pages e.tid) (of_id value_id r.toast.index.entries) found.0 found.1 in
    let new = ready.holds.chunks.each (Entry.tid entry.0) found.0 entry.2 in
    record { inserter = ap (λ (s : Stamp). s.inserter) (sym found.2) ∙ new.inserter; ender = ap (λ (s : Stamp). s.ender) (sym found.2) ∙ new.ender }

-- ---- the law

-- a quiet version's stamp is sound
pub sound_stamp : (xacts : Xacts) (version : Version) → IsQuiet xacts version → IsSoundStamp xacts (stamp_of version)
sound_stamp xacts version quiet = record { given = quiet.inserter.given; own_end = λ xid runs ended. absurd (clash (is_running xacts version.inserter) runs quiet.inserter.ended) }

held_in : (number : ℕ) (xacts : Xacts) (snaps : Snaps) (old : Table) (r : Rewriting) (value_id : ℕ) → is_committed xacts r.xid ≡ true → AreQuiet xacts old.rows.pages → IsTable number xacts snaps old → IsReady xacts snaps old r
    → IsHeld xacts snaps (holders_of old.rows.schema.storages r.rows.pages value_id) (chunk_stamps r.toast value_id)
held_in number xacts snaps old r value_id committed quiet table ready = record {
  sound = record { each = λ tid stamp is. let new = holder tid stamp is in subst (λ s. IsSoundStamp xacts s) (sym new.stamp_is) (sound_stamp xacts new.copy.was new.quiet) };
  one_current = λ own t u stamp its runs is is_too current current_too.
      let first = holder t stamp is in
      let second = holder u its is_too in
      lies_once old.rows.schema r.place ready.holds.copies t u first.copy second.copy ready.holds.order first.lies second.lies (same_from number xacts snaps old r ready table own runs value_id t u stamp its first second current current_too);
  one_world = λ t u stamp its runs is protects. let new = holder t stamp is in absurd (clash (is_running xacts stamp.inserter) runs (ap (λ (s : Stamp). is_running xacts s.inserter) new.stamp_is ∙ new.quiet.inserter.ended));
  each_chunk = λ chunk among. let new = new_stamp xacts snaps old r ready value_id chunk among in record {
    ending = λ xid ended runs. absurd (none-some xid (sym new.ender ∙ ended));
    ended = λ xid number ended numbered. absurd (none-some xid (sym new.ender ∙ ended));
    put = λ place stamp protects. inr (ap (is_committed xacts) new.inserter ∙ committed);
  };
}
  where
    holder : (tid : Tid) (stamp : Stamp) → holders_of old.rows.schema.storages r.rows.pages value_id tid ≡ Some stamp → IsNewHolder xacts old r ready.holds.copies value_id tid stamp
    holder = new_holder xacts snaps old r ready quiet value_id

pub held : (number : ℕ) (xacts : Xacts) (snaps : Snaps) (old : Table) (r : Rewriting) (value_id : ℕ) → is_committed xacts r.xid ≡ true → AreQuiet xacts old.rows.pages → IsTable number xacts snaps old → IsReady xacts snaps old r
    → IsHeld xacts snaps (holders_of r.rows.schema.storages r.rows.pages value_id) (chunk_stamps r.toast value_id)
held number xacts snaps old r value_id committed quiet table ready = subst (λ schema. IsHeld xacts snaps (holders_of schema.storages r.rows.pages value_id) (chunk_stamps r.toast value_id)) (sym (same_schema xacts snaps old r ready.holds)) (held_in number xacts snaps old r value_id committed quiet table ready)

pub values_held : ValuesHeld
values_held = record { held = held }
