-- Nothing but copies and their values is in the new relations.
use Rattle.std.proofs.Common.{ℕ, ◌≡◌, inl, inr, Some, List, [], ◌∷◌, length, slice_get, refl, sym, ap, subst, ◌∙◌}
use Rattle.std.proofs.lemmas.Option.{none-some}
use Rattle.slot_page.specs.declared.line.Tid.{Tid}
use Rattle.slot_page.specs.Pages.{item_in, slot_of}
use Rattle.slot_page.specs.Slots.{IsDead}
use Rattle.slot_page.proofs.Pages.{slot_of-put}
use Rattle.external_pointer.specs.declared.external.Pointer.{Pointer}
use Rattle.tuple_layout.specs.Schemas.{TableSchema}
use Rattle.tuple_layout.specs.declared.cell.Cell.TheVariants.{Out}
use Rattle.xact_status.specs.Xacts.{Xacts}
use Rattle.snapshot_registry.specs.Snapshots.{Snaps}
use Rattle.row_versions.specs.declared.version.Version.{Version}
use Rattle.row_versions.specs.Relations.{Relation}
use Rattle.chunk_relation.specs.declared.chunk.Chunk.{Chunk}
use Rattle.table_state.specs.declared.table.Table.{Table}
use Rattle.table_state.specs.Rows.{has_id}
use Rattle.rewrite_facts.specs.Chunks.{HasPointer, IsNamed, Made, UnderWay, cells_at, put_at}
use Rattle.rewrite_facts.specs.Copies.{Copied, version_of}
use Rattle.rewrite_facts.specs.Holds.{RewriteHolds}
use Rattle.rewrite_facts.specs.Rewrites.{Rewriting, busy_at, new_table}
use Rattle.rewrite_ends.specs.Ends.{IsHad, IsReady}
use Rattle.rewrite_ends.specs.Laws.{NothingIsSpare}
use Rattle.rewrite_ends.proofs.Cells.{id_there}
use Rattle.rewrite_ends.proofs.Copied.{same_item}
use Rattle.rewrite_ends.proofs.Laid.{copy_laid, laid_pages, lies_there}
use Rattle.rewrite_ends.proofs.Whole.{new_cells}

-- ---- chunks

-- at the end no version is being copied, so that a pointer to a new value is a copy's
had_by : (xacts : Xacts) (snaps : Snaps) (old : Table) (r : Rewriting) (ready : IsReady xacts snaps old r) (from : Tid) (n value_id : ℕ) (pointer : Pointer) → HasPointer ready.holds.copies r from n pointer → pointer.value_id ≡ value_id → IsHad (new_table r) value_id
had_by xacts snaps old r ready from n value_id pointer (Made copy among from_is here) is =
    let holds = ready.holds in
    let place = copy_laid old.rows.schema holds.copies copy among in
    record {
      tid = place.tid;
      version = version_of old.rows.schema.storages copy;
      there = same_item xacts snaps old r holds place.tid ∙ lies_there old.rows.schema holds.copies place.tid copy place.lies;
      has = ap (has_id value_id) (new_cells xacts snaps old r copy (version_of old.rows.schema.storages copy) ready.columns holds (holds.made copy among) refl) ∙ id_there value_id copy.cells n pointer here is;
    }
had_by xacts snaps old r ready from n value_id pointer (UnderWay from_is here) is = absurd (none-some (Out pointer) (sym (ap (λ stage. slice_get (cells_at stage) n) ready.stage) ∙ here))

chunk_had : (xacts : Xacts) (snaps : Snaps) (old : Table) (r : Rewriting) (tid : Tid) (chunk : Chunk) → IsReady xacts snaps old r → item_in r.toast.rel.pages tid ≡ Some chunk → IsHad (new_table r) chunk.value_id
chunk_had xacts snaps old r tid chunk ready there = elim (ready.holds.chunks.each tid chunk there).owned [
  | inl busy ↦ absurd (none-some chunk.value_id (sym (ap busy_at ready.stage) ∙ busy))
  | inr owned ↦ had_by xacts snaps old r ready owned.from owned.column chunk.value_id owned.pointer owned.has owned.id
]

chunk_named : (xacts : Xacts) (snaps : Snaps) (old : Table) (r : Rewriting) (tid : Tid) (chunk : Chunk) → IsReady xacts snaps old r → item_in r.toast.rel.pages tid ≡ Some chunk → IsNamed r.toast.index.entries tid
chunk_named xacts snaps old r tid chunk ready there = elim (ready.holds.chunks.each tid chunk there).named [
  | inl put ↦ absurd (none-some tid (sym (ap put_at ready.stage) ∙ put))
  | inr named ↦ named
]

-- ---- rows

-- only puts have been made
none_dead : (schema : TableSchema) (copies : List Copied) (tid : Tid) → IsDead (slot_of (laid_pages schema copies) tid) → ⊥
none_dead schema [] tid dead = dead
none_dead schema (copy ∷ copies) tid dead = elim (slot_of-put (length (Version.tuple (version_of schema.storages copy))) (version_of schema.storages copy) (laid_pages schema copies) tid) [
  | inl same ↦ none_dead schema copies tid (subst (λ line. IsDead line) same dead)
  | inr put ↦ subst (λ line. IsDead line) put.1 dead
]

row_undead : (xacts : Xacts) (snaps : Snaps) (old : Table) (r : Rewriting) (tid : Tid) → RewriteHolds xacts snaps old r → IsDead (slot_of r.rows.pages tid) → ⊥
row_undead xacts snaps old r tid holds dead = none_dead old.rows.schema holds.copies tid (subst (λ (rel : Relation). IsDead (slot_of rel.pages tid)) holds.rows dead)

pub nothing_is_spare : NothingIsSpare
nothing_is_spare = record { chunk = chunk_had; named = chunk_named; row = row_undead; slot = λ xacts snaps old r tid holds. holds.chunks.undead tid }
