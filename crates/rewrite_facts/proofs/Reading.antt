-- Reads of old values: they change nothing of the old relations but pins.
use Rattle.std.proofs.Common.{◌≡◌, ℕ, Option, Some, None, List, refl, sym, ap, ◌∙◌, subst}
use Rattle.std.specs.Prelude.{Ok, Result}
use Rattle.toast_store.specs.declared.fault.FetchFault.{FetchFault}
use Rattle.slot_page.specs.declared.line.Tid.{Tid}
use Rattle.external_pointer.specs.declared.external.Pointer.{Pointer}
use Rattle.tuple_layout.specs.declared.cell.Cell.{Cell}
use Rattle.xact_status.specs.Xacts.{Xacts}
use Rattle.snapshot_registry.specs.Snapshots.{Snaps}
use Rattle.row_versions.specs.declared.version.Version.{Version}
use Rattle.chunk_index.specs.Pinned.{pin_of}
use Rattle.chunk_index.specs.declared.entry.Pin.{Pin}
use Rattle.chunk_index.specs.Indexes.{Index}
use Rattle.toast_store.specs.Stores.{Store, IsStore}
use Rattle.toast_store.specs.Values.{Whole, value_in}
use Rattle.toast_store.specs.Walks.{CanStep, Walking, index_walked, stage_after}
use Rattle.toast_store.specs.Begun.{IsOverSome}
use Rattle.toast_store.specs.Fetches.{FetchSteps, Fetching, outcome}
use Rattle.toast_store.specs.declared.fetch.FetchStep.TheVariants.{More, Done}
use Rattle.toast_store.specs.declared.walk.WalkStage.TheVariants as walks
use Rattle.toast_store.proofs.Begun.{bounds_after, over_free, some_after}
use Rattle.toast_store.proofs.Walked.{entries_walked}
use Rattle.table_state.specs.declared.table.Table.{Table}
use Rattle.rewrite_facts.specs.Chunks.{AreChunks, cells_at}
use Rattle.rewrite_facts.specs.Copies.{AreWhole, Copied, IsCopy, IsIdOf, IsNewPointer, IsNewRow, IsOldVersion, id_at, ids_of}
use Rattle.rewrite_facts.specs.Holds.{AreShared, IsFilling, IsReading, RewriteHolds, StandsAt}
use Rattle.rewrite_facts.specs.Rewrites.{Rewriting, at_stage, busy_at, inserter_at, with_value}
use Rattle.rewrite_facts.specs.declared.stage.RowCopy.{RowCopy}
use Rattle.rewrite_facts.specs.declared.stage.RewriteStage.{RewriteStage}
use Rattle.rewrite_facts.specs.declared.stage.RewriteStage.TheVariants.{Filling, Reading}
use Rattle.rewrite_facts.proofs.Chunks.{chunks_restaged, idle_put}
use Rattle.rewrite_facts.proofs.Inserted.{inserted_same}
use Rattle.rewrite_facts.proofs.Columns.{filled}

-- ---- other pins

-- the store with other pins
abbrev pub repinned : Store → List Pin → Store
repinned store pins = record store { index = record store.index { pins = pins } }

-- the table with another old store
abbrev pub with_values : Table → Store → Table
with_values old store = record old { toast = store }

whole_pinned : (store : Store) (pins : List Pin) (p : Pointer) (value : List ℕ) → Whole store p value → Whole (repinned store pins) p value
whole_pinned store pins p value whole = record { chunks = whole.chunks; size = whole.size }

all_whole : (store : Store) (pins : List Pin) (cells : List Cell) → AreWhole store cells → AreWhole (repinned store pins) cells
all_whole store pins cells whole = record { each = λ n p there. whole_pinned store pins p (value_in store p) (whole.each n p there) }

one_pinned : (old : Table) (pins : List Pin) (tid : Tid) (version : Version) → IsOldVersion old tid version → IsOldVersion (with_values old (repinned old.toast pins)) tid version
one_pinned old pins tid version is = record { there = is.there; copyable = record { stored = is.copyable.stored; cells = is.copyable.cells; whole = all_whole old.toast pins _ is.copyable.whole } }

id_pinned : (store : Store) (pins : List Pin) (was : Option ℕ) (id : ℕ) → IsIdOf store was id → IsIdOf (repinned store pins) was id
id_pinned store pins None id is = is
id_pinned store pins (Some had) id is = is

row_pinned : (old : Table) (pins : List Pin) (new : Store) (busy : Option ℕ) (was : Version) (cells : List Cell) → IsNewRow old new busy was cells → IsNewRow (with_values old (repinned old.toast pins)) new busy was cells
row_pinned old pins new busy was cells is = record { has = is.has; limits = is.limits; row = is.row; pointers = λ n p there. pointer n p (is.pointers n p there) }
  where
    pointer : (n : ℕ) (p : Pointer) → IsNewPointer old.toast new busy (id_at (ids_of old was) n) p → IsNewPointer (repinned old.toast pins) new busy (id_at (ids_of old was) n) p
    pointer n p at = record { whole = at.whole; settled = at.settled; own = at.own; id = id_pinned old.toast pins (id_at (ids_of old was) n) p.value_id at.id }

copy_pinned : (old : Table) (pins : List Pin) (new : Store) (busy : Option ℕ) (copy : Copied) → IsCopy old new busy copy → IsCopy (with_values old (repinned old.toast pins)) new busy copy
copy_pinned old pins new busy copy is = record { old_one = one_pinned old pins copy.from copy.was is.old_one; new_one = row_pinned old pins new busy copy.was copy.cells is.new_one; out = is.out }

filling_pinned : (old : Table) (pins : List Pin) (place : Tid) (copy : RowCopy) → IsFilling old place copy → IsFilling (with_values old (repinned old.toast pins)) place copy
filling_pinned old pins place copy is = record {
  was = is.was;
  of = record { old_one = one_pinned old pins place is.was is.of.old_one; key = is.of.key; stamp = is.of.stamp; ids = is.of.ids };
  has = is.has;
  limits = is.limits;
  row = is.row;
  whole = all_whole old.toast pins copy.cells is.whole;
}

-- ---- a step of a read

-- the store after a step has other pins alone
pub walked_pins : (store later : Store) (walk : Walking) → later ≡ record store { index = index_walked store.index walk } → later ≡ repinned store later.index.pins
walked_pins store later walk is = is ∙ ap (λ (i : Index). record store { index = i }) (parts ∙ ap (λ (pins : List Pin). record store.index { pins = pins }) (ap (λ (s : Store). s.index.pins) (sym is)))
  where
    parts : index_walked store.index walk ≡ record store.index { pins = Index.pins (index_walked store.index walk) }
    parts =
        ap (λ entries. record { entries = entries; bounds = Index.bounds (index_walked store.index walk); pins = Index.pins (index_walked store.index walk) }) (entries_walked store.index walk)
        ∙ ap (λ bounds. record { entries = store.index.entries; bounds = bounds; pins = Index.pins (index_walked store.index walk) }) (bounds_after store.index walk walk.stage)

-- with other pins, and at another stage at which no value is on its way either
pub hold_pinned : (xacts : Xacts) (snaps : Snaps) (old : Table) (r : Rewriting) (pins : List Pin) (stage : RewriteStage) → busy_at r.stage ≡ None → busy_at stage ≡ None → cells_at stage ≡ cells_at r.stage → inserter_at stage ≡ inserter_at r.stage → StandsAt (with_values old (repinned old.toast pins)) (at_stage r stage) stage
    → RewriteHolds xacts snaps old r → RewriteHolds xacts snaps (with_values old (repinned old.toast pins)) (at_stage r stage)
hold_pinned xacts snaps old r pins stage idle still cells same stands holds = record {
  copies = holds.copies;
  rows = holds.rows;
  order = holds.order;
  visited = holds.visited;
  made = λ copy held. copy_pinned old pins r.toast (busy_at stage) copy (subst (λ (b : Option ℕ). IsCopy old r.toast b copy) (idle ∙ sym still) (holds.made copy held));
  inserted = inserted_same xacts holds.copies r.stage stage same holds.inserted;
  relation = holds.relation;
  shared = record { each = λ id other in_new in_old. AreShared.each (subst (AreShared old.toast r.toast) (idle ∙ sym still) holds.shared) id other in_new in_old };
  chunks = record { each = moved.each; undead = moved.undead; once = moved.once };
  stage = stands;
}
  where
    moved : AreChunks old.toast holds.copies (at_stage r stage)
    moved = chunks_restaged old.toast holds.copies r stage (still ∙ sym idle) (idle_put stage still ∙ sym (idle_put r.stage idle)) cells holds.chunks

same_ok : (a b : List ℕ) → ◌≡◌ {A = Result (List ℕ) FetchFault} (Ok a) (Ok b) → a ≡ b
same_ok a b e = cc

-- the read goes on
pub hold_reading : (xacts : Xacts) (snaps : Snaps) (old : Table) (r : Rewriting) (copy : RowCopy) (at : ℕ) (fetch after : Fetching) (later : Store) → r.stage ≡ Reading copy at fetch → FetchSteps old.toast fetch later after More
    → RewriteHolds xacts snaps old r → RewriteHolds xacts snaps (with_values old later) (at_stage r (Reading copy at after))
hold_reading xacts snaps old r copy at fetch after later stage steps holds = subst (λ (s : Store). RewriteHolds xacts snaps (with_values old s) (at_stage r (Reading copy at after))) (sym same)
    (hold_pinned xacts snaps old r later.index.pins (Reading copy at after) (ap busy_at stage) refl (sym (ap cells_at stage)) (sym (ap inserter_at stage)) (filling_pinned old later.index.pins r.place copy stands.0, reading) holds)
  where
    same : later ≡ repinned old.toast later.index.pins
    same = walked_pins old.toast later fetch.walk steps.store

    stands : StandsAt old r (Reading copy at fetch)
    stands = subst (StandsAt old r) stage holds.stage

    was : IsReading old r.session copy at fetch
    was = stands.1

    reading : IsReading (with_values old (repinned old.toast later.index.pins)) r.session copy at after
    reading = record {
      pointer = was.pointer;
      here = was.here;
      comes_to = ap (λ (s : Store). outcome s after) (sym same) ∙ steps.answer ∙ was.comes_to;
      session_is = ap (λ (w : Walking). w.session) steps.walk ∙ was.session_is;
      can = subst (λ (s : Store). CanStep s.index after.walk) same steps.ready;
      some = subst (λ (w : Walking). IsOverSome w.stage) (sym steps.walk) (some_after old.toast.index fetch.walk fetch.walk.stage);
    }

-- or is over, with the value of its column
pub hold_read : (xacts : Xacts) (snaps : Snaps) (old : Table) (r : Rewriting) (copy : RowCopy) (at : ℕ) (fetch after : Fetching) (later : Store) (value : List ℕ) → r.stage ≡ Reading copy at fetch → IsStore old.toast → FetchSteps old.toast fetch later after (Done value)
    → RewriteHolds xacts snaps old r → RewriteHolds xacts snaps (with_values old later) (at_stage r (Filling (with_value copy at value)))
hold_read xacts snaps old r copy at fetch after later value stage sound steps holds = subst (λ (s : Store). RewriteHolds xacts snaps (with_values old s) (at_stage r (Filling (with_value copy at value)))) (sym same)
    (hold_pinned xacts snaps old r later.index.pins (Filling (with_value copy at value)) (ap busy_at stage) refl (sym (ap cells_at stage)) (sym (ap inserter_at stage)) (filling_pinned old later.index.pins r.place (with_value copy at value) full, free) holds)
  where
    same : later ≡ repinned old.toast later.index.pins
    same = walked_pins old.toast later fetch.walk steps.store

    stands : StandsAt old r (Reading copy at fetch)
    stands = subst (StandsAt old r) stage holds.stage

    was : IsReading old r.session copy at fetch
    was = stands.1

    told : ◌≡◌ {A = Result (List ℕ) FetchFault} (Ok value) (Ok (value_in old.toast was.pointer))
    told = sym steps.answer ∙ was.comes_to

    value_is : value ≡ value_in old.toast was.pointer
    value_is = same_ok value (value_in old.toast was.pointer) told

    full : IsFilling old r.place (with_value copy at value)
    full = filled old r.place copy at was.pointer value was.here value_is stands.0

    over : stage_after old.toast.index fetch.walk fetch.walk.stage ≡ walks.Over
    over = ap (λ (w : Walking). w.stage) (sym steps.walk) ∙ steps.ready

    free : pin_of later.index.pins r.session ≡ None
    free = ap (λ (s : Store). pin_of s.index.pins r.session) steps.store ∙ ap (λ (n : ℕ). pin_of (Index.pins (index_walked old.toast.index fetch.walk)) n) (sym was.session_is) ∙ over_free old.toast.index fetch.walk sound.index.bounds_sorted was.some was.can over
