-- The job of a write before its first step: all that is true of a write under way is true of it.
use Rattle.std.proofs.Common.{ap, refl, subst, sym, ◌∙◌}
use Rattle.std.proofs.lemmas.List.Elements.{All-contains}
use Rattle.std.specs.Int.{w64}
use Rattle.std.specs.Int.RustNames.{FitsSigned}
use Rattle.std.specs.List.{IsDistinct}
use Rattle.std.specs.Prelude.{Contains, List, None, Option, Some, [], false, map, nat_eq, option_to_list, slice_get, slice_set, true, ℕ, ℤ, ◌++◌, ◌-◌, ◌∷◌, ◌≡◌}
use Rattle.std.proofs.Common.{inr}
use Rattle.list_facts.proofs.Members.{none_in_nil}
use Rattle.tuple_layout.specs.Tuples.{cell_widths}
use Rattle.tuple_layout.specs.declared.Storage.{Storage}
use Rattle.tuple_layout.specs.declared.Storage.TheVariants.{External}
use Rattle.tuple_layout.specs.declared.cell.Cell.{Cell}
use Rattle.tuple_layout.specs.declared.cell.Cell.TheVariants.{Null}
use Rattle.tuple_layout.specs.declared.cell.Stored.{Stored}
use Rattle.tuple_toaster.proofs.Going.{pushed_go}
use Rattle.tuple_toaster.specs.Kept.{MayGo}
use Rattle.slot_page.specs.Pages.{item_in, slot_of}
use Rattle.xact_status.specs.Versions.{counts_for}
use Rattle.value_holders.specs.Stamps.{IsOpenFor}
use Rattle.row_versions.specs.Versions.{version_stamp}
use Rattle.row_versions.specs.declared.version.Version.{Version}
use Rattle.chunk_index.specs.Leaves.{Leaf}
use Rattle.chunk_index.specs.Pinned.{pin_of}
use Rattle.lock_table.specs.Held.{holds_row}
use Rattle.lock_table.specs.declared.held.SessionLocks.{SessionLocks}
use Rattle.table_rows.specs.Worlds.{tuple_in}
use Rattle.table_state.specs.Rows.{pointers_in}
use Rattle.table_state.specs.Tables.{AreCellsOf, cells_of, toast_rel_of}
use Rattle.read_steps.specs.Reads.{cell_of}
use Rattle.write_steps.proofs.Plans.{saving_at}
use Rattle.write_steps.specs.Standing.{IsOldThere, WriteStands}
use Rattle.write_steps.specs.Writes.{bytes_of, new_write, old_cells, parts_of, to_save, with_cell}
use Rattle.write_steps.specs.declared.stage.OldRow.{OldRow}
use Rattle.write_steps.specs.declared.stage.Owner.{Owner}
use Rattle.core_state.proofs.Seats.{sound_of}
use Rattle.tuple_toaster.specs.Pushed.{tuple_target}
use Rattle.core_state.specs.Begun.{plan_of}
use Rattle.core_state.specs.Coming.{ids_of, is_elsewhere}
use Rattle.core_state.specs.Facts.{IsSound, MayPin, WriteIsSound, ids_in}
use Rattle.core_state.specs.State.{CoreState, IsSession, is_past_moment, seat_of, table_at, xid_of}
use Rattle.core_state.specs.declared.seat.Job.{Job}
use Rattle.core_state.specs.declared.seat.State.{State}
use Rattle.core_state.specs.declared.seat.Job.TheVariants as jobs
use Rattle.write_steps.specs.declared.stage.WriteStage.TheVariants as stages
use Rattle.core_looks.specs.Due.{claim_of}
use Rattle.core_writes.proofs.Claims.{IsFree}
use Rattle.core_writes.proofs.Plans.{CanSave, begins_standing, can_push, normal_by, plan_for}
use Rattle.core_writes.proofs.Rows.{Keeps, distinct_kept, kept_at, null_cells, null_keeps}
use Rattle.core_looks.proofs.Sights.{pages_at}
use Rattle.core_writes.proofs.Views.{IsRowAt, open_now}

abbrev pub storages_at : CoreState → ℕ → List Storage
storages_at c t = (table_at c.tables t).rows.schema.storages

-- the keys of an old row and of a new one
abbrev pub write_keys : Option OldRow → Option Stored → List ℤ
write_keys old new = map (λ (row : OldRow). row.stored.key) (option_to_list old) ++ map (λ (row : Stored). row.key) (option_to_list new)

-- what is known of a write's rows at its moment, for a session whose transaction has an xid
pub record Begins (c : CoreState) (s t x : ℕ) (old : Option OldRow) (new : Option Stored) : Type 0 where
  pub some : old ≡ None → new ≡ None → ⊥
  pub row : (was : OldRow) → old ≡ Some was → IsRowAt c t (counts_for c.xacts (Some x)) was.stored.key was
  pub free : (was : OldRow) → old ≡ Some was → IsFree c.locks s t was.stored.key
  pub alone : (stored : Stored) → new ≡ Some stored → is_elsewhere old stored.key ≡ true → tuple_in (counts_for c.xacts (Some x)) (pages_at c t) stored.key ≡ None
  pub can : (stored : Stored) → new ≡ Some stored → CanSave (storages_at c t) stored
  pub key : (stored : Stored) → new ≡ Some stored → FitsSigned w64 stored.key
  pub cells : (stored : Stored) → new ≡ Some stored → AreCellsOf (toast_rel_of t) (storages_at c t) stored.cells
  pub keeps : (stored : Stored) → new ≡ Some stored → Keeps (old_cells old) stored.cells
  pub distinct : IsDistinct nat_eq (ids_in (old_cells old))

-- its keys are claimed
abbrev pub AreClaimed : SessionLocks → ℕ → Option OldRow → Option Stored → Type 0
AreClaimed held t old new = (key : ℤ) → Contains (write_keys old new) key → holds_row held.rows (claim_of t key) ≡ true

-- whose a write is
abbrev pub owner_of : ℕ → ℕ → ℕ → Owner
owner_of t s x = record { table = t; session = s; xid = x }

-- ---- what a session before its moment has

pub before_pins : (t : ℕ) (job : Job) → is_past_moment job ≡ false → MayPin t job → ⊥
before_pins t jobs.Idle e may = may
before_pins t (jobs.Submitted command) e may = may
before_pins t (jobs.Reading n snapshot read) e may = absurd (cc)
before_pins t (jobs.Writing n write) e may = absurd (cc)

no_pin : (c : CoreState) (s t : ℕ) → IsSession c.seats s → IsSound c → is_past_moment (seat_of c s).job ≡ false → pin_of (table_at c.tables t).toast.index.pins s ≡ None
no_pin c s t there sound before = by (pin_of (table_at c.tables t).toast.index.pins s) refl
  where
    by : (o : Option Leaf) → pin_of (table_at c.tables t).toast.index.pins s ≡ o → o ≡ None
    by None e = refl
    by (Some leaf) e = absurd (before_pins t (seat_of c s).job before ((sound_of c s there sound).pins.each t leaf e))

old_there : (c : CoreState) (s t x : ℕ) (old : Option OldRow) (new : Option Stored) → Begins c s t x old new → IsOldThere (table_at c.tables t).rows old
old_there c s t x old new begins row e =
    let at = begins.row row e in
    normal_by (slot_of (pages_at c t) row.tid) at.version at.there

-- ---- what it knows of its rows

version_is : (a b : Version) → Some a ≡ Some b → a ≡ b
version_is a b e = cc

stored_is : (a b : Stored) → Some a ≡ Some b → a ≡ b
stored_is a b e = cc

-- the version that an old row was found in has the row, and is the transaction's to end
knows_old : (c : CoreState) (s t x : ℕ) (old : Option OldRow) (new : Option Stored) → IsSession c.seats s → IsSound c → xid_of (seat_of c s).state ≡ Some x → Begins c s t x old new
    → (row : OldRow) (version : Version) → old ≡ Some row → item_in (pages_at c t) row.tid ≡ Some version → (version.key ≡ row.stored.key) × (cells_of (table_at c.tables t) version ≡ row.stored.cells) × IsOpenFor c.xacts x (version_stamp version)
knows_old c s t x old new there sound mine begins row version e at =
    let found = begins.row row e in
    let same : found.version ≡ version = version_is found.version version (sym found.there ∙ at) in
    subst (λ (v : Version). (v.key ≡ row.stored.key) × (cells_of (table_at c.tables t) v ≡ row.stored.cells) × IsOpenFor c.xacts x (version_stamp v)) same
    (sym (ap (λ (stored : Stored). stored.key) found.stored), sym (ap (λ (stored : Stored). stored.cells) found.stored), open_now c s t x row.stored.key row there sound mine (begins.free row e) found)

-- at a new key nothing is there, whatever of the new row's cells is taken out
knows_alone : (c : CoreState) (s t x : ℕ) (old : Option OldRow) (new row : Stored) → Begins c s t x old (Some new) → row.key ≡ new.key
    → (stored : Stored) → Some row ≡ Some stored → is_elsewhere old stored.key ≡ true → tuple_in (counts_for c.xacts (Some x)) (pages_at c t) stored.key ≡ None
knows_alone c s t x old new row begins key stored e elsewhere =
    let same : stored.key ≡ new.key = ap (λ (r : Stored). r.key) (sym (stored_is row stored e)) ∙ key in
    subst (λ (k : ℤ). tuple_in (counts_for c.xacts (Some x)) (pages_at c t) k ≡ None) (sym same) (begins.alone new refl (subst (λ (k : ℤ). is_elsewhere old k ≡ true) same elsewhere))

-- and its key is a number of 64 bits
knows_key : (c : CoreState) (s t x : ℕ) (old : Option OldRow) (new row : Stored) → Begins c s t x old (Some new) → row.key ≡ new.key → (stored : Stored) → Some row ≡ Some stored → FitsSigned w64 stored.key
knows_key c s t x old new row begins key stored e =
    let same : stored.key ≡ new.key = ap (λ (r : Stored). r.key) (sym (stored_is row stored e)) ∙ key in
    subst (λ (k : ℤ). FitsSigned w64 k) (sym same) (begins.key new refl)

-- ---- the jobs

-- no column goes out of an empty plan
no_plan : (plan : List ℕ) → slice_get plan 0 ≡ None → plan ≡ []
no_plan [] e = refl
no_plan (column ∷ plan) e = absurd (cc)

no_ids : (plan : List ℕ) (cells : List Cell) (value_id : ℕ) → slice_get plan 0 ≡ None → Contains (ids_of (pointers_in (map (cell_of cells) plan))) value_id → ⊥
no_ids plan cells value_id e there = none_in_nil value_id (subst (λ (columns : List ℕ). Contains (ids_of (pointers_in (map (cell_of cells) columns))) value_id) (no_plan plan e) there)

pushed_out : (storages : List Storage) (new : Stored) (column : ℕ) → Contains (plan_for storages new) column → slice_get storages (column - 1) ≡ Some External
pushed_out storages new column there = (All-contains (MayGo storages (cell_widths new.cells)) (plan_for storages new) column (pushed_go storages (cell_widths new.cells) tuple_target) there).external

-- of a write that makes a new version
saving_sound : (c : CoreState) (s t x : ℕ) (old : Option OldRow) (new : Stored) (held : SessionLocks) (state : State) → IsSession c.seats s → IsSound c → xid_of (seat_of c s).state ≡ Some x → xid_of state ≡ Some x
    → is_past_moment (seat_of c s).job ≡ false → Begins c s t x old (Some new) → AreClaimed held t old (Some new)
    → (o : Option ℕ) → slice_get (plan_for (storages_at c t) new) 0 ≡ o
    → WriteIsSound c.xacts c.snaps c.ids held (table_at c.tables t) s t state (record { owner = owner_of t s x; stage = to_save (owner_of t s x) old new (plan_for (storages_at c t) new) 0 o })
saving_sound c s t x old new held state there sound mine its before begins claimed None e = record {
  own = record { session = refl; of_table = refl; xid = its; stage = tt; mark = tt; claimed = claimed };
  stands = λ log.
      let standing = begins_standing (parts_of (table_at c.tables t).rows (table_at c.tables t).toast c.ids log) (owner_of t s x) old new (old_there c s t x old (Some new) begins) (no_pin c s t there sound before) (begins.can new refl) in
      subst (λ (o : Option ℕ). WriteStands (parts_of (table_at c.tables t).rows (table_at c.tables t).toast c.ids log) (record { owner = owner_of t s x; stage = to_save (owner_of t s x) old new (plan_for (storages_at c t) new) 0 o })) e standing;
  rows = record { old = knows_old c s t x old (Some new) there sound mine begins; alone = knows_alone c s t x old new new begins refl };
  new = record {
    key = λ stored f. knows_key c s t x old new new begins refl stored f;
    cells = begins.cells new refl;
    pushed = λ column f. absurd (none_in_nil column f);
    kept = λ column pointer f. inr (kept_at (old_cells old) new.cells (column - 1) pointer (begins.keeps new refl) f);
    distinct = distinct_kept (old_cells old) new.cells (begins.keeps new refl) begins.distinct;
  };
  fresh = record { each = λ value_id f. absurd (no_ids (plan_for (storages_at c t) new) new.cells value_id e f) };
  dropping = λ pointer f. absurd (none_in_nil pointer f);
}
saving_sound c s t x old new held state there sound mine its before begins claimed (Some column) e = record {
  own = record { session = refl; of_table = refl; xid = its; stage = saving_at (owner_of t s x) new (plan_for (storages_at c t) new) 0 column (bytes_of (cell_of new.cells column)) e (can_push (storages_at c t) new (begins.can new refl).one_each (begins.can new refl).limits); mark = tt; claimed = claimed };
  stands = λ log.
      let standing = begins_standing (parts_of (table_at c.tables t).rows (table_at c.tables t).toast c.ids log) (owner_of t s x) old new (old_there c s t x old (Some new) begins) (no_pin c s t there sound before) (begins.can new refl) in
      subst (λ (o : Option ℕ). WriteStands (parts_of (table_at c.tables t).rows (table_at c.tables t).toast c.ids log) (record { owner = owner_of t s x; stage = to_save (owner_of t s x) old new (plan_for (storages_at c t) new) 0 o })) e standing;
  rows = record { old = knows_old c s t x old (Some new) there sound mine begins; alone = knows_alone c s t x old new (with_cell new column Null) begins refl };
  new = record {
    key = λ stored f. knows_key c s t x old new (with_cell new column Null) begins refl stored f;
    cells = null_cells (toast_rel_of t) (storages_at c t) new.cells (column - 1) (begins.cells new refl);
    pushed = λ n f. pushed_out (storages_at c t) new n f;
    kept = λ n pointer f. inr (kept_at (old_cells old) (slice_set new.cells (column - 1) Null) (n - 1) pointer (null_keeps (old_cells old) new.cells (column - 1) (begins.keeps new refl)) f);
    distinct = distinct_kept (old_cells old) (slice_set new.cells (column - 1) Null) (null_keeps (old_cells old) new.cells (column - 1) (begins.keeps new refl)) begins.distinct;
  };
  fresh = record { each = λ value_id f. absurd (none_in_nil value_id f) };
  dropping = λ pointer f. absurd (none_in_nil pointer f);
}

no_cells : (rel : ℕ) (storages : List Storage) → AreCellsOf rel storages []
no_cells rel [] = tt
no_cells rel (storage ∷ storages) = tt

pub none_distinct : IsDistinct nat_eq []
unfolding IsDistinct
none_distinct = tt

-- of a write that takes a row away
removing_sound : (c : CoreState) (s t x : ℕ) (old : OldRow) (held : SessionLocks) (state : State) → IsSession c.seats s → IsSound c → xid_of (seat_of c s).state ≡ Some x → xid_of state ≡ Some x
    → is_past_moment (seat_of c s).job ≡ false → Begins c s t x (Some old) None → AreClaimed held t (Some old) None
    → WriteIsSound c.xacts c.snaps c.ids held (table_at c.tables t) s t state (record { owner = owner_of t s x; stage = stages.Remove old })
removing_sound c s t x old held state there sound mine its before begins claimed = record {
  own = record { session = refl; of_table = refl; xid = its; stage = tt; mark = tt; claimed = claimed };
  stands = λ log. record { there = old_there c s t x (Some old) None begins; free = no_pin c s t there sound before };
  rows = record { old = knows_old c s t x (Some old) None there sound mine begins; alone = λ stored f. absurd (cc) };
  new = record {
    key = λ stored f. absurd (cc);
    cells = no_cells (toast_rel_of t) (storages_at c t);
    pushed = λ column f. absurd (none_in_nil column f);
    kept = λ column pointer f. absurd (cc);
    distinct = none_distinct;
  };
  fresh = record { each = λ value_id f. absurd (none_in_nil value_id f) };
  dropping = λ pointer f. absurd (none_in_nil pointer f);
}

pub write_sound : (c : CoreState) (s t x : ℕ) (old : Option OldRow) (new : Option Stored) (held : SessionLocks) (state : State) → IsSession c.seats s → IsSound c → xid_of (seat_of c s).state ≡ Some x → xid_of state ≡ Some x
    → is_past_moment (seat_of c s).job ≡ false → Begins c s t x old new → AreClaimed held t old new
    → WriteIsSound c.xacts c.snaps c.ids held (table_at c.tables t) s t state (new_write t s x old new (plan_of (storages_at c t) new))
write_sound c s t x None None held state there sound mine its before begins claimed = absurd (begins.some refl refl)
write_sound c s t x (Some old) None held state there sound mine its before begins claimed = removing_sound c s t x old held state there sound mine its before begins claimed
write_sound c s t x None (Some new) held state there sound mine its before begins claimed = saving_sound c s t x None new held state there sound mine its before begins claimed (slice_get (plan_for (storages_at c t) new) 0) refl
write_sound c s t x (Some old) (Some new) held state there sound mine its before begins claimed = saving_sound c s t x (Some old) new held state there sound mine its before begins claimed (slice_get (plan_for (storages_at c t) new) 0) refl
