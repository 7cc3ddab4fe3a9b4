-- The moment of a write: the row that it is to put keeps the columns that the stream says, and its plan is what the stream pushes.
use Rattle.std.proofs.Common.{ap, arith, cond, inl, inr, refl, subst, sym, ◌∙◌}
use Rattle.std.proofs.lemmas.Bool.{cases_Bool}
use Rattle.std.proofs.lemmas.List.Folds.{list_any-append}
use Rattle.std.proofs.lemmas.Option.{get_or_from_slice_get}
use Rattle.std.specs.Option.{option_map_or, option_or, unwrap_or}
use Rattle.std.specs.Ordering.{int_cmp, is_eq}
use Rattle.std.specs.Prelude.{Bool, List, None, Option, Some, [], false, if◌then◌else◌, map as mapped, option_map, slice_get, slice_index_or, suc, true, ℕ, ℤ, ◌++◌, ◌-◌, ◌==◌, ◌||◌, ◌∷◌, ◌≡◌, ◌≢◌}
use Rattle.tuple_layout.proofs.PlaceLemmas.{same_place_is, same_place_self}
use Rattle.tuple_layout.specs.Places.{same_place}
use Rattle.tuple_layout.specs.Sizes.{Width, widths}
use Rattle.tuple_layout.specs.Tuples.{cell_widths}
use Rattle.tuple_layout.specs.declared.Place.{Place}
use Rattle.tuple_layout.specs.declared.Storage.{Storage}
use Rattle.tuple_layout.specs.declared.cell.Cell.{Cell}
use Rattle.tuple_layout.specs.declared.cell.Cell.TheVariants.{Inline, Null}
use Rattle.tuple_layout.specs.declared.cell.Stored.{Stored}
use Rattle.tuple_toaster.specs.Pushed.{is_among, pushed, tuple_target}
use Rattle.xact_status.specs.Versions.{counts_for}
use Rattle.xact_status.specs.Xacts.{Xacts, next_xid}
use Rattle.lock_table.specs.Locks.{held_by}
use Rattle.toast_store.specs.Stores.{Store}
use Rattle.command_set.specs.Changes.{place}
use Rattle.table_rows.proofs.Records.{moments_tell}
use Rattle.table_rows.proofs.Unique.{open_present}
use Rattle.table_rows.proofs.Worlds.{at_version, of_present, same_key, world_has}
use Rattle.table_rows.specs.Steps.{AreGiven}
use Rattle.table_rows.specs.Worlds.{Own, tuple_in}
use Rattle.table_state.specs.Cells.{cells_in}
use Rattle.table_state.specs.Rows.{cell_value}
use Rattle.table_state.specs.declared.table.Table.{Table}
use Rattle.write_steps.specs.Writes.{Writing, cell_of, first_stage, to_save}
use Rattle.write_steps.specs.declared.stage.OldRow.{OldRow}
use Rattle.write_steps.specs.declared.stage.Owner.{Owner}
use Rattle.core_state.proofs.Seats.{number_at, seat_there, seat_written}
use Rattle.core_state.specs.Begun.{plan_of, write_begun}
use Rattle.core_state.specs.Coming.{new_left, old_left}
use Rattle.core_state.specs.Facts.{IsSound}
use Rattle.core_state.specs.Lines.{after_use, after_write_begun, once_assigned, takes_copy}
use Rattle.core_state.specs.Moves.{OthersStay}
use Rattle.core_state.specs.State.{CoreState, IsSession, is_open, seat_of, table_at, xid_of}
use Rattle.core_state.specs.declared.seat.Job.{Job}
use Rattle.core_state.specs.declared.seat.Seat.{Seat}
use Rattle.core_looks.proofs.Proved.{uses_keep}
use Rattle.core_versions.proofs.Keeps.{is_writing}
use Rattle.core_versions.proofs.Made.{knows_old}
use Rattle.core_versions.proofs.Others.{running_from}
use Rattle.core_writes.proofs.Given.{xid_with}
use Rattle.core_writes.proofs.Plans.{inline_at, may_go_at}
use Rattle.core_writes.proofs.Views.{given_pages}
use Rattle.change_stream.specs.Sets.{out_beside}
use Rattle.change_stream.specs.Streams.{last_out, outs_with, puts_at}
use Rattle.change_stream.specs.declared.written.Written.{Written}
use Rattle.core_outs.proofs.Frames.{out_then, outs_seated}
use Rattle.core_outs.proofs.Saves.{from_place}
use Rattle.core_outs.specs.Outs.{AreOut, AreOutIn, OutsStand, PutsAt, PutsOut, SeatOuts, WillBeOut, is_out, is_put_at, put_place}
use Rattle.core_state.specs.declared.seat.Job.TheVariants as jobs

-- ---- one change more

-- the last change tells of the place where it puts a row
pub last_push : (ws : List Written) (w : Written) (p : Place) → last_out (ws ++ w ∷ []) p ≡ (if puts_at w.change p then Some w.out else last_out ws p)
last_push [] w p = refl
last_push (first ∷ ws) w p =
    ap (λ (o : Option (List ℕ)). option_or o (if puts_at first.change p then Some first.out else None)) (last_push ws w p)
    ∙ by (puts_at w.change p)
  where
    by : (b : Bool) → option_or (if b then Some w.out else last_out ws p) (if puts_at first.change p then Some first.out else None) ≡ (if b then Some w.out else option_or (last_out ws p) (if puts_at first.change p then Some first.out else None))
    by true = refl
    by false = refl

-- how a change with its columns is that of a write which is to put this row
pub record IsWrittenAs (storages : List Storage) (t : ℕ) (new : Option Stored) (w : Written) : Type 0 where
  pub puts : (p : Place) → puts_at w.change p ≡ option_map_or (λ (row : Stored). same_place p (place t row.key)) new false
  pub out : (row : Stored) → new ≡ Some row → WillBeOut w.out row.cells (plan_of storages (Some row))

-- the columns that stay out of line and those that go out beside them
pub beside_out : (storages : List Storage) (toast : Store) (row : Stored) (kept : List ℕ) → AreOut kept row.cells → cell_widths row.cells ≡ widths (mapped (cell_value toast) row.cells) (is_among kept)
    → WillBeOut (out_beside storages (mapped (cell_value toast) row.cells) kept) row.cells (plan_of storages (Some row))
beside_out storages toast row kept are same = record {
  each = λ k.
      list_any-append (λ (c : ℕ). c == suc k) kept (pushed storages (widths (mapped (cell_value toast) row.cells) (is_among kept)) tuple_target)
      ∙ ap (λ (b : Bool). b || is_among (pushed storages (widths (mapped (cell_value toast) row.cells) (is_among kept)) tuple_target) (suc k)) (are.each k)
      ∙ ap (λ (ws : List Width). is_out (slice_index_or row.cells k Null) || is_among (pushed storages ws tuple_target) (suc k)) (sym same);
}

-- ---- the core then

abbrev pub begun_core : CoreState → ℕ → ℕ → List ℤ → Option OldRow → Option Stored → CoreState
begun_core c s t keys old new = after_write_begun c s t keys (write_begun c s t old new)

-- a session of an open transaction, whose write begins
pub record BeginsOut (c : CoreState) (s t : ℕ) (keys : List ℤ) (old : Option OldRow) (new : Option Stored) (outs : Place → List ℕ) (written : ℕ → List Written) : Type 0 where
  pub there : IsSession c.seats s
  pub sound : IsSound c
  pub begun : IsSound (begun_core c s t keys old new)
  pub opened : is_open (seat_of c s).state ≡ true
  pub none : put_place (seat_of c s).job ≡ None
  pub others : OthersStay c s (begun_core c s t keys old new)
  pub told : OutsStand c outs written

-- a use leaves tables and statuses
either : (b : Bool) (P : CoreState → Type 0) (v w : CoreState) → P v → P w → P (cond b v w)
either true P v w first second = first
either false P v w first second = second

use_tables : (c : CoreState) (s t : ℕ) → (after_use c s t).tables ≡ c.tables
use_tables c s t = either (takes_copy (seat_of c s).state) (λ (v : CoreState). v.tables ≡ c.tables) _ _ refl refl

use_xacts : (c : CoreState) (s t : ℕ) → (after_use c s t).xacts ≡ c.xacts
use_xacts c s t = either (takes_copy (seat_of c s).state) (λ (v : CoreState). v.xacts ≡ c.xacts) _ _ refl refl

pub begun_tables : (c : CoreState) (s t : ℕ) (keys : List ℤ) (old : Option OldRow) (new : Option Stored) → (begun_core c s t keys old new).tables ≡ c.tables
begun_tables c s t keys old new = use_tables c s t

begun_xacts : (c : CoreState) (s t : ℕ) (keys : List ℤ) (old : Option OldRow) (new : Option Stored) → IsSession c.seats s → is_open (seat_of c s).state ≡ true → (begun_core c s t keys old new).xacts ≡ once_assigned c.xacts s (xid_of (seat_of c s).state)
begun_xacts c s t keys old new there opened = ap (λ (xacts : Xacts). once_assigned xacts s (xid_of (seat_of (after_use c s t) s).state)) (use_xacts c s t) ∙ ap (once_assigned c.xacts s) (uses_keep.leaves c s t there opened).xid

-- the seat then
pub begun_seat : (c : CoreState) (s t : ℕ) (keys : List ℤ) (old : Option OldRow) (new : Option Stored) → IsSession c.seats s → is_open (seat_of c s).state ≡ true
    → ((seat_of (begun_core c s t keys old new) s).job ≡ jobs.Writing t (write_begun c s t old new)) × (xid_of (seat_of (begun_core c s t keys old new) s).state ≡ Some (unwrap_or (xid_of (seat_of c s).state) (next_xid c.xacts)))
begun_seat c s t keys old new there opened =
    let u = after_use c s t in
    let leaves = uses_keep.leaves c s t there opened in
    let is = seat_written u.seats s _ (uses_keep.session c s t there) in (
      ap (λ (seat : Seat). seat.job) is,
      ap (λ (seat : Seat). xid_of seat.state) is
          ∙ xid_with (seat_of u s).state (unwrap_or (xid_of (seat_of u s).state) (next_xid u.xacts)) (leaves.opened ∙ opened)
          ∙ ap (λ (o : Option ℕ). Some (unwrap_or o (next_xid u.xacts))) leaves.xid
          ∙ ap (λ (xacts : Xacts). Some (unwrap_or (xid_of (seat_of c s).state) (next_xid xacts))) (use_xacts c s t),
    )

-- ---- worlds

-- a start leaves what each other session and the latest rows have
start_world : (xacts : Xacts) (s : ℕ) (o own : Option ℕ) (p : Place) (tables : List Table) → tuple_in (counts_for (once_assigned xacts s o) own) (table_at tables p.table).rows.pages p.key ≡ tuple_in (counts_for xacts own) (table_at tables p.table).rows.pages p.key
start_world xacts s (Some x) own p tables = refl
start_world xacts s None None p tables = moments_tell.latest_at_start xacts s (table_at tables p.table).rows.pages p.key
start_world xacts s None (Some y) p tables = moments_tell.own_at_start xacts s y (table_at tables p.table).rows.pages p.key

-- and the session's own
own_world : (xacts : Xacts) (s : ℕ) (o : Option ℕ) (p : Place) (tables : List Table) → AreGiven xacts (table_at tables p.table).rows.pages
    → tuple_in (counts_for (once_assigned xacts s o) (Some (unwrap_or o (next_xid xacts)))) (table_at tables p.table).rows.pages p.key ≡ tuple_in (counts_for xacts o) (table_at tables p.table).rows.pages p.key
own_world xacts s (Some x) p tables given = refl
own_world xacts s None p tables given = moments_tell.new_at_start xacts s (table_at tables p.table).rows.pages p.key given

-- the session's own world then
begun_world : (c : CoreState) (s t : ℕ) (keys : List ℤ) (old : Option OldRow) (new : Option Stored) (outs : Place → List ℕ) (written : ℕ → List Written) (p : Place) → BeginsOut c s t keys old new outs written
    → tuple_in (counts_for (begun_core c s t keys old new).xacts (Some (unwrap_or (xid_of (seat_of c s).state) (next_xid c.xacts)))) (table_at c.tables p.table).rows.pages p.key
    ≡ tuple_in (counts_for c.xacts (xid_of (seat_of c s).state)) (table_at c.tables p.table).rows.pages p.key
begun_world c s t keys old new outs written p at =
    ap (λ (xacts : Xacts). tuple_in (counts_for xacts (Some (unwrap_or (xid_of (seat_of c s).state) (next_xid c.xacts)))) (table_at c.tables p.table).rows.pages p.key) (begun_xacts c s t keys old new at.there at.opened)
    ∙ own_world c.xacts s (xid_of (seat_of c s).state) p c.tables (given_pages c p.table at.sound)

-- what was told of the session's rows
was_told : (c : CoreState) (s t : ℕ) (keys : List ℤ) (old : Option OldRow) (new : Option Stored) (outs : Place → List ℕ) (written : ℕ → List Written) → BeginsOut c s t keys old new outs written
    → AreOutIn c.tables (counts_for c.xacts (xid_of (seat_of c s).state)) (outs_with outs (written s)) (λ p. false)
was_told c s t keys old new outs written at =
    let was : SeatOuts c.xacts c.tables (outs_with outs (written s)) (seat_of c s) = subst (λ (n : ℕ). SeatOuts c.xacts c.tables (outs_with outs (written n)) (seat_of c s)) (number_at s at.there.from_one) (at.told.each (s - 1) (seat_of c s) (seat_there c.seats s at.there)) in
    record { each = λ p bytes e there. (was.now at.opened).each p bytes (ap (λ (o : Option Place). option_map_or (λ q. same_place q p) o false) at.none) there }

-- ---- the old row

-- the old version is the one that is left to end
old_first : (owner : Owner) (row : OldRow) (new : Option Stored) (plan : List ℕ) → old_left (first_stage owner (Some row) new plan) ≡ Some row
old_first owner row None plan = refl
old_first owner row (Some stored) plan = by (slice_get plan 0)
  where
    by : (o : Option ℕ) → old_left (to_save owner (Some row) stored plan 0 o) ≡ Some row
    by None = refl
    by (Some column) = refl

-- what is told of its place is what it has out of line
pub old_out : (c : CoreState) (s t : ℕ) (keys : List ℤ) (row : OldRow) (new : Option Stored) (outs : Place → List ℕ) (written : ℕ → List Written) → BeginsOut c s t keys (Some row) new outs written
    → AreOut (outs_with outs (written s) (place t row.stored.key)) row.stored.cells
old_out c s t keys row new outs written at =
    let v = begun_core c s t keys (Some row) new in
    let write = write_begun c s t (Some row) new in
    let count = at.others.count in
    let within = at.there.within in
    let there : IsSession v.seats s = record { from_one = at.there.from_one; within = omega (arith, count, within) } in
    let seat = begun_seat c s t keys (Some row) new at.there at.opened in
    let writing = is_writing v s t write.owner write.stage there seat.0 at.begun in
    let before = knows_old v.xacts v.snaps v.ids (held_by v.locks s) (table_at v.tables t) s t (seat_of v s).state write.owner write.stage v.log writing.write row (old_first write.owner row new (plan_of (table_at c.tables t).rows.schema.storages new)) in
    let version = before.0 in
    let runs = running_from v.xacts write.owner.xid s writing.runs in
    let here : is_eq (int_cmp version.key row.stored.key) ≡ true = ap (λ (k : ℤ). is_eq (int_cmp k row.stored.key)) before.1.of_key ∙ same_key row.stored.key in
    let found : tuple_in (counts_for v.xacts (Some write.owner.xid)) (table_at v.tables t).rows.pages row.stored.key ≡ Some version.tuple =
    world_has (counts_for v.xacts (Some write.owner.xid)) (table_at v.tables t).rows.pages row.stored.key row.tid version.tuple (writing.table.one.each (Own write.owner.xid) row.stored.key runs)
    (at_version (counts_for v.xacts (Some write.owner.xid)) (table_at v.tables t).rows.pages row.stored.key row.tid version before.1.there
    ∙ of_present (counts_for v.xacts (Some write.owner.xid)) row.stored.key version here (open_present v.xacts write.owner.xid version runs before.1.opened)) in
    let was : tuple_in (counts_for v.xacts (Some write.owner.xid)) (table_at c.tables t).rows.pages row.stored.key ≡ Some version.tuple =
    subst (λ (tables : List Table). tuple_in (counts_for v.xacts (Some write.owner.xid)) (table_at tables t).rows.pages row.stored.key ≡ Some version.tuple) (begun_tables c s t keys (Some row) new) found in
    let out = (was_told c s t keys (Some row) new outs written at).each (place t row.stored.key) version.tuple refl (sym (begun_world c s t keys (Some row) new outs written (place t row.stored.key) at) ∙ was) in
    let cells : cells_in (table_at c.tables t).rows.schema.storages version.tuple ≡ row.stored.cells =
    subst (λ (tables : List Table). cells_in (table_at tables t).rows.schema.storages version.tuple ≡ row.stored.cells) (begun_tables c s t keys (Some row) new) before.1.cells in
    subst (λ (its : List Cell). AreOut (outs_with outs (written s) (place t row.stored.key)) its) cells out

-- ---- the new row

-- the row that is left to put is at the new row's key
new_first : (owner : Owner) (old : Option OldRow) (new : Option Stored) (plan : List ℕ) (t : ℕ) → option_map (λ (row : Stored). place t row.key) (new_left (first_stage owner old new plan)) ≡ option_map (λ (row : Stored). place t row.key) new
new_first owner None None plan t = refl
new_first owner (Some row) None plan t = refl
new_first owner old (Some stored) plan t = by (slice_get plan 0)
  where
    by : (o : Option ℕ) → option_map (λ (row : Stored). place t row.key) (new_left (to_save owner old stored plan 0 o)) ≡ Some (place t stored.key)
    by None = refl
    by (Some column) = refl

-- a column of a plan has its value in line
plan_line : (storages : List Storage) (new : Stored) (column : ℕ) → slice_get (plan_of storages (Some new)) 0 ≡ Some column → is_out (cell_of new.cells column) ≡ false
plan_line storages new column e =
    let may = may_go_at storages new 0 column e in
    let has = inline_at new.cells (column - 1) may.size may.inline in
    ap is_out (get_or_from_slice_get new.cells (column - 1) (Inline has.0) Null has.1)

-- a write that begins with a new row puts out what is told of it
new_puts : (owner : Owner) (old : Option OldRow) (new : Option Stored) (storages : List Storage) (outs : ℤ → List ℕ) → ((row : Stored) → new ≡ Some row → WillBeOut (outs row.key) row.cells (plan_of storages (Some row)))
    → PutsAt outs (first_stage owner old new (plan_of storages new))
new_puts owner None None storages outs will row e = absurd (cc)
new_puts owner (Some was) None storages outs will row e = absurd (cc)
new_puts owner old (Some stored) storages outs will row e = from_place outs owner old stored (plan_of storages (Some stored)) 0 (λ column f. plan_line storages stored column f) (will stored refl) row e

turned : (p q : Place) → same_place q p ≡ false → same_place p q ≡ false
turned p q e = elim (cases_Bool (same_place p q)) [
  | inl same ↦
      let is = same_place_is p q same in
      let other : same_place q p ≡ true = ap (same_place q) is ∙ same_place_self q in
      absurd (cc)
  | inr apart ↦ apart
]

-- the moment
pub outs_begun : (c : CoreState) (s t : ℕ) (keys : List ℤ) (old : Option OldRow) (new : Option Stored) (outs : Place → List ℕ) (written later : ℕ → List Written) (w : Written) → BeginsOut c s t keys old new outs written
    → IsWrittenAs (table_at c.tables t).rows.schema.storages t new w → later s ≡ written s ++ w ∷ [] → ((k : ℕ) → k ≢ s → later k ≡ written k) → OutsStand (begun_core c s t keys old new) outs later
outs_begun c s t keys old new outs written later w at is_as mine same =
    outs_seated c v s outs written later at.there at.others
    (λ n. ap (λ (tables : List Table). (table_at tables n).rows) (begun_tables c s t keys old new))
    (λ own p. ap (λ (xacts : Xacts). tuple_in (counts_for xacts own) (table_at c.tables p.table).rows.pages p.key) (begun_xacts c s t keys old new at.there at.opened) ∙ start_world c.xacts s (xid_of (seat_of c s).state) own p c.tables)
    same
    (subst (λ (ws : List Written). SeatOuts v.xacts v.tables (outs_with outs ws) (seat_of v s)) (sym mine) (record {
      now = λ opened. subst (λ (job : Job). AreOutIn v.tables (counts_for v.xacts (xid_of (seat_of v s).state)) (outs_with outs (written s ++ w ∷ [])) (is_put_at job)) (sym seat.0)
          (subst (λ (o : Option ℕ). AreOutIn v.tables (counts_for v.xacts o) (outs_with outs (written s ++ w ∷ [])) (is_put_at (jobs.Writing t write))) (sym seat.1) now);
      coming = subst (λ (job : Job). PutsOut (outs_with outs (written s ++ w ∷ [])) job) (sym seat.0) (new_puts write.owner old new (table_at c.tables t).rows.schema.storages (λ key. outs_with outs (written s ++ w ∷ []) (place t key)) will);
    }))
    at.told
  where
    v : CoreState
    v = begun_core c s t keys old new

    write : Writing
    write = write_begun c s t old new

    seat : ((seat_of v s).job ≡ jobs.Writing t write) × (xid_of (seat_of v s).state ≡ Some (unwrap_or (xid_of (seat_of c s).state) (next_xid c.xacts)))
    seat = begun_seat c s t keys old new at.there at.opened

    -- at every other place its changes tell what they told
    untold : (p : Place) → is_put_at (jobs.Writing t write) p ≡ false → outs_with outs (written s ++ w ∷ []) p ≡ outs_with outs (written s) p
    untold p e =
        let passed : option_map_or (λ (q : Place). same_place q p) (option_map (λ (row : Stored). place t row.key) new) false ≡ false =
        sym (ap (λ (o : Option Place). option_map_or (λ (q : Place). same_place q p) o false) (new_first write.owner old new (plan_of (table_at c.tables t).rows.schema.storages new) t)) ∙ e in
        ap (λ (o : Option (List ℕ)). unwrap_or o (outs p)) (last_push (written s) w p ∙ ap (λ (b : Bool). if b then Some w.out else last_out (written s) p) (is_as.puts p ∙ by new passed))
      where
        by : (o : Option Stored) → option_map_or (λ (q : Place). same_place q p) (option_map (λ (row : Stored). place t row.key) o) false ≡ false → option_map_or (λ (row : Stored). same_place p (place t row.key)) o false ≡ false
        by None f = refl
        by (Some row) f = turned p (place t row.key) f

    now : AreOutIn v.tables (counts_for v.xacts (Some (unwrap_or (xid_of (seat_of c s).state) (next_xid c.xacts)))) (outs_with outs (written s ++ w ∷ [])) (is_put_at (jobs.Writing t write))
    now = out_then c.tables v.tables (counts_for c.xacts (xid_of (seat_of c s).state)) (counts_for v.xacts (Some (unwrap_or (xid_of (seat_of c s).state) (next_xid c.xacts)))) (outs_with outs (written s)) (outs_with outs (written s ++ w ∷ []))
        (λ p. false) (is_put_at (jobs.Writing t write))
        (record { rows = λ n. ap (λ (tables : List Table). (table_at tables n).rows) (begun_tables c s t keys old new); world = λ p. begun_world c s t keys old new outs written p at })
        (λ p e. (refl, untold p e)) (was_told c s t keys old new outs written at)

    will : (row : Stored) → new ≡ Some row → WillBeOut (outs_with outs (written s ++ w ∷ []) (place t row.key)) row.cells (plan_of (table_at c.tables t).rows.schema.storages (Some row))
    will row e =
        let puts : puts_at w.change (place t row.key) ≡ true = is_as.puts (place t row.key) ∙ ap (λ (o : Option Stored). option_map_or (λ (its : Stored). same_place (place t row.key) (place t its.key)) o false) e ∙ same_place_self (place t row.key) in
        let told : outs_with outs (written s ++ w ∷ []) (place t row.key) ≡ w.out =
        ap (λ (o : Option (List ℕ)). unwrap_or o (outs (place t row.key))) (last_push (written s) w (place t row.key) ∙ ap (λ (b : Bool). if b then Some w.out else last_out (written s) (place t row.key)) puts) in
        subst (λ (columns : List ℕ). WillBeOut columns row.cells (plan_of (table_at c.tables t).rows.schema.storages (Some row))) (sym told) (is_as.out row e)
