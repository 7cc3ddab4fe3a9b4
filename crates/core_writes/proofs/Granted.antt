-- A granted write, whatever command it is of: what is known of its keys and rows, and that every core is sound after its moment.
use Rattle.std.proofs.Common.{ap, inl, inr, refl, subst, sym, ◌∙◌}
use Rattle.std.specs.Int.{w64}
use Rattle.std.specs.Int.RustNames.{FitsSigned}
use Rattle.std.specs.List.{IsDistinct}
use Rattle.std.specs.Option.{unwrap_or}
use Rattle.std.specs.Prelude.{Bool, Contains, List, None, Option, Some, false, map, nat_eq, option_to_list, true, ℕ, ℤ, ◌≡◌, ◌⊎◌}
use Rattle.list_facts.proofs.Members.{first_in}
use Rattle.tuple_layout.specs.declared.cell.Stored.{Stored}
use Rattle.slot_page.specs.declared.line.Tid.{Tid}
use Rattle.xact_status.specs.Versions.{counts_for}
use Rattle.xact_status.specs.Xacts.{is_committed, next_xid}
use Rattle.snapshot_registry.specs.Snapshots.{after_take, committed_in, least_free, snapshot_now}
use Rattle.snapshot_registry.specs.declared.Snapshot.{Snapshot}
use Rattle.lock_table.specs.Held.{holds_row}
use Rattle.lock_table.specs.Locks.{held_by}
use Rattle.lock_table.specs.declared.held.SessionLocks.{SessionLocks}
use Rattle.lock_table.specs.declared.lock.RowKey.{RowKey}
use Rattle.table_rows.proofs.Records.{moments_tell, since_stays}
use Rattle.table_rows.proofs.Worlds.{world_is}
use Rattle.table_rows.specs.Worlds.{tuple_at, tuple_in}
use Rattle.table_state.specs.Tables.{AreCellsOf, toast_rel_of}
use Rattle.write_steps.specs.Writes.{Writing, new_write, old_cells}
use Rattle.write_steps.specs.declared.stage.OldRow.{OldRow}
use Rattle.core_state.proofs.Seats.{seat_written, session_written}
use Rattle.core_state.specs.Begun.{plan_of, write_begun}
use Rattle.core_state.specs.Coming.{is_elsewhere}
use Rattle.core_state.specs.Facts.{IsSound, Uses, ids_in}
use Rattle.core_state.specs.Lines.{after_use, after_write_begun, takes_copy, with_snapshot}
use Rattle.core_state.specs.State.{CoreState, IsSession, IsTableOf, is_open, is_past_moment, seat_of, snapshot_of, xid_of}
use Rattle.core_state.specs.Views.{counts_under, in_sight, in_view, registered}
use Rattle.core_state.specs.declared.seat.Seat.{Seat}
use Rattle.core_looks.proofs.Locks.{locks_used, rows_all, uses_it}
use Rattle.core_looks.proofs.Used.{session_used, used_by, used_is}
use Rattle.core_looks.proofs.Uses.{registered_new, snapshot_with, sound_used}
use Rattle.core_looks.specs.Due.{claim_of}
use Rattle.core_writes.proofs.Claims.{IsFree}
use Rattle.core_writes.proofs.Given.{given_next, open_with, seat_given, sound_given}
use Rattle.core_writes.proofs.Given.{xid_with as xid_given}
use Rattle.core_writes.proofs.Jobs.{Begins, storages_at, write_keys}
use Rattle.core_writes.proofs.Moment.{begun_claimed, begun_on, begun_with, begun_without, sound_claimed}
use Rattle.core_writes.proofs.Plans.{CanSave}
use Rattle.core_writes.proofs.Rows.{Keeps}
use Rattle.core_looks.proofs.Sights.{pages_at}
use Rattle.core_writes.proofs.Views.{IsRowAt, MayClaim, found_now, may_given, none_given, row_given, seat_given_is, snapshot_at}

-- what is known of a granted write
pub record IsGranted (c : CoreState) (s t : ℕ) (keys : List ℤ) (old : Option OldRow) (new : Option Stored) : Type 0 where
  pub some : old ≡ None → new ≡ None → ⊥
  -- its keys may be claimed, and are those of its rows
  pub may : (key : ℤ) → Contains keys key → MayClaim c s t key
  pub its : (key : ℤ) → Contains (write_keys old new) key → Contains keys key
  -- the old row is one that the session sees, and at a new key nothing is there
  pub row : (was : OldRow) → old ≡ Some was → IsRowAt c t (in_view c.xacts c.snaps (seat_of c s).state) was.stored.key was
  pub alone : (stored : Stored) → new ≡ Some stored → is_elsewhere old stored.key ≡ true → tuple_in (in_sight c.xacts (seat_of c s).state) (pages_at c t) stored.key ≡ None
  -- the new row
  pub can : (stored : Stored) → new ≡ Some stored → CanSave (storages_at c t) stored
  pub key : (stored : Stored) → new ≡ Some stored → FitsSigned w64 stored.key
  pub cells : (stored : Stored) → new ≡ Some stored → AreCellsOf (toast_rel_of t) (storages_at c t) stored.cells
  pub keeps : (stored : Stored) → new ≡ Some stored → Keeps (old_cells old) stored.cells
  pub distinct : IsDistinct nat_eq (ids_in (old_cells old))

-- ---- once the table is used

-- with a snapshot of now every key is as the snapshot shows it
pub may_fresh : (c : CoreState) (s t : ℕ) (key : ℤ) → snapshot_at c s ≡ Some (snapshot_now c.xacts) → IsFree c.locks s t key → MayClaim c s t key
may_fresh c s t key fresh free = record {
  free = free;
  since = λ snapshot taken e. since_stays.taken c.xacts snapshot (pages_at c t) key (snapshot_is snapshot (snapshot_now c.xacts) (sym taken ∙ fresh));
  shown = λ snapshot taken e. by snapshot (snapshot_is snapshot (snapshot_now c.xacts) (sym taken ∙ fresh)) (tuple_in (is_committed c.xacts) (pages_at c t) key) refl;
}
  where
    snapshot_is : (a b : Snapshot) → Some a ≡ Some b → a ≡ b
    snapshot_is a b e = cc

    by : (snapshot : Snapshot) → snapshot ≡ snapshot_now c.xacts → (o : Option (List ℕ)) → tuple_in (is_committed c.xacts) (pages_at c t) key ≡ o
        → (tuple_in (is_committed c.xacts) (pages_at c t) key ≡ None) ⊎ ((tid : Tid) × (tuple : List ℕ) × (tuple_at (committed_in c.xacts snapshot) (pages_at c t) key tid ≡ Some tuple))
    by snapshot is None e = inl e
    by snapshot is (Some tuple) e =
        let at = world_is (committed_in c.xacts snapshot) (pages_at c t) key tuple (moments_tell.taken c.xacts snapshot (pages_at c t) key is ∙ e) in
        inr (at.0, tuple, at.1)

free_used : (locks : List SessionLocks) (s t n : ℕ) (key : ℤ) → IsFree locks s n key → IsFree (locks_used locks s t) s n key
free_used locks s t n key free other differ = ap (λ (rows : List RowKey). holds_row rows (claim_of n key)) (rows_all locks s t other) ∙ free other differ

may_used : (b : Bool) (c : CoreState) (s t n : ℕ) (key : ℤ) → IsSession c.seats s → is_open (seat_of c s).state ≡ true → MayClaim c s n key → MayClaim (used_by b c s t) s n key
may_used true c s t n key there opened may = may_fresh (used_by true c s t) s n key fresh (free_used c.locks s t n key may.free)
  where
    new : Seat
    new = record (seat_of c s) { state = with_snapshot (seat_of c s).state (least_free c.snaps) }

    fresh : snapshot_at (used_by true c s t) s ≡ Some (snapshot_now c.xacts)
    fresh =
        ap (registered (after_take c.snaps c.xacts)) (ap (λ (seat : Seat). snapshot_of seat.state) (seat_written c.seats s new there) ∙ snapshot_with (seat_of c s).state (least_free c.snaps) opened)
        ∙ registered_new c.snaps c.xacts
may_used false c s t n key there opened may = record {
  free = free_used c.locks s t n key may.free;
  since = λ snapshot taken e. may.since snapshot taken (sym (ap (λ (rows : List RowKey). holds_row rows (claim_of n key)) (rows_all c.locks s t s)) ∙ e);
  shown = λ snapshot taken e. may.shown snapshot taken (sym (ap (λ (rows : List RowKey). holds_row rows (claim_of n key)) (rows_all c.locks s t s)) ∙ e);
}

-- the same row is found by the same test
row_by : (c : CoreState) (t : ℕ) (f g : ℕ → Bool) (key : ℤ) (old : OldRow) → g ≡ f → IsRowAt c t f key old → IsRowAt c t g key old
row_by c t f g key old same at = subst (λ (counts : ℕ → Bool). IsRowAt c t counts key old) (sym same) at

granted_by : (b : Bool) (c : CoreState) (s t : ℕ) (keys : List ℤ) (old : Option OldRow) (new : Option Stored) → IsSession c.seats s → is_open (seat_of c s).state ≡ true
    → in_view (used_by b c s t).xacts (used_by b c s t).snaps (seat_of (used_by b c s t) s).state ≡ in_view c.xacts c.snaps (seat_of c s).state → xid_of (seat_of (used_by b c s t) s).state ≡ xid_of (seat_of c s).state
    → IsGranted c s t keys old new → IsGranted (used_by b c s t) s t keys old new
granted_by true c s t keys old new there opened view xid is = record {
  some = is.some;
  may = λ key e. may_used true c s t t key there opened (is.may key e);
  its = is.its;
  row = λ was e.
      let at = is.row was e in
      let same : IsRowAt (used_by true c s t) t (in_view c.xacts c.snaps (seat_of c s).state) was.stored.key was = record { version = at.version; there = at.there; of_key = at.of_key; stored = at.stored; counts = at.counts } in
      row_by (used_by true c s t) t (in_view c.xacts c.snaps (seat_of c s).state) (in_view (used_by true c s t).xacts (used_by true c s t).snaps (seat_of (used_by true c s t) s).state) was.stored.key was view same;
  alone = λ stored e f. ap (λ (own : Option ℕ). tuple_in (counts_for c.xacts own) (pages_at c t) stored.key) xid ∙ is.alone stored e f;
  can = is.can;
  key = is.key;
  cells = is.cells;
  keeps = is.keeps;
  distinct = is.distinct;
}
granted_by false c s t keys old new there opened view xid is = record {
  some = is.some;
  may = λ key e. may_used false c s t t key there opened (is.may key e);
  its = is.its;
  row = λ was e.
      let at = is.row was e in
      record { version = at.version; there = at.there; of_key = at.of_key; stored = at.stored; counts = at.counts };
  alone = is.alone;
  can = is.can;
  key = is.key;
  cells = is.cells;
  keeps = is.keeps;
  distinct = is.distinct;
}

pub granted_used : (c : CoreState) (s t : ℕ) (keys : List ℤ) (old : Option OldRow) (new : Option Stored) → IsSession c.seats s → is_open (seat_of c s).state ≡ true → IsGranted c s t keys old new → IsGranted (after_use c s t) s t keys old new
granted_used c s t keys old new there opened is =
    let used = used_is c s t there opened in
    granted_by (takes_copy (seat_of c s).state) c s t keys old new there opened used.counts used.xid is

-- ---- with the xid

-- the old row's key is one of the write's
first_key : (old : Option OldRow) (new : Option Stored) (was : OldRow) → old ≡ Some was → Contains (write_keys old new) was.stored.key
first_key None new was e = absurd (cc)
first_key (Some row) new was e =
    let same : row ≡ was = row_is row was e in
    first_in row.stored.key (map (λ (stored : Stored). stored.key) (option_to_list new)) was.stored.key (ap (λ (r : OldRow). r.stored.key) same)
  where
    row_is : (a b : OldRow) → Some a ≡ Some b → a ≡ b
    row_is a b f = cc

-- the session once it has an xid
session_given_there : (c : CoreState) (s : ℕ) → IsSession c.seats s → IsSession (given_next c s).seats s
session_given_there c s there = session_written c.seats s s (seat_given c s) there

own_xid : (c : CoreState) (s : ℕ) → IsSession c.seats s → is_open (seat_of c s).state ≡ true → xid_of (seat_of (given_next c s) s).state ≡ Some (next_xid c.xacts)
own_xid c s there opened = ap (λ (seat : Seat). xid_of seat.state) (seat_given_is c s there) ∙ xid_given (seat_of c s).state (next_xid c.xacts) opened

pub begins_with : (c : CoreState) (s t x : ℕ) (keys : List ℤ) (old : Option OldRow) (new : Option Stored) → IsSession c.seats s → IsSound c → xid_of (seat_of c s).state ≡ Some x → IsGranted c s t keys old new → Begins c s t x old new
begins_with c s t x keys old new there sound mine is = record {
  some = is.some;
  row = λ was e. found_now c s t x was.stored.key was there sound mine (is.may was.stored.key (old_key was e)) (subst (λ (own : Option ℕ). IsRowAt c t (counts_under c.xacts (snapshot_at c s) own) was.stored.key was) mine (is.row was e));
  free = λ was e. (is.may was.stored.key (old_key was e)).free;
  alone = λ stored e f. subst (λ (own : Option ℕ). tuple_in (counts_for c.xacts own) (pages_at c t) stored.key ≡ None) mine (is.alone stored e f);
  can = is.can;
  key = is.key;
  cells = is.cells;
  keeps = is.keeps;
  distinct = is.distinct;
}
  where
    old_key : (was : OldRow) → old ≡ Some was → Contains keys was.stored.key
    old_key was e = is.its was.stored.key (first_key old new was e)

pub begins_given : (c : CoreState) (s t : ℕ) (keys : List ℤ) (old : Option OldRow) (new : Option Stored) → IsSession c.seats s → IsSound c → IsSound (given_next c s) → is_open (seat_of c s).state ≡ true → xid_of (seat_of c s).state ≡ None → IsGranted c s t keys old new
    → Begins (given_next c s) s t (next_xid c.xacts) old new
begins_given c s t keys old new there sound later opened none is = record {
  some = is.some;
  row = λ was e.
      let at : IsRowAt c t (counts_under c.xacts (snapshot_at c s) None) was.stored.key was = subst (λ (own : Option ℕ). IsRowAt c t (counts_under c.xacts (snapshot_at c s) own) was.stored.key was) none (is.row was e) in
      found_now (given_next c s) s t (next_xid c.xacts) was.stored.key was (session_given_there c s there) later (own_xid c s there opened) (may_given c s t was.stored.key there (is.may was.stored.key (old_key was e))) (row_given c s t was.stored.key was there sound at);
  free = λ was e. (is.may was.stored.key (old_key was e)).free;
  alone = λ stored e f. none_given c s t stored.key sound (subst (λ (own : Option ℕ). tuple_in (counts_for c.xacts own) (pages_at c t) stored.key ≡ None) none (is.alone stored e f));
  can = is.can;
  key = is.key;
  cells = is.cells;
  keeps = is.keeps;
  distinct = is.distinct;
}
  where
    old_key : (was : OldRow) → old ≡ Some was → Contains keys was.stored.key
    old_key was e = is.its was.stored.key (first_key old new was e)

-- ---- the moment

-- from the core in which the table is used
pub sound_begun : (c : CoreState) (s t : ℕ) (keys : List ℤ) (old : Option OldRow) (new : Option Stored) → IsSession c.seats s → IsSound c → IsTableOf c.tables t → is_open (seat_of c s).state ≡ true → Uses (held_by c.locks s) t
    → is_past_moment (seat_of c s).job ≡ false → IsGranted c s t keys old new → IsSound (begun_on c s t keys (write_begun c s t old new))
sound_begun c s t keys old new there sound table opened uses before is = by (xid_of (seat_of c s).state) refl
  where
    by : (o : Option ℕ) → xid_of (seat_of c s).state ≡ o → IsSound (begun_on c s t keys (write_begun c s t old new))
    by (Some x) mine =
        let begun = sound_claimed c s t x keys old new there sound table opened uses mine before is.may (begins_with c s t x keys old new there sound mine is) is.its in
        let its : write_begun c s t old new ≡ new_write t s x old new (plan_of (storages_at c t) new) = ap (λ (o : Option ℕ). new_write t s (unwrap_or o (next_xid c.xacts)) old new (plan_of (storages_at c t) new)) mine in
        subst IsSound (sym (begun_with c s t x keys (write_begun c s t old new) mine ∙ ap (begun_claimed c s t keys) its)) begun
    by None none =
        let later = sound_given c s there opened none before sound in
        let seat = seat_given_is c s there in
        let begun = sound_claimed (given_next c s) s t (next_xid c.xacts) keys old new (session_given_there c s there) later table (ap (λ (x : Seat). is_open x.state) seat ∙ open_with (seat_of c s).state (next_xid c.xacts) ∙ opened) uses (own_xid c s there opened)
        (ap (λ (x : Seat). is_past_moment x.job) seat ∙ before) (λ key e. may_given c s t key there (is.may key e)) (begins_given c s t keys old new there sound later opened none is) is.its in
        let its : write_begun c s t old new ≡ new_write t s (next_xid c.xacts) old new (plan_of (storages_at c t) new) = ap (λ (o : Option ℕ). new_write t s (unwrap_or o (next_xid c.xacts)) old new (plan_of (storages_at c t) new)) none in
        subst IsSound (sym (begun_without c s t keys (write_begun c s t old new) there none ∙ ap (begun_claimed (given_next c s) s t keys) its)) begun

-- the write that begins is the same before its table is used
pub write_used : (c : CoreState) (s t : ℕ) (old : Option OldRow) (new : Option Stored) → IsSession c.seats s → is_open (seat_of c s).state ≡ true → write_begun (after_use c s t) s t old new ≡ write_begun c s t old new
write_used c s t old new there opened = by (takes_copy (seat_of c s).state) (used_is c s t there opened).xid
  where
    by : (b : Bool) → xid_of (seat_of (used_by b c s t) s).state ≡ xid_of (seat_of c s).state → write_begun (used_by b c s t) s t old new ≡ write_begun c s t old new
    by true xid = ap (λ (o : Option ℕ). new_write t s (unwrap_or o (next_xid c.xacts)) old new (plan_of (storages_at c t) new)) xid
    by false xid = refl

-- the tables and the uses then
pub table_used : (c : CoreState) (s t : ℕ) → IsTableOf c.tables t → IsTableOf (after_use c s t).tables t
table_used c s t table = by (takes_copy (seat_of c s).state)
  where
    by : (b : Bool) → IsTableOf (used_by b c s t).tables t
    by true = table
    by false = table

pub uses_used : (c : CoreState) (s t : ℕ) → Uses (held_by (after_use c s t).locks s) t
uses_used c s t = by (takes_copy (seat_of c s).state)
  where
    by : (b : Bool) → Uses (held_by (used_by b c s t).locks s) t
    by true = uses_it c.locks s t
    by false = uses_it c.locks s t

pub sound_write : (c : CoreState) (s t : ℕ) (keys : List ℤ) (old : Option OldRow) (new : Option Stored) → IsSession c.seats s → IsSound c → IsTableOf c.tables t → is_open (seat_of c s).state ≡ true
    → is_past_moment (seat_of c s).job ≡ false → IsGranted c s t keys old new → IsSound (after_write_begun c s t keys (write_begun c s t old new))
sound_write c s t keys old new there sound table opened before is =
    let used = used_is c s t there opened in
    let later = sound_used c s t there opened before sound in
    let begun = sound_begun (after_use c s t) s t keys old new (session_used c s t there) later (table_used c s t table) (used.opened ∙ opened) (uses_used c s t) (ap is_past_moment used.job ∙ before) (granted_used c s t keys old new there opened is) in
    subst (λ (write : Writing). IsSound (after_write_begun c s t keys write)) (write_used c s t old new there opened) begun
