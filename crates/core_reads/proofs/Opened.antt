-- The granted moment of an open: a handle is opened on the value of a column, which is kept by a snapshot that is taken for it, or by a share of the transaction's.
use Rattle.std.proofs.Common.{ap, arith, cond, inl, inr, refl, subst, sym, ◌∙◌}
use Rattle.std.proofs.lemmas.Bool.Decides.{nat_tests}
use Rattle.std.proofs.lemmas.List.{length-set}
use Rattle.std.specs.Cmp.{nat_cmp_total}
use Rattle.std.specs.FinMap as map
use Rattle.std.specs.Option.{option_map_or, unwrap_or}
use Rattle.std.specs.Ordering.{eq_by_cmp, nat_cmp}
use Rattle.std.specs.Prelude.{Bool, Contains, List, None, Option, Some, [], false, if◌then◌else◌, is_none, is_some, length, map as mapped, option_map, option_to_list, slice_get, slice_index_or, slice_set, suc, true, zero, ℕ, ℤ, ◌++◌, ◌+◌, ◌-◌, ◌<◌, ◌==◌, ◌∷◌, ◌≡◌, ◌≢◌, ◌≤◌}
use Rattle.list_facts.proofs.Changed.{get_set_other}
use Rattle.list_facts.proofs.Members.{first_in}
use Rattle.external_pointer.specs.declared.external.Pointer.{Pointer}
use Rattle.tuple_layout.specs.Places.{Row}
use Rattle.tuple_layout.specs.declared.Storage.{Storage}
use Rattle.tuple_layout.specs.declared.Storage.TheVariants.{External, Plain}
use Rattle.tuple_layout.specs.declared.cell.Cell.{Cell}
use Rattle.tuple_layout.specs.declared.cell.Cell.TheVariants.{Inline, Null, Out}
use Rattle.xact_status.specs.Xacts.{Xacts}
use Rattle.snapshot_registry.proofs.Entries.{held_after_share, held_at_share}
use Rattle.snapshot_registry.proofs.Moments.{registry_share}
use Rattle.snapshot_registry.specs.Snapshots.{Snaps, after_share, after_take, held_at, holders_at, is_registered, least_free, one_more}
use Rattle.snapshot_registry.specs.declared.Held.{Held as Registered}
use Rattle.value_ids.specs.Ids.{Pool}
use Rattle.value_holders.proofs.Readers.{readers_are_safe}
use Rattle.lock_table.specs.Locks.{held_by}
use Rattle.lock_table.specs.declared.held.SessionLocks.{SessionLocks}
use Rattle.toast_store.specs.Stores.{Store}
use Rattle.command_set.specs.Answers.{effect, with_use}
use Rattle.command_set.specs.Changes.{place}
use Rattle.command_set.specs.Plain.{session_of, value_at, view_of, with_session}
use Rattle.command_set.specs.Plain as plain_rows
use Rattle.command_set.specs.Replies.{is_granted, transaction_of}
use Rattle.command_set.specs.declared.Command.{Command}
use Rattle.command_set.specs.declared.Reply.{Reply}
use Rattle.command_set.specs.declared.state.Answered.{Answered}
use Rattle.command_set.specs.declared.state.Plain.{Plain as Plainly}
use Rattle.command_set.specs.declared.state.Session.{Session}
use Rattle.command_set.specs.declared.state.Transaction.{Transaction}
use Rattle.table_state.specs.Rows.{cell_value, pointers_in}
use Rattle.table_state.specs.Tables.{AreCellsOf, IsCellOf, longest_value, toast_rel_of}
use Rattle.table_state.specs.declared.table.Table.{Table}
use Rattle.read_steps.specs.Reads.{cell_of}
use Rattle.read_steps.specs.declared.wanted.Held.{Held}
use Rattle.write_steps.specs.declared.stage.OldRow.{OldRow}
use Rattle.core_looks.proofs.Before.{fits_at, session_in_use, table_in, used_at}
use Rattle.core_looks.proofs.Found.{values_found}
use Rattle.core_looks.proofs.Sights.{table_sound}
use Rattle.core_looks.proofs.Standing.{session_snaps, stands_moved}
use Rattle.core_looks.proofs.Used.{sees_used, stands_used}
use Rattle.core_looks.proofs.Uses.{sound_used}
use Rattle.core_looks.proofs.Views.{open_as, seen_is}
use Rattle.core_looks.proofs.Whole.{seen_long, seen_row_is}
use Rattle.core_looks.specs.Due.{absent_due, granted_due, handle_there_due, null_due, reply_due}
use Rattle.core_state.proofs.Answered.{answered, session_at_place, sessions_set}
use Rattle.core_state.proofs.Begins.{left_over}
use Rattle.core_state.proofs.Below.{below}
use Rattle.core_state.proofs.Frames.{IsLaterFor, seat_later}
use Rattle.core_state.proofs.Lists.{count_more, one_if, sum_set}
use Rattle.core_state.proofs.Moved.{sound_moved, state_uses, view_later}
use Rattle.core_state.proofs.Released.{times}
use Rattle.core_state.proofs.Seats.{number_at, seat_there, seat_written, sound_of, uses_by}
use Rattle.core_state.proofs.Snapshots.{later_shared}
use Rattle.core_state.proofs.Standing.{its_session}
use Rattle.core_state.proofs.Uses.{registered_use}
use Rattle.core_state.specs.Begun.{held_in, held_size}
use Rattle.core_state.specs.Events.{Looked, MomentLine, Opened, at_moment, left, line_granted}
use Rattle.core_state.specs.Facts.{HandleIsSound, IsSound, KeepsPointer, MayHold, MayPin, PartsAreSound, SeatIsSound, uses_in}
use Rattle.core_state.specs.Lines.{after_open, after_use, seated, with_handle}
use Rattle.core_state.specs.Moves.{Runs, Says}
use Rattle.core_state.specs.Stands.{SessionStands, Stands, coming}
use Rattle.core_state.specs.State.{CoreState, IsSession, IsTableOf, handle_of, is_open, is_past_moment, job_snapshot, seat_of, snapshot_of, table_at, uses_of, xid_of}
use Rattle.core_state.specs.Views.{held_value, registered, row_seen}
use Rattle.core_state.specs.declared.seat.Handle.{Handle}
use Rattle.core_state.specs.declared.seat.Seat.{Seat}
use Rattle.core_reads.proofs.Begins.{own_taken, same_locks, sound_taking}
use Rattle.core_reads.proofs.Begun.{Begins as BeginsAt, seen_anew, seen_repeatably}
use Rattle.core_reads.proofs.Due.{grants_found, grants_inside, grants_unopened}
use Rattle.core_reads.proofs.Handles.{among_opened, found_opened, snapshots_of, sorted_opened, times_opened}
use Rattle.core_reads.proofs.Kept.{HandlesStand, session_kept}
use Rattle.core_reads.proofs.Moments.{open_of, registered_same}
use Rattle.core_reads.proofs.Seen.{seen_column, seen_pointer}
use Rattle.core_reads.proofs.Told.{granted_answer}
use Rattle.core_reads.proofs.Using.{use_leaves}
use Rattle.core_reads.proofs.Values.{registered_left}
use Rattle.core_reads.specs.Laws.{Begins, told_then}
use Rattle.command_set.specs.declared.Command.TheVariants as commands
use Rattle.command_set.specs.declared.state.Session.TheVariants as plain
use Rattle.core_state.specs.declared.seat.Job.TheVariants as jobs
use Rattle.read_steps.specs.declared.wanted.Held.TheVariants as helds

-- ---- the value

-- a cell of a row is not too long
cells_most : (rel : ℕ) (storages : List Storage) (cells : List Cell) (k : ℕ) → length cells ≡ length storages → AreCellsOf rel storages cells → held_size (held_in (slice_index_or cells k Null)) ≤ longest_value
cells_most rel storages [] k long are = omega arith
cells_most rel [] (cell ∷ cells) k long are = absurd (omega (arith, long))
cells_most rel (storage ∷ storages) (cell ∷ cells) zero long are = by storage cell are.0
  where
    by : (its : Storage) (x : Cell) → IsCellOf rel its x → held_size (held_in x) ≤ longest_value
    by Plain Null is = omega arith
    by External Null is = omega arith
    by Plain (Inline value) is = is
    by External (Inline value) is = is
    by Plain (Out pointer) is = absurd is
    by External (Out pointer) is = is.2
cells_most rel (storage ∷ storages) (cell ∷ cells) (suc k) long are = cells_most rel storages cells k (omega (arith, long)) are.1

held_out : (cell : Cell) (pointer : Pointer) → held_in cell ≡ helds.Out pointer → cell ≡ Out pointer
held_out Null pointer e = absurd (cc)
held_out (Inline value) pointer e = absurd (cc)
held_out (Out other) pointer e =
    let same : other ≡ pointer = cc in
    ap Out same

-- what it is in the plain store
held_bytes : (tables : List Table) (t : ℕ) (cell : Cell) → unwrap_or (cell_value (table_at tables t).toast cell) [] ≡ held_value tables t (held_in cell)
held_bytes tables t Null = refl
held_bytes tables t (Inline value) = refl
held_bytes tables t (Out pointer) = refl

value_of_cell : (toast : Store) (cells : List Cell) (column : ℕ) → 1 ≤ column → value_at (mapped (cell_value toast) cells) column ≡ cell_value toast (cell_of cells column)
value_of_cell toast cells zero low = absurd (omega (arith, low))
value_of_cell toast cells (suc k) low =
    let at : suc k - 1 ≡ k = omega arith in
    rw at (by cells k)
  where
    by : (cs : List Cell) (i : ℕ) → unwrap_or (slice_get (mapped (cell_value toast) cs) i) None ≡ cell_value toast (slice_index_or cs i Null)
    by [] i = refl
    by (x ∷ cs) zero = refl
    by (x ∷ cs) (suc i) = by cs i

-- ---- the seat

abbrev opened_seat : Seat → Handle → Seat
opened_seat seat handle = record seat { handles = with_handle seat.handles handle; job = jobs.Idle }

seat_opened : (xacts : Xacts) (snaps : Snaps) (ids : Pool) (held : SessionLocks) (tables : List Table) (s : ℕ) (seat : Seat) (command : Command) (handle : Handle) → seat.job ≡ jobs.Submitted command → is_open seat.state ≡ true
    → HandleIsSound xacts snaps held tables (xid_of seat.state) handle → SeatIsSound xacts snaps ids held tables s seat → SeatIsSound xacts snaps ids held tables s (opened_seat seat handle)
seat_opened xacts snaps ids held tables s seat command handle is inside its old = record {
  runs = old.runs;
  locks = old.locks;
  view = old.view;
  handles = record {
    outside = λ closed. absurd (cc);
    named = sorted_opened seat.handles handle old.handles.named;
    each = λ other e. elim (among_opened seat.handles handle other e) [
      | inl same ↦ subst (λ (h : Handle). HandleIsSound xacts snaps held tables (xid_of seat.state) h) same its
      | inr was ↦ old.handles.each other was
    ];
  };
  job = tt;
  pins = record { each = λ t leaf e. absurd (subst (MayPin t) is (old.pins.each t leaf e)) };
  hands = record { each = λ one there of. absurd (subst (MayHold one.table) is (old.hands.each one there of)) };
}

uses_more : (id : ℕ) (own : Option ℕ) (before after : List ℕ) (extra : ℕ) → times id after ≡ times id before + extra → times id (option_to_list own ++ ([] ++ after)) ≡ times id (option_to_list own ++ ([] ++ before)) + extra
uses_more id None before after extra same = same
uses_more id (Some x) before after extra same =
    let new = count_more (λ (n : ℕ). n == id) x after in
    let old = count_more (λ (n : ℕ). n == id) x before in
    omega (arith, same, new, old)

open_uses : (u : CoreState) (s : ℕ) (command : Command) (handle : Handle) → (seat_of u s).job ≡ jobs.Submitted command → handle_of (seat_of u s).handles handle.name ≡ None → (id : ℕ)
    → uses_by id (opened_seat (seat_of u s) handle) ≡ uses_by id (seat_of u s) + one_if (handle.snapshot == id)
open_uses u s command handle is none id =
    let more = uses_more id (snapshot_of (seat_of u s).state) (snapshots_of (seat_of u s).handles) (snapshots_of (with_handle (seat_of u s).handles handle)) (one_if (handle.snapshot == id)) (times_opened id (seat_of u s).handles handle none) in
    let job : times id (option_to_list (snapshot_of (seat_of u s).state) ++ ([] ++ snapshots_of (seat_of u s).handles)) ≡ uses_by id (seat_of u s) =
    ap (λ (o : Option ℕ). times id (option_to_list (snapshot_of (seat_of u s).state) ++ (option_to_list o ++ snapshots_of (seat_of u s).handles))) (sym (ap job_snapshot is)) in
    let all : uses_by id (opened_seat (seat_of u s) handle) ≡ times id (option_to_list (snapshot_of (seat_of u s).state) ++ ([] ++ snapshots_of (with_handle (seat_of u s).handles handle))) = refl in
    omega (arith, more, job, all)

-- ---- a share of a snapshot

holders_shared : (snaps : Snaps) (shared id : ℕ) → is_registered snaps shared ≡ true → holders_at (after_share snaps shared) id ≡ holders_at snaps id + one_if (shared == id)
holders_shared snaps shared id there = by (id == shared) refl (ap (λ (o : Option Registered). option_map_or (λ (held : Registered). held.holders) o 0) (held_at_share snaps shared id there))
  where
    some : (o : Option Registered) → is_some o ≡ true → option_map_or (λ (held : Registered). held.holders) (option_map one_more o) 0 ≡ option_map_or (λ (held : Registered). held.holders) o 0 + 1
    some None e = absurd (cc)
    some (Some held) e = refl

    by : (b : Bool) → (id == shared) ≡ b → holders_at (after_share snaps shared) id ≡ option_map_or (λ (held : Registered). held.holders) (if b then option_map one_more (held_at snaps shared) else held_at snaps id) 0
        → holders_at (after_share snaps shared) id ≡ holders_at snaps id + one_if (shared == id)
    by true same e =
        let is : id ≡ shared = grind (arith, nat_tests, same) in
        let back : (shared == id) ≡ true = grind (arith, nat_tests, is) in
        let one : one_if (shared == id) ≡ 1 = ap one_if back in
        let more = some (held_at snaps shared) there in
        let here : holders_at snaps id ≡ holders_at snaps shared = ap (holders_at snaps) is in
        omega (arith, e, one, more, here)
    by false differ e =
        let apart : id ≢ shared = grind (arith, nat_tests, differ) in
        let back : (shared == id) ≡ false = grind (arith, nat_tests, apart) in
        let none : one_if (shared == id) ≡ 0 = ap one_if back in
        omega (arith, e, none)

share_registered : (snaps : Snaps) (shared id : ℕ) → is_registered snaps shared ≡ true → is_registered snaps id ≡ true → is_registered (after_share snaps shared) id ≡ true
share_registered snaps shared id there its = ap (λ (o : Option Registered). is_some o) (held_at_share snaps shared id there) ∙ by (id == shared) (held_at snaps shared) (held_at snaps id) there its
  where
    by : (b : Bool) (one other : Option Registered) → is_some one ≡ true → is_some other ≡ true → is_some (if b then option_map one_more one else other) ≡ true
    by true None other e f = absurd (cc)
    by true (Some held) other e f = refl
    by false one other e f = f

own_shared : (u : CoreState) (s shared : ℕ) → IsSession u.seats s → is_registered u.snaps shared ≡ true → IsSound u → SeatIsSound u.xacts (after_share u.snaps shared) u.ids (held_by u.locks s) u.tables s (seat_of u s)
own_shared u s shared there registered sound =
    let mine = sound_of u s there sound in
    let moves : IsLaterFor u.xacts u.xacts u.snaps (after_share u.snaps shared) u.tables (held_by u.locks s) (uses_of (seat_of u s)) (xid_of (seat_of u s).state) =
    subst (λ (n : ℕ). IsLaterFor u.xacts u.xacts u.snaps (after_share u.snaps shared) u.tables (held_by u.locks n) (uses_of (seat_of u s)) (xid_of (seat_of u s).state)) (number_at s there.from_one)
    (later_shared u (s - 1) (seat_of u s) shared registered (seat_there u.seats s there) sound) in
    seat_later u.xacts u.xacts u.snaps (after_share u.snaps shared) u.ids u.tables (held_by u.locks s) s (seat_of u s) moves mine.runs
    (view_later u.xacts u.snaps (after_share u.snaps shared) (held_by u.locks s) u.tables (seat_of u s) (λ id held used e. held_after_share u.snaps shared id held e) mine.view) mine

sound_sharing : (u : CoreState) (s shared : ℕ) (seat : Seat) → IsSession u.seats s → is_registered u.snaps shared ≡ true → xid_of seat.state ≡ xid_of (seat_of u s).state → ((id : ℕ) → uses_by id seat ≡ uses_by id (seat_of u s) + one_if (shared == id))
    → SeatIsSound u.xacts (after_share u.snaps shared) u.ids (held_by u.locks s) u.tables s seat → IsSound u → IsSound (seated (record u { snaps = after_share u.snaps shared }) s seat)
sound_sharing u s shared seat there registered same uses here sound =
    sound_moved u s seat (after_share u.snaps shared) u.locks there same sound refl (same_locks u.locks s) sound.apart (registry_share u.xacts u.snaps shared sound.registry) counted
    (λ number table is. below.moments.shared number u.xacts u.snaps shared table is) (λ i other differ at. (later_shared u i other shared registered at sound, λ id held used e. held_after_share u.snaps shared id held e)) here
  where
    counted : (id : ℕ) → holders_at (after_share u.snaps shared) id ≡ uses_in (slice_set u.seats (s - 1) seat) id
    counted id =
        let was = sound.counted id in
        let more = holders_shared u.snaps shared id registered in
        let both = sum_set (uses_by id) u.seats (s - 1) (seat_of u s) seat (seat_there u.seats s there) in
        let has = uses id in
        omega (arith, was, more, both, has)

-- ---- the core, by the snapshot that the transaction has, if it has one

abbrev id_by : CoreState → Option ℕ → ℕ
id_by u o = unwrap_or o (least_free u.snaps)

abbrev snaps_by : CoreState → Option ℕ → Snaps
snaps_by u o = if is_none o then after_take u.snaps u.xacts else after_share u.snaps (id_by u o)

abbrev handle_by : CoreState → Option ℕ → ℕ → ℕ → Held → Handle
handle_by u o t name held = record { name = name; snapshot = id_by u o; table = t; held = held }

abbrev opened_by : Option ℕ → CoreState → ℕ → ℕ → ℕ → Held → CoreState
opened_by o u s t name held = seated (record u { snaps = snaps_by u o }) s (opened_seat (seat_of u s) (handle_by u o t name held))

-- what an open finds, once its table is used
record Opens (u : CoreState) (s t : ℕ) (command : Command) (key : ℤ) (old : OldRow) (column name : ℕ) : Type 0 where
  begins : BeginsAt u s t command key old
  free : handle_of (seat_of u s).handles name ≡ None

-- what is kept by a snapshot is kept once it is shared
kept_shared : (u : CoreState) (id : ℕ) (table : Table) (own : Option ℕ) (pointer : Pointer) → is_registered u.snaps id ≡ true → KeepsPointer u.xacts u.snaps table (id ∷ []) own pointer → KeepsPointer u.xacts (after_share u.snaps id) table (id ∷ []) own pointer
kept_shared u id table own pointer there kept = record {
  tid = kept.tid;
  version = kept.version;
  there = kept.there;
  holds = kept.holds;
  seen = elim kept.seen [
    | inl mine ↦ inl mine
    | inr seen ↦ inr (seen.0, seen.1, readers_are_safe.seen_past_share u.xacts u.snaps id seen.0 kept.version.inserter kept.version.ender None there ∙ seen.2)
  ];
}

-- the value is kept by the handle's snapshot
open_kept : (u : CoreState) (s t : ℕ) (command : Command) (key : ℤ) (old : OldRow) (column name : ℕ) (o : Option ℕ) (pointer : Pointer) → Opens u s t command key old column name → IsSound u → snapshot_of (seat_of u s).state ≡ o
    → held_in (cell_of old.stored.cells column) ≡ helds.Out pointer → KeepsPointer u.xacts (snaps_by u o) (table_at u.tables t) (id_by u o ∷ []) (xid_of (seat_of u s).state) pointer
open_kept u s t command key old column name o pointer opens sound mine held = by o mine
  where
    own : Option ℕ
    own = xid_of (seat_of u s).state

    among : Contains (pointers_in (slice_index_or old.stored.cells (column - 1) Null ∷ [])) pointer
    among = subst (λ (x : Cell). Contains (pointers_in (x ∷ [])) pointer) (sym (held_out (cell_of old.stored.cells column) pointer held)) (first_in pointer [] pointer refl)

    by : (o : Option ℕ) → snapshot_of (seat_of u s).state ≡ o → KeepsPointer u.xacts (snaps_by u o) (table_at u.tables t) (id_by u o ∷ []) (xid_of (seat_of u s).state) pointer
    by None e =
        let seen = seen_anew u s t command key old (least_free u.snaps ∷ []) opens.begins e (first_in (least_free u.snaps) [] (least_free u.snaps) refl) in
        seen_pointer u.xacts (after_take u.snaps u.xacts) (table_at u.tables t) (least_free u.snaps ∷ []) own (cell_of old.stored.cells column ∷ []) pointer
        (seen_column u.xacts (after_take u.snaps u.xacts) (table_at u.tables t) (least_free u.snaps ∷ []) own old.stored.cells (column - 1) seen) among
    by (Some id) e =
        let there = registered_use u (s - 1) (seat_of u s) id (seat_there u.seats s opens.begins.there) (state_uses (seat_of u s) id e) sound in
        let seen = seen_repeatably u s t command key old id (id ∷ []) opens.begins sound e (first_in id [] id refl) in
        let kept = seen_pointer u.xacts u.snaps (table_at u.tables t) (id ∷ []) own (cell_of old.stored.cells column ∷ []) pointer
        (seen_column u.xacts u.snaps (table_at u.tables t) (id ∷ []) own old.stored.cells (column - 1) seen) among in
        kept_shared u id (table_at u.tables t) own pointer there kept

open_handle : (u : CoreState) (s t : ℕ) (command : Command) (key : ℤ) (old : OldRow) (column name : ℕ) (o : Option ℕ) → Opens u s t command key old column name → IsSound u → snapshot_of (seat_of u s).state ≡ o
    → HandleIsSound u.xacts (snaps_by u o) (held_by u.locks s) u.tables (xid_of (seat_of u s).state) (handle_by u o t name (held_in (cell_of old.stored.cells column)))
open_handle u s t command key old column name o opens sound mine =
    let row = seen_row_is u s t key old opens.begins.there sound opens.begins.found in
    let tuple = (table_sound u t opens.begins.of_table sound).tuples old.tid row.version row.there in
    let are : AreCellsOf (toast_rel_of t) (table_at u.tables t).rows.schema.storages old.stored.cells = subst (λ (cells : List Cell). AreCellsOf (toast_rel_of t) (table_at u.tables t).rows.schema.storages cells) row.cells tuple.cells in
    record {
      of_table = opens.begins.of_table;
      used = opens.begins.used;
      kept = λ pointer e. open_kept u s t command key old column name o pointer opens sound mine e;
      most = cells_most (toast_rel_of t) (table_at u.tables t).rows.schema.storages old.stored.cells (column - 1) (seen_long u s t key old opens.begins.there opens.begins.of_table sound opens.begins.found) are;
    }

open_sound : (u : CoreState) (s t : ℕ) (command : Command) (key : ℤ) (old : OldRow) (column name : ℕ) (o : Option ℕ) → Opens u s t command key old column name → IsSound u → snapshot_of (seat_of u s).state ≡ o
    → IsSound (opened_by o u s t name (held_in (cell_of old.stored.cells column)))
open_sound u s t command key old column name None opens sound mine =
    let handle = handle_by u None t name (held_in (cell_of old.stored.cells column)) in
    sound_taking u s (opened_seat (seat_of u s) handle) opens.begins.there refl uses
    (seat_opened u.xacts (after_take u.snaps u.xacts) u.ids (held_by u.locks s) u.tables s (seat_of u s) command handle opens.begins.is opens.begins.inside (open_handle u s t command key old column name None opens sound mine) (own_taken u s opens.begins.there sound)) sound
  where
    uses : (id : ℕ) → uses_by id (opened_seat (seat_of u s) (handle_by u None t name (held_in (cell_of old.stored.cells column)))) ≡ uses_by id (seat_of u s) + times id (least_free u.snaps ∷ [])
    uses id =
        let has = open_uses u s command (handle_by u None t name (held_in (cell_of old.stored.cells column))) opens.begins.is opens.free id in
        let one = count_more (λ (n : ℕ). n == id) (least_free u.snaps) [] in
        let none : times id [] ≡ 0 = refl in
        omega (arith, has, one, none)
open_sound u s t command key old column name (Some id) opens sound mine =
    let handle = handle_by u (Some id) t name (held_in (cell_of old.stored.cells column)) in
    let there = registered_use u (s - 1) (seat_of u s) id (seat_there u.seats s opens.begins.there) (state_uses (seat_of u s) id mine) sound in
    sound_sharing u s id (opened_seat (seat_of u s) handle) opens.begins.there there refl (λ k. open_uses u s command handle opens.begins.is opens.free k)
    (seat_opened u.xacts (after_share u.snaps id) u.ids (held_by u.locks s) u.tables s (seat_of u s) command handle opens.begins.is opens.begins.inside (open_handle u s t command key old column name (Some id) opens sound mine)
    (own_shared u s id opens.begins.there there sound)) sound

-- ---- in terms of the plain store

same_number : (h n : ℕ) → eq_by_cmp nat_cmp h n ≡ (h == n)
same_number h n = grind (arith, nat_tests)

open_handles : (tables : List Table) (handles : List Handle) (values : map.FinMap nat_cmp (List ℕ)) (handle : Handle) (bytes : List ℕ) → bytes ≡ held_value tables handle.table handle.held → HandlesStand tables handles values
    → HandlesStand tables (with_handle handles handle) (map.insert values handle.name bytes)
open_handles tables handles values handle bytes is stand n =
    map.get-insert nat_cmp_total values handle.name bytes n
    ∙ ap (λ (b : Bool). cond b (Some bytes) (map.get values n)) (same_number n handle.name)
    ∙ ap (λ (o : Option (List ℕ)). cond (n == handle.name) (Some bytes) o) (stand n)
    ∙ ap (λ (its : List ℕ). cond (n == handle.name) (Some its) (option_map (λ (h : Handle). held_value tables h.table h.held) (handle_of handles n))) is
    ∙ by (n == handle.name) (handle_of handles n)
    ∙ sym (ap (option_map (λ (h : Handle). held_value tables h.table h.held)) (found_opened handles handle n))
  where
    by : (b : Bool) (o : Option Handle) → cond b (Some (held_value tables handle.table handle.held)) (option_map (λ (h : Handle). held_value tables h.table h.held) o) ≡ option_map (λ (h : Handle). held_value tables h.table h.held) (cond b (Some handle) o)
    by true o = refl
    by false o = refl

-- what a session has of the registered snapshots stays
open_shown : (u : CoreState) (s i : ℕ) (seat : Seat) (o : Option ℕ) → IsSession u.seats s → snapshot_of (seat_of u s).state ≡ o → slice_get u.seats i ≡ Some seat → IsSound u → registered (snaps_by u o) (snapshot_of seat.state) ≡ registered u.snaps (snapshot_of seat.state)
open_shown u s i seat None there mine at sound = registered_same u i seat at sound
open_shown u s i seat (Some id) there mine at sound =
    let mine_there = registered_use u (s - 1) (seat_of u s) id (seat_there u.seats s there) (state_uses (seat_of u s) id mine) sound in
    registered_left u.snaps (after_share u.snaps id) (snapshot_of seat.state) (λ k e. share_registered u.snaps id k mine_there (registered_use u i seat k at (state_uses seat k e) sound)) (λ k held e. held_after_share u.snaps id k held e)

open_stands : (u : CoreState) (s t : ℕ) (command : Command) (name : ℕ) (held : Held) (o : Option ℕ) (m : Plainly) (told : List (Option Reply)) (reply : Reply) (tr : Transaction) (bytes : List ℕ) → IsSession u.seats s → (seat_of u s).job ≡ jobs.Submitted command → IsSound u
    → snapshot_of (seat_of u s).state ≡ o → bytes ≡ held_value u.tables t held → Stands u m told → session_of m s ≡ plain.Open tr
    → Stands (opened_by o u s t name held) (with_session m s (plain.Open (record tr { handles = map.insert tr.handles name bytes }))) (slice_set told (s - 1) (Some reply))
open_stands u s t command name held o m told reply tr bytes there is sound mine has stands opened =
    let its = its_session u s m told there stands in
    let session : its.session ≡ plain.Open tr = sym (session_at_place m s its.session its.from_one its.at) ∙ opened in
    let old = subst (λ (x : Session). SessionStands u.xacts u.snaps (held_by u.locks s) u.log.entries u.tables m.latest (seat_of u s) (seat_of u s).state x) session its.stands in
    let handle = handle_by u o t name held in
    let seat = opened_seat (seat_of u s) handle in
    let next = record tr { handles = map.insert tr.handles name bytes } in
    let kept = session_kept u.xacts u.snaps (held_by u.locks s) u.log.entries u.tables m.latest (seat_of u s) (seat_of u s).state tr (with_handle (seat_of u s).handles handle) jobs.Idle (map.insert tr.handles name bytes) (sym (ap (coming u.tables) is))
    (λ stand. open_handles u.tables (seat_of u s).handles tr.handles handle bytes has stand) old in
    stands_moved u s seat (snaps_by u o) u.locks m (with_session m s (plain.Open next)) told (slice_set told (s - 1) (Some reply)) (plain.Open next) there stands refl refl (length-set m.sessions (s - 1) (plain.Open next)) (sessions_set m s its.session (plain.Open next) its.at)
    (λ i other differ at. open_shown u s i other o there mine at sound) (λ other differ. refl)
    (session_snaps u.xacts u.snaps (snaps_by u o) (held_by u.locks s) u.log.entries u.tables m.latest seat (seat_of u s).state (plain.Open next) (open_shown u s (s - 1) (seat_of u s) o there mine (seat_there u.seats s there) sound) kept)
    (λ said pends. absurd (cc)) (λ i differ. get_set_other told (s - 1) i (Some reply) differ)

-- ---- its moment

record OpenDue (c : CoreState) (s name t : ℕ) (key : ℤ) : Type 0 where
  old : OldRow
  inside : is_open (seat_of c s).state ≡ true
  free : handle_of (seat_of c s).handles name ≡ None
  found : row_seen c s t key ≡ Some old

open_granted : (c : CoreState) (s name t : ℕ) (key : ℤ) (column : ℕ) → is_granted (reply_due c s (commands.Open name t key column)) ≡ true → OpenDue c s name t key
open_granted c s name t key column granted =
    let reply = granted_due c s (commands.Open name t key column) in
    let seen = row_seen c s t key in
    let opened = grants_inside (seat_of c s).state (handle_there_due c s name ∷ absent_due seen ∷ null_due seen column ∷ []) reply granted in
    let free = grants_unopened (handle_of (seat_of c s).handles name) (absent_due seen ∷ null_due seen column ∷ []) reply opened.rest in
    let found = grants_found seen (null_due seen column ∷ []) reply free.rest in
    record { old = found.is.0; inside = opened.is; free = free.is; found = found.is.1 }

open_is : (c : CoreState) (s name t : ℕ) (key : ℤ) (column : ℕ) (due : OpenDue c s name t key) → IsSession c.seats s → (seat_of c s).job ≡ jobs.Submitted (commands.Open name t key column) → IsSound c
    → Opens (after_use c s t) s t (commands.Open name t key column) key due.old column name
open_is c s name t key column due there is sound =
    let used = use_leaves c s t there due.inside in
    let of_table = table_in c t (fits_at c s (commands.Open name t key column) there sound is).of_table in
    record {
      begins = record {
        there = used.there;
        is = used.job ∙ is;
        inside = used.inside;
        of_table = subst (λ (tables : List Table). IsTableOf tables t) (sym used.tables) of_table;
        used = used.used;
        found = sees_used c s t t key there due.inside ∙ due.found;
        copied = used.copied;
      };
      free = ap (λ (handles : List Handle). handle_of handles name) used.handles ∙ due.free;
    }

open_line : (c : CoreState) (s name t : ℕ) (key : ℤ) (column : ℕ) (old : OldRow) → row_seen c s t key ≡ Some old → line_granted c s (commands.Open name t key column) ≡ Opened t name (held_in (cell_of old.stored.cells column))
open_line c s name t key column old found = ap (λ (o : Option OldRow). option_map_or (λ (its : OldRow). Opened t name (held_in (cell_of its.stored.cells column))) o (Looked t)) found

open_over : (c : CoreState) (s name t : ℕ) (held : Held) → IsSession c.seats s → is_open (seat_of c s).state ≡ true → (seat_of (after_open c s t name held) s).job ≡ jobs.Idle
open_over c s name t held there inside =
    ap (λ (seat : Seat). seat.job)
    (seat_written (after_use c s t).seats s (opened_seat (seat_of (after_use c s t) s) (handle_by (after_use c s t) (snapshot_of (seat_of (after_use c s t) s).state) t name held)) (use_leaves c s t there inside).there)

open_runs : (c : CoreState) (s name t : ℕ) (key : ℤ) (column : ℕ) (due : OpenDue c s name t key) → IsSession c.seats s → (seat_of c s).job ≡ jobs.Submitted (commands.Open name t key column) → is_granted (reply_due c s (commands.Open name t key column)) ≡ true → PartsAreSound c → IsSound c
    → Runs c s (commands.Open name t key column) (after_open c s t name (held_in (cell_of due.old.stored.cells column))) (told_then c s (commands.Open name t key column))
open_runs c s name t key column due there is granted parts sound m told counted stands =
    let opened = open_of c m told s there stands due.inside in
    let tr = opened.0 in
    let in_use = with_session m s (plain.Open (with_use m tr t)) in
    let has : session_of in_use s ≡ plain.Open (with_use m tr t) = session_in_use c m told s (plain.Open (with_use m tr t)) there stands in
    let same = ap (λ (x : Session). answered reply (effect in_use s (transaction_of x) command)) has in
    subst (λ (a : Answered). Stands (after_open c s t name held) a.after (slice_set told (s - 1) (Some a.reply)) × Says command (seat_of (after_open c s t name held) s).job (told_then c s command) a.reply)
    (sym (granted_answer c s command m in_use told there is granted parts sound stands (used_at m s t tr stands.upkeep opened.1) ∙ same)) (
      open_stands u s t command name held (snapshot_of (seat_of u s).state) in_use told reply (with_use m tr t) (unwrap_or (value_at (plain_rows.row_at (view_of in_use (with_use m tr t)) (place t key)) column) []) its.begins.there its.begins.is
          (sound_used c s t there due.inside (ap is_past_moment is) sound) refl (bytes tr opened.1) (stands_used c m told s t tr there (ap is_past_moment is) sound stands opened.1) has,
      (refl, open_over c s name t held there due.inside),
    )
  where
    command : Command
    command = commands.Open name t key column

    reply : Reply
    reply = reply_due c s (commands.Open name t key column)

    held : Held
    held = held_in (cell_of due.old.stored.cells column)

    u : CoreState
    u = after_use c s t

    its : Opens (after_use c s t) s t (commands.Open name t key column) key due.old column name
    its = open_is c s name t key column due there is sound

    toast : Store
    toast = (table_at c.tables t).toast

    bytes : (tr : Transaction) → session_of m s ≡ plain.Open tr
        → unwrap_or (value_at (plain_rows.row_at (view_of (with_session m s (plain.Open (with_use m tr t))) (with_use m tr t)) (place t key)) column) [] ≡ held_value (after_use c s t).tables t (held_in (cell_of due.old.stored.cells column))
    bytes tr is_open_as =
        let fits = fits_at c s (commands.Open name t key column) there sound is in
        let seen = seen_is c m s t key tr there (table_in c t fits.of_table) (ap is_past_moment is) sound parts (open_as c m told s tr there stands is_open_as) ∙ ap (option_map (values_found toast)) due.found in
        ap (λ (o : Option Row). unwrap_or (value_at (unwrap_or o []) column) []) seen
        ∙ ap (λ (value : Option (List ℕ)). unwrap_or value []) (value_of_cell toast due.old.stored.cells column fits.from_one)
        ∙ held_bytes c.tables t (cell_of due.old.stored.cells column)
        ∙ ap (λ (tables : List Table). held_value tables t (held_in (cell_of due.old.stored.cells column))) (sym (use_leaves c s t there due.inside).tables)

pub open_begins : (name t : ℕ) (key : ℤ) (column : ℕ) → Begins (commands.Open name t key column)
open_begins name t key column = record {
  sound = λ c s there is granted parts sound.
      let due = open_granted c s name t key column granted in
      let used = sound_used c s t there due.inside (ap is_past_moment is) sound in
      subst (λ (line : MomentLine). IsSound (at_moment line c s)) (sym (open_line c s name t key column due.old due.found))
      (open_sound (after_use c s t) s t (commands.Open name t key column) key due.old column name (snapshot_of (seat_of (after_use c s t) s).state) (open_is c s name t key column due there is sound) used refl);
  runs = λ c s there is granted parts sound.
      let due = open_granted c s name t key column granted in
      subst (λ (line : MomentLine). Runs c s (commands.Open name t key column) (at_moment line c s) (told_then c s (commands.Open name t key column))) (sym (open_line c s name t key column due.old due.found)) (open_runs c s name t key column due there is granted parts sound);
  falls = λ c s there is granted.
      let due = open_granted c s name t key column granted in
      subst (λ (line : MomentLine). left (at_moment line c s) s < left c s) (sym (open_line c s name t key column due.old due.found))
      (left_over c (after_open c s t name (held_in (cell_of due.old.stored.cells column))) s (commands.Open name t key column) is (open_over c s name t (held_in (cell_of due.old.stored.cells column)) there due.inside));
}
