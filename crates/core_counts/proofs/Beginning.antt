-- At its moment a granted command has all but one of its turns before it.
use Rattle.std.proofs.Common.{ap, arith, refl, subst, sym, ◌∙◌}
use Rattle.std.specs.FinMap as map
use Rattle.std.specs.Option.{option_map, option_map_or, unwrap_or}
use Rattle.std.specs.Prelude.{Bool, List, None, Option, Some, [], false, if◌then◌else◌, length, map as mapped, negsuc, pos, slice_get, slice_index_or, suc, true, zero, ℕ, ℤ, ◌+◌, ◌-◌, ◌∷◌, ◌≡◌, ◌≤◌}
use Rattle.external_pointer.specs.declared.external.Pointer.{Pointer}
use Rattle.tuple_layout.proofs.HeaderRead.{length-tuple}
use Rattle.tuple_layout.specs.Places.{Row, Rows}
use Rattle.tuple_layout.specs.Schemas.{TableSchema}
use Rattle.tuple_layout.specs.Tuples.{row_size}
use Rattle.tuple_layout.specs.declared.cell.Cell.{Cell}
use Rattle.tuple_layout.specs.declared.cell.Cell.TheVariants.{Null}
use Rattle.tuple_layout.specs.declared.cell.Stored.{Stored}
use Rattle.snapshot_registry.specs.Snapshots.{after_take, least_free}
use Rattle.toast_store.specs.Values.{Whole, value_in}
use Rattle.command_set.specs.Answers.{table_of}
use Rattle.command_set.specs.Changes.{place}
use Rattle.command_set.specs.Plain.{value_at, view_of}
use Rattle.command_set.specs.Replies.{is_granted, transaction_of}
use Rattle.command_set.specs.declared.Command.{Command}
use Rattle.command_set.specs.declared.Reply.{Reply}
use Rattle.command_set.specs.declared.Set.{Set}
use Rattle.command_set.specs.declared.state.Plain.{Plain}
use Rattle.command_set.specs.declared.state.Session.{Session}
use Rattle.command_set.specs.declared.state.Transaction.{Transaction}
use Rattle.table_state.specs.Rows.{cell_value}
use Rattle.table_state.specs.Tables.{stored_of}
use Rattle.read_steps.specs.Reads.{Reading, cell_of, held_read, needs_store}
use Rattle.write_steps.specs.Writes.{Writing}
use Rattle.write_steps.specs.declared.stage.OldRow.{OldRow}
use Rattle.core_state.proofs.Seats.{seat_there, seat_written, sound_of}
use Rattle.core_state.specs.Begun.{cells_with, held_size, inserted_row, keys_claimed, part_wanted, row_read, span_of, updated_row, write_begun}
use Rattle.core_state.specs.Commands.{AreSetsOf}
use Rattle.core_state.specs.Events.{Event, FetchBegun, IsDue, Looked, MomentLine, Over, ReadBegun, WriteBegun, at_moment, line_due, line_fetching, line_granted, line_reading, line_refused}
use Rattle.core_state.specs.Facts.{IsSound, PartsAreSound}
use Rattle.core_state.specs.Lines.{after_fetch_begun, after_use, seated}
use Rattle.core_state.specs.Stands.{Stands}
use Rattle.core_state.specs.State.{CoreState, IsSession, IsTableOf, is_open, is_past_moment, is_repeatable, schemas_of, seat_of, table_at, xid_of}
use Rattle.core_state.specs.Views.{held_value, row_seen}
use Rattle.core_state.specs.declared.advance.Advance.{Advance}
use Rattle.core_state.specs.declared.seat.Handle.{Handle}
use Rattle.core_state.specs.declared.seat.Job.{Job}
use Rattle.core_state.specs.declared.seat.Seat.{Seat}
use Rattle.core_looks.proofs.Before.{fits_at, schema_is, table_in}
use Rattle.core_looks.proofs.Found.{values_found}
use Rattle.core_looks.proofs.Sights.{table_made, table_sound}
use Rattle.core_looks.proofs.Used.{session_used}
use Rattle.core_looks.proofs.Views.{open_as, seen_is, view_used}
use Rattle.core_looks.proofs.Whole.{seen_long, seen_row_is, seen_whole}
use Rattle.core_looks.specs.Due.{absent_due, busy_due, changed_due, granted_due, reply_due, taken_due, too_big_once}
use Rattle.core_reads.proofs.Begun.{runs_of}
use Rattle.core_reads.proofs.Due.{grants_found, grants_inside}
use Rattle.core_reads.proofs.Fetched.{fetch_granted, handle_there, kept_whole}
use Rattle.core_reads.proofs.Moments.{open_of}
use Rattle.core_reads.proofs.Replies.{pointer_of_column}
use Rattle.core_reads.proofs.Wanted.{get_due, part_found}
use Rattle.core_writes.proofs.Runs.{job_begun}
use Rattle.core_counts.proofs.Reading.{unneeded}
use Rattle.core_counts.proofs.Sets.{sets_least}
use Rattle.core_counts.proofs.Sizes.{AreShortCells, fits_short, short_column}
use Rattle.core_counts.proofs.Values.{below_counts, column_value, held_counts, inserted_counts, row_counts, slice_counts}
use Rattle.core_counts.proofs.Writing.{from_least}
use Rattle.core_counts.specs.Counts.{least_turns, own_of, row_of, row_turns, set_turns, slice_turns, turns_of, whole_turns}
use Rattle.core_counts.specs.Laws.{CountsBegin, IsGrantedIn}
use Rattle.core_counts.specs.Least.{inlines_least, job_least, read_least, write_least}
use Rattle.command_set.specs.declared.Command.TheVariants as commands
use Rattle.core_state.specs.declared.advance.Advance.TheVariants as advances
use Rattle.core_state.specs.declared.seat.Job.TheVariants as jobs
use Rattle.read_steps.specs.declared.wanted.Held.TheVariants as helds
use Rattle.read_steps.specs.declared.wanted.Wanted.TheVariants as wanteds

-- ---- the rows that a session sees

-- each value in line of a row that is seen is one that its tuple can hold
pub seen_short : (c : CoreState) (s t : ℕ) (key : ℤ) (old : OldRow) → IsSession c.seats s → IsTableOf c.tables t → IsSound c → PartsAreSound c → row_seen c s t key ≡ Some old → AreShortCells old.stored.cells
seen_short c s t key old there of sound parts seen =
    let row = seen_row_is c s t key old there sound seen in
    let storages = (table_at c.tables t).rows.schema.storages in
    let made = table_made c t of parts in
    let its = ((table_sound c t of sound).tuples old.tid row.version row.there).stored in
    let most = (made.rows.sized old.tid row.version row.there).most in
    let size : length row.version.tuple ≡ row_size storages (Stored.cells (stored_of storages row.version)) = ap length its.is ∙ length-tuple storages (stored_of storages row.version) made.columns.1 its.has.one_each in
    subst AreShortCells row.cells (fits_short storages (Stored.cells (stored_of storages row.version)) its.has.one_each (omega (arith, size, most)))

-- the plain store's row
row_is : (c : CoreState) (s t : ℕ) (key : ℤ) (old : OldRow) (m : Plain) (told : List (Option Reply)) → IsSession c.seats s → IsTableOf c.tables t → is_past_moment (seat_of c s).job ≡ false → is_open (seat_of c s).state ≡ true → IsSound c → PartsAreSound c → Stands c m told
    → row_seen c s t key ≡ Some old → row_of m s t key ≡ mapped (cell_value (table_at c.tables t).toast) old.stored.cells
row_is c s t key old m told there of before inside sound parts stands seen =
    let opened = open_of c m told s there stands inside in
    let tr : Transaction = opened.0 in
    ap (λ (session : Session). unwrap_or (map.get (view_of m (transaction_of session)) (place t key)) []) opened.1
    ∙ ap (λ (rows : Rows). unwrap_or (map.get rows (place t key)) []) (sym (view_used m tr t))
    ∙ ap (λ (o : Option Row). unwrap_or o []) (seen_is c m s t key tr there of before sound parts (open_as c m told s tr there stands opened.1))
    ∙ ap (λ (o : Option OldRow). unwrap_or (option_map (values_found (table_at c.tables t).toast) o) []) seen

-- ---- the job that goes on

-- a read that needs nothing of the store is over
read_job : (c : CoreState) (s t : ℕ) (read : Reading) → IsSession c.seats s → read_least read.stage ≤ job_least (seat_of (at_moment (line_reading t read) c s) s).job
read_job c s t read there = by (needs_store read) refl
  where
    goes : (b : Bool)
        → read_least read.stage ≤ job_least
        (seat_of
        (if b
        then seated (after_use c s t) s (record (seat_of (after_use c s t) s) { job = jobs.Reading t None read })
        else seated (record (after_use c s t) { snaps = after_take (after_use c s t).snaps (after_use c s t).xacts }) s (record (seat_of (after_use c s t) s) { job = jobs.Reading t (Some (least_free (after_use c s t).snaps)) read })) s).job
    goes true =
        let its = seat_written (after_use c s t).seats s (record (seat_of (after_use c s t) s) { job = jobs.Reading t None read }) (session_used c s t there) in
        let same : job_least (seat_of (seated (after_use c s t) s (record (seat_of (after_use c s t) s) { job = jobs.Reading t None read })) s).job ≡ read_least read.stage = ap (λ (seat : Seat). job_least seat.job) its in
        omega (arith, same)
    goes false =
        let seat : Seat = record (seat_of (after_use c s t) s) { job = jobs.Reading t (Some (least_free (after_use c s t).snaps)) read } in
        let its = seat_written (after_use c s t).seats s seat (session_used c s t there) in
        let same : job_least (seat_of (seated (record (after_use c s t) { snaps = after_take (after_use c s t).snaps (after_use c s t).xacts }) s seat) s).job ≡ read_least read.stage = ap (λ (x : Seat). job_least x.job) its in
        omega (arith, same)

    by : (b : Bool) → needs_store read ≡ b → read_least read.stage ≤ job_least (seat_of (at_moment (if b then ReadBegun t read else Looked t) c s) s).job
    by true is = goes (is_repeatable (seat_of (after_use c s t) s).state)
    by false is =
        let none = unneeded read.session read.stage is in
        omega (arith, none)

fetch_job : (c : CoreState) (s t : ℕ) (read : Reading) → IsSession c.seats s → read_least read.stage ≤ job_least (seat_of (at_moment (line_fetching (seat_of c s).state t read) c s) s).job
fetch_job c s t read there = by (needs_store read) refl
  where
    by : (b : Bool) → needs_store read ≡ b → read_least read.stage ≤ job_least (seat_of (at_moment (if b then FetchBegun t read else Over (seat_of c s).state) c s) s).job
    by true is =
        let its = seat_written c.seats s (record (seat_of c s) { job = jobs.Reading t None read }) there in
        let same : job_least (seat_of (after_fetch_begun c s t read) s).job ≡ read_least read.stage = ap (λ (seat : Seat). job_least seat.job) its in
        omega (arith, same)
    by false is =
        let none = unneeded read.session read.stage is in
        omega (arith, none)

write_job : (c : CoreState) (s t : ℕ) (keys : List ℤ) (write : Writing) → IsSession c.seats s → job_least (seat_of (at_moment (WriteBegun t keys write) c s) s).job ≡ write_least write.stage
write_job c s t keys write there = ap job_least (job_begun c s t keys write (session_used c s t there))

-- ---- each command

-- what is left of a command's turns after its moment
abbrev Leaves : CoreState → ℕ → Command → Plain → Type 0
Leaves c s command m = least_turns m s command ≤ suc (job_least (seat_of (at_moment (line_granted c s command) c s) s).job)

-- before its moment
before : (c : CoreState) (s : ℕ) (command : Command) (m : Plain) → IsGrantedIn c s command m → is_past_moment (seat_of c s).job ≡ false
before c s command m of = ap is_past_moment of.is

get_leaves : (c : CoreState) (s t : ℕ) (key : ℤ) (m : Plain) → IsGrantedIn c s (commands.Get t key) m → Leaves c s (commands.Get t key) m
get_leaves c s t key m of =
    let at = of.at in
    let due = get_due c s t key of.granted in
    let table = table_in c t (fits_at c s (commands.Get t key) at.there at.sound of.is) in
    let line : line_granted c s (commands.Get t key) ≡ line_reading t (row_read s wanteds.Row due.old) = ap (λ (o : Option OldRow). option_map_or (λ (its : OldRow). line_reading t (row_read s wanteds.Row its)) o (Looked t)) due.found in
    let row = ap (row_turns whole_turns) (row_is c s t key due.old m of.told at.there table (before c s (commands.Get t key) m of) due.inside at.sound at.parts of.stands due.found) in
    let counts = row_counts (table_at c.tables t).toast due.old.stored.cells (seen_short c s t key due.old at.there table at.sound at.parts due.found) (λ pointer e. seen_whole c s t key due.old pointer at.there table at.sound due.found e) in
    let job = read_job c s t (row_read s wanteds.Row due.old) at.there in
    subst (λ (l : MomentLine). least_turns m s (commands.Get t key) ≤ suc (job_least (seat_of (at_moment l c s) s).job)) (sym line) (omega (arith, row, counts, job))

-- the value of a column of a row
column_is : (c : CoreState) (t : ℕ) (cells : List Cell) (column : ℕ) (row : Row) (f : Option (List ℕ) → ℕ) → row ≡ mapped (cell_value (table_at c.tables t).toast) cells → f None ≡ 0 → f (value_at row column) ≤ f (cell_value (table_at c.tables t).toast (cell_of cells column))
column_is c t cells zero row f is none = omega (arith, none)
column_is c t cells (suc i) row f is none =
    let back : suc i - 1 ≡ i = omega arith in
    let value : value_at row (suc i) ≡ cell_value (table_at c.tables t).toast (cell_of cells (suc i)) =
    ap (λ (r : Row). unwrap_or (slice_get r i) None) is ∙ column_value (table_at c.tables t).toast cells i ∙ ap (λ (k : ℕ). cell_value (table_at c.tables t).toast (slice_index_or cells k Null)) (sym back) in
    let same = ap f value in
    omega (arith, same)

part_leaves : (c : CoreState) (s t : ℕ) (key : ℤ) (column n : ℕ) (len : ℤ) (m : Plain) → IsGrantedIn c s (commands.Part t key column (pos n) len) m → Leaves c s (commands.Part t key column (pos n) len) m
part_leaves c s t key column n len m of =
    let command = commands.Part t key column (pos n) len in
    let at = of.at in
    let due = part_found c s t key column n len of.granted in
    let toast = (table_at c.tables t).toast in
    let cells = due.old.stored.cells in
    let table = table_in c t (fits_at c s command at.there at.sound of.is).of_table in
    let read = row_read s (part_wanted due.old column (pos n) len) due.old in
    let line : line_granted c s command ≡ line_reading t read = ap (λ (o : Option OldRow). option_map_or (λ (its : OldRow). line_reading t (row_read s (part_wanted its column (pos n) len) its)) o (Looked t)) due.found in
    let row = row_is c s t key due.old m of.told at.there table (before c s command m of) due.inside at.sound at.parts of.stands due.found in
    let value = column_is c t cells column (row_of m s t key) (turns_of (slice_turns (pos n) len)) row refl in
    let short = short_column cells (column - 1) (seen_short c s t key due.old at.there table at.sound at.parts due.found) in
    let counts = slice_counts toast n len (cell_of cells column) short (λ pointer e. seen_whole c s t key due.old pointer at.there table at.sound due.found (pointer_of_column cells (column - 1) pointer e)) in
    let job = read_job c s t read at.there in
    subst (λ (l : MomentLine). least_turns m s command ≤ suc (job_least (seat_of (at_moment l c s) s).job)) (sym line) (omega (arith, value, counts, job))

fetch_leaves : (c : CoreState) (s name n : ℕ) (len : ℤ) (m : Plain) → IsGrantedIn c s (commands.Fetch name (pos n) len) m → Leaves c s (commands.Fetch name (pos n) len) m
fetch_leaves c s name n len m of =
    let command = commands.Fetch name (pos n) len in
    let at = of.at in
    let due = fetch_granted c s name n len of.granted in
    let handle = due.handle in
    let open_one = handle_there c s name handle at.there due.at at.sound in
    let its = open_one.1 in
    let read = held_read handle.held (span_of (held_size handle.held) (pos n) len) s in
    let line : line_granted c s command ≡ line_fetching (seat_of c s).state handle.table read =
    ap (λ (o : Option Handle). option_map_or (λ (h : Handle). line_fetching (seat_of c s).state h.table (held_read h.held (span_of (held_size h.held) (pos n) len) s)) o (Over (seat_of c s).state)) due.at in
    let opened = open_of c m of.told s at.there of.stands due.inside in
    let stands = (open_as c m of.told s opened.0 at.there of.stands opened.1).stands in
    let bytes : map.get (own_of m s).handles name ≡ Some (held_value c.tables handle.table handle.held) =
    ap (λ (session : Session). map.get (Transaction.handles (transaction_of session)) name) opened.1 ∙ stands.handles name ∙ ap (option_map (λ (h : Handle). held_value c.tables h.table h.held)) due.at in
    let value : turns_of (slice_turns (pos n) len) (map.get (own_of m s).handles name) ≡ slice_turns (pos n) len (held_value c.tables handle.table handle.held) = ap (turns_of (slice_turns (pos n) len)) bytes in
    let short = of.short.each (s - 1) (seat_of c s) handle (seat_there c.seats s at.there) open_one.0 in
    let runs = runs_of c.xacts s (xid_of (seat_of c s).state) (sound_of c s at.there at.sound).runs in
    let whole : (pointer : Pointer) → handle.held ≡ helds.Out pointer → Whole (table_at c.tables handle.table).toast pointer (value_in (table_at c.tables handle.table).toast pointer) =
    λ pointer e. kept_whole handle.table c.xacts c.snaps (table_at c.tables handle.table) (handle.snapshot ∷ []) (xid_of (seat_of c s).state) pointer (table_sound c handle.table its.of_table at.sound) runs (its.kept pointer e) in
    let counts = held_counts c.tables handle.table n len handle.held short whole in
    let job = fetch_job c s handle.table read at.there in
    subst (λ (l : MomentLine). least_turns m s command ≤ suc (job_least (seat_of (at_moment l c s) s).job)) (sym line) (omega (arith, value, counts, job))

-- a write
insert_leaves : (c : CoreState) (s t : ℕ) (key : ℤ) (row : Row) (m : Plain) → IsSession c.seats s → Leaves c s (commands.Insert t key row) m
insert_leaves c s t key row m there =
    let write = write_begun c s t None (Some (inserted_row key row)) in
    let job = write_job c s t (keys_claimed (commands.Insert t key row)) write there in
    let begins : inlines_least (Stored.cells (inserted_row key row)) + 1 ≤ write_least write.stage = from_least write.owner None (inserted_row key row) _ 0 in
    let counts = inserted_counts row in
    omega (arith, job, begins, counts)

-- the values that are set are in the new row
update_counts : (c : CoreState) (s t : ℕ) (key to : ℤ) (sets : List Set) (old : OldRow) → IsSession c.seats s → IsSound c → row_seen c s t key ≡ Some old → AreSetsOf (schemas_of c.tables) t sets → set_turns sets ≤ inlines_least (cells_with old.stored.cells sets)
update_counts c s t key to sets old there sound seen are =
    let of = table_in c t are.of_table in
    let long = seen_long c s t key old there of sound seen in
    let schema = ap (λ (schema : TableSchema). length schema.storages) (schema_is c t of) in
    sets_least sets 1 old.stored.cells (λ set e. let its = are.columns set e in (its.from_one, omega (arith, its.within, long, schema))) are.once

update_leaves : (c : CoreState) (s t : ℕ) (from to : ℤ) (keys : List ℤ) (sets : List Set) (old : OldRow) → IsSession c.seats s → IsSound c → row_seen c s t from ≡ Some old → AreSetsOf (schemas_of c.tables) t sets
    → 2 + set_turns sets ≤ suc (job_least (seat_of (at_moment (WriteBegun t keys (write_begun c s t (Some old) (Some (updated_row old.stored to sets)))) c s) s).job)
update_leaves c s t from to keys sets old there sound seen are =
    let new = updated_row old.stored to sets in
    let write = write_begun c s t (Some old) (Some new) in
    let job = write_job c s t keys write there in
    let begins : inlines_least (Stored.cells (updated_row old.stored to sets)) + 1 ≤ write_least write.stage = from_least write.owner (Some old) new _ 0 in
    let counts = update_counts c s t from to sets old there sound seen are in
    omega (arith, job, begins, counts)

delete_leaves : (c : CoreState) (s t : ℕ) (keys : List ℤ) (old : OldRow) → IsSession c.seats s → 2 ≤ suc (job_least (seat_of (at_moment (WriteBegun t keys (write_begun c s t (Some old) None)) c s) s).job)
delete_leaves c s t keys old there =
    let job = write_job c s t keys (write_begun c s t (Some old) None) there in
    omega (arith, job)

-- the row of a granted change is there
update_found : (c : CoreState) (s t : ℕ) (key : ℤ) (sets : List Set) → is_granted (reply_due c s (commands.Update t key sets)) ≡ true → (old : OldRow) × (row_seen c s t key ≡ Some old)
update_found c s t key sets granted =
    let reply = granted_due c s (commands.Update t key sets) in
    let old = row_seen c s t key in
    let rest = busy_due c s t key ∷ changed_due c s t key old ∷ too_big_once c t (λ stored. updated_row stored key sets) old ∷ [] in
    let opened = grants_inside (seat_of c s).state (absent_due old ∷ rest) reply granted in
    (grants_found old rest reply opened.rest).is

delete_found : (c : CoreState) (s t : ℕ) (key : ℤ) → is_granted (reply_due c s (commands.Delete t key)) ≡ true → (old : OldRow) × (row_seen c s t key ≡ Some old)
delete_found c s t key granted =
    let reply = granted_due c s (commands.Delete t key) in
    let old = row_seen c s t key in
    let rest = busy_due c s t key ∷ changed_due c s t key old ∷ [] in
    let opened = grants_inside (seat_of c s).state (absent_due old ∷ rest) reply granted in
    (grants_found old rest reply opened.rest).is

rekey_found : (c : CoreState) (s t : ℕ) (from to : ℤ) (sets : List Set) → is_granted (reply_due c s (commands.Rekey t from to sets)) ≡ true → (old : OldRow) × (row_seen c s t from ≡ Some old)
rekey_found c s t from to sets granted =
    let reply = granted_due c s (commands.Rekey t from to sets) in
    let old = row_seen c s t from in
    let rest = busy_due c s t from ∷ changed_due c s t from old ∷ busy_due c s t to ∷ taken_due c s t to ∷ too_big_once c t (λ stored. updated_row stored to sets) old ∷ [] in
    let opened = grants_inside (seat_of c s).state (absent_due old ∷ rest) reply granted in
    (grants_found old rest reply opened.rest).is

-- ---- any command

leaves : (c : CoreState) (s : ℕ) (command : Command) (m : Plain) → IsGrantedIn c s command m → Leaves c s command m
leaves c s (commands.Begin level) m of = omega arith
leaves c s commands.Commit m of = omega arith
leaves c s commands.Rollback m of = omega arith
leaves c s (commands.Get t key) m of = get_leaves c s t key m of
leaves c s (commands.Part t key column (pos n) len) m of = part_leaves c s t key column n len m of
leaves c s (commands.Part t key column (negsuc n) len) m of =
    let none = below_counts n len (value_at (row_of m s t key) column) in
    omega (arith, none)
leaves c s (commands.Open name t key column) m of = omega arith
leaves c s (commands.Fetch name (pos n) len) m of = fetch_leaves c s name n len m of
leaves c s (commands.Fetch name (negsuc n) len) m of =
    let none = below_counts n len (map.get (own_of m s).handles name) in
    omega (arith, none)
leaves c s (commands.Close name) m of = omega arith
leaves c s (commands.Insert t key row) m of = insert_leaves c s t key row m of.at.there
leaves c s (commands.Update t key sets) m of =
    let found = update_found c s t key sets of.granted in
    let line = ap (λ (o : Option OldRow). option_map_or (λ (old : OldRow). WriteBegun t (keys_claimed (commands.Update t key sets)) (write_begun c s t (Some old) (Some (updated_row old.stored key sets)))) o (Looked t)) found.1 in
    subst (λ (l : MomentLine). 2 + set_turns sets ≤ suc (job_least (seat_of (at_moment l c s) s).job)) (sym line)
    (update_leaves c s t key key (keys_claimed (commands.Update t key sets)) sets found.0 of.at.there of.at.sound found.1 (fits_at c s (commands.Update t key sets) of.at.there of.at.sound of.is))
leaves c s (commands.Delete t key) m of =
    let found = delete_found c s t key of.granted in
    let line = ap (λ (o : Option OldRow). option_map_or (λ (old : OldRow). WriteBegun t (keys_claimed (commands.Delete t key)) (write_begun c s t (Some old) None)) o (Looked t)) found.1 in
    subst (λ (l : MomentLine). 2 ≤ suc (job_least (seat_of (at_moment l c s) s).job)) (sym line) (delete_leaves c s t (keys_claimed (commands.Delete t key)) found.0 of.at.there)
leaves c s (commands.Rekey t from to sets) m of =
    let found = rekey_found c s t from to sets of.granted in
    let line = ap (λ (o : Option OldRow). option_map_or (λ (old : OldRow). WriteBegun t (keys_claimed (commands.Rekey t from to sets)) (write_begun c s t (Some old) (Some (updated_row old.stored to sets)))) o (Looked t)) found.1 in
    subst (λ (l : MomentLine). 2 + set_turns sets ≤ suc (job_least (seat_of (at_moment l c s) s).job)) (sym line)
    (update_leaves c s t from to (keys_claimed (commands.Rekey t from to sets)) sets found.0 of.at.there of.at.sound found.1 (fits_at c s (commands.Rekey t from to sets) of.at.there of.at.sound of.is).0)
leaves c s (commands.VacuumMain t) m of = omega arith
leaves c s (commands.VacuumToast t) m of = omega arith
leaves c s (commands.Rewrite t) m of = omega arith

-- the line of a granted reply is that of the granted command
line_of : (c : CoreState) (s : ℕ) (command : Command) (reply : Reply) → is_granted reply ≡ true → line_due c s command reply ≡ line_granted c s command
line_of c s command reply granted = ap (λ (b : Bool). if b then line_granted c s command else line_refused (seat_of c s).state (table_of command) reply) granted

-- what is due where the command is submitted
due_of : (c : CoreState) (s : ℕ) (command : Command) (new : CoreState) (advance : Advance) → (seat_of c s).job ≡ jobs.Submitted command → Event c s new advance → IsDue (jobs.Submitted command) c s new advance
due_of c s command new advance is event = subst (λ (job : Job). IsDue job c s new advance) is event.is

pub counts_begin : CountsBegin
counts_begin = record {
  more = λ c s command m new of event.
      let due = due_of c s command new advances.More of.is event in
      subst (λ (core : CoreState). least_turns m s command ≤ suc (job_least (seat_of core s).job)) (sym due.0) (leaves c s command m of);
  over = λ c s command m new reply of granted event.
      let due = due_of c s command new (advances.Done reply) of.is event in
      let core : new ≡ at_moment (line_granted c s command) c s = due.0 ∙ ap (λ (l : MomentLine). at_moment l c s) (line_of c s command reply granted) in
      let before_it : least_turns m s command ≤ suc (job_least (seat_of new s).job) = subst (λ (its : CoreState). least_turns m s command ≤ suc (job_least (seat_of its s).job)) (sym core) (leaves c s command m of) in
      let idle : job_least (seat_of new s).job ≡ 0 = ap job_least due.1 in
      omega (arith, before_it, idle);
}
