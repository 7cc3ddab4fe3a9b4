-- The moments of a get and of a part, by what they find.
use Rattle.std.proofs.Common.{ap, refl, subst, sym, ◌∙◌}
use Rattle.std.specs.Option.{option_map_or, unwrap_or}
use Rattle.std.specs.Prelude.{Bool, None, Option, Some, [], false, if◌then◌else◌, map, negsuc, pos, slice_index_or, slice_set, true, ℕ, ℤ, ◌-◌, ◌∷◌, ◌≡◌}
use Rattle.tuple_layout.specs.Slices.{slice}
use Rattle.tuple_layout.specs.declared.cell.Cell.{Cell}
use Rattle.tuple_layout.specs.declared.cell.Cell.TheVariants.{Inline, Null, Out}
use Rattle.tuple_layout.specs.declared.cell.Stored.{Stored}
use Rattle.toast_store.specs.Stores.{Store}
use Rattle.command_set.specs.Replies.{answers_if, bad_offset, first_of}
use Rattle.command_set.specs.declared.Command.{Command}
use Rattle.command_set.specs.declared.Reply.{Reply}
use Rattle.table_rows.proofs.Worlds.{key_is}
use Rattle.table_state.specs.Rows.{cell_value}
use Rattle.slice_fetch.specs.declared.Span.{Span}
use Rattle.read_steps.specs.declared.wanted.Wanted.{Wanted}
use Rattle.read_steps.specs.Reads.{Reading, cell_of, needs_store, reply_of}
use Rattle.write_steps.specs.declared.stage.OldRow.{OldRow}
use Rattle.core_state.specs.Begun.{part_wanted, row_read}
use Rattle.core_state.specs.Events.{GivenUp, Looked, ReadBegun, at_moment, line_due, line_reading}
use Rattle.snapshot_registry.specs.Snapshots.{after_take, least_free}
use Rattle.core_state.specs.Lines.{after_failing, after_looking, after_read_begun, after_use, failed_state, seated}
use Rattle.core_state.specs.Stands.{row_in_table}
use Rattle.core_state.specs.State.{CoreState, IsSession, is_open, is_past_moment, is_repeatable, nobody, seat_of, table_at}
use Rattle.core_state.specs.Views.{in_view, row_seen}
use Rattle.core_state.specs.declared.advance.Advance.{Advance}
use Rattle.core_state.specs.declared.seat.Seat.{Seat}
use Rattle.core_state.proofs.Seats.{seat_written}
use Rattle.core_looks.proofs.Found.{found_is}
use Rattle.core_looks.specs.Due.{absent_due, cells_found, granted_due, is_null, null_due, reply_due}
use Rattle.core_reads.proofs.Replies.{part_due, row_comes}
use Rattle.core_reads.proofs.Using.{use_leaves}
use Rattle.core_looks.proofs.Sights.{table_made}
use Rattle.core_parts.proofs.Made.{first_inside, made_on, made_over}
use Rattle.core_parts.specs.Found.{size_found}
use Rattle.core_parts.specs.Moments.{IsMade, told_at}
use Rattle.core_reading.proofs.Found.{part_comes_seen, part_of, whole_seen}
use Rattle.core_reading.specs.Reads.{BeginsRead, HasFound, IsInside, MakesPart}
use Rattle.core_reading.specs.Spans.{span_due}
use Rattle.command_set.specs.declared.Command.TheVariants as commands
use Rattle.command_set.specs.declared.Reply.TheVariants as replies
use Rattle.core_state.specs.declared.advance.Advance.TheVariants as advances
use Rattle.core_state.specs.declared.seat.Job.TheVariants as jobs
use Rattle.read_steps.specs.declared.wanted.Wanted.TheVariants as wanteds

-- ---- the seat then

looked_over : (c : CoreState) (s t : ℕ) → IsSession c.seats s → is_open (seat_of c s).state ≡ true → (seat_of (after_looking c s t) s).job ≡ jobs.Idle
looked_over c s t there inside =
    ap (λ (seat : Seat). seat.job) (seat_written (after_use c s t).seats s (record (seat_of (after_use c s t) s) { state = (seat_of (after_use c s t) s).state; job = jobs.Idle }) (use_leaves c s t there inside).there)

reads_past : (u : CoreState) (s t : ℕ) (snapshot : Option ℕ) (read : Reading) → IsSession u.seats s → is_past_moment (slice_index_or (slice_set u.seats (s - 1) (record (seat_of u s) { job = jobs.Reading t snapshot read })) (s - 1) nobody).job ≡ true
reads_past u s t snapshot read there = ap (λ (seat : Seat). is_past_moment seat.job) (seat_written u.seats s (record (seat_of u s) { job = jobs.Reading t snapshot read }) there)

begun_past : (c : CoreState) (s t : ℕ) (read : Reading) → IsSession c.seats s → is_open (seat_of c s).state ≡ true → is_past_moment (seat_of (after_read_begun c s t read) s).job ≡ true
begun_past c s t read there inside = by (is_repeatable (seat_of u s).state)
  where
    u : CoreState
    u = after_use c s t

    by : (b : Bool)
        → is_past_moment (seat_of (if b then seated u s (record (seat_of u s) { job = jobs.Reading t None read }) else seated (record u { snaps = after_take u.snaps u.xacts }) s (record (seat_of u s) { job = jobs.Reading t (Some (least_free u.snaps)) read })) s).job ≡ true
    by true = reads_past (after_use c s t) s t None read (use_leaves c s t there inside).there
    by false = reads_past (after_use c s t) s t (Some (least_free (after_use c s t).snaps)) read (use_leaves c s t there inside).there

-- ---- by the line

-- a command that is over once it has used its table
pub looked_made : (c : CoreState) (s t : ℕ) (command : Command) (reply : Reply) (new : CoreState) (advance : Advance) → IsInside c s t → reply_due c s command ≡ reply → line_due c s command reply ≡ Looked t → new ≡ after_looking c s t → advance ≡ advances.Done reply
    → IsMade c s command new advance
looked_made c s t command reply new advance inside due line is told =
    made_over c s command reply (Looked t) new advance due line is (ap (λ (v : CoreState). (seat_of v s).job) is ∙ looked_over c s t inside.ready.there inside.inside) told

-- a read that has begun, or was answered
pub reading_made : (c : CoreState) (s t : ℕ) (command : Command) (read : Reading) (reply : Reply) (new : CoreState) (advance : Advance) → IsInside c s t → reply_due c s command ≡ reply → line_due c s command reply ≡ line_reading t read
    → reply_of (table_at c.tables t).toast read ≡ Some reply → BeginsRead c s t read new advance → IsMade c s command new advance
reading_made c s t command read reply new advance inside due line comes begins = by (needs_store read) refl
  where
    told : advance ≡ told_at (needs_store read) reply
    told = begins.told reply comes

    by : (b : Bool) → needs_store read ≡ b → IsMade c s command new advance
    by true e =
        let is : new ≡ at_moment (ReadBegun t read) c s = begins.is ∙ ap (λ (b : Bool). at_moment (if b then ReadBegun t read else Looked t) c s) e in
        made_on c s command reply (line_reading t read) new advance due line begins.is (ap (λ (v : CoreState). is_past_moment (seat_of v s).job) is ∙ begun_past c s t read inside.ready.there inside.inside) (told ∙ ap (λ (b : Bool). told_at b reply) e)
    by false e =
        let is : new ≡ at_moment (Looked t) c s = begins.is ∙ ap (λ (b : Bool). at_moment (if b then ReadBegun t read else Looked t) c s) e in
        made_over c s command reply (line_reading t read) new advance due line begins.is (ap (λ (v : CoreState). (seat_of v s).job) is ∙ looked_over c s t inside.ready.there inside.inside) (told ∙ ap (λ (b : Bool). told_at b reply) e)

-- ---- a get

-- the key of a row that was found
key_found : (c : CoreState) (s t : ℕ) (key : ℤ) (old : OldRow) → row_seen c s t key ≡ Some old → old.stored.key ≡ key
key_found c s t key old found =
    let its = found_is (in_view c.xacts c.snaps (seat_of c s).state) (table_at c.tables t) key old found in
    ap (λ (stored : Stored). stored.key) its.stored ∙ key_is its.version.key key its.of_key

pub get_made : (c : CoreState) (s t : ℕ) (key : ℤ) (old : OldRow) (read : Reading) (new : CoreState) (advance : Advance) → IsInside c s t → row_seen c s t key ≡ Some old → read ≡ row_read s wanteds.Row old → BeginsRead c s t read new advance → IsMade c s (commands.Get t key) new advance
get_made c s t key old read new advance inside seen is begins =
    reading_made c s t (commands.Get t key) (row_read s wanteds.Row old) (replies.Row key (map (cell_value (table_at c.tables t).toast) old.stored.cells)) new advance inside
    (first_inside (seat_of c s).state (absent_due (row_seen c s t key) ∷ []) (granted_due c s (commands.Get t key)) inside.inside
    ∙ ap (λ (o : Option OldRow). first_of (absent_due o ∷ []) (replies.Row key (row_in_table c.tables t (cells_found o)))) seen)
    (ap (λ (o : Option OldRow). option_map_or (λ (its : OldRow). line_reading t (row_read s wanteds.Row its)) o (Looked t)) seen)
    (row_comes (table_at c.tables t).toast s old.stored (table_made c t inside.of_table inside.ready.parts).toast (whole_seen c s t key old inside seen)
    ∙ ap (λ (k : ℤ). Some (replies.Row k (map (cell_value (table_at c.tables t).toast) old.stored.cells))) (key_found c s t key old seen))
    (subst (λ (r : Reading). BeginsRead c s t r new advance) is begins)

-- ---- a part

abbrev part_granted : CoreState → ℕ → ℕ → ℤ → ℤ → Option OldRow → Reply
part_granted c t column offset len o = replies.Bytes (slice (unwrap_or (cell_value (table_at c.tables t).toast (cell_of (cells_found o) column)) []) offset len)

-- what is due of a row that is there
part_rest : (c : CoreState) (s t : ℕ) (key : ℤ) (column : ℕ) (offset len : ℤ) (old : OldRow) → IsInside c s t → row_seen c s t key ≡ Some old
    → reply_due c s (commands.Part t key column offset len) ≡ first_of (answers_if (is_null (cell_of old.stored.cells column)) replies.Null ∷ bad_offset offset ∷ []) (part_granted c t column offset len (Some old))
part_rest c s t key column offset len old inside seen =
    first_inside (seat_of c s).state (absent_due (row_seen c s t key) ∷ null_due (row_seen c s t key) column ∷ bad_offset offset ∷ []) (granted_due c s (commands.Part t key column offset len)) inside.inside
    ∙ ap (λ (o : Option OldRow). first_of (absent_due o ∷ null_due o column ∷ bad_offset offset ∷ []) (part_granted c t column offset len o)) seen

-- a null has no bytes
size_none : (cell : Cell) → size_found cell ≡ None → is_null cell ≡ true
size_none Null e = refl
size_none (Inline value) e = absurd (cc)
size_none (Out pointer) e = absurd (cc)

size_some : (cell : Cell) (size : ℕ) → size_found cell ≡ Some size → is_null cell ≡ false
size_some Null size e = absurd (cc)
size_some (Inline value) size e = refl
size_some (Out pointer) size e = refl

pub part_null : (c : CoreState) (s t : ℕ) (column : ℕ) (offset len : ℤ) (old : OldRow) (new : CoreState) (advance : Advance) → HasFound c s t old column → size_found (cell_of old.stored.cells column) ≡ None → new ≡ after_looking c s t → advance ≡ advances.Done replies.Null
    → MakesPart c s t old column offset len new advance
part_null c s t column offset len old new advance found none is told = record {
  made = λ key seen.
      looked_made c s t (commands.Part t key column offset len) replies.Null new advance found.inside
      (part_rest c s t key column offset len old found.inside seen
      ∙ ap (λ (b : Bool). first_of (answers_if b replies.Null ∷ bad_offset offset ∷ []) (part_granted c t column offset len (Some old))) (size_none (cell_of old.stored.cells column) none))
      refl is told;
}

-- an offset before the first byte fails the transaction
part_below : (c : CoreState) (s t : ℕ) (column size n : ℕ) (len : ℤ) (old : OldRow) (new : CoreState) (advance : Advance) → HasFound c s t old column → size_found (cell_of old.stored.cells column) ≡ Some size → new ≡ after_failing c s → advance ≡ advances.Done replies.BadOffset
    → MakesPart c s t old column (negsuc n) len new advance
part_below c s t column size n len old new advance found some is told = record {
  made = λ key seen.
      made_over c s (commands.Part t key column (negsuc n) len) replies.BadOffset (GivenUp (failed_state (seat_of c s).state)) new advance
      (part_rest c s t key column (negsuc n) len old found.inside seen
      ∙ ap (λ (b : Bool). first_of (answers_if b replies.Null ∷ bad_offset (negsuc n) ∷ []) (part_granted c t column (negsuc n) len (Some old))) (size_some (cell_of old.stored.cells column) size some))
      refl is
      (ap (λ (v : CoreState). (seat_of v s).job) is ∙ ap (λ (seat : Seat). seat.job) (seat_written c.seats s (record { state = failed_state (seat_of c s).state; handles = []; job = jobs.Idle }) found.inside.ready.there))
      told;
}

pub part_refused : (c : CoreState) (s t : ℕ) (column size : ℕ) (offset len : ℤ) (old : OldRow) (new : CoreState) (advance : Advance) → HasFound c s t old column → size_found (cell_of old.stored.cells column) ≡ Some size → span_due size offset len ≡ None
    → new ≡ after_failing c s → advance ≡ advances.Done replies.BadOffset → MakesPart c s t old column offset len new advance
part_refused c s t column size (pos n) len old new advance found some none is told = absurd (cc)
part_refused c s t column size (negsuc n) len old new advance found some none is told = part_below c s t column size n len old new advance found some is told

-- of a column that is not null
slice_due : (toast : Store) (n : ℕ) (len : ℤ) (cell : Cell) → is_null cell ≡ false → replies.Bytes (slice (unwrap_or (cell_value toast cell) []) (pos n) len) ≡ part_due toast n len cell
slice_due toast n len Null e = absurd (cc)
slice_due toast n len (Inline value) e = refl
slice_due toast n len (Out pointer) e = refl

part_from : (c : CoreState) (s t : ℕ) (column size n : ℕ) (len : ℤ) (old : OldRow) (new : CoreState) (advance : Advance) → HasFound c s t old column → size_found (cell_of old.stored.cells column) ≡ Some size
    → BeginsRead c s t (row_read s (part_wanted old column (pos n) len) old) new advance → MakesPart c s t old column (pos n) len new advance
part_from c s t column size n len old new advance found some begins = record {
  made = λ key seen.
      let valued = size_some (cell_of old.stored.cells column) size some in
      let due : reply_due c s (commands.Part t key column (pos n) len) ≡ part_due (table_at c.tables t).toast n len (cell_of old.stored.cells column) = part_rest c s t key column (pos n) len old found.inside seen
      ∙ ap (λ (b : Bool). first_of (answers_if b replies.Null ∷ bad_offset (pos n) ∷ []) (part_granted c t column (pos n) len (Some old))) valued
      ∙ slice_due (table_at c.tables t).toast n len (cell_of old.stored.cells column) valued in
      reading_made c s t (commands.Part t key column (pos n) len) (row_read s (part_wanted old column (pos n) len) old) (part_due (table_at c.tables t).toast n len (cell_of old.stored.cells column)) new advance found.inside due
      (granted_line (cell_of old.stored.cells column) valued key seen)
      (part_comes_seen c s t key old column n len found.inside seen) begins;
}
  where
    granted_line : (cell : Cell) → is_null cell ≡ false → (key : ℤ) → row_seen c s t key ≡ Some old
        → line_due c s (commands.Part t key column (pos n) len) (part_due (table_at c.tables t).toast n len cell) ≡ line_reading t (row_read s (part_wanted old column (pos n) len) old)
    granted_line Null e key seen = absurd (cc)
    granted_line (Inline value) e key seen = ap (λ (o : Option OldRow). option_map_or (λ (its : OldRow). line_reading t (row_read s (part_wanted its column (pos n) len) its)) o (Looked t)) seen
    granted_line (Out pointer) e key seen = ap (λ (o : Option OldRow). option_map_or (λ (its : OldRow). line_reading t (row_read s (part_wanted its column (pos n) len) its)) o (Looked t)) seen

pub part_made : (c : CoreState) (s t : ℕ) (column size : ℕ) (offset len : ℤ) (span : Span) (read : Reading) (old : OldRow) (new : CoreState) (advance : Advance) → HasFound c s t old column → size_found (cell_of old.stored.cells column) ≡ Some size
    → span_due size offset len ≡ Some span → read ≡ row_read s (wanteds.Part column span) old → BeginsRead c s t read new advance → MakesPart c s t old column offset len new advance
part_made c s t column size offset len span read old new advance found some due is begins =
    let part = part_of old column size offset len span some due in
    let same : read ≡ row_read s (part_wanted old column (pos part.n) len) old = is ∙ ap (λ (wanted : Wanted). row_read s wanted old) part.wanted in
    subst (λ (o : ℤ). MakesPart c s t old column o len new advance) (sym part.is)
    (part_from c s t column size part.n len old new advance found some (subst (λ (r : Reading). BeginsRead c s t r new advance) same begins))
