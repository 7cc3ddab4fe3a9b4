-- The granted moments of a get and of a part.
use Rattle.std.proofs.Common.{ap, refl, subst, sym, ◌∙◌}
use Rattle.std.specs.Option.{option_map_or, unwrap_or}
use Rattle.std.specs.Prelude.{Bool, Contains, Option, Some, [], false, if◌then◌else◌, map, negsuc, pos, true, ℕ, ℤ, ◌-◌, ◌<◌, ◌∷◌, ◌≡◌}
use Rattle.list_facts.proofs.Members.{first_in}
use Rattle.external_pointer.specs.declared.external.Pointer.{Pointer}
use Rattle.tuple_layout.specs.Slices.{slice}
use Rattle.tuple_layout.specs.declared.cell.Cell.{Cell}
use Rattle.tuple_layout.specs.declared.cell.Cell.TheVariants.{Inline, Null, Out}
use Rattle.tuple_layout.specs.declared.cell.Stored.{Stored}
use Rattle.toast_store.specs.Stores.{Store}
use Rattle.toast_store.specs.Values.{Whole, value_in}
use Rattle.command_set.specs.Answers.{effect, once_used, refused, table_of, with_use}
use Rattle.command_set.specs.Plain.{session_of, with_session}
use Rattle.command_set.specs.Replies.{bad_offset, first_of, is_granted, transaction_of}
use Rattle.command_set.specs.Replies as plain_replies
use Rattle.command_set.specs.declared.Command.{Command}
use Rattle.command_set.specs.declared.state.Plain.{Plain}
use Rattle.command_set.specs.declared.state.Transaction.{Transaction}
use Rattle.table_rows.proofs.Worlds.{key_is}
use Rattle.table_state.specs.Rows.{cell_value, pointers_in}
use Rattle.read_steps.specs.Reads.{cell_of}
use Rattle.read_steps.specs.declared.stage.ReadStage.{ReadStage}
use Rattle.write_steps.specs.declared.stage.OldRow.{OldRow}
use Rattle.core_looks.specs.Due.{absent_due, cells_found, granted_due, is_null, null_due, reply_due}
use Rattle.core_state.proofs.Answered.{answer_is, answered}
use Rattle.core_state.specs.Begun.{begun, cell_size, job_reading, own_snapshot, part_wanted, row_read, span_of}
use Rattle.core_state.specs.Events.{Looked, MomentLine, at_moment, left, line_granted, line_reading}
use Rattle.core_state.specs.Facts.{IsSound, PartsAreSound}
use Rattle.core_state.specs.Moves.{Runs}
use Rattle.core_state.specs.Stands.{row_in_table}
use Rattle.core_state.specs.State.{CoreState, IsSession, is_open, schemas_of, seat_of, table_at}
use Rattle.core_state.specs.Views.{in_view, row_seen}
use Rattle.core_state.specs.declared.seat.Job.{Job}
use Rattle.core_reads.proofs.Due.{grants_found, grants_inside, grants_unless}
use Rattle.core_reads.proofs.Gets.{Answers, IsGet, falls_get, runs_get, sound_get}
use Rattle.core_looks.proofs.Before.{fits_at, table_in, used_at}
use Rattle.core_looks.proofs.Found.{found_is}
use Rattle.core_looks.proofs.Replies.{reply_is}
use Rattle.core_looks.proofs.Sights.{table_made}
use Rattle.core_reads.proofs.Replies.{AreWhole, part_comes, part_due, row_comes}
use Rattle.core_reads.proofs.Seen.{seen_column}
use Rattle.core_reads.specs.Laws.{Begins, advance_by, told_then}
use Rattle.command_set.specs.declared.Command.TheVariants as commands
use Rattle.command_set.specs.declared.Reply.TheVariants as replies
use Rattle.command_set.specs.declared.state.Session.TheVariants as plain
use Rattle.core_state.specs.declared.seat.Job.TheVariants as jobs
use Rattle.read_steps.specs.declared.stage.ReadStage.TheVariants as read_stages
use Rattle.read_steps.specs.declared.wanted.Wanted.TheVariants as wanteds

-- ---- the plain store's answer

-- a granted command that changes nothing but that it uses its table
pub answers_by : (c : CoreState) (s t : ℕ) (command : Command) → IsSession c.seats s → (seat_of c s).job ≡ jobs.Submitted command → is_granted (reply_due c s command) ≡ true → PartsAreSound c → IsSound c → table_of command ≡ Some t
    → ((n : Plain) (tr : Transaction) → effect n s tr command ≡ n) → Answers c s t command (reply_due c s command)
answers_by c s t command there is granted parts sound of_table nothing m told tr stands opened =
    let in_use = with_session m s (plain.Open (with_use m tr t)) in
    let used : once_used m s (session_of m s) (table_of command) ≡ with_session m s (plain.Open (with_use m tr t)) = ap (once_used m s (session_of m s)) of_table ∙ used_at m s t tr stands.upkeep opened in
    let said = subst (λ (n : Plain). plain_replies.reply_of (schemas_of c.tables) n s command ≡ reply_due c s command) used (reply_is c s command m told there sound parts is stands) in
    answer_is (schemas_of c.tables) m in_use s command (reply_due c s command) used said
    ∙ ap (answered (reply_due c s command)) (ap (λ (b : Bool). if b then effect in_use s (transaction_of (session_of in_use s)) command else refused in_use s (reply_due c s command)) granted ∙ nothing in_use (transaction_of (session_of in_use s)))

-- ---- a get

-- what its moment finds
pub record GetDue (c : CoreState) (s t : ℕ) (key : ℤ) : Type 0 where
  pub old : OldRow
  pub inside : is_open (seat_of c s).state ≡ true
  pub found : row_seen c s t key ≡ Some old
  pub said : reply_due c s (commands.Get t key) ≡ replies.Row key (map (cell_value (table_at c.tables t).toast) old.stored.cells)

pub get_due : (c : CoreState) (s t : ℕ) (key : ℤ) → is_granted (reply_due c s (commands.Get t key)) ≡ true → GetDue c s t key
get_due c s t key granted =
    let reply = granted_due c s (commands.Get t key) in
    let opened = grants_inside (seat_of c s).state (absent_due (row_seen c s t key) ∷ []) reply granted in
    let found = grants_found (row_seen c s t key) [] reply opened.rest in
    record {
      old = found.is.0;
      inside = opened.is;
      found = found.is.1;
      said = opened.same ∙ found.same ∙ ap (λ (o : Option OldRow). replies.Row key (row_in_table c.tables t (cells_found o))) found.is.1;
    }

-- the key of a row that was found
key_found : (c : CoreState) (s t : ℕ) (key : ℤ) (old : OldRow) → row_seen c s t key ≡ Some old → old.stored.key ≡ key
key_found c s t key old found =
    let its = found_is (in_view c.xacts c.snaps (seat_of c s).state) (table_at c.tables t) key old found in
    ap (λ (stored : Stored). stored.key) its.stored ∙ key_is its.version.key key its.of_key

pub get_is : (c : CoreState) (s t : ℕ) (key : ℤ) (due : GetDue c s t key) → IsSession c.seats s → (seat_of c s).job ≡ jobs.Submitted (commands.Get t key) → PartsAreSound c → IsSound c
    → IsGet c s t (commands.Get t key) key due.old (read_stages.Row due.old.stored) due.old.stored.cells (reply_due c s (commands.Get t key))
get_is c s t key due there is parts sound =
    let of_table = table_in c t (fits_at c s (commands.Get t key) there sound is) in
    record {
      there = there;
      is = is;
      inside = due.inside;
      of_table = of_table;
      found = due.found;
      reads = record {
        new = tt;
        ids = λ value_id e. e;
        comes = λ whole. row_comes (table_at c.tables t).toast s due.old.stored (table_made c t of_table parts).toast whole
            ∙ ap (λ (k : ℤ). Some (replies.Row k (map (cell_value (table_at c.tables t).toast) due.old.stored.cells))) (key_found c s t key due.old due.found) ∙ ap Some (sym due.said);
      };
      part = λ xacts snaps table uses own seen. seen;
    }

get_line : (c : CoreState) (s t : ℕ) (key : ℤ) (old : OldRow) → row_seen c s t key ≡ Some old → line_granted c s (commands.Get t key) ≡ line_reading t (row_read s wanteds.Row old)
get_line c s t key old found = ap (λ (o : Option OldRow). option_map_or (λ (its : OldRow). line_reading t (row_read s wanteds.Row its)) o (Looked t)) found

get_job : (c : CoreState) (s t : ℕ) (key : ℤ) (old : OldRow) → row_seen c s t key ≡ Some old → begun c s (commands.Get t key) ≡ job_reading t (own_snapshot c.snaps (seat_of c s).state) (row_read s wanteds.Row old)
get_job c s t key old found = ap (λ (o : Option OldRow). option_map_or (λ (its : OldRow). job_reading t (own_snapshot c.snaps (seat_of c s).state) (row_read s wanteds.Row its)) o jobs.Idle) found

pub get_begins : (t : ℕ) (key : ℤ) → Begins (commands.Get t key)
get_begins t key = record {
  sound = λ c s there is granted parts sound.
      let due = get_due c s t key granted in
      subst (λ (line : MomentLine). IsSound (at_moment line c s)) (sym (get_line c s t key due.old due.found))
      (sound_get c s t (commands.Get t key) key due.old (read_stages.Row due.old.stored) due.old.stored.cells (reply_due c s (commands.Get t key)) (get_is c s t key due there is parts sound) sound);
  runs = λ c s there is granted parts sound.
      let due = get_due c s t key granted in
      let ran = runs_get c s t (commands.Get t key) key due.old (read_stages.Row due.old.stored) due.old.stored.cells (reply_due c s (commands.Get t key)) (own_snapshot c.snaps (seat_of c s).state) (get_is c s t key due there is parts sound) refl granted
      (answers_by c s t (commands.Get t key) there is granted parts sound refl (λ n tr. refl)) sound in
      subst (λ (line : MomentLine). Runs c s (commands.Get t key) (at_moment line c s) (told_then c s (commands.Get t key))) (sym (get_line c s t key due.old due.found))
      (subst (λ (job : Job). Runs c s (commands.Get t key) (at_moment (line_reading t (row_read s wanteds.Row due.old)) c s) (advance_by job (reply_due c s (commands.Get t key)))) (sym (get_job c s t key due.old due.found)) ran);
  falls = λ c s there is granted.
      let due = get_due c s t key granted in
      subst (λ (line : MomentLine). left (at_moment line c s) s < left c s) (sym (get_line c s t key due.old due.found))
      (falls_get c s t (commands.Get t key) (read_stages.Row due.old.stored) (own_snapshot c.snaps (seat_of c s).state) there is due.inside (get_job c s t key due.old due.found));
}

-- ---- a part

pub record PartDue (c : CoreState) (s t : ℕ) (key : ℤ) (column n : ℕ) (len : ℤ) : Type 0 where
  pub old : OldRow
  pub inside : is_open (seat_of c s).state ≡ true
  pub found : row_seen c s t key ≡ Some old
  pub said : reply_due c s (commands.Part t key column (pos n) len) ≡ part_due (table_at c.tables t).toast n len (cell_of old.stored.cells column)

-- of a column that is not null
slice_due : (toast : Store) (n : ℕ) (len : ℤ) (cell : Cell) → is_null cell ≡ false → replies.Bytes (slice (unwrap_or (cell_value toast cell) []) (pos n) len) ≡ part_due toast n len cell
slice_due toast n len Null e = absurd (cc)
slice_due toast n len (Inline value) e = refl
slice_due toast n len (Out pointer) e = refl

pub part_found : (c : CoreState) (s t : ℕ) (key : ℤ) (column n : ℕ) (len : ℤ) → is_granted (reply_due c s (commands.Part t key column (pos n) len)) ≡ true → PartDue c s t key column n len
part_found c s t key column n len granted =
    let reply = granted_due c s (commands.Part t key column (pos n) len) in
    let seen = row_seen c s t key in
    let opened = grants_inside (seat_of c s).state (absent_due seen ∷ null_due seen column ∷ bad_offset (pos n) ∷ []) reply granted in
    let found = grants_found seen (null_due seen column ∷ bad_offset (pos n) ∷ []) reply opened.rest in
    let valued = grants_unless (is_null (cell_of (cells_found seen) column)) replies.Null (bad_offset (pos n) ∷ []) reply refl found.rest in
    let cell : is_null (cell_of found.is.0.stored.cells column) ≡ false = ap (λ (o : Option OldRow). is_null (cell_of (cells_found o) column)) (sym found.is.1) ∙ valued.is in
    record {
      old = found.is.0;
      inside = opened.is;
      found = found.is.1;
      said = opened.same ∙ found.same ∙ valued.same
          ∙ ap (λ (o : Option OldRow). replies.Bytes (slice (unwrap_or (cell_value (table_at c.tables t).toast (cell_of (cells_found o) column)) []) (pos n) len)) found.is.1
          ∙ slice_due (table_at c.tables t).toast n len (cell_of found.is.0.stored.cells column) cell;
    }

-- the value of one cell
one_whole : (toast : Store) (cell : Cell) (pointer : Pointer) → AreWhole toast (cell ∷ []) → cell ≡ Out pointer → Whole toast pointer (value_in toast pointer)
one_whole toast cell pointer whole is = whole pointer (subst (λ (x : Cell). Contains (pointers_in (x ∷ [])) pointer) (sym is) (first_in pointer [] pointer refl))

pub part_is : (c : CoreState) (s t : ℕ) (key : ℤ) (column n : ℕ) (len : ℤ) (due : PartDue c s t key column n len) → IsSession c.seats s → (seat_of c s).job ≡ jobs.Submitted (commands.Part t key column (pos n) len) → PartsAreSound c → IsSound c
    → IsGet c s t (commands.Part t key column (pos n) len) key due.old (read_stages.Part (cell_of due.old.stored.cells column) (span_of (cell_size (cell_of due.old.stored.cells column)) (pos n) len)) (cell_of due.old.stored.cells column ∷ [])
    (reply_due c s (commands.Part t key column (pos n) len))
part_is c s t key column n len due there is parts sound =
    let of_table = table_in c t (fits_at c s (commands.Part t key column (pos n) len) there sound is).of_table in
    record {
      there = there;
      is = is;
      inside = due.inside;
      of_table = of_table;
      found = due.found;
      reads = record {
        new = tt;
        ids = λ value_id e. e;
        comes = λ whole. part_comes (table_at c.tables t).toast s (cell_of due.old.stored.cells column) n len (table_made c t of_table parts).toast (λ pointer e. one_whole (table_at c.tables t).toast (cell_of due.old.stored.cells column) pointer whole e)
            ∙ ap Some (sym due.said);
      };
      part = λ xacts snaps table uses own seen. seen_column xacts snaps table uses own due.old.stored.cells (column - 1) seen;
    }

part_line : (c : CoreState) (s t : ℕ) (key : ℤ) (column : ℕ) (offset len : ℤ) (old : OldRow) → row_seen c s t key ≡ Some old → line_granted c s (commands.Part t key column offset len) ≡ line_reading t (row_read s (part_wanted old column offset len) old)
part_line c s t key column offset len old found = ap (λ (o : Option OldRow). option_map_or (λ (its : OldRow). line_reading t (row_read s (part_wanted its column offset len) its)) o (Looked t)) found

part_job : (c : CoreState) (s t : ℕ) (key : ℤ) (column : ℕ) (offset len : ℤ) (old : OldRow) → row_seen c s t key ≡ Some old
    → begun c s (commands.Part t key column offset len) ≡ job_reading t (own_snapshot c.snaps (seat_of c s).state) (row_read s (part_wanted old column offset len) old)
part_job c s t key column offset len old found = ap (λ (o : Option OldRow). option_map_or (λ (its : OldRow). job_reading t (own_snapshot c.snaps (seat_of c s).state) (row_read s (part_wanted its column offset len) its)) o jobs.Idle) found

abbrev part_stage : OldRow → ℕ → ℕ → ℤ → ReadStage
part_stage old column n len = read_stages.Part (cell_of old.stored.cells column) (span_of (cell_size (cell_of old.stored.cells column)) (pos n) len)

part_from : (t : ℕ) (key : ℤ) (column n : ℕ) (len : ℤ) → Begins (commands.Part t key column (pos n) len)
part_from t key column n len = record {
  sound = λ c s there is granted parts sound.
      let due = part_found c s t key column n len granted in
      subst (λ (line : MomentLine). IsSound (at_moment line c s)) (sym (part_line c s t key column (pos n) len due.old due.found))
      (sound_get c s t (commands.Part t key column (pos n) len) key due.old (part_stage due.old column n len) (cell_of due.old.stored.cells column ∷ []) (reply_due c s (commands.Part t key column (pos n) len)) (part_is c s t key column n len due there is parts sound) sound);
  runs = λ c s there is granted parts sound.
      let due = part_found c s t key column n len granted in
      let command = commands.Part t key column (pos n) len in
      let ran = runs_get c s t command key due.old (part_stage due.old column n len) (cell_of due.old.stored.cells column ∷ []) (reply_due c s command) (own_snapshot c.snaps (seat_of c s).state) (part_is c s t key column n len due there is parts sound) refl granted
      (answers_by c s t command there is granted parts sound refl (λ m tr. refl)) sound in
      subst (λ (line : MomentLine). Runs c s command (at_moment line c s) (told_then c s command)) (sym (part_line c s t key column (pos n) len due.old due.found))
      (subst (λ (job : Job). Runs c s command (at_moment (line_reading t (row_read s (part_wanted due.old column (pos n) len) due.old)) c s) (advance_by job (reply_due c s command))) (sym (part_job c s t key column (pos n) len due.old due.found)) ran);
  falls = λ c s there is granted.
      let due = part_found c s t key column n len granted in
      subst (λ (line : MomentLine). left (at_moment line c s) s < left c s) (sym (part_line c s t key column (pos n) len due.old due.found))
      (falls_get c s t (commands.Part t key column (pos n) len) (part_stage due.old column n len) (own_snapshot c.snaps (seat_of c s).state) there is due.inside (part_job c s t key column (pos n) len due.old due.found));
}

-- an offset below the first byte is refused
below_refused : (c : CoreState) (s t : ℕ) (key : ℤ) (column n : ℕ) (len : ℤ) → is_granted (reply_due c s (commands.Part t key column (negsuc n) len)) ≡ true → ⊥
below_refused c s t key column n len granted =
    let reply = granted_due c s (commands.Part t key column (negsuc n) len) in
    let seen = row_seen c s t key in
    let opened = grants_inside (seat_of c s).state (absent_due seen ∷ null_due seen column ∷ bad_offset (negsuc n) ∷ []) reply granted in
    let found = grants_found seen (null_due seen column ∷ bad_offset (negsuc n) ∷ []) reply opened.rest in
    let valued = grants_unless (is_null (cell_of (cells_found seen) column)) replies.Null (bad_offset (negsuc n) ∷ []) reply refl found.rest in
    let last = valued.rest in
    absurd (cc)

pub part_begins : (t : ℕ) (key : ℤ) (column : ℕ) (offset len : ℤ) → Begins (commands.Part t key column offset len)
part_begins t key column (pos n) len = part_from t key column n len
part_begins t key column (negsuc n) len = record {
  sound = λ c s there is granted parts sound. absurd (below_refused c s t key column n len granted);
  runs = λ c s there is granted parts sound. absurd (below_refused c s t key column n len granted);
  falls = λ c s there is granted. absurd (below_refused c s t key column n len granted);
}
