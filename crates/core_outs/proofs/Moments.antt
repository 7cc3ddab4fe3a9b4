-- The moment of any command: what the stream tells after it is so of the core then.
use Rattle.std.proofs.Common.{ap, inl, inr, refl, subst, sym, ◌∙◌}
use Rattle.std.proofs.lemmas.Bool.{cases_Bool}
use Rattle.std.proofs.lemmas.List.{append-nil}
use Rattle.std.specs.Option.{option_map_or, unwrap_or}
use Rattle.std.specs.Prelude.{Bool, List, None, Option, Some, [], false, if◌then◌else◌, map as mapped, not, option_map, option_to_list, suc, true, ℕ, ℤ, ◌&&◌, ◌++◌, ◌∷◌, ◌≡◌}
use Rattle.tuple_layout.specs.Places.{Row}
use Rattle.tuple_layout.specs.Schemas.{TableSchema}
use Rattle.tuple_layout.specs.Sizes.{widths}
use Rattle.tuple_layout.specs.Tuples.{cell_widths}
use Rattle.tuple_layout.specs.declared.Place.{Place}
use Rattle.tuple_layout.specs.declared.Storage.{Storage}
use Rattle.tuple_layout.specs.declared.cell.Stored.{Stored}
use Rattle.tuple_toaster.specs.Pushed.{is_among}
use Rattle.change_log.specs.Logs.{LogState}
use Rattle.xact_status.specs.Versions.{counts_for}
use Rattle.xact_status.specs.Xacts.{Xacts, is_committed, next_xid}
use Rattle.lock_table.specs.Locks.{held_by}
use Rattle.change_log.specs.declared.entry.LogEntry.{LogEntry}
use Rattle.command_set.specs.Answers.{table_of}
use Rattle.command_set.specs.Changes.{place}
use Rattle.command_set.specs.Replies.{is_granted, schema_of}
use Rattle.command_set.specs.declared.Command.{Command}
use Rattle.command_set.specs.declared.Level.{Level}
use Rattle.command_set.specs.declared.Reply.{Reply}
use Rattle.command_set.specs.declared.Script.{Script}
use Rattle.command_set.specs.declared.Set.{Set}
use Rattle.command_set.specs.declared.state.Change.{Change}
use Rattle.command_set.specs.declared.state.Change.TheVariants.{Move, Remove, Update}
use Rattle.toast_store.specs.Stores.{Store}
use Rattle.table_rows.proofs.Worlds.{key_is}
use Rattle.table_rows.specs.Worlds.{tuple_in}
use Rattle.table_state.specs.Rows.{cell_value}
use Rattle.table_state.specs.declared.table.Table.{Table}
use Rattle.read_steps.specs.Reads.{held_read}
use Rattle.write_steps.specs.Writes.{Writing}
use Rattle.write_steps.specs.declared.stage.OldRow.{OldRow}
use Rattle.core_state.proofs.Seats.{seat_written, sound_of}
use Rattle.core_state.specs.Begun.{cell_in_line, held_size, inserted_row, part_wanted, plan_of, row_read, span_of, updated_row, write_begun}
use Rattle.core_state.specs.Coming.{change_to, changed_row, is_elsewhere, to_push}
use Rattle.core_state.specs.Events.{IsMoment, MomentLine, at_moment, line_due, line_granted, line_refused}
use Rattle.core_state.specs.Facts.{IsSound, JobIsSound}
use Rattle.core_state.specs.Lines.{after_commit_of, after_use, once_committed, once_kept}
use Rattle.core_state.specs.Moves.{Says}
use Rattle.core_state.specs.Stands.{changes_in, coming, logged_changes}
use Rattle.core_state.specs.State.{CoreState, IsSession, IsTableOf, handle_of, is_open, schemas_of, seat_of, table_at, xid_of}
use Rattle.core_state.specs.Views.{in_view, row_seen}
use Rattle.core_state.specs.declared.advance.Advance.{Advance}
use Rattle.core_state.specs.declared.seat.Job.{Job}
use Rattle.core_state.specs.declared.seat.Seat.{Seat}
use Rattle.core_state.specs.declared.seat.State.{State}
use Rattle.core_looks.proofs.Before.{schema_is}
use Rattle.core_looks.proofs.Found.{found_is}
use Rattle.core_writes.proofs.Changes.{change_begun}
use Rattle.core_writes.proofs.Given.{open_with}
use Rattle.change_stream.specs.Sets.{out_beside}
use Rattle.change_stream.specs.Streams.{changes_of, is_commit, kept_by, last_out, outs_with, unset, written_as}
use Rattle.change_stream.specs.declared.written.Written.{Written}
use Rattle.core_outs.proofs.Begun.{BeginsOut, IsWrittenAs, begun_core, begun_seat, begun_tables, beside_out, old_out, outs_begun}
use Rattle.core_outs.proofs.Changes.{changes_closed, changes_stand, next_more, next_none, next_written, none_logged, none_written}
use Rattle.core_outs.proofs.Commits.{AreClaimed, changes_written, outs_committed_with}
use Rattle.core_outs.proofs.Frames.{out_then, outs_ended, outs_seated}
use Rattle.core_outs.proofs.Quiet.{IsMomentOf, IsQuiet, fetching_quiet, found_quiet, line_out, reading_quiet, refused_quiet, there_then, use_leaves}
use Rattle.core_outs.proofs.Widths.{cells_out, inserted_widths, row_out, updated_widths}
use Rattle.core_outs.specs.Outs.{AreOut, AreOutIn, OutsStand, PutsOut, SeatOuts, WillBeOut, is_put_at}
use Rattle.change_log.specs.declared.entry.LogEntry.TheVariants as entries
use Rattle.command_set.specs.declared.Command.TheVariants as commands
use Rattle.core_state.specs.Events as lines
use Rattle.core_state.specs.declared.advance.Advance.TheVariants as advances
use Rattle.core_state.specs.declared.seat.Job.TheVariants as jobs
use Rattle.core_state.specs.declared.seat.State.TheVariants as states
use Rattle.read_steps.specs.declared.wanted.Wanted.TheVariants as wanteds

-- ---- begin

-- a transaction that begins tells nothing yet, and sees what is committed
pub outs_opened : (c : CoreState) (s : ℕ) (level : Level) (script : Script) (kept : List ℕ) (outs : Place → List ℕ) (written later : ℕ → List Written) → IsMomentOf c (at_moment (lines.Over (states.Open level None None)) c s) s script kept outs written later
    → OutsStand (at_moment (lines.Over (states.Open level None None)) c s) outs later
outs_opened c s level script kept outs written later at =
    outs_seated c v s outs written later at.there at.others (λ t. refl) (λ own p. refl) at.same
    (subst (λ (ws : List Written). SeatOuts v.xacts v.tables (outs_with outs ws) (seat_of v s)) (sym none) (subst (λ (its : Seat). SeatOuts v.xacts v.tables (outs_with outs []) its) (sym is) (record { now = λ e. now; coming = tt })))
    at.old
  where
    v : CoreState
    v = at_moment (lines.Over (states.Open level None None)) c s

    seat : Seat
    seat = record (seat_of c s) { state = states.Open level None None; job = jobs.Idle }

    is : seat_of v s ≡ seat
    is = seat_written c.seats s seat at.there

    none : later s ≡ []
    none =
        let left = changes_stand v s at.after at.replies_after (there_then c v s at.there at.others) at.stands (ap (λ (its : Seat). is_open its.state) is) in
        at.next ∙ ap (next_written script kept (written s)) (left ∙ ap (changes_in v.tables v.log.entries) is) ∙ next_none script kept (written s)

    now : AreOutIn c.tables (counts_for c.xacts None) (outs_with outs []) (λ p. false)
    now = record { each = λ p bytes e there. at.old.latest.each p bytes e there }

-- ---- writes

-- the change of a write that begins, with its columns
written_is : (script : Script) (t : ℕ) (toast : Store) (storages : List Storage) (old : Option OldRow) (new : Stored) (kept : List ℕ) → (schema_of script.schemas t).storages ≡ storages → AreOut kept new.cells
    → cell_widths new.cells ≡ widths (mapped (cell_value toast) new.cells) (is_among kept) → IsWrittenAs storages t (Some new) (written_as script (changed_row t old new.key (mapped (cell_value toast) new.cells)) kept)
written_is script t toast storages old new kept schema are same = by old
  where
    some_is : (a b : Stored) → Some a ≡ Some b → a ≡ b
    some_is a b e = cc

    out : (row : Stored) → Some new ≡ Some row → WillBeOut (out_beside (schema_of script.schemas t).storages (mapped (cell_value toast) new.cells) kept) row.cells (plan_of storages (Some row))
    out row e = subst (λ (its : Stored). WillBeOut (out_beside (schema_of script.schemas t).storages (mapped (cell_value toast) new.cells) kept) its.cells (plan_of storages (Some its))) (some_is new row e)
        (subst (λ (its : List Storage). WillBeOut (out_beside its (mapped (cell_value toast) new.cells) kept) new.cells (plan_of storages (Some new))) (sym schema) (beside_out storages toast new kept are same))

    moved : (from : ℤ) (b : Bool) → IsWrittenAs storages t (Some new) (written_as script (if b then Move t from new.key (mapped (cell_value toast) new.cells) else Update t new.key (mapped (cell_value toast) new.cells)) kept)
    moved from true = record { puts = λ p. refl; out = out }
    moved from false = record { puts = λ p. refl; out = out }

    by : (o : Option OldRow) → IsWrittenAs storages t (Some new) (written_as script (changed_row t o new.key (mapped (cell_value toast) new.cells)) kept)
    by None = record { puts = λ p. refl; out = out }
    by (Some row) = moved row.stored.key (is_elsewhere (Some row) new.key)

-- that of a delete puts no row
removed_is : (script : Script) (t : ℕ) (storages : List Storage) (key : ℤ) (kept : List ℕ) → IsWrittenAs storages t None (written_as script (Remove t key) kept)
removed_is script t storages key kept = record { puts = λ p. refl; out = λ row e. absurd (cc) }

-- of an xid that is given then the log tells nothing yet
log_kept : (c : CoreState) (s : ℕ) (o : Option ℕ) → IsSound c → logged_changes c.tables c.log.entries (Some (unwrap_or o (next_xid c.xacts))) ≡ logged_changes c.tables c.log.entries o
log_kept c s (Some x) sound = refl
log_kept c s None sound = none_logged c.tables c.xacts c.log.entries sound.log.given

-- a log with room for an end more has the entries that it had
kept_entries : (log : LogState) (o : Option ℕ) → (once_kept log o).entries ≡ log.entries
kept_entries log None = refl
kept_entries log (Some x) = refl

pub grown : (c : CoreState) (s t : ℕ) (keys : List ℤ) (old : Option OldRow) (new : Option Stored) (script : Script) (kept : List ℕ) (outs : Place → List ℕ) (written later : ℕ → List Written) (command : Command) (change : Change)
    → IsMomentOf c (begun_core c s t keys old new) s script kept outs written later → (seat_of c s).job ≡ jobs.Submitted command → is_open (seat_of c s).state ≡ true → is_open (seat_of (begun_core c s t keys old new) s).state ≡ true
    → (old ≡ None → new ≡ None → ⊥) → change_to t (table_at c.tables t).toast old new ≡ Some change → later s ≡ written s ++ written_as script change kept ∷ []
grown c s t keys old new script kept outs written later command change at job opened then_open some to =
    at.next ∙ ap (next_written script kept (written s)) (left ∙ all ∙ ap (λ (changes : List Change). changes ++ change ∷ []) (sym was)) ∙ next_more script kept (written s) change
  where
    v : CoreState
    v = begun_core c s t keys old new

    write : Writing
    write = write_begun c s t old new

    seat : ((seat_of v s).job ≡ jobs.Writing t write) × (xid_of (seat_of v s).state ≡ Some (unwrap_or (xid_of (seat_of c s).state) (next_xid c.xacts)))
    seat = begun_seat c s t keys old new at.there opened

    left : changes_of at.after s ≡ changes_in v.tables v.log.entries (seat_of v s)
    left = changes_stand v s at.after at.replies_after (there_then c v s at.there at.others) at.stands then_open

    was : changes_written (written s) ≡ logged_changes c.tables c.log.entries (xid_of (seat_of c s).state)
    was = at.told ∙ changes_stand c s at.before at.replies_before at.there at.stood opened
        ∙ ap (λ (its : Job). logged_changes c.tables c.log.entries (xid_of (seat_of c s).state) ++ coming c.tables its) job
        ∙ append-nil (logged_changes c.tables c.log.entries (xid_of (seat_of c s).state))

    entries_are : v.log.entries ≡ c.log.entries
    entries_are = kept_entries (after_use c s t).log (xid_of (seat_of (after_use c s t) s).state) ∙ ap (λ (log : LogState). log.entries) (use_leaves c s t at.there).log

    comes : coming v.tables (jobs.Writing t write) ≡ change ∷ []
    comes =
        ap (λ (tables : List Table). coming tables (jobs.Writing t write)) (begun_tables c s t keys old new)
        ∙ ap option_to_list (change_begun t s (unwrap_or (xid_of (seat_of c s).state) (next_xid c.xacts)) (table_at c.tables t).toast old new (table_at c.tables t).rows.schema.storages some ∙ to)

    all : changes_in v.tables v.log.entries (seat_of v s) ≡ logged_changes c.tables c.log.entries (xid_of (seat_of c s).state) ++ change ∷ []
    all =
        ap (λ (its : Job). logged_changes v.tables v.log.entries (xid_of (seat_of v s).state) ++ coming v.tables its) seat.0
        ∙ ap (λ (changes : List Change). logged_changes v.tables v.log.entries (xid_of (seat_of v s).state) ++ changes) comes
        ∙ ap (λ (own : Option ℕ). logged_changes v.tables v.log.entries own ++ change ∷ []) seat.1
        ∙ ap (λ (tables : List Table). logged_changes tables v.log.entries (Some (unwrap_or (xid_of (seat_of c s).state) (next_xid c.xacts))) ++ change ∷ []) (begun_tables c s t keys old new)
        ∙ ap (λ (log : List LogEntry). logged_changes c.tables log (Some (unwrap_or (xid_of (seat_of c s).state) (next_xid c.xacts))) ++ change ∷ []) entries_are
        ∙ ap (λ (changes : List Change). changes ++ change ∷ []) (log_kept c s (xid_of (seat_of c s).state) at.sound)

-- a write begins in an open transaction, of a table that is there
pub begun_open : (c : CoreState) (s t : ℕ) (keys : List ℤ) (old : Option OldRow) (new : Option Stored) → IsSession c.seats s → IsSession (begun_core c s t keys old new).seats s → IsSound (begun_core c s t keys old new)
    → (is_open (seat_of c s).state ≡ true) × (is_open (seat_of (begun_core c s t keys old new) s).state ≡ true) × IsTableOf c.tables t
begun_open c s t keys old new there after sound =
    let v = begun_core c s t keys old new in
    let u = after_use c s t in
    let leaves = use_leaves c s t there in
    let is = seat_written u.seats s _ leaves.there in
    let job : JobIsSound v.xacts v.snaps v.ids (held_by v.locks s) v.tables s (seat_of v s) (jobs.Writing t (write_begun c s t old new)) =
    subst (λ (its : Job). JobIsSound v.xacts v.snaps v.ids (held_by v.locks s) v.tables s (seat_of v s) its) (ap (λ (seat : Seat). seat.job) is) (sound_of v s after sound).job in
    let opened : is_open (seat_of v s).state ≡ is_open (seat_of c s).state = ap (λ (seat : Seat). is_open seat.state) is ∙ open_with (seat_of u s).state (unwrap_or (xid_of (seat_of u s).state) (next_xid u.xacts)) ∙ leaves.opened in
    (sym opened ∙ job.0.inside, job.0.inside, subst (λ (tables : List Table). IsTableOf tables t) (begun_tables c s t keys old new) job.0.of_table)

-- the moment of a write
outs_write : (c : CoreState) (s t : ℕ) (keys : List ℤ) (old : Option OldRow) (new : Option Stored) (script : Script) (kept : List ℕ) (outs : Place → List ℕ) (written later : ℕ → List Written) (command : Command) (change : Change)
    → IsMomentOf c (begun_core c s t keys old new) s script kept outs written later → IsSound (begun_core c s t keys old new) → (seat_of c s).job ≡ jobs.Submitted command → (old ≡ None → new ≡ None → ⊥) → change_to t (table_at c.tables t).toast old new ≡ Some change
    → (BeginsOut c s t keys old new outs written → IsTableOf c.tables t → IsWrittenAs (table_at c.tables t).rows.schema.storages t new (written_as script change kept)) → OutsStand (begun_core c s t keys old new) outs later
outs_write c s t keys old new script kept outs written later command change at sound job some to is_as =
    let opens = begun_open c s t keys old new at.there (there_then c (begun_core c s t keys old new) s at.there at.others) sound in
    let begins : BeginsOut c s t keys old new outs written = record { there = at.there; sound = at.sound; begun = sound; opened = opens.0; none = at.none; others = at.others; told = at.old } in
    outs_begun c s t keys old new outs written later (written_as script change kept) begins (is_as begins opens.2) (grown c s t keys old new script kept outs written later command change at job opens.0 opens.1 some to) at.same

-- the schema of a script's table is the core's
pub schema_at : (c : CoreState) (t : ℕ) (script : Script) → script.schemas ≡ schemas_of c.tables → IsTableOf c.tables t → (schema_of script.schemas t).storages ≡ (table_at c.tables t).rows.schema.storages
schema_at c t script same there = ap (λ (schemas : List TableSchema). (schema_of schemas t).storages) same ∙ ap (λ (schema : TableSchema). schema.storages) (schema_is c t there)

-- the row that a look-up finds is at the key
pub found_key : (c : CoreState) (s t : ℕ) (key : ℤ) (row : OldRow) → row_seen c s t key ≡ Some row → row.stored.key ≡ key
found_key c s t key row e =
    let at = found_is (in_view c.xacts c.snaps (seat_of c s).state) (table_at c.tables t) key row e in
    ap (λ (stored : Stored). stored.key) at.stored ∙ key_is at.version.key key at.of_key

outs_insert : (c : CoreState) (s t : ℕ) (key : ℤ) (row : Row) (script : Script) (outs : Place → List ℕ) (written later : ℕ → List Written)
    → IsMomentOf c (at_moment (line_granted c s (commands.Insert t key row)) c s) s script [] outs written later → IsSound (at_moment (line_granted c s (commands.Insert t key row)) c s) → (seat_of c s).job ≡ jobs.Submitted (commands.Insert t key row)
    → script.schemas ≡ schemas_of c.tables → OutsStand (at_moment (line_granted c s (commands.Insert t key row)) c s) outs later
outs_insert c s t key row script outs written later at sound job schemas =
    outs_write c s t (key ∷ []) None (Some (inserted_row key row)) script [] outs written later (commands.Insert t key row) (changed_row t None key (mapped (cell_value (table_at c.tables t).toast) (mapped cell_in_line row))) at sound job (λ e f. absurd (cc)) refl
    (λ begins table. written_is script t (table_at c.tables t).toast (table_at c.tables t).rows.schema.storages None (inserted_row key row) [] (schema_at c t script schemas table) (row_out row) (inserted_widths (table_at c.tables t).toast row))

-- of an update and a rekey, where a row is found
outs_set : (c : CoreState) (s t : ℕ) (key to : ℤ) (keys : List ℤ) (sets : List Set) (row : OldRow) (script : Script) (outs : Place → List ℕ) (written later : ℕ → List Written) (command : Command) → row_seen c s t key ≡ Some row
    → IsMomentOf c (begun_core c s t keys (Some row) (Some (updated_row row.stored to sets))) s script (unset sets (outs_with outs (written s) (place t key))) outs written later → IsSound (begun_core c s t keys (Some row) (Some (updated_row row.stored to sets)))
    → (seat_of c s).job ≡ jobs.Submitted command → script.schemas ≡ schemas_of c.tables → OutsStand (begun_core c s t keys (Some row) (Some (updated_row row.stored to sets))) outs later
outs_set c s t key to keys sets row script outs written later command found at sound job schemas =
    let toast = (table_at c.tables t).toast in
    let new = updated_row row.stored to sets in
    outs_write c s t keys (Some row) (Some new) script (unset sets (outs_with outs (written s) (place t key))) outs written later command (changed_row t (Some row) to (mapped (cell_value toast) new.cells)) at sound job (λ e f. absurd (cc)) refl
    (λ begins table.
    let was : AreOut (outs_with outs (written s) (place t key)) row.stored.cells = subst (λ (k : ℤ). AreOut (outs_with outs (written s) (place t k)) row.stored.cells) (found_key c s t key row found) (old_out c s t keys row (Some new) outs written begins) in
    written_is script t toast (table_at c.tables t).rows.schema.storages (Some row) new (unset sets (outs_with outs (written s) (place t key))) (schema_at c t script schemas table) (cells_out sets (outs_with outs (written s) (place t key)) row.stored.cells was)
    (updated_widths toast sets (outs_with outs (written s) (place t key)) row.stored.cells was))

outs_delete : (c : CoreState) (s t : ℕ) (keys : List ℤ) (row : OldRow) (script : Script) (outs : Place → List ℕ) (written later : ℕ → List Written) (command : Command)
    → IsMomentOf c (begun_core c s t keys (Some row) None) s script [] outs written later → IsSound (begun_core c s t keys (Some row) None) → (seat_of c s).job ≡ jobs.Submitted command → OutsStand (begun_core c s t keys (Some row) None) outs later
outs_delete c s t keys row script outs written later command at sound job =
    outs_write c s t keys (Some row) None script [] outs written later command (Remove t row.stored.key) at sound job (λ e f. absurd (cc)) refl (λ begins table. removed_is script t (table_at c.tables t).rows.schema.storages row.stored.key [])

-- ---- a commit

-- of a transaction without an xid there is nothing to carry over
ended_world : (xacts : Xacts) (o own : Option ℕ) (p : Place) (tables : List Table) → o ≡ None → tuple_in (counts_for (once_committed xacts o) own) (table_at tables p.table).rows.pages p.key ≡ tuple_in (counts_for xacts own) (table_at tables p.table).rows.pages p.key
ended_world xacts o own p tables e = ap (λ (its : Option ℕ). tuple_in (counts_for (once_committed xacts its) own) (table_at tables p.table).rows.pages p.key) e

pub outs_same : (c : CoreState) (outs told : Place → List ℕ) (written : ℕ → List Written) → ((p : Place) → told p ≡ outs p) → OutsStand c outs written → OutsStand c told written
outs_same c outs told written same old = record {
  latest = out_then c.tables c.tables (is_committed c.xacts) (is_committed c.xacts) outs told (λ p. false) (λ p. false) (record { rows = λ t. refl; world = λ p. refl }) (λ p e. (refl, same p)) old.latest;
  each = λ i seat at.
      let was = old.each i seat at in
      record {
        now = λ opened. out_then c.tables c.tables (counts_for c.xacts (xid_of seat.state)) (counts_for c.xacts (xid_of seat.state)) (outs_with outs (written (suc i))) (outs_with told (written (suc i))) (is_put_at seat.job) (is_put_at seat.job)
            (record { rows = λ t. refl; world = λ p. refl }) (λ p e. (e, ap (unwrap_or (last_out (written (suc i)) p)) (same p))) (was.now opened);
        coming = puts seat.job (written (suc i)) was.coming;
      };
}
  where
    puts : (job : Job) (ws : List Written) → PutsOut (outs_with outs ws) job → PutsOut (outs_with told ws) job
    puts jobs.Idle ws was = tt
    puts (jobs.Submitted command) ws was = tt
    puts (jobs.Reading t snapshot read) ws was = tt
    puts (jobs.Writing t write) ws was = λ new e. subst (λ (columns : List ℕ). WillBeOut columns new.cells (to_push write.stage)) (ap (unwrap_or (last_out ws (place t new.key))) (sym (same (place t new.key)))) (was new e)

xid_open : (state : State) (x : ℕ) → xid_of state ≡ Some x → is_open state ≡ true
xid_open states.Outside x e = absurd (cc)
xid_open states.Failed x e = absurd (cc)
xid_open (states.Open level xid snapshot) x e = refl

outs_commit : (c : CoreState) (s : ℕ) (script : Script) (kept : List ℕ) (outs : Place → List ℕ) (written later : ℕ → List Written) → IsMomentOf c (after_commit_of c s) s script kept outs written later → (seat_of c s).job ≡ jobs.Submitted commands.Commit → AreClaimed c written
    → OutsStand (after_commit_of c s) (outs_with outs (written s)) later
outs_commit c s script kept outs written later at job claimed = by (xid_of (seat_of c s).state) refl
  where
    nothing : xid_of (seat_of c s).state ≡ None → changes_written (written s) ≡ []
    nothing none = at.told ∙ elim (cases_Bool (is_open (seat_of c s).state)) [
      | inl opened ↦
          changes_stand c s at.before at.replies_before at.there at.stood opened
          ∙ ap (λ (its : Job). logged_changes c.tables c.log.entries (xid_of (seat_of c s).state) ++ coming c.tables its) job ∙ ap (λ (own : Option ℕ). logged_changes c.tables c.log.entries own ++ []) none
      | inr closed ↦ changes_closed c s at.before at.replies_before at.there at.stood closed
    ]

    by : (o : Option ℕ) → xid_of (seat_of c s).state ≡ o → OutsStand (after_commit_of c s) (outs_with outs (written s)) later
    by (Some x) mine = outs_committed_with c s x outs written later (record { there = at.there; sound = at.sound; mine = mine; opened = xid_open (seat_of c s).state x mine; none = at.none; claimed = claimed; old = at.old }) at.others at.same
    by None none =
        outs_same (after_commit_of c s) outs (outs_with outs (written s)) later (λ p. ap (λ (ws : List Written). outs_with outs ws p) (none_written (written s) (nothing none)))
        (outs_ended c s (once_committed c.xacts (xid_of (seat_of c s).state)) (option_map (λ xid. entries.Commit xid) (xid_of (seat_of c s).state)) states.Outside outs written later at.there at.sound at.others refl (λ own p. ended_world c.xacts (xid_of (seat_of c s).state) own p c.tables none) at.same at.old)

-- ---- any command

-- the granted moment, but of a commit
granted_out : (c : CoreState) (s : ℕ) (script : Script) (outs : Place → List ℕ) (written later : ℕ → List Written) (command : Command) → is_commit command ≡ false → (seat_of c s).job ≡ jobs.Submitted command → IsSound (at_moment (line_granted c s command) c s)
    → script.schemas ≡ schemas_of c.tables → IsMomentOf c (at_moment (line_granted c s command) c s) s script (kept_by command (outs_with outs (written s))) outs written later → OutsStand (at_moment (line_granted c s command) c s) outs later
granted_out c s script outs written later (commands.Begin level) not job sound schemas at = outs_opened c s level script [] outs written later at
granted_out c s script outs written later commands.Commit not job sound schemas at = absurd (cc)
granted_out c s script outs written later commands.Rollback not job sound schemas at =
    line_out c s (line_granted c s commands.Rollback) script [] outs written later commands.Rollback (by (is_open (seat_of c s).state)) job at
  where
    by : (b : Bool) → IsQuiet c s (if b then lines.GivenUp states.Outside else lines.Over states.Outside)
    by true = refl
    by false = inr refl
granted_out c s script outs written later (commands.Get t key) not job sound schemas at =
    line_out c s (line_granted c s (commands.Get t key)) script [] outs written later (commands.Get t key) (found_quiet c s _ (row_seen c s t key) (lines.Looked t) (λ old. reading_quiet c s t (row_read s wanteds.Row old)) tt) job at
granted_out c s script outs written later (commands.Part t key column offset len) not job sound schemas at =
    line_out c s (line_granted c s (commands.Part t key column offset len)) script [] outs written later (commands.Part t key column offset len)
    (found_quiet c s _ (row_seen c s t key) (lines.Looked t) (λ old. reading_quiet c s t (row_read s (part_wanted old column offset len) old)) tt) job at
granted_out c s script outs written later (commands.Open name t key column) not job sound schemas at =
    line_out c s (line_granted c s (commands.Open name t key column)) script [] outs written later (commands.Open name t key column) (found_quiet c s _ (row_seen c s t key) (lines.Looked t) (λ old. tt) tt) job at
granted_out c s script outs written later (commands.Fetch name offset len) not job sound schemas at =
    line_out c s (line_granted c s (commands.Fetch name offset len)) script [] outs written later (commands.Fetch name offset len)
    (found_quiet c s _ (handle_of (seat_of c s).handles name) (lines.Over (seat_of c s).state) (λ handle. fetching_quiet c s handle.table (held_read handle.held (span_of (held_size handle.held) offset len) s)) (inl refl)) job at
granted_out c s script outs written later (commands.Close name) not job sound schemas at =
    line_out c s (line_granted c s (commands.Close name)) script [] outs written later (commands.Close name) (found_quiet c s _ (handle_of (seat_of c s).handles name) (lines.Over (seat_of c s).state) (λ handle. tt) (inl refl)) job at
granted_out c s script outs written later (commands.Insert t key row) not job sound schemas at = outs_insert c s t key row script outs written later at sound job schemas
granted_out c s script outs written later (commands.Update t key sets) not job sound schemas at = by (row_seen c s t key) refl sound at
  where
    line : Option OldRow → MomentLine
    line o = option_map_or (λ old. lines.WriteBegun t (key ∷ []) (write_begun c s t (Some old) (Some (updated_row old.stored key sets)))) o (lines.Looked t)

    by : (o : Option OldRow) → row_seen c s t key ≡ o → IsSound (at_moment (line o) c s) → IsMomentOf c (at_moment (line o) c s) s script (unset sets (outs_with outs (written s) (place t key))) outs written later → OutsStand (at_moment (line o) c s) outs later
    by None e its told = line_out c s (lines.Looked t) script (unset sets (outs_with outs (written s) (place t key))) outs written later (commands.Update t key sets) tt job told
    by (Some row) e its told = outs_set c s t key key (key ∷ []) sets row script outs written later (commands.Update t key sets) e told its job schemas
granted_out c s script outs written later (commands.Rekey t from to sets) not job sound schemas at = by (row_seen c s t from) refl sound at
  where
    line : Option OldRow → MomentLine
    line o = option_map_or (λ old. lines.WriteBegun t (from ∷ to ∷ []) (write_begun c s t (Some old) (Some (updated_row old.stored to sets)))) o (lines.Looked t)

    by : (o : Option OldRow) → row_seen c s t from ≡ o → IsSound (at_moment (line o) c s) → IsMomentOf c (at_moment (line o) c s) s script (unset sets (outs_with outs (written s) (place t from))) outs written later → OutsStand (at_moment (line o) c s) outs later
    by None e its told = line_out c s (lines.Looked t) script (unset sets (outs_with outs (written s) (place t from))) outs written later (commands.Rekey t from to sets) tt job told
    by (Some row) e its told = outs_set c s t from to (from ∷ to ∷ []) sets row script outs written later (commands.Rekey t from to sets) e told its job schemas
granted_out c s script outs written later (commands.Delete t key) not job sound schemas at = by (row_seen c s t key) refl sound at
  where
    line : Option OldRow → MomentLine
    line o = option_map_or (λ old. lines.WriteBegun t (key ∷ []) (write_begun c s t (Some old) None)) o (lines.Looked t)

    by : (o : Option OldRow) → row_seen c s t key ≡ o → IsSound (at_moment (line o) c s) → IsMomentOf c (at_moment (line o) c s) s script [] outs written later → OutsStand (at_moment (line o) c s) outs later
    by None e its told = line_out c s (lines.Looked t) script [] outs written later (commands.Delete t key) tt job told
    by (Some row) e its told = outs_delete c s t (key ∷ []) row script outs written later (commands.Delete t key) told its job
granted_out c s script outs written later (commands.VacuumMain t) not job sound schemas at = line_out c s (lines.Over (seat_of c s).state) script [] outs written later (commands.VacuumMain t) (inl refl) job at
granted_out c s script outs written later (commands.VacuumToast t) not job sound schemas at = line_out c s (lines.Over (seat_of c s).state) script [] outs written later (commands.VacuumToast t) (inl refl) job at
granted_out c s script outs written later (commands.Rewrite t) not job sound schemas at = line_out c s (lines.Over (seat_of c s).state) script [] outs written later (commands.Rewrite t) (inl refl) job at

-- a moment that is refused
refused_out : (c : CoreState) (s : ℕ) (script : Script) (kept : List ℕ) (outs : Place → List ℕ) (written later : ℕ → List Written) (command : Command) (reply : Reply) → is_granted reply ≡ false → (seat_of c s).job ≡ jobs.Submitted command
    → IsMomentOf c (at_moment (line_due c s command reply) c s) s script kept outs written later → OutsStand (at_moment (line_due c s command reply) c s) outs later
refused_out c s script kept outs written later command reply refuses job at =
    let is : line_due c s command reply ≡ line_refused (seat_of c s).state (table_of command) reply = ap (λ (b : Bool). if b then line_granted c s command else line_refused (seat_of c s).state (table_of command) reply) refuses in
    subst (λ (line : MomentLine). OutsStand (at_moment line c s) outs later) (sym is)
    (line_out c s (line_refused (seat_of c s).state (table_of command) reply) script kept outs written later command (refused_quiet c s (table_of command) reply) job
    (subst (λ (line : MomentLine). IsMomentOf c (at_moment line c s) s script kept outs written later) is at))

-- what is carried over at the moment of a command with this reply
abbrev pub carried : Command → Reply → (Place → List ℕ) → List Written → Place → List ℕ
carried command reply outs ws p = if is_commit command && is_granted reply then outs_with outs ws p else outs p

-- a granted moment
by_grant : (c : CoreState) (s : ℕ) (script : Script) (outs : Place → List ℕ) (written later : ℕ → List Written) (command : Command) → (seat_of c s).job ≡ jobs.Submitted command → IsSound (at_moment (line_granted c s command) c s)
    → script.schemas ≡ schemas_of c.tables → AreClaimed c written → IsMomentOf c (at_moment (line_granted c s command) c s) s script (kept_by command (outs_with outs (written s))) outs written later
    → (b : Bool) → is_commit command ≡ b → OutsStand (at_moment (line_granted c s command) c s) (λ p. if b then outs_with outs (written s) p else outs p) later
by_grant c s script outs written later command job sound schemas claimed at false not = granted_out c s script outs written later command not job sound schemas at
by_grant c s script outs written later commands.Commit job sound schemas claimed at true is = outs_commit c s script [] outs written later at job claimed
by_grant c s script outs written later command job sound schemas claimed at true is = absurd (cc)

granted_by : (c v : CoreState) (s : ℕ) (script : Script) (outs : Place → List ℕ) (written later : ℕ → List Written) (command : Command) (reply : Reply) → (seat_of c s).job ≡ jobs.Submitted command → script.schemas ≡ schemas_of c.tables → AreClaimed c written → is_granted reply ≡ true
    → v ≡ at_moment (line_granted c s command) c s → IsSound v → IsMomentOf c v s script (kept_by command (outs_with outs (written s))) outs written later → OutsStand v (carried command reply outs (written s)) later
granted_by c v s script outs written later command reply job schemas claimed grants is sound at =
    outs_same v (λ p. if is_commit command then outs_with outs (written s) p else outs p) (carried command reply outs (written s)) later
    (λ p. ap (λ (b : Bool). if is_commit command && b then outs_with outs (written s) p else outs p) grants ∙ both (is_commit command) (outs_with outs (written s) p) (outs p))
    (subst (λ (core : CoreState). IsSound core → IsMomentOf c core s script (kept_by command (outs_with outs (written s))) outs written later → OutsStand core (λ p. if is_commit command then outs_with outs (written s) p else outs p) later) (sym is)
    (λ its told. by_grant c s script outs written later command job its schemas claimed told (is_commit command) refl) sound at)
  where
    both : (b : Bool) (one other : List ℕ) → (if b && true then one else other) ≡ (if b then one else other)
    both true one other = refl
    both false one other = refl

-- the moment of a command
pub moment_out : (c v : CoreState) (s : ℕ) (script : Script) (outs : Place → List ℕ) (written later : ℕ → List Written) (command : Command) (advance : Advance) (reply : Reply) → (seat_of c s).job ≡ jobs.Submitted command → IsSound v → script.schemas ≡ schemas_of c.tables → AreClaimed c written
    → IsMomentOf c v s script (kept_by command (outs_with outs (written s))) outs written later → IsMoment c s command v advance → Says command (seat_of v s).job advance reply → OutsStand v (carried command reply outs (written s)) later
moment_out c v s script outs written later command advances.Idle reply job sound schemas claimed at due says = absurd due
moment_out c v s script outs written later command advances.More reply job sound schemas claimed at due says =
    granted_by c v s script outs written later command reply job schemas claimed says.1 due.0 sound at
moment_out c v s script outs written later command (advances.Done said) reply job sound schemas claimed at due says = elim (cases_Bool (is_granted said)) [
  | inl grants ↦
      granted_by c v s script outs written later command reply job schemas claimed (ap is_granted (sym says.0) ∙ grants)
      (due.0 ∙ ap (λ (b : Bool). at_moment (if b then line_granted c s command else line_refused (seat_of c s).state (table_of command) said) c s) grants) sound at
  | inr refuses ↦
      let refused : is_granted reply ≡ false = ap is_granted (sym says.0) ∙ refuses in
      outs_same v outs (carried command reply outs (written s)) later (λ p. ap (λ (b : Bool). if is_commit command && b then outs_with outs (written s) p else outs p) refused ∙ none (is_commit command) (outs_with outs (written s) p) (outs p))
      (subst (λ (core : CoreState). IsMomentOf c core s script (kept_by command (outs_with outs (written s))) outs written later → OutsStand core outs later) (sym due.0)
      (refused_out c s script (kept_by command (outs_with outs (written s))) outs written later command said refuses job) at)
]
  where
    none : (b : Bool) (one other : List ℕ) → (if b && false then one else other) ≡ other
    none true one other = refl
    none false one other = refl
