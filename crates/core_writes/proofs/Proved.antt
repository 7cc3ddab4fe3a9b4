-- The laws of a write's granted moment, from the lemmas on its core.
use Rattle.std.proofs.Common.{ap, refl, subst, sym, ◌∙◌}
use Rattle.std.specs.Option.{option_map, option_map_or, unwrap_or}
use Rattle.std.specs.Prelude.{List, None, Option, Some, [], false, length, map as mapped, ℕ, ℤ, ◌-◌, ◌∷◌, ◌≡◌, ◌≢◌}
use Rattle.list_facts.proofs.Changed.{set_twice}
use Rattle.tuple_layout.specs.Places.{Row}
use Rattle.tuple_layout.specs.declared.cell.Stored.{Stored}
use Rattle.command_set.specs.Answers.{answer, effect, once_used, table_of, with_change, with_use}
use Rattle.command_set.specs.Changes.{place}
use Rattle.command_set.specs.Plain.{row_at, row_with, session_of, view_of, with_session}
use Rattle.command_set.specs.Replies.{reply_of, transaction_of}
use Rattle.command_set.specs.declared.Command.{Command}
use Rattle.command_set.specs.declared.Reply.{Reply}
use Rattle.command_set.specs.declared.Set.{Set}
use Rattle.command_set.specs.declared.state.Change.{Change}
use Rattle.command_set.specs.declared.state.Change.TheVariants.{Insert, Move, Remove, Update}
use Rattle.command_set.specs.declared.state.Plain.{Plain}
use Rattle.command_set.specs.declared.state.Session.{Session}
use Rattle.command_set.specs.declared.state.Transaction.{Transaction}
use Rattle.table_state.specs.Rows.{cell_value}
use Rattle.table_state.specs.Tables.{AreCellsOf, toast_rel_of}
use Rattle.write_steps.specs.declared.stage.OldRow.{OldRow}
use Rattle.core_state.proofs.Answered.{answer_is, answered}
use Rattle.core_state.specs.Begun.{begun, inserted_row, job_writing, updated_row, write_begun}
use Rattle.core_state.specs.Commands.{IsFitting}
use Rattle.core_state.specs.Events.{Looked, WriteBegun, at_moment}
use Rattle.core_state.specs.Facts.{IsSound, PartsAreSound}
use Rattle.core_state.specs.Lines.{after_write_begun}
use Rattle.core_state.specs.Moves.{Runs}
use Rattle.core_state.specs.Stands.{Stands}
use Rattle.core_state.specs.State.{CoreState, IsSession, IsTableOf, is_past_moment, schemas_of, seat_of, table_at}
use Rattle.core_state.specs.Views.{in_view, row_seen}
use Rattle.command_set.specs.declared.Command.TheVariants as commands
use Rattle.command_set.specs.declared.Reply.TheVariants as replies
use Rattle.command_set.specs.declared.state.Session.TheVariants as plain
use Rattle.core_state.specs.declared.advance.Advance.TheVariants as advances
use Rattle.core_state.specs.declared.seat.Job.TheVariants as jobs
use Rattle.core_looks.proofs.Before.{fits_at, in_use, session_in_use, table_in, used_at}
use Rattle.core_looks.proofs.Replies.{reply_is}
use Rattle.core_looks.proofs.Used.{session_used}
use Rattle.core_looks.proofs.Views.{open_as, seen_is}
use Rattle.core_looks.specs.Due.{reply_due}
use Rattle.core_writes.proofs.Changes.{delete_change, insert_change, rekey_change, update_change}
use Rattle.core_writes.proofs.Granted.{sound_write}
use Rattle.core_writes.proofs.Jobs.{storages_at}
use Rattle.core_writes.proofs.Known.{granted_delete, granted_insert, granted_rekey, granted_update, inserted_can, old_is, updated_can}
use Rattle.core_writes.proofs.Plans.{can_push}
use Rattle.core_writes.proofs.Rows.{limits_of}
use Rattle.core_writes.proofs.Replies.{FindsNone, FindsOld, delete_tells, insert_tells, rekey_tells, update_tells}
use Rattle.core_writes.proofs.Runs.{Answers, falls_write, job_begun, runs_write}
use Rattle.core_writes.proofs.Views.{row_found_at}
use Rattle.core_writes.specs.Laws.{CanWrite, IsDueGranted, RowsCanBeWritten, WriteGoesOn, columns_of, WritesFall, WritesKeep, WritesRun, granted_to}

before_of : (c : CoreState) (s : ℕ) (command : Command) → IsDueGranted c s command → is_past_moment (seat_of c s).job ≡ false
before_of c s command due = ap is_past_moment due.job

fits_of : (c : CoreState) (s : ℕ) (command : Command) → IsDueGranted c s command → IsFitting (schemas_of c.tables) command
fits_of c s command due = fits_at c s command due.there due.sound due.job

-- ---- what the plain store answers

-- a granted write answers okay, and has its effect
granted_answer : (c : CoreState) (s t : ℕ) (command : Command) (m : Plain) (told : List (Option Reply)) (tr : Transaction) → IsDueGranted c s command → table_of command ≡ Some t → reply_due c s command ≡ replies.Okay → Stands c m told → session_of m s ≡ plain.Open tr
    → answer (schemas_of c.tables) m s command ≡ answered replies.Okay (effect (in_use m s tr t) s (with_use m tr t) command)
granted_answer c s t command m told tr due table okay stands is =
    let used : once_used m s (session_of m s) (table_of command) ≡ in_use m s tr t = ap (once_used m s (session_of m s)) table ∙ used_at m s t tr stands.upkeep is in
    let said : reply_of (schemas_of c.tables) (in_use m s tr t) s command ≡ replies.Okay = sym (ap (λ (n : Plain). reply_of (schemas_of c.tables) n s command) used) ∙ reply_is c s command m told due.there due.sound due.parts due.job stands ∙ okay in
    answer_is (schemas_of c.tables) m (in_use m s tr t) s command replies.Okay used said
    ∙ ap (λ (session : Session). answered replies.Okay (effect (in_use m s tr t) s (transaction_of session) command)) (session_in_use c m told s (plain.Open (with_use m tr t)) due.there stands)

-- a session that is written twice
state_twice : (m : Plain) (s : ℕ) (first second : Session) → with_session (with_session m s first) s second ≡ with_session m s second
state_twice m s first second = ap (λ (sessions : List Session). let after : Plain = record m { sessions = sessions } in after) (set_twice m.sessions (s - 1) first second)

-- where the effect is one change more
answers_by : (c : CoreState) (s t : ℕ) (command : Command) (change : Change) → IsDueGranted c s command → table_of command ≡ Some t → reply_due c s command ≡ replies.Okay
    → ((m : Plain) (told : List (Option Reply)) (tr : Transaction) → Stands c m told → session_of m s ≡ plain.Open tr → effect (in_use m s tr t) s (with_use m tr t) command ≡ with_session (in_use m s tr t) s (plain.Open (with_change (with_use m tr t) change)))
    → Answers c s t command change
answers_by c s t command change due table okay each m told tr stands is =
    granted_answer c s t command m told tr due table okay stands is
    ∙ ap (answered replies.Okay) (each m told tr stands is ∙ state_twice m s (plain.Open (with_use m tr t)) (plain.Open (with_change (with_use m tr t) change)))

-- the row that the plain store's transaction sees where the core's session sees one
viewed : (c : CoreState) (s t : ℕ) (key : ℤ) (old : OldRow) (m : Plain) (told : List (Option Reply)) (tr : Transaction) → IsSession c.seats s → IsTableOf c.tables t → is_past_moment (seat_of c s).job ≡ false → IsSound c → PartsAreSound c → Stands c m told → session_of m s ≡ plain.Open tr
    → row_seen c s t key ≡ Some old → row_at (view_of (in_use m s tr t) (with_use m tr t)) (place t key) ≡ mapped (cell_value (table_at c.tables t).toast) old.stored.cells
viewed c s t key old m told tr there table before sound parts stands is seen =
    ap (λ (o : Option Row). unwrap_or o []) (seen_is c m s t key tr there table before sound parts (open_as c m told s tr there stands is) ∙ ap (option_map (λ (row : OldRow). mapped (cell_value (table_at c.tables t).toast) row.stored.cells)) seen)

-- ---- the lines

insert_line : (c : CoreState) (s t : ℕ) (key : ℤ) (row : Row) → granted_to c s (commands.Insert t key row) ≡ after_write_begun c s t (key ∷ []) (write_begun c s t None (Some (inserted_row key row)))
insert_line c s t key row = refl

update_line : (c : CoreState) (s t : ℕ) (key : ℤ) (sets : List Set) (old : OldRow) → row_seen c s t key ≡ Some old
    → granted_to c s (commands.Update t key sets) ≡ after_write_begun c s t (key ∷ []) (write_begun c s t (Some old) (Some (updated_row old.stored key sets)))
update_line c s t key sets old seen = ap (λ (o : Option OldRow). at_moment (option_map_or (λ (row : OldRow). WriteBegun t (key ∷ []) (write_begun c s t (Some row) (Some (updated_row row.stored key sets)))) o (Looked t)) c s) seen

delete_line : (c : CoreState) (s t : ℕ) (key : ℤ) (old : OldRow) → row_seen c s t key ≡ Some old → granted_to c s (commands.Delete t key) ≡ after_write_begun c s t (key ∷ []) (write_begun c s t (Some old) None)
delete_line c s t key old seen = ap (λ (o : Option OldRow). at_moment (option_map_or (λ (row : OldRow). WriteBegun t (key ∷ []) (write_begun c s t (Some row) None)) o (Looked t)) c s) seen

rekey_line : (c : CoreState) (s t : ℕ) (from to : ℤ) (sets : List Set) (old : OldRow) → row_seen c s t from ≡ Some old
    → granted_to c s (commands.Rekey t from to sets) ≡ after_write_begun c s t (from ∷ to ∷ []) (write_begun c s t (Some old) (Some (updated_row old.stored to sets)))
rekey_line c s t from to sets old seen = ap (λ (o : Option OldRow). at_moment (option_map_or (λ (row : OldRow). WriteBegun t (from ∷ to ∷ []) (write_begun c s t (Some row) (Some (updated_row row.stored to sets)))) o (Looked t)) c s) seen

-- a key that is changed to is not the one that it is changed from
keys_differ : (c : CoreState) (s t : ℕ) (from to : ℤ) → FindsOld c s t from → FindsNone c s t to → from ≢ to
keys_differ c s t from to finds none is = clash (sym finds.seen ∙ ap (row_seen c s t) is ∙ none.seen)
  where
    clash : Some finds.old ≡ None → ⊥
    clash e = absurd (cc)

-- the key of the row that is seen at a key
key_seen : (c : CoreState) (s t : ℕ) (key : ℤ) → IsTableOf c.tables t → IsSound c → (finds : FindsOld c s t key) → finds.old.stored.key ≡ key
key_seen c s t key table sound finds = (old_is c t (in_view c.xacts c.snaps (seat_of c s).state) key finds.old table sound (row_found_at c t (in_view c.xacts c.snaps (seat_of c s).state) key finds.old finds.seen)).at_key

-- ---- sound

pub writes_keep : WritesKeep
writes_keep = record {
  insert = λ c s t key row due.
      let command = commands.Insert t key row in
      let tells = insert_tells c s t key row due.granted in
      let fits = fits_of c s command due in
      sound_write c s t (key ∷ []) None (Some (inserted_row key row)) due.there due.sound (table_in c t fits.0.of_table) tells.opened (before_of c s command due) (granted_insert c s t key row due.there due.sound due.parts fits tells);
  update = λ c s t key sets due.
      let command = commands.Update t key sets in
      let tells = update_tells c s t key sets due.granted in
      let fits = fits_of c s command due in
      let old = tells.finds.old in
      subst IsSound (sym (update_line c s t key sets old tells.finds.seen))
      (sound_write c s t (key ∷ []) (Some old) (Some (updated_row old.stored key sets)) due.there due.sound (table_in c t fits.of_table) tells.opened (before_of c s command due) (granted_update c s t key sets due.there due.sound fits tells));
  delete = λ c s t key due.
      let command = commands.Delete t key in
      let tells = delete_tells c s t key due.granted in
      let fits = fits_of c s command due in
      let old = tells.finds.old in
      subst IsSound (sym (delete_line c s t key old tells.finds.seen))
      (sound_write c s t (key ∷ []) (Some old) None due.there due.sound (table_in c t fits) tells.opened (before_of c s command due) (granted_delete c s t key due.there due.sound fits tells));
  rekey = λ c s t from to sets due.
      let command = commands.Rekey t from to sets in
      let tells = rekey_tells c s t from to sets due.granted in
      let fits = fits_of c s command due in
      let old = tells.finds.old in
      subst IsSound (sym (rekey_line c s t from to sets old tells.finds.seen))
      (sound_write c s t (from ∷ to ∷ []) (Some old) (Some (updated_row old.stored to sets)) due.there due.sound (table_in c t fits.0.of_table) tells.opened (before_of c s command due) (granted_rekey c s t from to sets due.there due.sound due.parts fits tells));
}

-- ---- the plain store

runs_insert : (c : CoreState) (s t : ℕ) (key : ℤ) (row : Row) → IsDueGranted c s (commands.Insert t key row) → Runs c s (commands.Insert t key row) (granted_to c s (commands.Insert t key row)) advances.More
runs_insert c s t key row due =
    let command = commands.Insert t key row in
    let tells = insert_tells c s t key row due.granted in
    let change = Insert t key row in
    runs_write c s t (key ∷ []) None (Some (inserted_row key row)) command change due.there due.sound tells.opened due.job refl
    (λ x. insert_change c.tables t s x key row (storages_at c t))
    (answers_by c s t command change due refl tells.okay (λ m told tr stands is. refl))

runs_update : (c : CoreState) (s t : ℕ) (key : ℤ) (sets : List Set) → IsDueGranted c s (commands.Update t key sets) → Runs c s (commands.Update t key sets) (granted_to c s (commands.Update t key sets)) advances.More
runs_update c s t key sets due =
    let command = commands.Update t key sets in
    let tells = update_tells c s t key sets due.granted in
    let old = tells.finds.old in
    let before = before_of c s command due in
    let table = table_in c t (fits_of c s command due).of_table in
    let change = Update t key (row_with (mapped (cell_value (table_at c.tables t).toast) old.stored.cells) sets) in
    subst (λ (new : CoreState). Runs c s command new advances.More) (sym (update_line c s t key sets old tells.finds.seen))
    (runs_write c s t (key ∷ []) (Some old) (Some (updated_row old.stored key sets)) command change due.there due.sound tells.opened due.job refl
    (λ x. update_change c.tables t s x key old sets (storages_at c t) (key_seen c s t key table due.sound tells.finds))
    (answers_by c s t command change due refl tells.okay
    (λ m told tr stands is. ap (λ (row : Row). with_session (in_use m s tr t) s (plain.Open (with_change (with_use m tr t) (Update t key (row_with row sets))))) (viewed c s t key old m told tr due.there table before due.sound due.parts stands is tells.finds.seen))))

runs_delete : (c : CoreState) (s t : ℕ) (key : ℤ) → IsDueGranted c s (commands.Delete t key) → Runs c s (commands.Delete t key) (granted_to c s (commands.Delete t key)) advances.More
runs_delete c s t key due =
    let command = commands.Delete t key in
    let tells = delete_tells c s t key due.granted in
    let old = tells.finds.old in
    let table = table_in c t (fits_of c s command due) in
    let change = Remove t key in
    subst (λ (new : CoreState). Runs c s command new advances.More) (sym (delete_line c s t key old tells.finds.seen))
    (runs_write c s t (key ∷ []) (Some old) None command change due.there due.sound tells.opened due.job refl
    (λ x. delete_change c.tables t s x key old (storages_at c t) (key_seen c s t key table due.sound tells.finds))
    (answers_by c s t command change due refl tells.okay (λ m told tr stands is. refl)))

runs_rekey : (c : CoreState) (s t : ℕ) (from to : ℤ) (sets : List Set) → IsDueGranted c s (commands.Rekey t from to sets) → Runs c s (commands.Rekey t from to sets) (granted_to c s (commands.Rekey t from to sets)) advances.More
runs_rekey c s t from to sets due =
    let command = commands.Rekey t from to sets in
    let tells = rekey_tells c s t from to sets due.granted in
    let old = tells.finds.old in
    let before = before_of c s command due in
    let table = table_in c t (fits_of c s command due).0.of_table in
    let change = Move t from to (row_with (mapped (cell_value (table_at c.tables t).toast) old.stored.cells) sets) in
    subst (λ (new : CoreState). Runs c s command new advances.More) (sym (rekey_line c s t from to sets old tells.finds.seen))
    (runs_write c s t (from ∷ to ∷ []) (Some old) (Some (updated_row old.stored to sets)) command change due.there due.sound tells.opened due.job refl
    (λ x. rekey_change c.tables t s x from to old sets (storages_at c t) (key_seen c s t from table due.sound tells.finds) (keys_differ c s t from to tells.finds tells.none))
    (answers_by c s t command change due refl tells.okay
    (λ m told tr stands is. ap (λ (row : Row). with_session (in_use m s tr t) s (plain.Open (with_change (with_use m tr t) (Move t from to (row_with row sets))))) (viewed c s t from old m told tr due.there table before due.sound due.parts stands is tells.finds.seen))))

pub writes_run : WritesRun
writes_run = record { insert = runs_insert; update = runs_update; delete = runs_delete; rekey = runs_rekey }

-- ---- what is left

goes_on : (c : CoreState) (s t : ℕ) (keys : List ℤ) (old : Option OldRow) (new : Option Stored) (command : Command) (after : CoreState) → IsDueGranted c s command → begun c s command ≡ job_writing c s t old new → after ≡ after_write_begun c s t keys (write_begun c s t old new) → WriteGoesOn c after s
goes_on c s t keys old new command after due is line = subst (λ (core : CoreState). WriteGoesOn c core s) (sym line) (record {
  past = ap is_past_moment (job_begun c s t keys (write_begun c s t old new) (session_used c s t due.there));
  falls = falls_write c s t keys old new command due.there due.job is;
})

pub writes_fall : WritesFall
writes_fall = record {
  insert = λ c s t key row due. goes_on c s t (key ∷ []) None (Some (inserted_row key row)) (commands.Insert t key row) (granted_to c s (commands.Insert t key row)) due refl (insert_line c s t key row);
  update = λ c s t key sets due.
      let finds = (update_tells c s t key sets due.granted).finds in
      let old = finds.old in
      goes_on c s t (key ∷ []) (Some old) (Some (updated_row old.stored key sets)) (commands.Update t key sets) (granted_to c s (commands.Update t key sets)) due
      (ap (λ (o : Option OldRow). option_map_or (λ (row : OldRow). job_writing c s t (Some row) (Some (updated_row row.stored key sets))) o jobs.Idle) finds.seen) (update_line c s t key sets old finds.seen);
  delete = λ c s t key due.
      let finds = (delete_tells c s t key due.granted).finds in
      let old = finds.old in
      goes_on c s t (key ∷ []) (Some old) None (commands.Delete t key) (granted_to c s (commands.Delete t key)) due
      (ap (λ (o : Option OldRow). option_map_or (λ (row : OldRow). job_writing c s t (Some row) None) o jobs.Idle) finds.seen) (delete_line c s t key old finds.seen);
  rekey = λ c s t from to sets due.
      let finds = (rekey_tells c s t from to sets due.granted).finds in
      let old = finds.old in
      goes_on c s t (from ∷ to ∷ []) (Some old) (Some (updated_row old.stored to sets)) (commands.Rekey t from to sets) (granted_to c s (commands.Rekey t from to sets)) due
      (ap (λ (o : Option OldRow). option_map_or (λ (row : OldRow). job_writing c s t (Some row) (Some (updated_row row.stored to sets))) o jobs.Idle) finds.seen) (rekey_line c s t from to sets old finds.seen);
}

-- ---- before the moment

can_write : (c : CoreState) (t : ℕ) (new : Stored) → length new.cells ≡ length (storages_at c t) → AreCellsOf (toast_rel_of t) (storages_at c t) new.cells → CanWrite (columns_of c t) new
can_write c t new one_each cells =
    let limits = limits_of (toast_rel_of t) (storages_at c t) new.cells one_each cells in
    record { one_each = one_each; limits = limits; begins = λ old. can_push (storages_at c t) new one_each limits }

pub rows_can_be_written : RowsCanBeWritten
rows_can_be_written = record {
  inserted = λ c t key row is.
      let can = inserted_can c t row is in
      can_write c t (inserted_row key row) can.0 can.1;
  updated = λ c s t key to sets old sound seen are.
      let found = row_found_at c t (in_view c.xacts c.snaps (seat_of c s).state) key old seen in
      let can = updated_can c t key old sets are (old_is c t (in_view c.xacts c.snaps (seat_of c s).state) key old (table_in c t are.of_table) sound found) in
      can_write c t (updated_row old.stored to sets) can.0 can.1;
}
