-- Every moment of a journal keeps what holds between the plain store and the stream.
use Rattle.std.proofs.Common.{◌≡◌, ◌≤◌, ◌-◌, ℕ, Bool, true, false, cond, List, [], ◌∷◌, ◌++◌, Option, Some, None, Ok, length, refl, sym, ap, ◌∙◌, subst, arith, suc, zero}
use Rattle.std.specs.Prelude.{◌&&◌, ◌||◌, map as mapped, is_none, is_some, nat_lt, not, slice_set, replicate, if◌then◌else◌}
use Rattle.std.specs.Option.{option_map, option_map_or, option_to_list, unwrap_or}
use Rattle.std.proofs.lemmas.List.{length-replicate}
use Rattle.std.specs.FinMap as map
use Rattle.tuple_layout.specs.declared.Place.{Place}
use Rattle.tuple_layout.specs.Places.{Rows}
use Rattle.command_set.specs.declared.Command.{Command}
use Rattle.command_set.specs.declared.Command.TheVariants as commands
use Rattle.command_set.specs.declared.JournalEntry.{JournalEntry}
use Rattle.command_set.specs.declared.Kind.{Kind}
use Rattle.command_set.specs.declared.Kind.TheVariants as kinds
use Rattle.command_set.specs.declared.Level.{Level}
use Rattle.command_set.specs.declared.Level.TheVariants as levels
use Rattle.command_set.specs.declared.Reply.{Reply}
use Rattle.command_set.specs.declared.Reply.TheVariants as replies
use Rattle.command_set.specs.declared.Script.{Script}
use Rattle.command_set.specs.declared.journal.Run.{Run}
use Rattle.command_set.specs.declared.state.Change.{Change}
use Rattle.command_set.specs.declared.state.Change.TheVariants.{Insert, Update, Move, Remove}
use Rattle.command_set.specs.declared.state.Plain.{Plain}
use Rattle.command_set.specs.declared.state.Session.{Session}
use Rattle.command_set.specs.declared.state.Session.TheVariants as sessions
use Rattle.command_set.specs.declared.state.Transaction.{Transaction}
use Rattle.command_set.specs.Changes.{is_named, keys_of, place, places_of}
use Rattle.command_set.specs.Plain.{first_state, nth, now_of, row_at, row_with, session_of, view_of}
use Rattle.command_set.specs.Replies.{absent, answers_if, busy, changed, changer_of, failed, first_of, granted, is_failed, is_granted, is_outside, locked, outside, refusals, reply_of, rewriter_of, schema_of, taken, too_big, transaction_of}
use Rattle.command_set.specs.Answers.{effect, failed_session, once_used, refused, table_of, with_change, with_copy, with_failure, with_use}
use Rattle.command_set.specs.Journals.{Moment, after_moment, came_of, command_at, cut_short, first_run, is_run, moment_at, moments, moments_on, run_of, run_on, run_through, runs_upkeep, state_after, without_upkeep}
use Rattle.command_set.proofs.Numbered.{nth_within}
use Rattle.list_facts.proofs.Changed.{set_same}
use Rattle.replica_map.specs.Applies.{apply_stream}
use Rattle.change_stream.specs.declared.written.Written.{Written}
use Rattle.change_stream.specs.Streams.{Stream, commits, first_stream, is_commit, kept_by, outs_with, stream, stream_after, stream_through, written_of}
use Rattle.change_stream.proofs.Sending.{SendsBy}
use Rattle.change_stream.proofs.Holding.{Holds, IsFree, IsTold, begins_anew, goes_on, one_other, stays, there_in, transaction_in, writes}
use Rattle.change_stream.proofs.Committing.{commit_holds}
use Rattle.change_stream.proofs.Granted.{free_one, free_two, is_there, not_taken, now_view, passes, receives, refuses_by, refuses_if}

-- a session in range of a journal's entry
pub record IsWithin (n : ℕ) (s : ℕ) : Type 0 where
  pub one : 1 ≤ s
  pub last : s ≤ n

-- ---- a table is used

copied_changes : (latest : Rows) (t : Transaction) (level : Level) (base : Option Rows) → (with_copy latest t level base).changes ≡ t.changes
copied_changes latest t levels.Rc base = refl
copied_changes latest t levels.Rr None = refl
copied_changes latest t levels.Rr (Some rows) = refl

copied_copy : (latest : Rows) (t : Transaction) (level : Level) (base : Option Rows)
    → ((base : Rows) → t.base ≡ Some base → (p : Place) → is_named t.since p ≡ false → map.get base p ≡ map.get latest p)
    → (rows : Rows) → (with_copy latest t level base).base ≡ Some rows → (p : Place) → is_named (with_copy latest t level base).since p ≡ false → map.get rows p ≡ map.get latest p
copied_copy latest t levels.Rc base copy rows is p unnamed = copy rows is p unnamed
copied_copy latest t levels.Rr None copy rows is p unnamed = let same : latest ≡ rows = cc in ap (λ (r : Rows). map.get r p) (sym same)
copied_copy latest t levels.Rr (Some base) copy rows is p unnamed = copy rows is p unnamed

use_told : (m : Plain) (t : Transaction) (table : ℕ) (ws : List Written) → IsTold m.latest t ws → IsTold m.latest (with_use m t table) ws
use_told m t table ws its = record {
  changes = its.changes ∙ sym (copied_changes m.latest t t.level t.base);
  sent = its.sent;
  copy = copied_copy m.latest t t.level t.base its.copy;
}

-- a command's use of its table keeps what holds
pub used_holds : (n : ℕ) (m : Plain) (st : Stream) (s : ℕ) (session : Session) (table : Option ℕ) → Holds n m st → IsWithin n s → session_of m s ≡ session → Holds n (once_used m s session table) st
used_holds n m st s sessions.Outside table h within is = h
used_holds n m st s sessions.Failed table h within is = h
used_holds n m st s (sessions.Open t) None h within is = h
used_holds n m st s (sessions.Open t) (Some table) h within is = by (is_some (rewriter_of m s table))
  where
    its : IsTold m.latest t (written_of st s)
    its = subst (λ (x : Session). IsTold m.latest (transaction_of x) (written_of st s)) is (h.each s)

    kept : slice_set st.written (s - 1) (written_of st s) ≡ st.written
    kept = set_same st.written (s - 1) (written_of st s) (there_in st.written s [] within.one (omega (arith, within.last, h.lists)))

    by : (b : Bool) → Holds n (cond b m (Rattle.command_set.specs.Plain.with_session m s (sessions.Open (with_use m t table)))) st
    by true = h
    by false =
        one_other n m (Rattle.command_set.specs.Plain.with_session m s (sessions.Open (with_use m t table))) st st s (sessions.Open (with_use m t table)) (written_of st s) h within.one within.last refl refl (sym kept) refl
        (use_told m t table (written_of st s) its)
        (λ k other p named. h.apart s k (λ e. other (sym e)) p
        (ap (λ (x : Session). is_named (keys_of (transaction_of x).changes) p) is ∙ ap (λ (cs : List Change). is_named (keys_of cs) p) (sym (copied_changes m.latest t t.level t.base)) ∙ named))

-- ---- a refusal

-- a moment of a session that commits nothing
abbrev pub at_run : JournalEntry → Plain → Command → Reply → Plain → Moment
at_run e m command reply after = record { entry = e; before = m; command = command; reply = reply; after = after }

failed_changes : (session : Session) → (transaction_of (failed_session session)).changes ≡ []
failed_changes sessions.Outside = refl
failed_changes sessions.Failed = refl
failed_changes (sessions.Open t) = refl

failed_base : (session : Session) → (transaction_of (failed_session session)).base ≡ None
failed_base sessions.Outside = refl
failed_base sessions.Failed = refl
failed_base (sessions.Open t) = refl

-- a failed transaction
failure_holds : (script : Script) (n : ℕ) (m : Plain) (st : Stream) (x : Moment) → Holds n m st → IsWithin n x.entry.session → commits x ≡ false → x.after ≡ with_failure m x.entry.session → Holds n x.after (stream_after script st x)
failure_holds script n m st x h within quiet after =
    begins_anew script n m st x (failed_session (session_of m x.entry.session)) h within.one within.last quiet
    (ap (λ (y : Plain). y.latest) after) (ap (λ (y : Plain). y.sessions) after)
    (failed_changes (session_of m x.entry.session)) (failed_base (session_of m x.entry.session))

-- nothing but upkeep
same_holds : (script : Script) (n : ℕ) (m : Plain) (st : Stream) (x : Moment) → Holds n m st → IsWithin n x.entry.session → commits x ≡ false → x.after.latest ≡ m.latest → x.after.sessions ≡ m.sessions → Holds n x.after (stream_after script st x)
same_holds script n m st x h within quiet latest sessions_are = stays script n m st x h within.one within.last quiet latest sessions_are

-- a command that ended early
cut_holds : (script : Script) (n : ℕ) (m : Plain) (st : Stream) (x : Moment) → Holds n m st → IsWithin n x.entry.session → commits x ≡ false → x.after ≡ cut_short m x.entry.session → Holds n x.after (stream_after script st x)
cut_holds script n m st x h within quiet after = by (runs_upkeep m x.entry.session) after
  where
    by : (b : Bool) → x.after ≡ cond b (without_upkeep m x.entry.session) (with_failure m x.entry.session) → Holds n x.after (stream_after script st x)
    by true is = same_holds script n m st x h within quiet (ap (λ (y : Plain). y.latest) is) (ap (λ (y : Plain). y.sessions) is)
    by false is = failure_holds script n m st x h within quiet is

-- a refusal
refused_holds : (script : Script) (n : ℕ) (m : Plain) (st : Stream) (x : Moment) (reply : Reply) → Holds n m st → IsWithin n x.entry.session → commits x ≡ false → x.after ≡ refused m x.entry.session reply → Holds n x.after (stream_after script st x)
refused_holds script n m st x replies.RolledBack h within quiet after =
    begins_anew script n m st x sessions.Outside h within.one within.last quiet (ap (λ (y : Plain). y.latest) after) (ap (λ (y : Plain). y.sessions) after) refl refl
refused_holds script n m st x reply h within quiet after = by (Rattle.command_set.specs.Replies.fails reply) after
  where
    by : (b : Bool) → x.after ≡ cond b (with_failure m x.entry.session) m → Holds n x.after (stream_after script st x)
    by true is = failure_holds script n m st x h within quiet is
    by false is = same_holds script n m st x h within quiet (ap (λ (y : Plain). y.latest) is) (ap (λ (y : Plain). y.sessions) is)

-- ---- a granted command

-- the refusals before a table's use were not there
pub past_use : (m : Plain) (s table : ℕ) (rest : List (Option Reply)) (g : Reply) → is_granted (first_of (outside m s ∷ failed m s ∷ locked (rewriter_of m s table) ∷ rest) g) ≡ true → is_granted (first_of rest g) ≡ true
past_use m s table rest g given =
    let a = passes (outside m s) (failed m s ∷ locked (rewriter_of m s table) ∷ rest) g (refuses_if (is_outside (session_of m s)) replies.Outside refl) given in
    let b = passes (failed m s) (locked (rewriter_of m s table) ∷ rest) g (refuses_if (is_failed (session_of m s)) replies.Failed refl) a.1 in
    (passes (locked (rewriter_of m s table)) rest g (refuses_by (rewriter_of m s table) replies.Locked (λ n. refl)) b.1).1

past_busy : (m : Plain) (s : ℕ) (p : Place) (rest : List (Option Reply)) (g : Reply) → is_granted (first_of (busy m s p ∷ rest) g) ≡ true → (busy m s p ≡ None) × (is_granted (first_of rest g) ≡ true)
past_busy m s p rest g given = passes (busy m s p) rest g (refuses_by (changer_of m s p) replies.Busy (λ n. refl)) given

past_taken : (m : Plain) (t : Transaction) (p : Place) (rest : List (Option Reply)) (g : Reply) → is_granted (first_of (taken m t p ∷ rest) g) ≡ true → (taken m t p ≡ None) × (is_granted (first_of rest g) ≡ true)
past_taken m t p rest g given = passes (taken m t p) rest g (refuses_if (is_some (map.get (now_of m t) p) || is_some (map.get (view_of m t) p)) replies.Taken refl) given

pub past_absent : (view : Rows) (p : Place) (rest : List (Option Reply)) (g : Reply) → is_granted (first_of (absent view p ∷ rest) g) ≡ true → (absent view p ≡ None) × (is_granted (first_of rest g) ≡ true)
past_absent view p rest g given = passes (absent view p) rest g (refuses_if (is_none (map.get view p)) replies.Absent refl) given

past_changed : (t : Transaction) (p : Place) (rest : List (Option Reply)) (g : Reply) → is_granted (first_of (changed t p ∷ rest) g) ≡ true → (changed t p ≡ None) × (is_granted (first_of rest g) ≡ true)
past_changed t p rest g given = passes (changed t p) rest g (refuses_if (is_some t.base && is_named t.since p && not (is_named (keys_of t.changes) p)) replies.Changed refl) given

-- a write that is granted makes its change
write_holds : (script : Script) (n : ℕ) (m : Plain) (st : Stream) (x : Moment) (command : Command) (change : Change) → Holds n m st → IsWithin n x.entry.session → commits x ≡ false → x.command ≡ command
    → x.after ≡ Rattle.command_set.specs.Plain.with_session m x.entry.session (sessions.Open (with_change (transaction_in m x.entry.session) change))
    → ((outs : Place → List ℕ) → SendsBy (now_of m (transaction_in m x.entry.session)) change (kept_by command outs)) → IsFree m x.entry.session (places_of change) → Holds n x.after (stream_after script st x)
write_holds script n m st x command change h within quiet is after sends free =
    writes script n m st x (sessions.Open (with_change (transaction_in m x.entry.session) change)) change h within.one within.last quiet
    (ap (λ (y : Plain). y.latest) after) (ap (λ (y : Plain). y.sessions) after) refl refl refl
    (subst (λ (c : Command). SendsBy (now_of m (transaction_in m x.entry.session)) change (kept_by c (outs_with st.outs (written_of st x.entry.session)))) (sym is) (sends (outs_with st.outs (written_of st x.entry.session))))
    free

-- a command that is granted
granted_holds : (script : Script) (n : ℕ) (m : Plain) (st : Stream) (x : Moment) (command : Command) → Holds n m st → IsWithin n x.entry.session → commits x ≡ is_commit command → x.command ≡ command
    → is_granted (reply_of script.schemas m x.entry.session command) ≡ true → x.after ≡ effect m x.entry.session (transaction_in m x.entry.session) command → Holds n x.after (stream_after script st x)
granted_holds script n m st x (commands.Begin level) h within quiet is given after =
    begins_anew script n m st x _ h within.one within.last quiet (ap (λ (y : Plain). y.latest) after) (ap (λ (y : Plain). y.sessions) after) refl refl
granted_holds script n m st x commands.Commit h within quiet is given after = commit_holds script n m st x h within.one within.last quiet after
granted_holds script n m st x commands.Rollback h within quiet is given after =
    begins_anew script n m st x sessions.Outside h within.one within.last quiet (ap (λ (y : Plain). y.latest) after) (ap (λ (y : Plain). y.sessions) after) refl refl
granted_holds script n m st x (commands.Get table key) h within quiet is given after = same_holds script n m st x h within quiet (ap (λ (y : Plain). y.latest) after) (ap (λ (y : Plain). y.sessions) after)
granted_holds script n m st x (commands.Part table key column offset len) h within quiet is given after = same_holds script n m st x h within quiet (ap (λ (y : Plain). y.latest) after) (ap (λ (y : Plain). y.sessions) after)
granted_holds script n m st x (commands.Open handle table key column) h within quiet is given after =
    goes_on script n m st x _ h within.one within.last quiet (ap (λ (y : Plain). y.latest) after) (ap (λ (y : Plain). y.sessions) after) refl refl refl
granted_holds script n m st x (commands.Fetch handle offset len) h within quiet is given after = same_holds script n m st x h within quiet (ap (λ (y : Plain). y.latest) after) (ap (λ (y : Plain). y.sessions) after)
granted_holds script n m st x (commands.Close handle) h within quiet is given after =
    goes_on script n m st x _ h within.one within.last quiet (ap (λ (y : Plain). y.latest) after) (ap (λ (y : Plain). y.sessions) after) refl refl refl
granted_holds script n m st x (commands.Insert table key row) h within quiet is given after =
    let s = x.entry.session in
    let t = transaction_in m s in
    let p = place table key in
    let big = too_big (schema_of script.schemas table) row ∷ [] in
    let free = past_busy m s p (taken m t p ∷ big) replies.Okay (past_use m s table (busy m s p ∷ taken m t p ∷ big) replies.Okay given) in
    let lacks = past_taken m t p big replies.Okay free.1 in
    write_holds script n m st x (commands.Insert table key row) (Insert table key row) h within quiet is after
    (λ outs. (not_taken m t p lacks.0, refl))
    (free_one m s p free.0)
granted_holds script n m st x (commands.Update table key sets) h within quiet is given after =
    let s = x.entry.session in
    let t = transaction_in m s in
    let p = place table key in
    let view = view_of m t in
    let row = row_with (row_at view p) sets in
    let big = too_big (schema_of script.schemas table) row ∷ [] in
    let there = past_absent view p (busy m s p ∷ changed t p ∷ big) replies.Okay (past_use m s table (absent view p ∷ busy m s p ∷ changed t p ∷ big) replies.Okay given) in
    let free = past_busy m s p (changed t p ∷ big) replies.Okay there.1 in
    let same = past_changed t p big replies.Okay free.1 in
    write_holds script n m st x (commands.Update table key sets) (Update table key row) h within quiet is after
    (λ outs. receives (now_of m t) view p sets (outs p) (now_view m t p (h.each s).copy same.0) there.0)
    (free_one m s p free.0)
granted_holds script n m st x (commands.Delete table key) h within quiet is given after =
    let s = x.entry.session in
    let t = transaction_in m s in
    let p = place table key in
    let view = view_of m t in
    let there = past_absent view p (busy m s p ∷ changed t p ∷ []) replies.Okay (past_use m s table (absent view p ∷ busy m s p ∷ changed t p ∷ []) replies.Okay given) in
    let free = past_busy m s p (changed t p ∷ []) replies.Okay there.1 in
    let same = past_changed t p [] replies.Okay free.1 in
    let old = is_there view p there.0 in
    write_holds script n m st x (commands.Delete table key) (Remove table key) h within quiet is after
    (λ outs. record { old = old.old; is = now_view m t p (h.each s).copy same.0 ∙ old.is })
    (free_one m s p free.0)
granted_holds script n m st x (commands.Rekey table from to sets) h within quiet is given after =
    let s = x.entry.session in
    let t = transaction_in m s in
    let p = place table from in
    let q = place table to in
    let view = view_of m t in
    let row = row_with (row_at view p) sets in
    let big = too_big (schema_of script.schemas table) row ∷ [] in
    let last = busy m s q ∷ taken m t q ∷ big in
    let there = past_absent view p (busy m s p ∷ changed t p ∷ last) replies.Okay (past_use m s table (absent view p ∷ busy m s p ∷ changed t p ∷ last) replies.Okay given) in
    let free = past_busy m s p (changed t p ∷ last) replies.Okay there.1 in
    let same = past_changed t p last replies.Okay free.1 in
    let free_new = past_busy m s q (taken m t q ∷ big) replies.Okay same.1 in
    let lacks = past_taken m t q big replies.Okay free_new.1 in
    write_holds script n m st x (commands.Rekey table from to sets) (Move table from to row) h within quiet is after
    (λ outs. (receives (now_of m t) view p sets (outs p) (now_view m t p (h.each s).copy same.0) there.0, not_taken m t q lacks.0))
    (free_two m s p q free.0 free_new.0)
granted_holds script n m st x (commands.VacuumMain table) h within quiet is given after = same_holds script n m st x h within quiet (ap (λ (y : Plain). y.latest) after) (ap (λ (y : Plain). y.sessions) after)
granted_holds script n m st x (commands.VacuumToast table) h within quiet is given after = same_holds script n m st x h within quiet (ap (λ (y : Plain). y.latest) after) (ap (λ (y : Plain). y.sessions) after)
granted_holds script n m st x (commands.Rewrite table) h within quiet is given after = same_holds script n m st x h within quiet (ap (λ (y : Plain). y.latest) after) (ap (λ (y : Plain). y.sessions) after)

-- ---- a moment

pub and_false : (b : Bool) → (b && false) ≡ false
and_false true = refl
and_false false = refl

and_true : (b : Bool) → (b && true) ≡ b
and_true true = refl
and_true false = refl

-- the moment of an entry keeps what holds
pub moment_holds : (script : Script) (n : ℕ) (m : Plain) (st : Stream) (e : JournalEntry) (command : Command) (kind : Kind) → e.kind ≡ kind → Holds n m st → IsWithin n e.session →
    let x = moment_at m e command (came_of script m e.session command kind) in
    Holds n x.after (stream_after script st x)
moment_holds script n m st e command kinds.Run kind h within = by (is_granted reply) refl
  where
    s : ℕ
    s = e.session

    in_use : Plain
    in_use = once_used m s (session_of m s) (table_of command)

    reply : Reply
    reply = reply_of script.schemas in_use s command

    x : Moment
    x = moment_at m e command (came_of script m s command kinds.Run)

    held : Holds n in_use st
    held = used_holds n m st s (session_of m s) (table_of command) h within refl

    commits_is : commits x ≡ (is_commit command && is_granted reply)
    commits_is = ap (λ k. is_run k && (is_commit command && is_granted reply)) kind

    by : (b : Bool) → is_granted reply ≡ b → Holds n x.after (stream_after script st x)
    by true given =
        granted_holds script n in_use st x command held within (commits_is ∙ ap (λ b. is_commit command && b) given ∙ and_true (is_commit command)) refl given
        (ap (λ b. cond b (effect in_use s (transaction_in in_use s) command) (refused in_use s reply)) given)
    by false refusing =
        refused_holds script n in_use st x reply held within (commits_is ∙ ap (λ b. is_commit command && b) refusing ∙ and_false (is_commit command))
        (ap (λ b. cond b (effect in_use s (transaction_in in_use s) command) (refused in_use s reply)) refusing)
moment_holds script n m st e command kinds.End kind h within =
    same_holds script n m st (moment_at m e command (came_of script m e.session command kinds.End)) h within (ap (λ k. is_run k && (is_commit command && false)) kind) refl refl
moment_holds script n m st e command kinds.NoValueId kind h within =
    cut_holds script n m st (moment_at m e command (came_of script m e.session command kinds.NoValueId)) h within (ap (λ k. is_run k && (is_commit command && false)) kind) refl
moment_holds script n m st e command kinds.Memory kind h within =
    cut_holds script n m st (moment_at m e command (came_of script m e.session command kinds.Memory)) h within (ap (λ k. is_run k && (is_commit command && false)) kind) refl

-- a session whose command is there
pub command_within : (script : Script) (s k : ℕ) (command : Command) → command_at script s k ≡ Some command → IsWithin (length script.sessions) s
command_within script s k command there = by (nth script.sessions s) refl there
  where
    none_there : (k : ℕ) → nth {A = Command} [] k ≡ Some command → ⊥
    none_there zero e = cc
    none_there (suc i) e = cc

    by : (o : Option (List Command)) → nth script.sessions s ≡ o → nth (unwrap_or o []) k ≡ Some command → IsWithin (length script.sessions) s
    by None is e = absurd (none_there k e)
    by (Some session) is e = let w = nth_within script.sessions s session is in record { one = w.0; last = w.1 }

-- ---- a journal

-- the stream after what entries tell
entries_hold : (script : Script) (run : Run) (st : Stream) (journal : List JournalEntry) → Holds (length script.sessions) run.plain st → Holds (length script.sessions) (run_on script run journal).plain (stream_through script st (moments_on script run.plain journal))
entries_hold script run st [] h = h
entries_hold script run st (e ∷ es) h = by (command_at script e.session e.number) refl (λ run' st' h'. entries_hold script run' st' es h')
  where
    n : ℕ
    n = length script.sessions

    at : Option Command → Option Moment
    at o = option_map (λ command. moment_at run.plain e command (came_of script run.plain e.session command e.kind)) o

    by : (o : Option Command) → command_at script e.session e.number ≡ o
        → ((run' : Run) (st' : Stream) → Holds n run'.plain st' → Holds n (run_on script run' es).plain (stream_through script st' (moments_on script run'.plain es)))
        → Holds n (run_through run (option_to_list (at (command_at script e.session e.number)) ++ moments_on script (state_after run.plain (at (command_at script e.session e.number))) es)).plain
        (stream_through script st (option_to_list (at (command_at script e.session e.number)) ++ moments_on script (state_after run.plain (at (command_at script e.session e.number))) es))
    by None is others =
        subst (λ (o : Option Command). Holds n (run_through run (option_to_list (at o) ++ moments_on script (state_after run.plain (at o)) es)).plain (stream_through script st (option_to_list (at o) ++ moments_on script (state_after run.plain (at o)) es))) (sym is) (others run st h)
    by (Some command) is others =
        let x = moment_at run.plain e command (came_of script run.plain e.session command e.kind) in
        subst (λ (o : Option Command). Holds n (run_through run (option_to_list (at o) ++ moments_on script (state_after run.plain (at o)) es)).plain (stream_through script st (option_to_list (at o) ++ moments_on script (state_after run.plain (at o)) es))) (sym is)
        (others (after_moment run x) (stream_after script st x) (moment_holds script n run.plain st e command e.kind refl h (command_within script e.session e.number command is)))

-- before the first entry
pub nth_replicate : {X : Type 0} (n k : ℕ) (d : X) → unwrap_or (nth (replicate n d) k) d ≡ d
nth_replicate n zero d = refl
nth_replicate n (suc i) d = at n i
  where
    at : (n i : ℕ) → unwrap_or (Rattle.std.specs.Prelude.slice_get (replicate n d) i) d ≡ d
    at zero i = refl
    at (suc n) zero = refl
    at (suc n) (suc i) = at n i

pub first_holds : (n : ℕ) → Holds n (first_state n) (first_stream n)
first_holds n = record {
  seats = length-replicate n sessions.Outside;
  lists = length-replicate n [];
  replica = refl;
  each = λ s.
      subst (λ (x : Session). IsTold map.empty (transaction_of x) (written_of (first_stream n) s)) (sym (nth_replicate n s sessions.Outside))
      (subst (IsTold map.empty (transaction_of sessions.Outside)) (sym (nth_replicate n s [])) (record { changes = refl; sent = tt; copy = λ base is p unnamed. absurd (cc) }));
  apart = λ s t differ p named. ap (λ (x : Session). is_named (keys_of (transaction_of x).changes) p) (nth_replicate n t sessions.Outside);
}

-- what holds at a journal's end
pub journal_holds : (script : Script) (journal : List JournalEntry) → Holds (length script.sessions) (run_of script journal).plain (stream_through script (first_stream (length script.sessions)) (moments script journal))
journal_holds script journal = entries_hold script (first_run script) (first_stream (length script.sessions)) journal (first_holds (length script.sessions))

-- a replica that takes a journal's messages has the committed rows
pub replica_is_latest : (script : Script) (journal : List JournalEntry) → apply_stream (stream script journal) ≡ Ok (run_of script journal).plain.latest
replica_is_latest script journal = (journal_holds script journal).replica
