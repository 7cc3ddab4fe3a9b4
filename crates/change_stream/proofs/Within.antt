-- Every moment of a journal keeps the rows and the changes in range, where the script writes in range.
use Rattle.std.proofs.Common.{◌≡◌, ◌≤◌, ◌-◌, ℕ, Bool, true, false, cond, List, [], ◌∷◌, ◌++◌, Option, Some, None, length, refl, sym, ap, ◌∙◌, subst, inl, inr, arith}
use Rattle.std.specs.Prelude.{◌&&◌, map as mapped, is_some, slice_set, All}
use Rattle.std.specs.Option.{option_map, option_to_list, unwrap_or}
use Rattle.std.proofs.lemmas.Bool.{cases_eq}
use Rattle.std.specs.FinMap as map
use Rattle.tuple_layout.specs.declared.Place.{Place}
use Rattle.tuple_layout.specs.Places.{Row, Rows, place_cmp}
use Rattle.command_set.specs.declared.Command.{Command}
use Rattle.command_set.specs.declared.Command.TheVariants as commands
use Rattle.command_set.specs.declared.JournalEntry.{JournalEntry}
use Rattle.command_set.specs.declared.Kind.{Kind}
use Rattle.command_set.specs.declared.Kind.TheVariants as kinds
use Rattle.command_set.specs.declared.Level.{Level}
use Rattle.command_set.specs.declared.Level.TheVariants as levels
use Rattle.command_set.specs.declared.Reply.{Reply}
use Rattle.command_set.specs.declared.Reply.TheVariants as replies
use Rattle.command_set.specs.declared.Script.{Script}
use Rattle.command_set.specs.declared.journal.Run.{Run}
use Rattle.command_set.specs.declared.state.Change.{Change}
use Rattle.command_set.specs.declared.state.Change.TheVariants.{Insert, Update, Move, Remove}
use Rattle.command_set.specs.declared.state.Plain.{Plain}
use Rattle.command_set.specs.declared.state.Session.{Session}
use Rattle.command_set.specs.declared.state.Session.TheVariants as sessions
use Rattle.command_set.specs.declared.state.Transaction.{Transaction}
use Rattle.command_set.specs.Changes.{fold_changes, place}
use Rattle.command_set.specs.Plain.{first_state, nth, row_at, row_with, session_of, view_of, with_session}
use Rattle.command_set.specs.Replies.{absent, busy, changed, fails, is_granted, reply_of, rewriter_of, schema_of, taken, too_big, transaction_of}
use Rattle.command_set.specs.Answers.{committed, effect, failed_session, once_used, refused, table_of, told_by, with_change, with_copy, with_failure, with_use}
use Rattle.command_set.specs.Journals.{Moment, after_moment, came_of, command_at, cut_short, first_run, is_run, moment_at, moments, moments_on, run_on, run_through, runs_upkeep, state_after, without_upkeep}
use Rattle.stream_wire.specs.Spelling.{IsInRange}
use Rattle.change_stream.specs.declared.written.Written.{Written}
use Rattle.change_stream.specs.Streams.{Stream, commits, first_stream, is_commit, stream, stream_after, stream_through, with_sent, written_of}
use Rattle.change_stream.specs.Ranges.{HasRanges, IsRow, WritesInRange}
use Rattle.change_stream.proofs.Sending.{changes_in}
use Rattle.change_stream.proofs.Holding.{Holds, session_here, session_there, transaction_in}
use Rattle.change_stream.proofs.Committing.{nth_mapped, told_changes, told_copy, told_default}
use Rattle.change_stream.proofs.Granted.{is_there}
use Rattle.change_stream.proofs.Telling.{IsWithin, command_within, first_holds, moment_holds, nth_replicate, and_false, past_absent, past_use, used_holds}
use Rattle.change_stream.proofs.InRange.{AreRows, AreTransactions, IsChange, all_append, all_cons, all_nil, fold_rows, messages_in_range, set_row}

-- a transaction's changes and its copy are in range
pub record IsOwn (t : Transaction) : Type 0 where
  pub changes : All IsChange t.changes
  pub base : (rows : Rows) → t.base ≡ Some rows → AreRows rows

-- so are the committed rows, each session's transaction, and what was sent
pub record AreAll (m : Plain) (sent : List (List Written)) : Type 0 where
  pub latest : AreRows m.latest
  pub each : (s : ℕ) → IsOwn (transaction_in m s)
  pub transactions : AreTransactions sent

own_none : (t : Transaction) → t.changes ≡ [] → t.base ≡ None → IsOwn t
own_none t none no_copy = record {
  changes = subst (All IsChange) (sym none) (all_nil IsChange);
  base = λ rows is. absurd (let no = sym no_copy ∙ is in cc);
}

-- one session is another than it was
one_in : (m new : Plain) (sent : List (List Written)) (s : ℕ) (x : Session) → AreAll m sent → 1 ≤ s → s ≤ length m.sessions → new.latest ≡ m.latest → new.sessions ≡ slice_set m.sessions (s - 1) x → IsOwn (transaction_of x) → AreAll new sent
one_in m new sent s x h one within latest sessions_are own = record {
  latest = subst AreRows (sym latest) h.latest;
  each = λ k. elim (cases_eq k s) [
    | inl same ↦ subst (λ (y : Session). IsOwn (transaction_of y)) (sym (ap (session_of new) same ∙ session_here m new s x one within sessions_are)) own
    | inr other ↦ subst (λ (y : Session). IsOwn (transaction_of y)) (sym (session_there m new s k x one other sessions_are)) (h.each k)
  ];
  transactions = h.transactions;
}

-- none is
same_in : (m new : Plain) (sent : List (List Written)) → AreAll m sent → new.latest ≡ m.latest → new.sessions ≡ m.sessions → AreAll new sent
same_in m new sent h latest sessions_are = record {
  latest = subst AreRows (sym latest) h.latest;
  each = λ k. subst (λ (y : Session). IsOwn (transaction_of y)) (ap (λ (xs : List Session). unwrap_or (nth xs k) sessions.Outside) (sym sessions_are)) (h.each k);
  transactions = h.transactions;
}

copied_own : (latest : Rows) (t : Transaction) (level : Level) (base : Option Rows) → AreRows latest → IsOwn t → IsOwn (with_copy latest t level base)
copied_own latest t levels.Rc base rows own = own
copied_own latest t levels.Rr None rows own = record { changes = own.changes; base = λ copy is. let same : latest ≡ copy = cc in subst AreRows same rows }
copied_own latest t levels.Rr (Some base) rows own = own

used_in : (m : Plain) (sent : List (List Written)) (s : ℕ) (session : Session) (table : Option ℕ) → AreAll m sent → 1 ≤ s → s ≤ length m.sessions → session_of m s ≡ session → AreAll (once_used m s session table) sent
used_in m sent s sessions.Outside table h one within is = h
used_in m sent s sessions.Failed table h one within is = h
used_in m sent s (sessions.Open t) None h one within is = h
used_in m sent s (sessions.Open t) (Some table) h one within is = by (is_some (rewriter_of m s table))
  where
    own : IsOwn (with_copy m.latest t t.level t.base)
    own = copied_own m.latest t t.level t.base h.latest (subst (λ (x : Session). IsOwn (transaction_of x)) is (h.each s))

    by : (b : Bool) → AreAll (cond b m (with_session m s (sessions.Open (with_use m t table)))) sent
    by true = h
    by false = one_in m (with_session m s (sessions.Open (with_use m t table))) sent s (sessions.Open (with_use m t table)) h one within refl refl (record { changes = own.changes; base = own.base })

failed_own : (session : Session) → IsOwn (transaction_of (failed_session session))
failed_own sessions.Outside = own_none _ refl refl
failed_own sessions.Failed = own_none _ refl refl
failed_own (sessions.Open t) = own_none _ refl refl

failure_in : (m : Plain) (sent : List (List Written)) (s : ℕ) → AreAll m sent → 1 ≤ s → s ≤ length m.sessions → AreAll (with_failure m s) sent
failure_in m sent s h one within = one_in m (with_failure m s) sent s (failed_session (session_of m s)) h one within refl refl (failed_own (session_of m s))

cut_in : (m : Plain) (sent : List (List Written)) (s : ℕ) → AreAll m sent → 1 ≤ s → s ≤ length m.sessions → AreAll (cut_short m s) sent
cut_in m sent s h one within = by (runs_upkeep m s)
  where
    by : (b : Bool) → AreAll (cond b (without_upkeep m s) (with_failure m s)) sent
    by true = same_in m (without_upkeep m s) sent h refl refl
    by false = failure_in m sent s h one within

refused_in : (m : Plain) (sent : List (List Written)) (s : ℕ) (reply : Reply) → AreAll m sent → 1 ≤ s → s ≤ length m.sessions → AreAll (refused m s reply) sent
refused_in m sent s replies.RolledBack h one within = one_in m (with_session m s sessions.Outside) sent s sessions.Outside h one within refl refl (own_none _ refl refl)
refused_in m sent s reply h one within = by (fails reply)
  where
    by : (b : Bool) → AreAll (cond b (with_failure m s) m) sent
    by true = failure_in m sent s h one within
    by false = h

-- a commit
commit_in : (m : Plain) (sent : List (List Written)) (ws : List Written) (s : ℕ) → AreAll m sent → 1 ≤ s → s ≤ length m.sessions → changes_in ws ≡ (transaction_in m s).changes → AreAll (committed m s) (with_sent sent ws)
commit_in m sent ws s h one within ws_are = record {
  latest = fold_rows changes m.latest (h.each s).changes h.latest;
  each = λ k. elim (cases_eq k s) [
    | inl same ↦ subst (λ (y : Session). IsOwn (transaction_of y)) (sym (ap (session_of new) same ∙ session_here told new s sessions.Outside one within' refl)) (own_none _ refl refl)
    | inr other ↦
        subst (λ (y : Session). IsOwn (transaction_of y)) (sym (session_there told new s k sessions.Outside one other refl ∙ ap (λ (o : Option Session). unwrap_or o sessions.Outside) (nth_mapped (told_by changes) m.sessions k) ∙ told_default changes (nth m.sessions k)))
        (record {
          changes = subst (All IsChange) (sym (told_changes changes (session_of m k))) (h.each k).changes;
          base = λ rows is. (h.each k).base rows (told_copy changes (session_of m k) rows is).0;
        })
  ];
  transactions = sent_more ws ws_are;
}
  where
    changes : List Change
    changes = (transaction_in m s).changes

    told : Plain
    told = record m { latest = fold_changes changes m.latest; sessions = mapped (told_by changes) m.sessions }

    new : Plain
    new = committed m s

    within' : s ≤ length (mapped (told_by changes) m.sessions)
    within' = omega (arith, within, Rattle.std.proofs.lemmas.List.length-map m.sessions (told_by changes))

    sent_more : (ws : List Written) → changes_in ws ≡ changes → AreTransactions (with_sent sent ws)
    sent_more [] is = h.transactions
    sent_more (w ∷ ws) is =
        let P = λ (vs : List Written). All IsChange (changes_in vs) in
        all_append P sent ((w ∷ ws) ∷ []) h.transactions (all_cons P (w ∷ ws) [] (subst (All IsChange) (sym is) (h.each s).changes) (all_nil P))

-- a write
write_in : (m : Plain) (sent : List (List Written)) (s : ℕ) (change : Change) → AreAll m sent → 1 ≤ s → s ≤ length m.sessions → IsChange change → AreAll (with_session m s (sessions.Open (with_change (transaction_in m s) change))) sent
write_in m sent s change h one within its =
    one_in m _ sent s (sessions.Open (with_change (transaction_in m s) change)) h one within refl refl
    (record { changes = all_append IsChange (transaction_in m s).changes (change ∷ []) (h.each s).changes (all_cons IsChange change [] its (all_nil IsChange)); base = (h.each s).base })

-- the row that a transaction sees
view_row : (m : Plain) (sent : List (List Written)) (s : ℕ) (p : Place) → AreAll m sent → absent (view_of m (transaction_in m s)) p ≡ None → IsRow (row_at (view_of m (transaction_in m s)) p)
view_row m sent s p h there =
    let t = transaction_in m s in
    let its = is_there (view_of m t) p there in
    subst IsRow (sym (ap (λ (o : Option Row). unwrap_or o []) its.is)) ((fold_rows t.changes (unwrap_or t.base m.latest) (h.each s).changes (base t.base refl)).at p its.old its.is)
  where
    base : (o : Option Rows) → (transaction_in m s).base ≡ o → AreRows (unwrap_or o m.latest)
    base None is = h.latest
    base (Some rows) is = (h.each s).base rows is

-- a granted command that commits nothing
granted_in : (script : Script) (m : Plain) (sent : List (List Written)) (s : ℕ) (command : Command) → AreAll m sent → 1 ≤ s → s ≤ length m.sessions → is_commit command ≡ false → WritesInRange command
    → is_granted (reply_of script.schemas m s command) ≡ true → AreAll (effect m s (transaction_in m s) command) sent
granted_in script m sent s (commands.Begin level) h one within other its given = one_in m _ sent s _ h one within refl refl (own_none _ refl refl)
granted_in script m sent s commands.Commit h one within other its given = absurd (cc)
granted_in script m sent s commands.Rollback h one within other its given = one_in m _ sent s sessions.Outside h one within refl refl (own_none _ refl refl)
granted_in script m sent s (commands.Get table key) h one within other its given = h
granted_in script m sent s (commands.Part table key column offset len) h one within other its given = h
granted_in script m sent s (commands.Open handle table key column) h one within other its given = one_in m _ sent s _ h one within refl refl (record { changes = (h.each s).changes; base = (h.each s).base })
granted_in script m sent s (commands.Fetch handle offset len) h one within other its given = h
granted_in script m sent s (commands.Close handle) h one within other its given = one_in m _ sent s _ h one within refl refl (record { changes = (h.each s).changes; base = (h.each s).base })
granted_in script m sent s (commands.Insert table key row) h one within other its given = write_in m sent s (Insert table key row) h one within its
granted_in script m sent s (commands.Update table key sets) h one within other its given =
    let t = transaction_in m s in
    let p = place table key in
    let view = view_of m t in
    let row = row_with (row_at view p) sets in
    let rest = busy m s p ∷ changed t p ∷ too_big (schema_of script.schemas table) row ∷ [] in
    let there = past_absent view p rest replies.Okay (past_use m s table (absent view p ∷ rest) replies.Okay given) in
    write_in m sent s (Update table key row) h one within (its.0, set_row sets (row_at view p) its.1 (view_row m sent s p h there.0))
granted_in script m sent s (commands.Delete table key) h one within other its given = write_in m sent s (Remove table key) h one within its
granted_in script m sent s (commands.Rekey table from to sets) h one within other its given =
    let t = transaction_in m s in
    let p = place table from in
    let q = place table to in
    let view = view_of m t in
    let row = row_with (row_at view p) sets in
    let rest = busy m s p ∷ changed t p ∷ busy m s q ∷ taken m t q ∷ too_big (schema_of script.schemas table) row ∷ [] in
    let there = past_absent view p rest replies.Okay (past_use m s table (absent view p ∷ rest) replies.Okay given) in
    write_in m sent s (Move table from to row) h one within (its.0, set_row sets (row_at view p) its.1 (view_row m sent s p h there.0))
granted_in script m sent s (commands.VacuumMain table) h one within other its given = same_in m _ sent h refl refl
granted_in script m sent s (commands.VacuumToast table) h one within other its given = same_in m _ sent h refl refl
granted_in script m sent s (commands.Rewrite table) h one within other its given = same_in m _ sent h refl refl

commit_only : (command : Command) → is_commit command ≡ true → command ≡ commands.Commit
commit_only commands.Commit e = refl
commit_only command e = absurd (cc)

-- a moment
moment_in : (script : Script) (n : ℕ) (m : Plain) (st : Stream) (e : JournalEntry) (command : Command) (kind : Kind) → e.kind ≡ kind → Holds n m st → IsWithin n e.session → WritesInRange command → AreAll m st.sent →
    let x = moment_at m e command (came_of script m e.session command kind) in
    AreAll x.after (stream_after script st x).sent
moment_in script n m st e command kinds.Run kind holds within its h = by (is_granted reply) refl
  where
    s : ℕ
    s = e.session

    in_use : Plain
    in_use = once_used m s (session_of m s) (table_of command)

    reply : Reply
    reply = reply_of script.schemas in_use s command

    x : Moment
    x = moment_at m e command (came_of script m s command kinds.Run)

    held : Holds n in_use st
    held = used_holds n m st s (session_of m s) (table_of command) holds within refl

    count : s ≤ length m.sessions
    count = omega (arith, within.last, holds.seats)

    count' : s ≤ length in_use.sessions
    count' = omega (arith, within.last, held.seats)

    used : AreAll in_use st.sent
    used = used_in m st.sent s (session_of m s) (table_of command) h within.one count refl

    commits_is : commits x ≡ (is_commit command && is_granted reply)
    commits_is = ap (λ k. is_run k && (is_commit command && is_granted reply)) kind

    quiet : (new : Plain) → x.after ≡ new → commits x ≡ false → AreAll new st.sent → AreAll x.after (stream_after script st x).sent
    quiet new is silent all =
        subst (λ (y : Plain). AreAll y (stream_after script st x).sent) (sym is)
        (subst (AreAll new) (sym (ap (λ b. cond b (with_sent st.sent (written_of st s)) st.sent) silent)) all)

    after_is : (b : Bool) → is_granted reply ≡ b → x.after ≡ cond b (effect in_use s (transaction_in in_use s) command) (refused in_use s reply)
    after_is b e = ap (λ c. cond c (effect in_use s (transaction_in in_use s) command) (refused in_use s reply)) e

    by : (b : Bool) → is_granted reply ≡ b → AreAll x.after (stream_after script st x).sent
    by true given = split (is_commit command) refl
      where
        split : (b : Bool) → is_commit command ≡ b → AreAll x.after (stream_after script st x).sent
        split false other = quiet (effect in_use s (transaction_in in_use s) command) (after_is true given) (commits_is ∙ ap (λ b. b && is_granted reply) other) (granted_in script in_use st.sent s command used within.one count' other its given)
        split true commit =
            subst (λ (y : Plain). AreAll y (stream_after script st x).sent) (sym (after_is true given ∙ ap (effect in_use s (transaction_in in_use s)) (commit_only command commit)))
            (subst (AreAll (committed in_use s)) (sym (ap (λ b. cond b (with_sent st.sent (written_of st s)) st.sent) (commits_is ∙ ap (λ b. b && is_granted reply) commit ∙ given)))
            (commit_in in_use st.sent (written_of st s) s used within.one count' (held.each s).changes))
    by false refusing = quiet (refused in_use s reply) (after_is false refusing) (commits_is ∙ ap (λ b. is_commit command && b) refusing ∙ and_false (is_commit command)) (refused_in in_use st.sent s reply used within.one count')
moment_in script n m st e command kinds.End kind holds within its h =
    subst (AreAll (without_upkeep m e.session)) (sym (ap (λ b. cond b (with_sent st.sent (written_of st e.session)) st.sent) (ap (λ k. is_run k && (is_commit command && false)) kind))) (same_in m (without_upkeep m e.session) st.sent h refl refl)
moment_in script n m st e command kinds.NoValueId kind holds within its h =
    subst (AreAll (cut_short m e.session)) (sym (ap (λ b. cond b (with_sent st.sent (written_of st e.session)) st.sent) (ap (λ k. is_run k && (is_commit command && false)) kind))) (cut_in m st.sent e.session h within.one (omega (arith, within.last, holds.seats)))
moment_in script n m st e command kinds.Memory kind holds within its h =
    subst (AreAll (cut_short m e.session)) (sym (ap (λ b. cond b (with_sent st.sent (written_of st e.session)) st.sent) (ap (λ k. is_run k && (is_commit command && false)) kind))) (cut_in m st.sent e.session h within.one (omega (arith, within.last, holds.seats)))

-- the stream after what entries tell
entries_in : (script : Script) (run : Run) (st : Stream) (journal : List JournalEntry) → HasRanges script → Holds (length script.sessions) run.plain st → AreAll run.plain st.sent
    → AreAll (run_on script run journal).plain (stream_through script st (moments_on script run.plain journal)).sent
entries_in script run st [] ranges holds h = h
entries_in script run st (e ∷ es) ranges holds h = by (command_at script e.session e.number) refl (λ run' st' holds' h'. entries_in script run' st' es ranges holds' h')
  where
    n : ℕ
    n = length script.sessions

    at : Option Command → Option Moment
    at o = option_map (λ command. moment_at run.plain e command (came_of script run.plain e.session command e.kind)) o

    by : (o : Option Command) → command_at script e.session e.number ≡ o
        → ((run' : Run) (st' : Stream) → Holds n run'.plain st' → AreAll run'.plain st'.sent → AreAll (run_on script run' es).plain (stream_through script st' (moments_on script run'.plain es)).sent)
        → AreAll (run_through run (option_to_list (at (command_at script e.session e.number)) ++ moments_on script (state_after run.plain (at (command_at script e.session e.number))) es)).plain
        (stream_through script st (option_to_list (at (command_at script e.session e.number)) ++ moments_on script (state_after run.plain (at (command_at script e.session e.number))) es)).sent
    by None is others =
        subst (λ (o : Option Command). AreAll (run_through run (option_to_list (at o) ++ moments_on script (state_after run.plain (at o)) es)).plain (stream_through script st (option_to_list (at o) ++ moments_on script (state_after run.plain (at o)) es)).sent) (sym is) (others run st holds h)
    by (Some command) is others =
        let x = moment_at run.plain e command (came_of script run.plain e.session command e.kind) in
        let within = command_within script e.session e.number command is in
        subst (λ (o : Option Command). AreAll (run_through run (option_to_list (at o) ++ moments_on script (state_after run.plain (at o)) es)).plain (stream_through script st (option_to_list (at o) ++ moments_on script (state_after run.plain (at o)) es)).sent) (sym is)
        (others (after_moment run x) (stream_after script st x) (moment_holds script n run.plain st e command e.kind refl holds within) (moment_in script n run.plain st e command e.kind refl holds within (ranges.each e.session e.number command is) h))

none_there : (row : Row) → None ≡ Some row → IsRow row
none_there row e = absurd (cc)

first_in : (n : ℕ) → AreAll (first_state n) []
first_in n = record {
  latest = record { at = λ p row is. none_there row (sym (map.get-empty place_cmp p) ∙ is) };
  each = λ s. subst (λ (x : Session). IsOwn (transaction_of x)) (sym (nth_replicate n s sessions.Outside)) (own_none _ refl refl);
  transactions = all_nil (λ (ws : List Written). All IsChange (changes_in ws));
}

-- the messages of a journal whose script writes in range
pub stream_in_range : (script : Script) (journal : List JournalEntry) → HasRanges script → All IsInRange (stream script journal)
stream_in_range script journal ranges =
    messages_in_range (stream_through script (first_stream (length script.sessions)) (moments script journal)).sent
    (entries_in script (first_run script) (first_stream (length script.sessions)) journal ranges (first_holds (length script.sessions)) (first_in (length script.sessions))).transactions
