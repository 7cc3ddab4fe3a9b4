-- What the program keeps, beside the definitions of the stream, from entry to entry.
use Rattle.std.proofs.Common.{◌≡◌, ◌≤◌, ◌<◌, ◌+◌, ◌-◌, ◌^◌, ℕ, Bool, true, false, cond, List, [], ◌∷◌, ◌++◌, Option, Some, None, get_or, length, drop, refl, sym, ap, ◌∙◌, arith, suc, zero}
use Rattle.std.specs.Prelude.{◌&&◌, ◌||◌, map as mapped, slice_get, slice_set}
use Rattle.std.specs.Option.{option_map, option_map_or, option_or, option_to_list, unwrap_or}
use Rattle.std.specs.FinMap as map
use Rattle.std.proofs.lemmas.List.{length-append, length-replicate}
use Rattle.list_facts.proofs.Changed.{set_twice}
use Rattle.tuple_layout.specs.declared.Place.{Place}
use Rattle.tuple_layout.specs.Places.{Rows}
use Rattle.tuple_layout.specs.Schemas.{TableSchema}
use Rattle.command_set.specs.declared.Command.{Command}
use Rattle.command_set.specs.declared.Command.TheVariants as commands
use Rattle.command_set.specs.declared.JournalEntry.{JournalEntry}
use Rattle.command_set.specs.declared.Kind.{Kind}
use Rattle.command_set.specs.declared.Kind.TheVariants as kinds
use Rattle.command_set.specs.declared.Reply.{Reply}
use Rattle.command_set.specs.declared.Script.{Script}
use Rattle.command_set.specs.declared.journal.Run.{Run}
use Rattle.command_set.specs.declared.state.Answered.{Answered}
use Rattle.command_set.specs.declared.state.Change.{Change}
use Rattle.command_set.specs.declared.state.Change.TheVariants as changes
use Rattle.command_set.specs.declared.state.Plain.{Plain}
use Rattle.command_set.specs.declared.state.Session.{Session}
use Rattle.command_set.specs.declared.state.Session.TheVariants.{Outside}
use Rattle.command_set.specs.declared.state.Transaction.{Transaction}
use Rattle.command_set.specs.Answers.{answer, committed, once_used, refused, table_of, told_by}
use Rattle.command_set.specs.Journals.{Moment, after_entry, after_moment, came_of, command_at, first_run, is_run, moment_at, moment_of, moments, moments_on, state_after}
use Rattle.command_set.specs.Plain.{first_state, nth, session_of}
use Rattle.command_set.specs.Replies.{is_granted, open_transaction, reply_of, schema_of, transaction_of}
use Rattle.command_set.proofs.Steps.{drop_step}
use Rattle.plain_program.specs.Words.{is_beyond}
use Rattle.plain_journal.specs.Beyond.{answers_beyond, is_beyond_at, is_beyond_kind, is_beyond_on}
use Rattle.plain_journal.proofs.Seats.{entry_seats}
use Rattle.change_stream.specs.declared.written.Written.{Written}
use Rattle.change_stream.specs.Sets.{out_beside}
use Rattle.change_stream.specs.Streams.{Stream, changes_of, commits, first_stream, is_commit, is_end, is_rewrite_of, kept_by, last_out, outs_with, put_by, puts_at, rewrites, stream_after, stream_through, with_sent, written_after, written_of}
use Rattle.change_stream.proofs.Holding.{next_none, next_written}
use Rattle.plain_stream.specs.declared.commits.Streamed.{Streamed}
use Rattle.plain_stream.specs.declared.outs.OutEdit.{OutEdit}
use Rattle.plain_stream.specs.declared.outs.OutEdit.TheVariants.{Put}
use Rattle.plain_stream.specs.declared.streams.SoFar.{SoFar}
use Rattle.plain_stream.specs.States.{moment_with, outs_in, run_at, stream_in, with_kind, with_put, with_puts}

-- ---- columns out of line

-- one change that is committed
put_one : (schemas : List TableSchema) (change : Change) (out : List ℕ) (edits : List OutEdit) (p : Place) → outs_in schemas (option_map_or (λ put. Put put.0 out ∷ edits) (put_by change) edits) p ≡ cond (puts_at change p) out (outs_in schemas edits p)
put_one schemas (changes.Insert t k row) out edits p = refl
put_one schemas (changes.Update t k row) out edits p = refl
put_one schemas (changes.Move t from to row) out edits p = refl
put_one schemas (changes.Remove t k) out edits p = refl

last_counts : (o : Option (List ℕ)) (b : Bool) (out rest : List ℕ) → unwrap_or o (cond b out rest) ≡ unwrap_or (option_or o (cond b (Some out) None)) rest
last_counts (Some columns) b out rest = refl
last_counts None true out rest = refl
last_counts None false out rest = refl

puts_there : (schemas : List TableSchema) (ws : List Written) (edits : List OutEdit) (p : Place) → outs_in schemas (with_puts ws edits) p ≡ outs_with (outs_in schemas edits) ws p
puts_there schemas [] edits p = refl
puts_there schemas (w ∷ ws) edits p =
    puts_there schemas ws (with_put w edits) p
    ∙ ap (unwrap_or (last_out ws p)) (put_one schemas w.change w.out edits p)
    ∙ last_counts (last_out ws p) (puts_at w.change p) w.out (outs_in schemas edits p)

-- changes that are committed
outs_puts : (schemas : List TableSchema) (ws : List Written) (edits : List OutEdit) → outs_in schemas (with_puts ws edits) ≡ outs_with (outs_in schemas edits) ws
outs_puts schemas ws edits = λ i p. puts_there schemas ws edits p i

-- a row's columns once its table is written anew
abbrev anew : List TableSchema → Rows → Place → List ℕ
anew schemas rows p = option_map_or (λ row. out_beside (schema_of schemas p.table).storages row []) (map.get rows p) []

ended_there : (schemas : List TableSchema) (command : Command) (rows : Rows) (edits : List OutEdit) (p : Place) → outs_in schemas (with_kind kinds.End command rows edits) p ≡ cond (is_rewrite_of p.table command) (anew schemas rows p) (outs_in schemas edits p)
ended_there schemas (commands.Begin level) rows edits p = refl
ended_there schemas commands.Commit rows edits p = refl
ended_there schemas commands.Rollback rows edits p = refl
ended_there schemas (commands.Get table key) rows edits p = refl
ended_there schemas (commands.Part table key column offset len) rows edits p = refl
ended_there schemas (commands.Open handle table key column) rows edits p = refl
ended_there schemas (commands.Fetch handle offset len) rows edits p = refl
ended_there schemas (commands.Close handle) rows edits p = refl
ended_there schemas (commands.Insert table key row) rows edits p = refl
ended_there schemas (commands.Update table key sets) rows edits p = refl
ended_there schemas (commands.Delete table key) rows edits p = refl
ended_there schemas (commands.Rekey table from to sets) rows edits p = refl
ended_there schemas (commands.VacuumMain table) rows edits p = refl
ended_there schemas (commands.VacuumToast table) rows edits p = refl
ended_there schemas (commands.Rewrite table) rows edits p = refl

kind_there : (schemas : List TableSchema) (kind : Kind) (command : Command) (rows : Rows) (edits : List OutEdit) (p : Place) → outs_in schemas (with_kind kind command rows edits) p ≡ cond (is_end kind && is_rewrite_of p.table command) (anew schemas rows p) (outs_in schemas edits p)
kind_there schemas kinds.Run command rows edits p = refl
kind_there schemas kinds.End command rows edits p = ended_there schemas command rows edits p
kind_there schemas kinds.NoValueId command rows edits p = refl
kind_there schemas kinds.Memory command rows edits p = refl

-- ---- one moment

on_commit : (script : Script) (st : Stream) (x : Moment) → commits x ≡ true → changes_of x.after x.entry.session ≡ []
    → record { outs = outs_with st.outs (written_of st x.entry.session); written = slice_set st.written (x.entry.session - 1) []; sent = with_sent st.sent (written_of st x.entry.session) } ≡ stream_after script st x
on_commit script st x e left = sym (λ i. record {
  outs = λ p. cond (e i) (outs_with st.outs (written_of st x.entry.session) p) (cond (rewrites x p.table) (anew script.schemas x.after.latest p) (st.outs p));
  written = slice_set st.written (x.entry.session - 1) (none i);
  sent = cond (e i) (with_sent st.sent (written_of st x.entry.session)) st.sent;
})
  where
    kept : List ℕ
    kept = kept_by x.command (outs_with st.outs (written_of st x.entry.session))

    none : written_after script st x ≡ []
    none = ap (next_written script kept (written_of st x.entry.session)) left ∙ next_none script kept (written_of st x.entry.session)

on_other : (script : Script) (st : Stream) (x : Moment) → commits x ≡ false
    → record { outs = λ p. cond (rewrites x p.table) (anew script.schemas x.after.latest p) (st.outs p); written = slice_set st.written (x.entry.session - 1) (written_after script st x); sent = st.sent } ≡ stream_after script st x
on_other script st x e = sym (λ i. record {
  outs = λ p. cond (e i) (outs_with st.outs (written_of st x.entry.session) p) (cond (rewrites x p.table) (anew script.schemas x.after.latest p) (st.outs p));
  written = slice_set st.written (x.entry.session - 1) (written_after script st x);
  sent = cond (e i) (with_sent st.sent (written_of st x.entry.session)) st.sent;
})

-- a commit, as the program makes it
pub commit_is : (script : Script) (st after : Streamed) (e : JournalEntry) (command : Command) (came : Answered) → commits (moment_with e command came) ≡ true → changes_of came.after e.session ≡ []
    → after.outs.items ≡ with_puts (unwrap_or (nth st.written.items e.session) []) st.outs.items → after.written.items ≡ slice_set st.written.items (e.session - 1) [] → after.sent ≡ with_sent st.sent (unwrap_or (nth st.written.items e.session) [])
    → stream_in script.schemas after ≡ stream_after script (stream_in script.schemas st) (moment_with e command came)
commit_is script st after e command came commit left outs written sent =
    (λ i. record { outs = (ap (outs_in script.schemas) outs ∙ outs_puts script.schemas (unwrap_or (nth st.written.items e.session) []) st.outs.items) i; written = written i; sent = sent i })
    ∙ on_commit script (stream_in script.schemas st) (moment_with e command came) commit left

-- the changes of a session after any other moment, as the program makes them
pub other_written : (script : Script) (st : Streamed) (e : JournalEntry) (command : Command) (came : Answered) (taken put : List (List Written)) (ws slice changes : List Written) (kept columns : List ℕ)
    → taken ≡ slice_set st.written.items (e.session - 1) [] → ws ≡ unwrap_or (nth st.written.items e.session) [] → slice ≡ ws → kept ≡ kept_by command (outs_with (outs_in script.schemas st.outs.items) slice) → columns ≡ kept
    → changes ≡ next_written script columns ws (changes_of came.after e.session) → put ≡ slice_set taken (e.session - 1) changes
    → put ≡ slice_set st.written.items (e.session - 1) (written_after script (stream_in script.schemas st) (moment_with e command came))
other_written script st e command came taken put ws slice changes kept columns after was lent keeps told new is =
    is ∙ ap (λ t. slice_set t (e.session - 1) changes) after ∙ set_twice st.written.items (e.session - 1) [] changes
    ∙ ap (slice_set st.written.items (e.session - 1)) (new ∙ (λ i. next_written script (all_kept i) (was i) (changes_of came.after e.session)))
  where
    all_kept : columns ≡ kept_by command (outs_with (outs_in script.schemas st.outs.items) (unwrap_or (nth st.written.items e.session) []))
    all_kept = told ∙ keeps ∙ ap (λ w. kept_by command (outs_with (outs_in script.schemas st.outs.items) w)) (lent ∙ was)

-- any other moment, as the program makes it
pub other_is : (script : Script) (st after : Streamed) (e : JournalEntry) (command : Command) (came : Answered) → commits (moment_with e command came) ≡ false
    → after.outs.items ≡ with_kind e.kind command came.after.latest st.outs.items → after.written.items ≡ slice_set st.written.items (e.session - 1) (written_after script (stream_in script.schemas st) (moment_with e command came)) → after.sent ≡ st.sent
    → stream_in script.schemas after ≡ stream_after script (stream_in script.schemas st) (moment_with e command came)
other_is script st after e command came other outs written sent =
    (λ i. record { outs = (ap (outs_in script.schemas) outs ∙ there) i; written = written i; sent = sent i })
    ∙ on_other script (stream_in script.schemas st) (moment_with e command came) other
  where
    there : outs_in script.schemas (with_kind e.kind command came.after.latest st.outs.items) ≡ (λ p. cond (rewrites (moment_with e command came) p.table) (anew script.schemas came.after.latest p) (outs_in script.schemas st.outs.items p))
    there = λ i p. kind_there script.schemas e.kind command came.after.latest st.outs.items p i

-- ---- a granted commit leaves no changes

out_at : (xs : List Session) (i : ℕ) → unwrap_or (slice_get (slice_set xs i Outside) i) Outside ≡ Outside
out_at [] i = refl
out_at (x ∷ xs) zero = refl
out_at (x ∷ xs) (suc i) = out_at xs i

session_out : (xs : List Session) (s : ℕ) → unwrap_or (nth (slice_set xs (s - 1) Outside) s) Outside ≡ Outside
session_out xs zero = refl
session_out xs (suc i) = let e : suc i - 1 ≡ i = omega arith in ap (λ j. unwrap_or (slice_get (slice_set xs j Outside) i) Outside) e ∙ out_at xs i

abbrev changes_in_session : Session → List Change
changes_in_session session = option_map_or (λ (t : Transaction). t.changes) (open_transaction session) []

none_run : (script : Script) (m : Plain) (s : ℕ) (command : Command) → (is_commit command && is_granted (answer script.schemas m s command).reply) ≡ true → changes_of (answer script.schemas m s command).after s ≡ []
none_run script m s commands.Commit given =
    ap (λ (n : Plain). changes_of n s) (ap (λ b. cond b (committed in_use s) (refused in_use s reply)) given)
    ∙ ap changes_in_session (session_out (mapped (told_by (transaction_of (session_of in_use s)).changes) in_use.sessions) s)
  where
    in_use : Plain
    in_use = once_used m s (session_of m s) (table_of commands.Commit)

    reply : Reply
    reply = reply_of script.schemas in_use s commands.Commit
none_run script m s (commands.Begin level) e = absurd (cc)
none_run script m s commands.Rollback e = absurd (cc)
none_run script m s (commands.Get table key) e = absurd (cc)
none_run script m s (commands.Part table key column offset len) e = absurd (cc)
none_run script m s (commands.Open handle table key column) e = absurd (cc)
none_run script m s (commands.Fetch handle offset len) e = absurd (cc)
none_run script m s (commands.Close handle) e = absurd (cc)
none_run script m s (commands.Insert table key row) e = absurd (cc)
none_run script m s (commands.Update table key sets) e = absurd (cc)
none_run script m s (commands.Delete table key) e = absurd (cc)
none_run script m s (commands.Rekey table from to sets) e = absurd (cc)
none_run script m s (commands.VacuumMain table) e = absurd (cc)
none_run script m s (commands.VacuumToast table) e = absurd (cc)
none_run script m s (commands.Rewrite table) e = absurd (cc)

none_by : (script : Script) (m : Plain) (s : ℕ) (command : Command) (kind : Kind) → (is_run kind && (is_commit command && is_granted (came_of script m s command kind).reply)) ≡ true → changes_of (came_of script m s command kind).after s ≡ []
none_by script m s command kinds.Run e = none_run script m s command e
none_by script m s command kinds.End e = absurd (cc)
none_by script m s command kinds.NoValueId e = absurd (cc)
none_by script m s command kinds.Memory e = absurd (cc)

pub none_left : (script : Script) (m : Plain) (e : JournalEntry) (command : Command) (came : Answered) → came ≡ came_of script m e.session command e.kind → commits (moment_with e command came) ≡ true → changes_of came.after e.session ≡ []
none_left script m e command came is commit =
    ap (λ (a : Answered). changes_of a.after e.session) is
    ∙ none_by script m e.session command e.kind (sym (ap (λ (a : Answered). is_run e.kind && (is_commit command && is_granted a.reply)) is) ∙ commit)

-- ---- one entry

pub named_moment : (script : Script) (m : Plain) (e : JournalEntry) (command : Command) (came : Answered) → command_at script e.session e.number ≡ Some command → came ≡ came_of script m e.session command e.kind → Some (moment_at m e command came) ≡ moment_of script m e
named_moment script m e command came named is =
    ap (λ (a : Answered). Some (moment_at m e command a)) is
    ∙ sym (ap (option_map (λ (c : Command). moment_at m e c (came_of script m e.session c e.kind))) named)

plain_after : (run : Run) (o : Option Moment) → (option_map_or (after_moment run) o run).plain ≡ state_after run.plain o
plain_after run None = refl
plain_after run (Some x) = refl

same_kind : (script : Script) (run other : Run) (e : JournalEntry) (command : Command) (kind : Kind) → run.plain ≡ other.plain → is_beyond_kind script run e command kind ≡ is_beyond_kind script other e command kind
same_kind script run other e command kinds.Run same = ap (λ (m : Plain). is_beyond (answer script.schemas m e.session command).reply) same
same_kind script run other e command kinds.End same = refl
same_kind script run other e command kinds.NoValueId same = refl
same_kind script run other e command kinds.Memory same = refl

same_at : (script : Script) (run other : Run) (e : JournalEntry) → run.plain ≡ other.plain → is_beyond_at script run e ≡ is_beyond_at script other e
same_at script run other e same = λ i. option_map_or (λ (command : Command). same_kind script run other e command e.kind same i) (command_at script e.session e.number) false

same_after : (script : Script) (run other : Run) (e : JournalEntry) → run.plain ≡ other.plain → (after_entry script run e).plain ≡ (after_entry script other e).plain
same_after script run other e same = plain_after run (moment_of script run.plain e) ∙ ap (λ (m : Plain). state_after m (moment_of script m e)) same ∙ sym (plain_after other (moment_of script other.plain e))

same_beyond : (script : Script) (run other : Run) (es : List JournalEntry) → run.plain ≡ other.plain → is_beyond_on script run es ≡ is_beyond_on script other es
same_beyond script run other [] same = refl
same_beyond script run other (e ∷ es) same =
    ap (λ b. b || is_beyond_on script (after_entry script run e) es) (same_at script run other e same)
    ∙ ap (λ b. is_beyond_at script other e || b) (same_beyond script (after_entry script run e) (after_entry script other e) es (same_after script run other e same))

through_append : (script : Script) (st : Stream) (xs ys : List Moment) → stream_through script (stream_through script st xs) ys ≡ stream_through script st (xs ++ ys)
through_append script st [] ys = refl
through_append script st (x ∷ xs) ys = through_append script (stream_after script st x) xs ys

-- ---- how many transactions are sent

sent_more : (ts : List (List Written)) (ws : List Written) → length (with_sent ts ws) ≤ length ts + 1
sent_more ts [] = omega arith
sent_more ts (w ∷ ws) = let e = length-append ts ((w ∷ ws) ∷ []) in omega (arith, e)

sent_if : (b : Bool) (ts : List (List Written)) (ws : List Written) → length (cond b (with_sent ts ws) ts) ≤ length ts + 1
sent_if true ts ws = sent_more ts ws
sent_if false ts ws = omega arith

sent_after : (script : Script) (st : Stream) (o : Option Moment) → length (stream_through script st (option_to_list o)).sent ≤ length st.sent + 1
sent_after script st None = omega arith
sent_after script st (Some x) = sent_if (commits x) st.sent (written_of st x.entry.session)

-- ---- a journal

-- after so many entries of a journal what is kept is what they tell, and the rest gives what the whole gives
pub record IsSoFar (script : Script) (journal : List JournalEntry) (i : ℕ) (so_far : SoFar) : Type 0 where
  pub told : stream_through script (stream_in script.schemas so_far.streamed) (moments_on script so_far.plain (drop i journal)) ≡ stream_through script (first_stream (length script.sessions)) (moments script journal)
  pub beyond : is_beyond_on script (run_at so_far.plain) (drop i journal) ≡ true → answers_beyond script journal ≡ true
  pub few : length so_far.plain.sessions < 2 ^ 16
  pub count : length so_far.streamed.sent ≤ i

or_left : (a b : Bool) → a ≡ true → (a || b) ≡ true
or_left true b e = refl
or_left false b e = absurd (cc)

or_right : (a b : Bool) → b ≡ true → (a || b) ≡ true
or_right true b e = refl
or_right false b e = e

-- before the first entry
pub begins : (script : Script) (journal : List JournalEntry) (so_far : SoFar) → length script.sessions < 2 ^ 16 → so_far.plain ≡ first_state (length script.sessions) → stream_in script.schemas so_far.streamed ≡ first_stream (length script.sessions) → IsSoFar script journal 0 so_far
begins script journal so_far few plain stream = record {
  told = λ i. stream_through script (stream i) (moments_on script (plain i) journal);
  beyond = λ b. sym (same_beyond script (run_at so_far.plain) (run_at (first_state (length script.sessions))) journal plain ∙ same_beyond script (run_at (first_state (length script.sessions))) (first_run script) journal refl) ∙ b;
  few = let e : length so_far.plain.sessions ≡ length script.sessions = ap (λ (m : Plain). length m.sessions) plain ∙ length-replicate (length script.sessions) Outside in omega (arith, e, few);
  count = let e : length so_far.streamed.sent ≡ 0 = ap (λ (st : Stream). length st.sent) stream in omega (arith, e);
}

-- after one entry more
pub goes_on : (script : Script) (journal : List JournalEntry) (i : ℕ) (so_far next : SoFar) (e : JournalEntry) → i < length journal → e ≡ get_or journal i e → next.plain ≡ state_after so_far.plain (moment_of script so_far.plain e)
    → stream_in script.schemas next.streamed ≡ stream_through script (stream_in script.schemas so_far.streamed) (option_to_list (moment_of script so_far.plain e)) → IsSoFar script journal i so_far → IsSoFar script journal (i + 1) next
goes_on script journal i so_far next e h at plain stream so = record {
  told =
      (λ k. stream_through script (stream k) (moments_on script (plain k) (drop (i + 1) journal)))
      ∙ through_append script (stream_in script.schemas so_far.streamed) (option_to_list (moment_of script so_far.plain e)) (moments_on script (state_after so_far.plain (moment_of script so_far.plain e)) (drop (i + 1) journal))
      ∙ sym (ap (λ es. stream_through script (stream_in script.schemas so_far.streamed) (moments_on script so_far.plain es)) (drop_step journal i e h at)) ∙ so.told;
  beyond = λ b. so.beyond (ap (is_beyond_on script (run_at so_far.plain)) (drop_step journal i e h at)
      ∙ or_right (is_beyond_at script (run_at so_far.plain) e) (is_beyond_on script (after_entry script (run_at so_far.plain) e) (drop (i + 1) journal)) (same_beyond script (after_entry script (run_at so_far.plain) e) (run_at next.plain) (drop (i + 1) journal) (plain_after (run_at so_far.plain) (moment_of script so_far.plain e) ∙ sym plain) ∙ b));
  few = let f : length next.plain.sessions ≡ length so_far.plain.sessions = ap (λ (m : Plain). length m.sessions) (plain ∙ sym (plain_after (run_at so_far.plain) (moment_of script so_far.plain e))) ∙ entry_seats script (run_at so_far.plain) e in let g = so.few in omega (arith, f, g);
  count =
      let f : length next.streamed.sent ≡ length (stream_through script (stream_in script.schemas so_far.streamed) (option_to_list (moment_of script so_far.plain e))).sent = ap (λ (st : Stream). length st.sent) stream in
      let g = sent_after script (stream_in script.schemas so_far.streamed) (moment_of script so_far.plain e) in
      let c = so.count in
      omega (arith, f, g, c);
}

-- an entry that answers beyond its type
pub stops : (script : Script) (journal : List JournalEntry) (i : ℕ) (so_far : SoFar) (e : JournalEntry) → i < length journal → e ≡ get_or journal i e → IsSoFar script journal i so_far → is_beyond_at script (run_at so_far.plain) e ≡ true → answers_beyond script journal ≡ true
stops script journal i so_far e h at so b = so.beyond (ap (is_beyond_on script (run_at so_far.plain)) (drop_step journal i e h at) ∙ or_left (is_beyond_at script (run_at so_far.plain) e) (is_beyond_on script (after_entry script (run_at so_far.plain) e) (drop (i + 1) journal)) b)
