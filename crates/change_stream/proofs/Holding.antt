-- What holds between a state of the plain store and the stream beside it.
use Rattle.std.proofs.Common.{◌≡◌, ◌≢◌, ◌≤◌, ◌-◌, ℕ, Bool, true, false, cond, List, [], ◌∷◌, ◌++◌, Option, Some, None, Ok, length, refl, sym, ap, ◌∙◌, subst, inl, inr, arith, suc, zero}
use Rattle.std.specs.Prelude.{◌||◌, ◌⊎◌, map as mapped, is_some, take, drop, slice_get, slice_set}
use Rattle.std.specs.Option.{option_map_or, unwrap_or}
use Rattle.std.proofs.lemmas.Bool.{cases_eq}
use Rattle.std.proofs.lemmas.List.{length-set, map-append}
use Rattle.std.specs.FinMap as map
use Rattle.list_facts.proofs.Changed.{set_same}
use Rattle.tuple_layout.specs.declared.Place.{Place}
use Rattle.tuple_layout.specs.Places.{Rows}
use Rattle.command_set.specs.declared.Script.{Script}
use Rattle.command_set.specs.declared.state.Change.{Change}
use Rattle.command_set.specs.declared.state.Plain.{Plain}
use Rattle.command_set.specs.declared.state.Session.{Session}
use Rattle.command_set.specs.declared.state.Session.TheVariants as sessions
use Rattle.command_set.specs.declared.state.Transaction.{Transaction}
use Rattle.command_set.specs.Plain.{nth, session_of}
use Rattle.command_set.specs.Changes.{fold_changes, is_named, keys_of, places_of}
use Rattle.command_set.specs.Replies.{open_transaction, transaction_of}
use Rattle.command_set.specs.Journals.{Moment}
use Rattle.command_set.proofs.Named.{named_append}
use Rattle.command_set.proofs.Numbered.{nth_is, nth_set_other, nth_set_same}
use Rattle.replica_map.specs.Applies.{apply_stream}
use Rattle.change_stream.specs.declared.written.Written.{Written}
use Rattle.change_stream.specs.Streams.{Stream, changes_of, commits, kept_by, messages_of, outs_with, stream_after, with_sent, written_as, written_of}
use Rattle.change_stream.proofs.Sending.{AreSent, SendsBy, changes_in, sent_push}

-- the transaction of a session; of one that has none open, one that has done nothing
abbrev pub transaction_in : Plain → ℕ → Transaction
transaction_in m s = transaction_of (session_of m s)

-- what holds of a session's transaction and its changes with their columns
pub record IsTold (latest : Rows) (t : Transaction) (ws : List Written) : Type 0 where
  pub changes : changes_in ws ≡ t.changes
  -- they can be sent on the committed rows
  pub sent : AreSent latest ws
  -- where no commit has named a place since its copy, the copy is as the committed rows
  pub copy : (base : Rows) → t.base ≡ Some base → (p : Place) → is_named t.since p ≡ false → map.get base p ≡ map.get latest p

-- what holds of a state, of so many sessions, and the stream
pub record Holds (n : ℕ) (m : Plain) (st : Stream) : Type 0 where
  pub seats : length m.sessions ≡ n
  pub lists : length st.written ≡ n
  -- a replica that has taken the messages has the committed rows
  pub replica : apply_stream (messages_of st.sent) ≡ Ok m.latest
  pub each : (s : ℕ) → IsTold m.latest (transaction_in m s) (written_of st s)
  -- no place is claimed twice
  pub apart : (s t : ℕ) → s ≢ t → (p : Place) → is_named (keys_of (transaction_in m s).changes) p ≡ true → is_named (keys_of (transaction_in m t).changes) p ≡ false

-- no other session claims these places
abbrev pub IsFree : Plain → ℕ → List Place → Type 0
IsFree m s places = (t : ℕ) → t ≢ s → (p : Place) → is_named places p ≡ true → is_named (keys_of (transaction_in m t).changes) p ≡ false

pub no_both : (b c : Bool) → (b ≡ true → c ≡ false) → c ≡ true → b ≡ false
no_both true c h e = absurd (let f = h refl in cc)
no_both false c h e = refl

-- a session that was put
pub session_here : (m new : Plain) (s : ℕ) (x : Session) → 1 ≤ s → s ≤ length m.sessions → new.sessions ≡ slice_set m.sessions (s - 1) x → session_of new s ≡ x
session_here m new s x one within is =
    ap (λ (xs : List Session). unwrap_or (nth xs s) sessions.Outside) is
    ∙ ap (λ (o : Option Session). unwrap_or o sessions.Outside) (nth_set_same m.sessions s x one within)

-- and another
pub session_there : (m new : Plain) (s k : ℕ) (x : Session) → 1 ≤ s → k ≢ s → new.sessions ≡ slice_set m.sessions (s - 1) x → session_of new k ≡ session_of m k
session_there m new s k x one other is =
    ap (λ (xs : List Session). unwrap_or (nth xs k) sessions.Outside) is
    ∙ ap (λ (o : Option Session). unwrap_or o sessions.Outside) (nth_set_other m.sessions s k x one other)

-- one session is another than it was, all else is as before
pub one_other : (n : ℕ) (m new : Plain) (st later : Stream) (s : ℕ) (x : Session) (ws : List Written) → Holds n m st → 1 ≤ s → s ≤ n
    → new.latest ≡ m.latest → new.sessions ≡ slice_set m.sessions (s - 1) x → later.written ≡ slice_set st.written (s - 1) ws → later.sent ≡ st.sent
    → IsTold m.latest (transaction_of x) ws → IsFree m s (keys_of (transaction_of x).changes) → Holds n new later
one_other n m new st later s x ws h one within latest sessions_are written_is sent_is told free = record {
  seats = ap length sessions_are ∙ length-set m.sessions (s - 1) x ∙ h.seats;
  lists = ap length written_is ∙ length-set st.written (s - 1) ws ∙ h.lists;
  replica = ap (λ sent. apply_stream (messages_of sent)) sent_is ∙ h.replica ∙ ap (λ (rows : Rows). Ok rows) (sym latest);
  each = λ k. subst (λ (rows : Rows). IsTold rows (transaction_in new k) (written_of later k)) (sym latest) (elim (cases_eq k s) [
    | inl same ↦ subst (λ (y : Session). IsTold m.latest (transaction_of y) (written_of later k)) (sym (here k same)) (subst (IsTold m.latest (transaction_of x)) (sym (its k same)) told)
    | inr other ↦ subst (λ (y : Session). IsTold m.latest (transaction_of y) (written_of later k)) (sym (there k other)) (subst (IsTold m.latest (transaction_in m k)) (sym (theirs k other)) (h.each k))
  ]);
  apart = λ a b differ p named. elim (cases_eq a s) [
    | inl at_a ↦
        let claimed = sym (ap (λ (y : Session). is_named (keys_of (transaction_of y).changes) p) (here a at_a)) ∙ named in
        let other : b ≢ s = λ at_b. differ (at_a ∙ sym at_b) in
        ap (λ (y : Session). is_named (keys_of (transaction_of y).changes) p) (there b other) ∙ free b other p claimed
    | inr not_a ↦
        let claimed = sym (ap (λ (y : Session). is_named (keys_of (transaction_of y).changes) p) (there a not_a)) ∙ named in
        elim (cases_eq b s) [
          | inl at_b ↦ ap (λ (y : Session). is_named (keys_of (transaction_of y).changes) p) (here b at_b) ∙ no_both (is_named (keys_of (transaction_of x).changes) p) (is_named (keys_of (transaction_in m a).changes) p) (free a not_a p) claimed
          | inr not_b ↦ ap (λ (y : Session). is_named (keys_of (transaction_of y).changes) p) (there b not_b) ∙ h.apart a b differ p claimed
        ]
  ];
}
  where
    here : (k : ℕ) → k ≡ s → session_of new k ≡ x
    here k same = ap (session_of new) same ∙ session_here m new s x one (omega (arith, within, h.seats)) sessions_are

    there : (k : ℕ) → k ≢ s → session_of new k ≡ session_of m k
    there k other = session_there m new s k x one other sessions_are

    its : (k : ℕ) → k ≡ s → written_of later k ≡ ws
    its k same =
        ap (written_of later) same
        ∙ ap (λ (xs : List (List Written)). unwrap_or (nth xs s) []) written_is
        ∙ ap (λ (o : Option (List Written)). unwrap_or o []) (nth_set_same st.written s ws one (omega (arith, within, h.lists)))

    theirs : (k : ℕ) → k ≢ s → written_of later k ≡ written_of st k
    theirs k other =
        ap (λ (xs : List (List Written)). unwrap_or (nth xs k) []) written_is
        ∙ ap (λ (o : Option (List Written)). unwrap_or o []) (nth_set_other st.written s k ws one other)

-- the changes of a session, with its transaction or without
pub changes_are : (session : Session) → option_map_or (λ (t : Transaction). t.changes) (open_transaction session) [] ≡ (transaction_of session).changes
changes_are sessions.Outside = refl
changes_are sessions.Failed = refl
changes_are (sessions.Open t) = refl

-- the changes with their columns of a session whose changes are these
abbrev pub next_written : Script → List ℕ → List Written → List Change → List Written
next_written script kept ws left = take (length left) ws ++ mapped (λ change. written_as script change kept) (drop (length ws) left)

pub next_none : (script : Script) (kept : List ℕ) (ws : List Written) → next_written script kept ws [] ≡ []
next_none script kept [] = refl
next_none script kept (w ∷ ws) = refl

next_same : (script : Script) (kept : List ℕ) (ws : List Written) → next_written script kept ws (changes_in ws) ≡ ws
next_same script kept [] = refl
next_same script kept (w ∷ ws) = ap (λ rest. w ∷ rest) (next_same script kept ws)

next_more : (script : Script) (kept : List ℕ) (ws : List Written) (change : Change) → next_written script kept ws (changes_in ws ++ change ∷ []) ≡ ws ++ written_as script change kept ∷ []
next_more script kept [] change = refl
next_more script kept (w ∷ ws) change = ap (λ rest. w ∷ rest) (next_more script kept ws change)

-- a moment that commits nothing and leaves one session as this
pub moment_of_one : (script : Script) (n : ℕ) (m : Plain) (st : Stream) (x : Moment) (session : Session) (ws : List Written) → Holds n m st → 1 ≤ x.entry.session → x.entry.session ≤ n → commits x ≡ false
    → x.after.latest ≡ m.latest → x.after.sessions ≡ slice_set m.sessions (x.entry.session - 1) session
    → next_written script (kept_by x.command (outs_with st.outs (written_of st x.entry.session))) (written_of st x.entry.session) (transaction_of session).changes ≡ ws
    → IsTold m.latest (transaction_of session) ws → IsFree m x.entry.session (keys_of (transaction_of session).changes) → Holds n x.after (stream_after script st x)
moment_of_one script n m st x session ws h one within quiet latest sessions_are next told free =
    one_other n m x.after st (stream_after script st x) x.entry.session session ws h one within latest sessions_are
    (ap (slice_set st.written (x.entry.session - 1)) (ap (next_written script (kept_by x.command (outs_with st.outs (written_of st x.entry.session))) (written_of st x.entry.session)) left ∙ next))
    (ap (λ b. cond b (with_sent st.sent (written_of st x.entry.session)) st.sent) quiet)
    told free
  where
    left : changes_of x.after x.entry.session ≡ (transaction_of session).changes
    left =
        changes_are (session_of x.after x.entry.session)
        ∙ ap (λ (y : Session). (transaction_of y).changes)
        (ap (λ (xs : List Session). unwrap_or (nth xs x.entry.session) sessions.Outside) sessions_are
        ∙ ap (λ (o : Option Session). unwrap_or o sessions.Outside) (nth_set_same m.sessions x.entry.session session one (omega (arith, within, h.seats))))

-- a session has the changes that it had, and its copy stands
pub goes_on : (script : Script) (n : ℕ) (m : Plain) (st : Stream) (x : Moment) (session : Session) → Holds n m st → 1 ≤ x.entry.session → x.entry.session ≤ n → commits x ≡ false
    → x.after.latest ≡ m.latest → x.after.sessions ≡ slice_set m.sessions (x.entry.session - 1) session
    → (transaction_of session).changes ≡ (transaction_in m x.entry.session).changes → (transaction_of session).base ≡ (transaction_in m x.entry.session).base → (transaction_of session).since ≡ (transaction_in m x.entry.session).since
    → Holds n x.after (stream_after script st x)
goes_on script n m st x session h one within quiet latest sessions_are changes base since =
    let own = h.each x.entry.session in
    let ws = written_of st x.entry.session in
    moment_of_one script n m st x session ws h one within quiet latest sessions_are
    (ap (next_written script (kept_by x.command (outs_with st.outs ws)) ws) (changes ∙ sym own.changes) ∙ next_same script (kept_by x.command (outs_with st.outs ws)) ws)
    (record {
      changes = own.changes ∙ sym changes;
      sent = own.sent;
      copy = λ rows is p unnamed. own.copy rows (sym base ∙ is) p (ap (λ ps. is_named ps p) (sym since) ∙ unnamed);
    })
    (λ t other p named. h.apart x.entry.session t (λ e. other (sym e)) p (ap (λ cs. is_named (keys_of cs) p) (sym changes) ∙ named))

-- what stands at a place of a list, counted from 1
pub there_in : {X : Type 0} (xs : List X) (k : ℕ) (d : X) → 1 ≤ k → k ≤ length xs → slice_get xs (k - 1) ≡ Some (unwrap_or (nth xs k) d)
there_in xs k d one within = sym (nth_is xs k one) ∙ by d (nth xs k) (found xs k one within)
  where
    found : {X : Type 0} (xs : List X) (k : ℕ) → 1 ≤ k → k ≤ length xs → is_some (nth xs k) ≡ true
    found [] k one within = absurd (omega (arith, one, within))
    found (y ∷ ys) zero one within = absurd (omega (arith, one))
    found (y ∷ ys) (suc zero) one within = refl
    found (y ∷ ys) (suc (suc k)) one within = found ys (suc k) (omega arith) (omega (arith, within))

    by : {X : Type 0} (d : X) (o : Option X) → is_some o ≡ true → o ≡ Some (unwrap_or o d)
    by d None none = absurd (cc)
    by d (Some x) some = refl

-- nothing is another but the upkeep that runs
pub stays : (script : Script) (n : ℕ) (m : Plain) (st : Stream) (x : Moment) → Holds n m st → 1 ≤ x.entry.session → x.entry.session ≤ n → commits x ≡ false → x.after.latest ≡ m.latest → x.after.sessions ≡ m.sessions → Holds n x.after (stream_after script st x)
stays script n m st x h one within quiet latest sessions_are =
    goes_on script n m st x (session_of m x.entry.session) h one within quiet latest
    (sessions_are ∙ sym (set_same m.sessions (x.entry.session - 1) (session_of m x.entry.session) (there_in m.sessions x.entry.session sessions.Outside one (omega (arith, within, h.seats))))) refl refl refl

-- a session's transaction has changed nothing and has no copy
pub begins_anew : (script : Script) (n : ℕ) (m : Plain) (st : Stream) (x : Moment) (session : Session) → Holds n m st → 1 ≤ x.entry.session → x.entry.session ≤ n → commits x ≡ false
    → x.after.latest ≡ m.latest → x.after.sessions ≡ slice_set m.sessions (x.entry.session - 1) session
    → (transaction_of session).changes ≡ [] → (transaction_of session).base ≡ None → Holds n x.after (stream_after script st x)
begins_anew script n m st x session h one within quiet latest sessions_are none no_copy =
    let ws = written_of st x.entry.session in
    moment_of_one script n m st x session [] h one within quiet latest sessions_are
    (ap (next_written script (kept_by x.command (outs_with st.outs ws)) ws) none ∙ next_none script (kept_by x.command (outs_with st.outs ws)) ws)
    (record { changes = sym none; sent = tt; copy = λ base is p unnamed. absurd (let no = sym no_copy ∙ is in cc) })
    (λ t other p named. absurd (let no = ap (λ cs. is_named (keys_of cs) p) (sym none) ∙ named in cc))

named_push : (changes : List Change) (change : Change) (p : Place) → is_named (keys_of (changes ++ change ∷ [])) p ≡ is_named (keys_of changes) p || is_named (places_of change) p
named_push [] change p = named_append (places_of change) [] p ∙ or_false (is_named (places_of change) p)
  where
    or_false : (b : Bool) → (b || false) ≡ b
    or_false true = refl
    or_false false = refl
named_push (c ∷ changes) change p =
    named_append (places_of c) (keys_of (changes ++ change ∷ [])) p
    ∙ ap (λ b. is_named (places_of c) p || b) (named_push changes change p)
    ∙ or_or (is_named (places_of c) p) (is_named (keys_of changes) p) (is_named (places_of change) p)
    ∙ ap (λ b. b || is_named (places_of change) p) (sym (named_append (places_of c) (keys_of changes) p))
  where
    or_or : (a b c : Bool) → (a || (b || c)) ≡ ((a || b) || c)
    or_or true b c = refl
    or_or false b c = refl

or_cases : (a b : Bool) → (a || b) ≡ true → (a ≡ true) ⊎ (b ≡ true)
or_cases true b e = inl refl
or_cases false b e = inr e

-- a session has made one change more, at places that nobody else claims
pub writes : (script : Script) (n : ℕ) (m : Plain) (st : Stream) (x : Moment) (session : Session) (change : Change) → Holds n m st → 1 ≤ x.entry.session → x.entry.session ≤ n → commits x ≡ false
    → x.after.latest ≡ m.latest → x.after.sessions ≡ slice_set m.sessions (x.entry.session - 1) session
    → (transaction_of session).changes ≡ (transaction_in m x.entry.session).changes ++ change ∷ [] → (transaction_of session).base ≡ (transaction_in m x.entry.session).base → (transaction_of session).since ≡ (transaction_in m x.entry.session).since
    → SendsBy (fold_changes (transaction_in m x.entry.session).changes m.latest) change (kept_by x.command (outs_with st.outs (written_of st x.entry.session)))
    → IsFree m x.entry.session (places_of change) → Holds n x.after (stream_after script st x)
writes script n m st x session change h one within quiet latest sessions_are changes base since sends free =
    let own = h.each x.entry.session in
    let ws = written_of st x.entry.session in
    let kept = kept_by x.command (outs_with st.outs ws) in
    let w = written_as script change kept in
    moment_of_one script n m st x session (ws ++ w ∷ []) h one within quiet latest sessions_are
    (ap (next_written script kept ws) (changes ∙ ap (λ (cs : List Change). cs ++ change ∷ []) (sym own.changes)) ∙ next_more script kept ws change)
    (record {
      changes = map-append (λ (w : Written). w.change) ws (w ∷ []) ∙ ap (λ (cs : List Change). cs ++ change ∷ []) own.changes ∙ sym changes;
      sent = sent_push m.latest ws w own.sent (subst (λ (cs : List Change). SendsBy (fold_changes cs m.latest) change kept) (sym own.changes) sends);
      copy = λ rows is p unnamed. own.copy rows (sym base ∙ is) p (ap (λ ps. is_named ps p) (sym since) ∙ unnamed);
    })
    (λ t other p named.
    elim (or_cases (is_named (keys_of (transaction_in m x.entry.session).changes) p) (is_named (places_of change) p)
    (sym (named_push (transaction_in m x.entry.session).changes change p) ∙ ap (λ (cs : List Change). is_named (keys_of cs) p) (sym changes) ∙ named)) [
      | inl before ↦ h.apart x.entry.session t (λ e. other (sym e)) p before
      | inr now ↦ free t other p now
    ])
