-- A commit: its transaction is sent, and what holds of the others goes on.
use Rattle.std.proofs.Common.{◌≡◌, ◌≢◌, ◌≤◌, ◌-◌, ◌+◌, ℕ, Bool, true, false, cond, List, [], ◌∷◌, ◌++◌, Option, Some, None, Ok, length, refl, sym, ap, ◌∙◌, subst, inl, inr, arith, suc, zero}
use Rattle.std.specs.Prelude.{◌||◌, map as mapped, is_some, slice_get, if◌then◌else◌}
use Rattle.std.specs.Option.{option_map, unwrap_or}
use Rattle.std.proofs.lemmas.Bool.{cases_eq}
use Rattle.std.proofs.lemmas.List.{length-set, length-map, map-append}
use Rattle.std.specs.FinMap as map
use Rattle.tuple_layout.specs.declared.Place.{Place}
use Rattle.tuple_layout.specs.Places.{Rows}
use Rattle.command_set.specs.declared.Script.{Script}
use Rattle.command_set.specs.declared.state.Change.{Change}
use Rattle.command_set.specs.declared.state.Plain.{Plain}
use Rattle.command_set.specs.declared.state.Session.{Session}
use Rattle.command_set.specs.declared.state.Session.TheVariants as sessions
use Rattle.command_set.specs.Plain.{nth, session_of}
use Rattle.command_set.specs.Changes.{fold_changes, is_named, keys_of}
use Rattle.command_set.specs.Replies.{transaction_of}
use Rattle.command_set.specs.Answers.{committed, told_by}
use Rattle.command_set.specs.Journals.{Moment}
use Rattle.command_set.proofs.Named.{named_append}
use Rattle.command_set.proofs.Numbered.{nth_set_other, nth_set_same}
use Rattle.command_set.proofs.Outcomes.{fold_other}
use Rattle.stream_wire.specs.Transactions as wire
use Rattle.stream_wire.specs.declared.message.Message.TheVariants as messages
use Rattle.stream_wire.proofs.Transactions.{messages_of-push}
use Rattle.replica_map.specs.Applies.{and_then, apply_all, apply_stream}
use Rattle.change_stream.specs.declared.written.Written.{Written}
use Rattle.change_stream.specs.Streams.{Stream, changes_of, commits, kept_by, message_of, messages_of, outs_with, sent_changes, stream_after, transaction, with_sent, written_after, written_of}
use Rattle.replica_map.proofs.Streams.{apply_all-append}
use Rattle.change_stream.proofs.Sending.{AreSent, changes_in, messages_apply, sent_alike}
use Rattle.change_stream.proofs.Holding.{Holds, IsTold, changes_are, next_none, next_written, transaction_in}

-- the messages of one transaction more
pub messages_push : (sent : List (List Written)) (ws : List Written) → messages_of (sent ++ ws ∷ []) ≡ messages_of sent ++ transaction (1 + length sent, ws)
messages_push sent ws =
    ap wire.messages_of (map-append (λ (changes : List Written). mapped message_of changes) sent (ws ∷ []))
    ∙ messages_of-push (sent_changes sent) (mapped message_of ws)
    ∙ ap (λ (count : ℕ). messages_of sent ++ transaction (1 + count, ws)) (length-map sent (λ (changes : List Written). mapped message_of changes))

-- the messages of a transaction make its changes
transaction_applies : (number : ℕ) (rows : Rows) (ws : List Written) → AreSent rows ws → apply_all rows (transaction (number, ws)) ≡ Ok (fold_changes (changes_in ws) rows)
transaction_applies number rows ws its =
    apply_all-append rows (mapped message_of ws) (messages.Commit number ∷ [])
    ∙ ap (and_then (λ after. apply_all after (messages.Commit number ∷ []))) (messages_apply rows ws its)

-- a replica that has the committed rows has them after a transaction's messages too
pub replica_goes_on : (sent : List (List Written)) (ws : List Written) (rows : Rows) → apply_stream (messages_of sent) ≡ Ok rows → AreSent rows ws → apply_stream (messages_of (with_sent sent ws)) ≡ Ok (fold_changes (changes_in ws) rows)
replica_goes_on sent [] rows has its = has
replica_goes_on sent (w ∷ ws) rows has its =
    ap apply_stream (messages_push sent (w ∷ ws))
    ∙ apply_all-append map.empty (messages_of sent) (transaction (1 + length sent, w ∷ ws))
    ∙ ap (and_then (λ after. apply_all after (transaction (1 + length sent, w ∷ ws)))) has
    ∙ transaction_applies (1 + length sent) rows (w ∷ ws) its

-- what another session is after the commit
pub told_changes : (changes : List Change) (session : Session) → (transaction_of (told_by changes session)).changes ≡ (transaction_of session).changes
told_changes changes sessions.Outside = refl
told_changes changes sessions.Failed = refl
told_changes changes (sessions.Open t) = by (is_some t.base)
  where
    by : (b : Bool) → (if b then record t { since = t.since ++ keys_of changes } else t).changes ≡ t.changes
    by true = refl
    by false = refl

neither_left : (a b : Bool) → (a || b) ≡ false → a ≡ false
neither_left true b none = none
neither_left false b none = refl

neither_right : (a b : Bool) → (a || b) ≡ false → b ≡ false
neither_right true b none = absurd (cc)
neither_right false b none = none

-- its copy, where it has one, and the places that commits have named since
pub told_copy : (changes : List Change) (session : Session) (base : Rows) → (transaction_of (told_by changes session)).base ≡ Some base
    → ((transaction_of session).base ≡ Some base) × ((p : Place) → is_named (transaction_of (told_by changes session)).since p ≡ false → (is_named (transaction_of session).since p ≡ false) × (is_named (keys_of changes) p ≡ false))
told_copy changes sessions.Outside base is = absurd (cc)
told_copy changes sessions.Failed base is = absurd (cc)
told_copy changes (sessions.Open t) base is = by t.base refl
  where
    by : (o : Option Rows) → t.base ≡ o → (t.base ≡ Some base) × ((p : Place) → is_named (transaction_of (told_by changes (sessions.Open t))).since p ≡ false → (is_named t.since p ≡ false) × (is_named (keys_of changes) p ≡ false))
    by None none = absurd (let no : t.base ≡ Some base = sym (ap (λ b. (if b then record t { since = t.since ++ keys_of changes } else t).base) (ap is_some none)) ∙ is in cc)
    by (Some rows) some =
        let test : is_some t.base ≡ true = ap is_some some in (
          sym (ap (λ b. (if b then record t { since = t.since ++ keys_of changes } else t).base) test) ∙ is,
          λ p unnamed.
              let both = sym (named_append t.since (keys_of changes) p) ∙ sym (ap (λ b. is_named (if b then record t { since = t.since ++ keys_of changes } else t).since p) test) ∙ unnamed in
              (neither_left (is_named t.since p) (is_named (keys_of changes) p) both, neither_right (is_named t.since p) (is_named (keys_of changes) p) both),
        )

pub nth_mapped : (f : Session → Session) (xs : List Session) (k : ℕ) → nth (mapped f xs) k ≡ option_map f (nth xs k)
nth_mapped f xs zero = refl
nth_mapped f xs (suc i) = at xs i
  where
    at : (xs : List Session) (i : ℕ) → slice_get (mapped f xs) i ≡ option_map f (slice_get xs i)
    at [] i = refl
    at (x ∷ xs) zero = refl
    at (x ∷ xs) (suc i) = at xs i

pub told_default : (changes : List Change) (o : Option Session) → unwrap_or (option_map (told_by changes) o) sessions.Outside ≡ told_by changes (unwrap_or o sessions.Outside)
told_default changes None = refl
told_default changes (Some session) = refl

-- a granted commit
pub commit_holds : (script : Script) (n : ℕ) (m : Plain) (st : Stream) (x : Moment) → Holds n m st → 1 ≤ x.entry.session → x.entry.session ≤ n → commits x ≡ true → x.after ≡ committed m x.entry.session → Holds n x.after (stream_after script st x)
commit_holds script n m st x h one within granted after =
    subst (λ (new : Plain). Holds n new later) (sym after) (record {
      seats = length-set (mapped (told_by changes) m.sessions) (s - 1) sessions.Outside ∙ length-map m.sessions (told_by changes) ∙ h.seats;
      lists = length-set st.written (s - 1) (written_after script st x) ∙ h.lists;
      replica =
          ap (λ b. apply_stream (messages_of (cond b (with_sent st.sent ws) st.sent))) granted
          ∙ replica_goes_on st.sent ws m.latest h.replica own.sent
          ∙ ap (λ (cs : List Change). Ok (fold_changes cs m.latest)) own.changes;
      each = λ k. elim (cases_eq k s) [
        | inl same ↦
            subst (λ (y : Session). IsTold new.latest (transaction_of y) (written_of later k)) (sym (here k same))
            (subst (IsTold new.latest (transaction_of sessions.Outside)) (sym (its k same)) (record { changes = refl; sent = tt; copy = λ base is p unnamed. absurd (cc) }))
        | inr other ↦
            subst (λ (y : Session). IsTold new.latest (transaction_of y) (written_of later k)) (sym (there k other))
            (subst (IsTold new.latest (transaction_of (told_by changes (session_of m k)))) (sym (theirs k other)) (others k other))
      ];
      apart = λ a b differ p named. elim (cases_eq a s) [
        | inl at_a ↦ absurd (let no = sym (ap (λ (y : Session). is_named (keys_of (transaction_of y).changes) p) (here a at_a)) ∙ named in cc)
        | inr not_a ↦ elim (cases_eq b s) [
          | inl at_b ↦ ap (λ (y : Session). is_named (keys_of (transaction_of y).changes) p) (here b at_b)
          | inr not_b ↦
              claims b not_b p
              ∙ h.apart a b differ p (sym (claims a not_a p) ∙ named)
        ]
      ];
    })
  where
    s : ℕ
    s = x.entry.session

    changes : List Change
    changes = (transaction_in m s).changes

    ws : List Written
    ws = written_of st s

    own : IsTold m.latest (transaction_in m s) ws
    own = h.each s

    new : Plain
    new = committed m s

    later : Stream
    later = stream_after script st x

    count : s ≤ length (mapped (told_by changes) m.sessions)
    count = omega (arith, within, h.seats, length-map m.sessions (told_by changes))

    here : (k : ℕ) → k ≡ s → session_of new k ≡ sessions.Outside
    here k same = ap (session_of new) same ∙ ap (λ (o : Option Session). unwrap_or o sessions.Outside) (nth_set_same (mapped (told_by changes) m.sessions) s sessions.Outside one count)

    there : (k : ℕ) → k ≢ s → session_of new k ≡ told_by changes (session_of m k)
    there k other =
        ap (λ (o : Option Session). unwrap_or o sessions.Outside) (nth_set_other (mapped (told_by changes) m.sessions) s k sessions.Outside one other ∙ nth_mapped (told_by changes) m.sessions k)
        ∙ told_default changes (nth m.sessions k)

    claims : (k : ℕ) → k ≢ s → (p : Place) → is_named (keys_of (transaction_in new k).changes) p ≡ is_named (keys_of (transaction_in m k).changes) p
    claims k other p =
        ap (λ (y : Session). is_named (keys_of (transaction_of y).changes) p) (there k other)
        ∙ ap (λ (cs : List Change). is_named (keys_of cs) p) (told_changes changes (session_of m k))

    left : changes_of x.after s ≡ []
    left = ap (λ (y : Plain). changes_of y s) after ∙ changes_are (session_of new s) ∙ ap (λ (y : Session). (transaction_of y).changes) (here s refl)

    mine : written_after script st x ≡ []
    mine = ap (next_written script (kept_by x.command (outs_with st.outs ws)) ws) left ∙ next_none script (kept_by x.command (outs_with st.outs ws)) ws

    its : (k : ℕ) → k ≡ s → written_of later k ≡ []
    its k same =
        ap (written_of later) same
        ∙ ap (λ (o : Option (List Written)). unwrap_or o []) (nth_set_same st.written s (written_after script st x) one (omega (arith, within, h.lists)))
        ∙ mine

    theirs : (k : ℕ) → k ≢ s → written_of later k ≡ written_of st k
    theirs k other = ap (λ (o : Option (List Written)). unwrap_or o []) (nth_set_other st.written s k (written_after script st x) one other)

    alike : (k : ℕ) → k ≢ s → (p : Place) → is_named (keys_of (changes_in (written_of st k))) p ≡ true → map.get m.latest p ≡ map.get new.latest p
    alike k other p named =
        let claimed : is_named (keys_of (transaction_in m k).changes) p ≡ true = ap (λ (cs : List Change). is_named (keys_of cs) p) (sym (h.each k).changes) ∙ named in
        sym (fold_other changes m.latest p (h.apart k s other p claimed))

    others : (k : ℕ) → k ≢ s → IsTold new.latest (transaction_of (told_by changes (session_of m k))) (written_of st k)
    others k other = record {
      changes = (h.each k).changes ∙ sym (told_changes changes (session_of m k));
      sent = sent_alike m.latest new.latest (written_of st k) (record { at = alike k other }) (h.each k).sent;
      copy = λ base is p unnamed.
          let copied = told_copy changes (session_of m k) base is in
          let both = copied.1 p unnamed in
          (h.each k).copy base copied.0 p both.0 ∙ sym (fold_other changes m.latest p both.1);
    }
