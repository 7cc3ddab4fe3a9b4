-- What a granted write tells of the rows and of the other sessions.
use Rattle.std.proofs.Common.{◌≡◌, ◌≢◌, ◌+◌, ℕ, Bool, true, false, cond, List, [], ◌∷◌, Option, Some, None, length, refl, sym, ap, ◌∙◌, subst, arith, suc, zero}
use Rattle.std.specs.Prelude.{◌==◌, ◌||◌, ◌&&◌, is_none, is_some, not, slice_get, if◌then◌else◌}
use Rattle.std.specs.List.{enumerate_from, find}
use Rattle.std.specs.Option.{option_map, option_or, unwrap_or}
use Rattle.std.proofs.lemmas.Bool.Decides.{nat_tests}
use Rattle.std.specs.FinMap as map
use Rattle.tuple_layout.specs.declared.Place.{Place}
use Rattle.tuple_layout.specs.Places.{Row, Rows, same_place}
use Rattle.tuple_layout.proofs.PlaceLemmas.{same_place_is}
use Rattle.command_set.specs.declared.Reply.{Reply}
use Rattle.command_set.specs.declared.Reply.TheVariants as replies
use Rattle.command_set.specs.declared.Set.{Set}
use Rattle.command_set.specs.declared.state.Change.{Change}
use Rattle.command_set.specs.declared.state.Change.TheVariants.{Insert, Update, Move, Remove}
use Rattle.command_set.specs.declared.state.Plain.{Plain}
use Rattle.command_set.specs.declared.state.Session.{Session}
use Rattle.command_set.specs.declared.state.Session.TheVariants as sessions
use Rattle.command_set.specs.declared.state.Transaction.{Transaction}
use Rattle.command_set.specs.Changes.{is_named, keys_of, outcome, place, places_of, said}
use Rattle.command_set.specs.Plain.{nth, now_of, row_at, row_with, view_of}
use Rattle.command_set.specs.Replies.{absent, answers_if, busy, changed, changer_of, claims_of, first_of, has_changed, is_granted, taken, transaction_of}
use Rattle.command_set.proofs.Named.{named_append}
use Rattle.command_set.proofs.Outcomes.{get_fold}
use Rattle.change_stream.specs.Streams.{sent_row, unset}
use Rattle.change_stream.proofs.Columns.{length-sent, length-set_row, update_received}
use Rattle.change_stream.proofs.Sending.{IsThere, Receives}
use Rattle.change_stream.proofs.Holding.{IsFree, transaction_in}

-- a refusal of the list is not there where the command is granted
pub passes : (o : Option Reply) (rest : List (Option Reply)) (g : Reply) → ((r : Reply) → o ≡ Some r → is_granted r ≡ false) → is_granted (first_of (o ∷ rest) g) ≡ true → (o ≡ None) × (is_granted (first_of rest g) ≡ true)
passes None rest g refuses granted = (refl, granted)
passes (Some r) rest g refuses granted = absurd (let no = refuses r refl in cc)

-- a refusal by a test
pub refuses_if : (b : Bool) (reply : Reply) → is_granted reply ≡ false → (r : Reply) → answers_if b reply ≡ Some r → is_granted r ≡ false
refuses_if true reply refused r e = let same : reply ≡ r = cc in ap is_granted (sym same) ∙ refused
refuses_if false reply refused r e = absurd (cc)

-- a refusal that names a session
pub refuses_by : (o : Option ℕ) (reply : ℕ → Reply) → ((n : ℕ) → is_granted (reply n) ≡ false) → (r : Reply) → option_map reply o ≡ Some r → is_granted r ≡ false
refuses_by None reply refused r e = absurd (cc)
refuses_by (Some n) reply refused r e = let same : reply n ≡ r = cc in ap is_granted (sym same) ∙ refused n

not_if : (b : Bool) (reply : Reply) → answers_if b reply ≡ None → b ≡ false
not_if true reply e = absurd (cc)
not_if false reply e = refl

none_of : (o : Option ℕ) (reply : ℕ → Reply) → option_map reply o ≡ None → o ≡ None
none_of None reply e = refl
none_of (Some n) reply e = absurd (cc)

no_first : (o : Option (ℕ × Session)) → option_map (λ (n, session). n) o ≡ None → o ≡ None
no_first None e = refl
no_first (Some x) e = absurd (cc)

claims_are : (session : Session) → claims_of session ≡ keys_of (transaction_of session).changes
claims_are sessions.Outside = refl
claims_are sessions.Failed = refl
claims_are (sessions.Open t) = refl

is_number : (n m : ℕ) → (n == m) ≡ true → n ≡ m
is_number n m e = grind (arith, nat_tests)

plus_none : (n : ℕ) → n + 0 ≡ n
plus_none n = omega arith

-- where the search finds no session, none that is another has changed the place
none_found : (xs : List Session) (from s : ℕ) (p : Place) → find (λ (n, session). not (n == s) && has_changed session p) (enumerate_from from xs) ≡ None → (i : ℕ) (x : Session) → slice_get xs i ≡ Some x → from + i ≢ s → has_changed x p ≡ false
none_found [] from s p none i x at other = absurd (cc)
none_found (y ∷ ys) from s p none zero x at other = first (from == s) (has_changed y p) refl refl none
  where
    same : y ≡ x
    same = cc

    first : (b c : Bool) → (from == s) ≡ b → has_changed y p ≡ c → cond (not b && c) (Some (from, y)) (find (λ (n, session). not (n == s) && has_changed session p) (enumerate_from (from + 1) ys)) ≡ None → has_changed x p ≡ false
    first true c own claims none = absurd (other (is_number (from + 0) s (ap (λ n. n == s) (plus_none from) ∙ own)))
    first false true own claims none = absurd (cc)
    first false false own claims none = ap (λ z. has_changed z p) (sym same) ∙ claims
none_found (y ∷ ys) from s p none (suc i) x at other = none_found ys (from + 1) s p (later (not (from == s) && has_changed y p) none) i x at (λ e. other (let next : from + 1 + i ≡ from + suc i = omega arith in sym next ∙ e))
  where
    later : (b : Bool) → cond b (Some (from, y)) (find (λ (n, session). not (n == s) && has_changed session p) (enumerate_from (from + 1) ys)) ≡ None → find (λ (n, session). not (n == s) && has_changed session p) (enumerate_from (from + 1) ys) ≡ None
    later true none = absurd (cc)
    later false none = none

-- no other session claims a place for which a command is not busy
pub free_of : (m : Plain) (s : ℕ) (p : Place) → busy m s p ≡ None → (t : ℕ) → t ≢ s → is_named (keys_of (transaction_in m t).changes) p ≡ false
free_of m s p free t other = by t (nth m.sessions t) refl other
  where
    none : find (λ (n, session). not (n == s) && has_changed session p) (enumerate_from 1 m.sessions) ≡ None
    none = no_first _ (none_of (changer_of m s p) replies.Busy free)

    by : (t : ℕ) (o : Option Session) → nth m.sessions t ≡ o → t ≢ s → is_named (keys_of (transaction_of (unwrap_or (nth m.sessions t) sessions.Outside)).changes) p ≡ false
    by t None is other = ap (λ (o : Option Session). is_named (keys_of (transaction_of (unwrap_or o sessions.Outside)).changes) p) is
    by zero (Some x) is other = absurd (cc)
    by (suc i) (Some x) is other =
        ap (λ (o : Option Session). is_named (keys_of (transaction_of (unwrap_or o sessions.Outside)).changes) p) is
        ∙ ap (λ places. is_named places p) (sym (claims_are x))
        ∙ none_found m.sessions 1 s p none i x is (λ e. other (let next : 1 + i ≡ suc i = omega arith in sym next ∙ e))

-- the same of a list of one place, and of two
pub free_one : (m : Plain) (s : ℕ) (p : Place) → busy m s p ≡ None → IsFree m s (p ∷ [])
free_one m s p free t other q named = subst (λ r. is_named (keys_of (transaction_in m t).changes) r ≡ false) (sym (only p q named)) (free_of m s p free t other)
  where
    only : (p q : Place) → is_named (p ∷ []) q ≡ true → q ≡ p
    only p q named = same_place_is q p (left (same_place q p) named)
      where
        left : (b : Bool) → (b || false) ≡ true → b ≡ true
        left true e = refl
        left false e = e

pub free_two : (m : Plain) (s : ℕ) (p q : Place) → busy m s p ≡ None → busy m s q ≡ None → IsFree m s (p ∷ q ∷ [])
free_two m s p q free_p free_q t other r named = by (same_place r p) refl named
  where
    by : (b : Bool) → same_place r p ≡ b → (b || is_named (q ∷ []) r) ≡ true → is_named (keys_of (transaction_in m t).changes) r ≡ false
    by true e _ = subst (λ x. is_named (keys_of (transaction_in m t).changes) x ≡ false) (sym (same_place_is r p e)) (free_of m s p free_p t other)
    by false e rest = free_one m s q free_q t other r rest

-- a change says something of each place that it names
said_named : (change : Change) (p : Place) → is_named (places_of change) p ≡ true → (o : Option Row) × (said change p ≡ Some o)
said_named (Insert t k row) p named = by (same_place p (place t k)) named
  where
    by : (b : Bool) → (b || false) ≡ true → (o : Option Row) × ((if b then Some (Some row) else None) ≡ Some o)
    by true e = (Some row, refl)
    by false e = absurd (cc)
said_named (Update t k row) p named = by (same_place p (place t k)) named
  where
    by : (b : Bool) → (b || false) ≡ true → (o : Option Row) × ((if b then Some (Some row) else None) ≡ Some o)
    by true e = (Some row, refl)
    by false e = absurd (cc)
said_named (Move t from to row) p named = by (same_place p (place t from)) (same_place p (place t to)) named
  where
    by : (b c : Bool) → (b || (c || false)) ≡ true → (o : Option Row) × ((if c then Some (Some row) else if b then Some None else None) ≡ Some o)
    by b true e = (Some row, refl)
    by true false e = (None, refl)
    by false false e = absurd (cc)
said_named (Remove t k) p named = by (same_place p (place t k)) named
  where
    by : (b : Bool) → (b || false) ≡ true → (o : Option Row) × ((if b then Some None else None) ≡ Some o)
    by true e = (None, refl)
    by false e = absurd (cc)

-- and changes leave something at each place that one of them names
outcome_named : (changes : List Change) (p : Place) → is_named (keys_of changes) p ≡ true → (o : Option Row) × (outcome changes p ≡ Some o)
outcome_named [] p named = absurd (cc)
outcome_named (change ∷ changes) p named = by (is_named (keys_of changes) p) refl (outcome_named changes p) (sym (named_append (places_of change) (keys_of changes) p) ∙ named)
  where
    first : (later : Option (Option Row)) (o : Option Row) → said change p ≡ Some o → (r : Option Row) × (option_or later (said change p) ≡ Some r)
    first None o is = (o, is)
    first (Some r) o is = (r, refl)

    by : (b : Bool) → is_named (keys_of changes) p ≡ b → (is_named (keys_of changes) p ≡ true → (o : Option Row) × (outcome changes p ≡ Some o)) → (is_named (places_of change) p || is_named (keys_of changes) p) ≡ true → (o : Option Row) × (option_or (outcome changes p) (said change p) ≡ Some o)
    by true is rest either = let o = rest is in (o.0, ap (λ l. option_or l (said change p)) o.1)
    by false is rest either =
        let here = said_named change p (left (is_named (places_of change) p) (ap (λ b. is_named (places_of change) p || b) (sym is) ∙ either)) in
        first (outcome changes p) here.0 here.1
      where
        left : (b : Bool) → (b || false) ≡ true → b ≡ true
        left true e = refl
        left false e = e

-- the view and the own rows are alike at a place for which a command does not answer that it has changed
pub now_view : (m : Plain) (t : Transaction) (p : Place) → ((base : Rows) → t.base ≡ Some base → (p : Place) → is_named t.since p ≡ false → map.get base p ≡ map.get m.latest p)
    → changed t p ≡ None → map.get (now_of m t) p ≡ map.get (view_of m t) p
now_view m t p copy none = get_fold t.changes m.latest p ∙ by t.base refl ∙ sym (get_fold t.changes (unwrap_or t.base m.latest) p)
  where
    by : (o : Option Rows) → t.base ≡ o → unwrap_or (outcome t.changes p) (map.get m.latest p) ≡ unwrap_or (outcome t.changes p) (map.get (unwrap_or t.base m.latest) p)
    by None is = ap (λ (o : Option Rows). unwrap_or (outcome t.changes p) (map.get (unwrap_or o m.latest) p)) (sym is)
    by (Some base) is = at (is_named (keys_of t.changes) p) (is_named t.since p) refl refl ∙ ap (λ (o : Option Rows). unwrap_or (outcome t.changes p) (map.get (unwrap_or o m.latest) p)) (sym is)
      where
        told : (outcome_is : (o : Option Row) × (outcome t.changes p ≡ Some o)) → unwrap_or (outcome t.changes p) (map.get m.latest p) ≡ unwrap_or (outcome t.changes p) (map.get base p)
        told its = ap (λ o. unwrap_or o (map.get m.latest p)) its.1 ∙ sym (ap (λ o. unwrap_or o (map.get base p)) its.1)

        at : (own since : Bool) → is_named (keys_of t.changes) p ≡ own → is_named t.since p ≡ since → unwrap_or (outcome t.changes p) (map.get m.latest p) ≡ unwrap_or (outcome t.changes p) (map.get base p)
        at true since own_is since_is = told (outcome_named t.changes p own_is)
        at false false own_is since_is = ap (unwrap_or (outcome t.changes p)) (sym (copy base is p since_is))
        at false true own_is since_is =
            let tested : (is_some t.base && is_named t.since p && not (is_named (keys_of t.changes) p)) ≡ true =
            ap (λ (o : Option Rows). is_some o && is_named t.since p && not (is_named (keys_of t.changes) p)) is
            ∙ ap (λ b. b && not (is_named (keys_of t.changes) p)) since_is
            ∙ ap not own_is in
            absurd (let no = not_if (is_some t.base && is_named t.since p && not (is_named (keys_of t.changes) p)) replies.Changed none in cc)

-- a row that is not absent is there
pub is_there : (rows : Rows) (p : Place) → absent rows p ≡ None → IsThere (map.get rows p)
is_there rows p e = by (map.get rows p) (not_if (is_none (map.get rows p)) replies.Absent e)
  where
    by : (o : Option Row) → is_none o ≡ false → IsThere o
    by None there = absurd (cc)
    by (Some row) there = record { old = row; is = refl }

-- nothing is at a key that is not taken
pub not_taken : (m : Plain) (t : Transaction) (p : Place) → taken m t p ≡ None → map.get (now_of m t) p ≡ None
not_taken m t p e = by (map.get (now_of m t) p) (is_some (map.get (view_of m t) p)) (not_if (is_some (map.get (now_of m t) p) || is_some (map.get (view_of m t) p)) replies.Taken e)
  where
    by : (o : Option Row) (b : Bool) → (is_some o || b) ≡ false → o ≡ None
    by None b free = refl
    by (Some row) b free = absurd (cc)

-- an update's columns are received over the row that the view has, where the own rows have the same
pub receives : (rows view : Rows) (p : Place) (sets : List Set) (columns : List ℕ) → map.get rows p ≡ map.get view p → absent view p ≡ None → Receives (map.get rows p) (unset sets columns) (row_with (row_at view p) sets)
receives rows view p sets columns alike there =
    let its = is_there view p there in
    let row : row_at view p ≡ its.old = ap (λ (o : Option Row). unwrap_or o []) its.is in
    record {
      old = its.old;
      is = alike ∙ its.is;
      count = length-sent (unset sets columns) 1 (row_with (row_at view p) sets) ∙ length-set_row sets 1 (row_at view p) ∙ ap length row;
      same = ap (λ (r : Row). Rattle.replica_map.specs.Applies.row_with its.old (sent_row (unset sets columns) (row_with r sets))) row ∙ update_received sets columns its.old ∙ ap (λ (r : Row). row_with r sets) (sym row);
    }
