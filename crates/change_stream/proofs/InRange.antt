-- What a script writes in range comes out as messages in range.
use Rattle.std.proofs.Common.{◌≡◌, ◌≤◌, ◌+◌, ℕ, Bool, true, false, List, [], ◌∷◌, ◌++◌, Option, Some, None, refl, sym, ap, ◌∙◌, subst, arith, suc, zero}
use Rattle.std.specs.Prelude.{◌==◌, map as mapped, if◌then◌else◌, All}
use Rattle.std.specs.List.{enumerate_from, flat_map}
use Rattle.std.specs.Option.{option_or, unwrap_or}
use Rattle.std.specs.FinMap as map
use Rattle.tuple_layout.specs.declared.Place.{Place}
use Rattle.tuple_layout.specs.Places.{Row, Rows, same_place}
use Rattle.tuple_toaster.specs.Pushed.{is_among}
use Rattle.command_set.specs.declared.Set.{Set}
use Rattle.command_set.specs.declared.state.Change.{Change}
use Rattle.command_set.specs.declared.state.Change.TheVariants.{Insert, Update, Move, Remove}
use Rattle.command_set.specs.Changes.{fold_changes, outcome, place, said}
use Rattle.command_set.specs.Plain.{row_with, value_set}
use Rattle.command_set.proofs.Outcomes.{get_fold}
use Rattle.stream_wire.specs.Transactions as wire
use Rattle.stream_wire.specs.declared.message.Message.{Message}
use Rattle.stream_wire.specs.declared.message.Message.TheVariants as messages
use Rattle.stream_wire.specs.declared.message.Sent.{Sent}
use Rattle.stream_wire.specs.declared.message.Sent.TheVariants as sent
use Rattle.stream_wire.specs.Spelling.{AreColumns, IsInRange, IsShort, IsTable}
use Rattle.change_stream.specs.declared.written.Written.{Written}
use Rattle.change_stream.specs.Streams.{message_by, message_of, messages_of, sent_changes, sent_row, sent_value, transaction}
use Rattle.change_stream.specs.Ranges.{IsRow, IsValue}
use Rattle.change_stream.proofs.Columns.{length-sent, length-set_row}
use Rattle.change_stream.proofs.Sending.{changes_in}

pub all_nil : {X : Type 0} (P : X → Type 0) → All P []
all_nil P k d h = absurd (omega (arith, h))

pub all_cons : {X : Type 0} (P : X → Type 0) (x : X) (xs : List X) → P x → All P xs → All P (x ∷ xs)
all_cons P x xs first rest zero d h = first
all_cons P x xs first rest (suc k) d h = rest k d (omega (arith, h))

pub all_first : {X : Type 0} (P : X → Type 0) (x : X) (xs : List X) → All P (x ∷ xs) → P x
all_first P x xs all = all 0 x (omega arith)

pub all_rest : {X : Type 0} (P : X → Type 0) (x : X) (xs : List X) → All P (x ∷ xs) → All P xs
all_rest P x xs all k d h = all (suc k) d (omega (arith, h))

pub all_append : {X : Type 0} (P : X → Type 0) (xs ys : List X) → All P xs → All P ys → All P (xs ++ ys)
all_append P [] ys all more = more
all_append P (x ∷ xs) ys all more = all_cons P x (xs ++ ys) (all_first P x xs all) (all_append P xs ys (all_rest P x xs all) more)

-- a change is in range
abbrev pub IsChange : Change → Type 0
IsChange (Insert t k row) = IsTable t × IsRow row
IsChange (Update t k row) = IsTable t × IsRow row
IsChange (Move t from to row) = IsTable t × IsRow row
IsChange (Remove t k) = IsTable t

short_value : (value : Option (List ℕ)) → IsValue value → IsShort (sent_value value)
short_value None its = tt
short_value (Some bytes) its = its

short_column : (b : Bool) (value : Option (List ℕ)) → IsValue value → IsShort (if b then sent.Unchanged else sent_value value)
short_column true value its = tt
short_column false value its = short_value value its

-- the columns from this one on
abbrev sent_from : List ℕ → ℕ → Row → List Sent
sent_from kept n row = mapped (λ (column, value). if is_among kept column then sent.Unchanged else sent_value value) (enumerate_from n row)

short_from : (kept : List ℕ) (n : ℕ) (row : Row) → All IsValue row → All IsShort (sent_from kept n row)
short_from kept n [] its = all_nil IsShort
short_from kept n (value ∷ row) its =
    all_cons IsShort _ (sent_from kept (n + 1) row) (short_column (is_among kept n) value (all_first IsValue value row its)) (short_from kept (n + 1) row (all_rest IsValue value row its))

columns_of : (kept : List ℕ) (row : Row) → IsRow row → AreColumns (sent_row kept row)
columns_of kept row its =
    let count = length-sent kept 1 row in
    (omega (arith, its.0, count), omega (arith, its.1, count), short_from kept 1 row its.2)

message_in_range : (change : Change) (kept : List ℕ) → IsChange change → IsInRange (message_by change kept)
message_in_range (Insert t k row) kept its = (its.0, columns_of kept row its.1)
message_in_range (Update t k row) kept its = (its.0, columns_of kept row its.1)
message_in_range (Move t from to row) kept its = (its.0, columns_of kept row its.1)
message_in_range (Remove t k) kept its = its

changes_sent : (ws : List Written) → All IsChange (changes_in ws) → All IsInRange (mapped message_of ws)
changes_sent [] its = all_nil IsInRange
changes_sent (w ∷ ws) its =
    all_cons IsInRange (message_of w) (mapped message_of ws) (message_in_range w.change w.kept (all_first IsChange w.change (changes_in ws) its)) (changes_sent ws (all_rest IsChange w.change (changes_in ws) its))

-- transactions whose changes are in range
abbrev pub AreTransactions : List (List Written) → Type 0
AreTransactions transactions = All (λ (ws : List Written). All IsChange (changes_in ws)) transactions

transactions_from : (n : ℕ) (transactions : List (List Written)) → 1 ≤ n → AreTransactions transactions → All IsInRange (flat_map transaction (enumerate_from n transactions))
transactions_from n [] one its = all_nil IsInRange
transactions_from n (ws ∷ transactions) one its =
    let P = λ (ws : List Written). All IsChange (changes_in ws) in
    all_append IsInRange (transaction (n, ws)) (flat_map transaction (enumerate_from (n + 1) transactions))
    (all_cons IsInRange (messages.Begin n) (mapped message_of ws ++ messages.Commit n ∷ []) one
    (all_append IsInRange (mapped message_of ws) (messages.Commit n ∷ []) (changes_sent ws (all_first P ws transactions its)) (all_cons IsInRange (messages.Commit n) [] one (all_nil IsInRange))))
    (transactions_from (n + 1) transactions (omega (arith, one)) (all_rest P ws transactions its))

-- the messages of transactions are those of their changes
same_messages : (n : ℕ) (transactions : List (List Written)) → flat_map transaction (enumerate_from n transactions) ≡ flat_map wire.transaction (enumerate_from n (sent_changes transactions))
same_messages n [] = refl
same_messages n (ws ∷ transactions) = ap (λ (others : List Message). transaction (n, ws) ++ others) (same_messages (n + 1) transactions)

-- their messages are in range
pub messages_in_range : (transactions : List (List Written)) → AreTransactions transactions → All IsInRange (messages_of transactions)
messages_in_range transactions its = subst (All IsInRange) (same_messages 1 transactions) (transactions_from 1 transactions (omega arith) its)

-- ---- rows

-- each row of a map is in range
pub record AreRows (rows : Rows) : Type 0 where
  pub at : (p : Place) (row : Row) → map.get rows p ≡ Some row → IsRow row

said_row : (change : Change) (p : Place) (row : Row) → IsChange change → said change p ≡ Some (Some row) → IsRow row
said_row (Insert t k new) p row its is = by (same_place p (place t k)) is
  where
    by : (b : Bool) → (if b then Some (Some new) else None) ≡ Some (Some row) → IsRow row
    by true e = let same : new ≡ row = cc in subst IsRow same its.1
    by false e = absurd (cc)
said_row (Update t k new) p row its is = by (same_place p (place t k)) is
  where
    by : (b : Bool) → (if b then Some (Some new) else None) ≡ Some (Some row) → IsRow row
    by true e = let same : new ≡ row = cc in subst IsRow same its.1
    by false e = absurd (cc)
said_row (Move t from to new) p row its is = by (same_place p (place t to)) (same_place p (place t from)) is
  where
    by : (b c : Bool) → (if b then Some (Some new) else if c then Some None else None) ≡ Some (Some row) → IsRow row
    by true c e = let same : new ≡ row = cc in subst IsRow same its.1
    by false true e = absurd (cc)
    by false false e = absurd (cc)
said_row (Remove t k) p row its is = by (same_place p (place t k)) is
  where
    by : (b : Bool) → (if b then Some None else None) ≡ Some (Some row) → IsRow row
    by true e = absurd (cc)
    by false e = absurd (cc)

outcome_row : (changes : List Change) (p : Place) (row : Row) → All IsChange changes → outcome changes p ≡ Some (Some row) → IsRow row
outcome_row [] p row its is = absurd (cc)
outcome_row (change ∷ changes) p row its is = by (outcome changes p) is (outcome_row changes p row (all_rest IsChange change changes its))
  where
    by : (o : Option (Option Row)) → option_or o (said change p) ≡ Some (Some row) → (o ≡ Some (Some row) → IsRow row) → IsRow row
    by None e rest = said_row change p row (all_first IsChange change changes its) e
    by (Some r) e rest = rest e

-- changes in range leave rows in range
pub fold_rows : (changes : List Change) (rows : Rows) → All IsChange changes → AreRows rows → AreRows (fold_changes changes rows)
fold_rows changes rows its old = record { at = λ p row is. by p row (outcome changes p) refl (sym (get_fold changes rows p) ∙ is) }
  where
    by : (p : Place) (row : Row) (o : Option (Option Row)) → outcome changes p ≡ o → unwrap_or (outcome changes p) (map.get rows p) ≡ Some row → IsRow row
    by p row None e is = old.at p row (sym (ap (λ o. unwrap_or o (map.get rows p)) e) ∙ is)
    by p row (Some r) e is = outcome_row changes p row its (e ∙ ap (λ (r : Option Row). Some r) (sym (ap (λ o. unwrap_or o (map.get rows p)) e) ∙ is))

set_value : (sets : List Set) (column : ℕ) (value : Option (List ℕ)) → All (λ (s : Set). IsValue s.value) sets → IsValue value → IsValue (unwrap_or (value_set sets column) value)
set_value [] column value its old = old
set_value (s ∷ sets) column value its old = by (s.column == column) (set_value sets column value (all_rest (λ (s : Set). IsValue s.value) s sets its) old)
  where
    by : (b : Bool) → IsValue (unwrap_or (value_set sets column) value) → IsValue (unwrap_or (if b then Some s.value else value_set sets column) value)
    by true rest = all_first (λ (s : Set). IsValue s.value) s sets its
    by false rest = rest

abbrev set_from : List Set → ℕ → Row → Row
set_from sets n row = mapped (λ (column, value). unwrap_or (value_set sets column) value) (enumerate_from n row)

set_values : (sets : List Set) (n : ℕ) (row : Row) → All (λ (s : Set). IsValue s.value) sets → All IsValue row → All IsValue (set_from sets n row)
set_values sets n [] its old = all_nil IsValue
set_values sets n (value ∷ row) its old =
    all_cons IsValue _ (set_from sets (n + 1) row) (set_value sets n value its (all_first IsValue value row old)) (set_values sets (n + 1) row its (all_rest IsValue value row old))

-- a row with some columns set in range
pub set_row : (sets : List Set) (row : Row) → All (λ (s : Set). IsValue s.value) sets → IsRow row → IsRow (row_with row sets)
set_row sets row its old =
    let count = length-set_row sets 1 row in
    (omega (arith, old.0, count), omega (arith, old.1, count), set_values sets 1 row its old.2)
