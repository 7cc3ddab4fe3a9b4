-- A row's columns as they are sent, and the row that a replica makes of them.
use Rattle.std.proofs.Common.{◌≡◌, ◌+◌, ℕ, Bool, true, false, cond, List, [], ◌∷◌, Option, Some, None, length, refl, sym, ap, ◌∙◌, arith, suc}
use Rattle.std.proofs.lemmas.Bool.Decides.{nat_tests}
use Rattle.std.specs.Prelude.{◌==◌, ◌||◌, map as mapped, is_none, if◌then◌else◌}
use Rattle.std.specs.List.{enumerate_from, position_from, position}
use Rattle.std.specs.Option.{unwrap_or}
use Rattle.std.proofs.lemmas.Iterator.Adapters.{position_from-zero}
use Rattle.tuple_layout.specs.Places.{Row}
use Rattle.tuple_toaster.specs.Pushed.{is_among}
use Rattle.command_set.specs.declared.Set.{Set}
use Rattle.command_set.specs.Plain.{row_with, value_set}
use Rattle.stream_wire.specs.declared.message.Sent.{Sent}
use Rattle.stream_wire.specs.declared.message.Sent.TheVariants as sent
use Rattle.replica_map.specs.Applies.{is_unchanged, new_row, row_with as received, sent_value as received_value}
use Rattle.change_stream.specs.Streams.{sent_row, sent_value, unset}

-- the columns from this one on
abbrev sent_from : List ℕ → ℕ → Row → List Sent
sent_from kept n row = mapped (λ (column, value). if is_among kept column then sent.Unchanged else sent_value value) (enumerate_from n row)

abbrev set_from : List Set → ℕ → Row → Row
set_from sets n row = mapped (λ (column, value). unwrap_or (value_set sets column) value) (enumerate_from n row)

-- a value that is sent is received
value_received : (old value : Option (List ℕ)) → received_value old (sent_value value) ≡ value
value_received old None = refl
value_received old (Some bytes) = refl

value_is_told : (value : Option (List ℕ)) → is_unchanged (sent_value value) ≡ false
value_is_told None = refl
value_is_told (Some bytes) = refl

-- a row that keeps no column is received whole
new_from : (n : ℕ) (row : Row) → new_row (sent_from [] n row) ≡ row
new_from n [] = refl
new_from n (value ∷ row) = ap (λ v. v ∷ new_row (sent_from [] (n + 1) row)) (value_received None value) ∙ ap (λ rest. value ∷ rest) (new_from (n + 1) row)

pub new_received : (row : Row) → new_row (sent_row [] row) ≡ row
new_received row = new_from 1 row

told_from : (n k : ℕ) (row : Row) → position_from is_unchanged k (sent_from [] n row) ≡ None
told_from n k [] = refl
told_from n k (value ∷ row) =
    ap (λ b. cond b (Some k) (position_from is_unchanged (k + 1) (sent_from [] (n + 1) row))) (value_is_told value)
    ∙ told_from (n + 1) (k + 1) row

-- and none of its columns is sent as unchanged
pub new_is_told : (row : Row) → position is_unchanged (sent_row [] row) ≡ None
new_is_told row = position_from-zero is_unchanged (sent_row [] row) ∙ told_from 1 0 row

-- as many columns are sent as the row has
pub length-sent : (kept : List ℕ) (n : ℕ) (row : Row) → length (sent_from kept n row) ≡ length row
length-sent kept n [] = refl
length-sent kept n (value ∷ row) = ap (λ k. suc k) (length-sent kept (n + 1) row)

pub length-set_row : (sets : List Set) (n : ℕ) (row : Row) → length (set_from sets n row) ≡ length row
length-set_row sets n [] = refl
length-set_row sets n (value ∷ row) = ap (λ k. suc k) (length-set_row sets (n + 1) row)

is_number : (n m : ℕ) → (n == m) ≡ true → n ≡ m
is_number n m e = grind (arith, nat_tests)

-- a column that is set is not among those that the update leaves unset
set_is_not_kept : (sets : List Set) (columns : List ℕ) (column : ℕ) → is_among (unset sets columns) column ≡ true → value_set sets column ≡ None
set_is_not_kept sets [] column among = absurd (cc)
set_is_not_kept sets (c ∷ columns) column among = by (value_set sets c) refl (set_is_not_kept sets columns column)
  where
    by : (o : Option (Option (List ℕ))) → value_set sets c ≡ o → (is_among (unset sets columns) column ≡ true → value_set sets column ≡ None) → value_set sets column ≡ None
    by (Some value) e rest = rest (sym (ap (λ o. is_among (cond (is_none o) (c ∷ unset sets columns) (unset sets columns)) column) e) ∙ among)
    by None e rest = here (c == column) refl (sym (ap (λ o. is_among (cond (is_none o) (c ∷ unset sets columns) (unset sets columns)) column) e) ∙ among)
      where
        here : (b : Bool) → (c == column) ≡ b → (b || is_among (unset sets columns) column) ≡ true → value_set sets column ≡ None
        here true same _ = ap (value_set sets) (sym (is_number c column same)) ∙ e
        here false other among = rest among

-- one column of an update
column_received : (sets : List Set) (columns : List ℕ) (column : ℕ) (old : Option (List ℕ)) →
    received_value old (if is_among (unset sets columns) column then sent.Unchanged else sent_value (unwrap_or (value_set sets column) old)) ≡ unwrap_or (value_set sets column) old
column_received sets columns column old = by (is_among (unset sets columns) column) refl
  where
    by : (b : Bool) → is_among (unset sets columns) column ≡ b → received_value old (if b then sent.Unchanged else sent_value (unwrap_or (value_set sets column) old)) ≡ unwrap_or (value_set sets column) old
    by true e = sym (ap (λ o. unwrap_or o old) (set_is_not_kept sets columns column e))
    by false e = value_received old (unwrap_or (value_set sets column) old)

updated_from : (sets : List Set) (columns : List ℕ) (n : ℕ) (old : Row) → received old (sent_from (unset sets columns) n (set_from sets n old)) ≡ set_from sets n old
updated_from sets columns n [] = refl
updated_from sets columns n (value ∷ old) =
    ap (λ v. v ∷ received old (sent_from (unset sets columns) (n + 1) (set_from sets (n + 1) old))) (column_received sets columns n value)
    ∙ ap (λ rest. unwrap_or (value_set sets n) value ∷ rest) (updated_from sets columns (n + 1) old)

-- a row with some columns set, sent without columns that are not set, is received whole over the old row
pub update_received : (sets : List Set) (columns : List ℕ) (old : Row) → received old (sent_row (unset sets columns) (row_with old sets)) ≡ row_with old sets
update_received sets columns old = updated_from sets columns 1 old
