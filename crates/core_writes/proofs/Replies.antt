-- What a granted reply tells of a core: none of the command's refusals holds there.
use Rattle.std.proofs.Common.{ap, arith, refl, sym, ◌∙◌}
use Rattle.std.proofs.lemmas.Bool.Decides.{nat_tests}
use Rattle.std.specs.List.{enumerate_from, find}
use Rattle.std.specs.Option.{option_map, option_map_or}
use Rattle.std.specs.Prelude.{Bool, List, None, Option, Some, [], cond, false, is_none, is_some, nat_lt, not, slice_index_or, suc, true, zero, ℕ, ℤ, ◌&&◌, ◌+◌, ◌==◌, ◌||◌, ◌∷◌, ◌≡◌, ◌≢◌, ◌≤◌}
use Rattle.lock_table.specs.Held.{holds_row, nothing}
use Rattle.lock_table.specs.declared.held.SessionLocks.{SessionLocks}
use Rattle.lock_table.specs.declared.lock.RowKey.{RowKey}
use Rattle.tuple_layout.specs.Sizes.{largest_tuple}
use Rattle.tuple_layout.specs.Tuples.{cell_widths}
use Rattle.tuple_layout.specs.declared.cell.Stored.{Stored}
use Rattle.tuple_toaster.specs.Pushed.{all_moved_size}
use Rattle.command_set.specs.Replies.{answers_if, first_of, is_granted}
use Rattle.command_set.specs.declared.Reply.{Reply}
use Rattle.command_set.specs.declared.Set.{Set}
use Rattle.tuple_layout.specs.Places.{Row}
use Rattle.write_steps.specs.declared.stage.OldRow.{OldRow}
use Rattle.core_state.specs.Begun.{inserted_row, updated_row}
use Rattle.core_state.specs.State.{CoreState, is_open, seat_of, table_at}
use Rattle.core_state.specs.Views.{row_seen}
use Rattle.core_state.specs.declared.seat.State.{State}
use Rattle.core_looks.proofs.Firsts.{some_there, test_fails}
use Rattle.core_looks.specs.Due.{absent_due, busy_due, changed_due, claim_of, claimer_of, failed_due, has_changed, is_failed, is_outside, outside_due, reply_due, row_now, taken_due, too_big_due, too_big_once}
use Rattle.command_set.specs.declared.Command.TheVariants as commands
use Rattle.command_set.specs.declared.Reply.TheVariants as replies
use Rattle.core_state.specs.declared.seat.State.TheVariants as states
use Rattle.core_writes.proofs.Claims.{IsFree}

-- a refusal, if there is one, is not granted
abbrev pub IsRefusal : Option Reply → Type 0
IsRefusal o = (reply : Reply) → o ≡ Some reply → is_granted reply ≡ false

reply_is : (a b : Reply) → Some a ≡ Some b → a ≡ b
reply_is a b e = cc

clash : {b : Bool} → b ≡ true → b ≡ false → ⊥
clash e f = absurd (cc)

-- the first refusal is not there, where the reply is granted
passes : (o : Option Reply) (rest : List (Option Reply)) (g : Reply) → IsRefusal o → is_granted (first_of (o ∷ rest) g) ≡ true → (o ≡ None) × (is_granted (first_of rest g) ≡ true) × (first_of (o ∷ rest) g ≡ first_of rest g)
passes None rest g refusal e = (refl, e, refl)
passes (Some reply) rest g refusal e = absurd (clash e (refusal reply refl))

refusal_if : (b : Bool) (reply : Reply) → is_granted reply ≡ false → IsRefusal (answers_if b reply)
refusal_if true reply never other e = ap is_granted (sym (reply_is reply other e)) ∙ never
refusal_if false reply never other e = absurd (cc)

refusal_busy : (o : Option ℕ) → IsRefusal (option_map replies.Busy o)
refusal_busy None other e = absurd (cc)
refusal_busy (Some n) other e = ap is_granted (sym (reply_is (replies.Busy n) other e))

nobody_busy : (o : Option ℕ) → option_map replies.Busy o ≡ None → o ≡ None
nobody_busy None e = refl
nobody_busy (Some n) e = absurd (cc)

none_of : (o : Option OldRow) → is_some o ≡ false → o ≡ None
none_of None e = refl
none_of (Some old) e = absurd (cc)

or_off : (a b : Bool) → (a || b) ≡ false → (a ≡ false) × (b ≡ false)
or_off true b e = absurd (cc)
or_off false b e = (refl, e)

pub open_by : (state : State) → is_outside state ≡ false → is_failed state ≡ false → is_open state ≡ true
open_by states.Outside e f = absurd (cc)
open_by states.Failed e f = absurd (cc)
open_by (states.Open level xid snapshot) e f = refl

-- ---- nobody is busy with a key

free_from : (n : ℕ) (locks : List SessionLocks) (s : ℕ) (row : RowKey) → find (λ (k, held). not (k == s) && holds_row held.rows row) (enumerate_from n locks) ≡ None
    → (i : ℕ) → n + i ≢ s → holds_row (slice_index_or locks i nothing).rows row ≡ false
free_from n [] s row e i differ = refl
free_from n (held ∷ locks) s row e i differ = by (λ f k apart. free_from (n + 1) locks s row f k apart) (not (n == s) && holds_row held.rows row) refl e i differ
  where
    off : (a b : Bool) → (not a && b) ≡ false → a ≡ false → b ≡ false
    off a b f g = ap (λ (c : Bool). not c && b) (sym g) ∙ f

    by : (find (λ (k, held). not (k == s) && holds_row held.rows row) (enumerate_from (n + 1) locks) ≡ None → (k : ℕ) → (n + 1) + k ≢ s → holds_row (slice_index_or locks k nothing).rows row ≡ false)
        → (b : Bool) → (not (n == s) && holds_row held.rows row) ≡ b → cond b (Some (n, held)) (find (λ (k, held). not (k == s) && holds_row held.rows row) (enumerate_from (n + 1) locks)) ≡ None
        → (i : ℕ) → n + i ≢ s → holds_row (slice_index_or (held ∷ locks) i nothing).rows row ≡ false
    by rest true f g i differ = absurd (cc)
    by rest false f g zero differ =
        let apart : n ≢ s = λ is. differ (omega (arith, is)) in
        let other : (n == s) ≡ false = grind (arith, nat_tests, apart) in
        off (n == s) (holds_row held.rows row) f other
    by rest false f g (suc i) differ = rest g i (λ is. differ (omega (arith, is)))

nobody_claims : (locks : List SessionLocks) (s : ℕ) (row : RowKey) → claimer_of locks s row ≡ None → (other : ℕ) → other ≢ s → holds_row (slice_index_or locks other nothing).rows row ≡ false
nobody_claims locks s row e other differ = free_from 0 locks s row (unmapped (find (λ (k, held). not (k == s) && holds_row held.rows row) (enumerate_from 0 locks)) e) other (λ is. differ (omega (arith, is)))
  where
    unmapped : (o : Option (ℕ × SessionLocks)) → option_map (λ (n, held). n) o ≡ None → o ≡ None
    unmapped None f = refl
    unmapped (Some x) f = absurd (cc)

free_by : (c : CoreState) (s t : ℕ) (key : ℤ) → busy_due c s t key ≡ None → IsFree c.locks s t key
free_by c s t key e = nobody_claims c.locks s (claim_of t key) (nobody_busy (claimer_of c.locks s (claim_of t key)) e)

fits_by : (c : CoreState) (t : ℕ) (new : Stored) → too_big_due c t new ≡ None → all_moved_size (table_at c.tables t).rows.schema.storages (cell_widths new.cells) ≤ largest_tuple
fits_by c t new e =
    let off = test_fails (nat_lt largest_tuple (all_moved_size (table_at c.tables t).rows.schema.storages (cell_widths new.cells))) _ e in
    at_most (all_moved_size (table_at c.tables t).rows.schema.storages (cell_widths new.cells)) largest_tuple off
  where
    at_most : (n most : ℕ) → nat_lt most n ≡ false → n ≤ most
    at_most n most f = grind (arith, nat_tests, f)

-- ---- the four commands

-- a key at which a row is changed: the session sees the row, nobody else has claimed it, and it has not changed since
pub record FindsOld (c : CoreState) (s t : ℕ) (key : ℤ) : Type 0 where
  pub old : OldRow
  pub seen : row_seen c s t key ≡ Some old
  pub free : IsFree c.locks s t key
  pub same : has_changed c s t key old ≡ false

-- a key that is to be new: no row is there, and nobody else has claimed it
pub record FindsNone (c : CoreState) (s t : ℕ) (key : ℤ) : Type 0 where
  pub now : row_now c s t key ≡ None
  pub seen : row_seen c s t key ≡ None
  pub free : IsFree c.locks s t key

-- the row fits a page once all of it is out of line that may be
abbrev pub FitsOut : CoreState → ℕ → Stored → Type 0
FitsOut c t new = all_moved_size (table_at c.tables t).rows.schema.storages (cell_widths new.cells) ≤ largest_tuple

pub record TellsInsert (c : CoreState) (s t : ℕ) (key : ℤ) (row : Row) : Type 0 where
  pub okay : reply_due c s (commands.Insert t key row) ≡ replies.Okay
  pub opened : is_open (seat_of c s).state ≡ true
  pub none : FindsNone c s t key
  pub fits : FitsOut c t (inserted_row key row)

pub record TellsUpdate (c : CoreState) (s t : ℕ) (key : ℤ) (sets : List Set) : Type 0 where
  pub okay : reply_due c s (commands.Update t key sets) ≡ replies.Okay
  pub opened : is_open (seat_of c s).state ≡ true
  pub finds : FindsOld c s t key
  pub fits : FitsOut c t (updated_row finds.old.stored key sets)

pub record TellsDelete (c : CoreState) (s t : ℕ) (key : ℤ) : Type 0 where
  pub okay : reply_due c s (commands.Delete t key) ≡ replies.Okay
  pub opened : is_open (seat_of c s).state ≡ true
  pub finds : FindsOld c s t key

pub record TellsRekey (c : CoreState) (s t : ℕ) (from to : ℤ) (sets : List Set) : Type 0 where
  pub okay : reply_due c s (commands.Rekey t from to sets) ≡ replies.Okay
  pub opened : is_open (seat_of c s).state ≡ true
  pub finds : FindsOld c s t from
  pub none : FindsNone c s t to
  pub fits : FitsOut c t (updated_row finds.old.stored to sets)

opened_by : (c : CoreState) (s : ℕ) → outside_due (seat_of c s).state ≡ None → failed_due (seat_of c s).state ≡ None → is_open (seat_of c s).state ≡ true
opened_by c s e f = open_by (seat_of c s).state (test_fails (is_outside (seat_of c s).state) replies.Outside e) (test_fails (is_failed (seat_of c s).state) replies.Failed f)

refusal_outside : (c : CoreState) (s : ℕ) → IsRefusal (outside_due (seat_of c s).state)
refusal_outside c s = refusal_if (is_outside (seat_of c s).state) replies.Outside refl

refusal_failed : (c : CoreState) (s : ℕ) → IsRefusal (failed_due (seat_of c s).state)
refusal_failed c s = refusal_if (is_failed (seat_of c s).state) replies.Failed refl

refusal_too_big : (c : CoreState) (t : ℕ) (new : Stored) → IsRefusal (too_big_due c t new)
refusal_too_big c t new = refusal_if (nat_lt largest_tuple (all_moved_size (table_at c.tables t).rows.schema.storages (cell_widths new.cells))) _ refl

refusal_once : (c : CoreState) (t : ℕ) (change : Stored → Stored) (old : Option OldRow) → IsRefusal (too_big_once c t change old)
refusal_once c t change None other e = absurd (cc)
refusal_once c t change (Some old) other e = refusal_too_big c t (change old.stored) other e

refusal_taken : (c : CoreState) (s t : ℕ) (key : ℤ) → IsRefusal (taken_due c s t key)
refusal_taken c s t key = refusal_if (is_some (row_now c s t key) || is_some (row_seen c s t key)) replies.Taken refl

refusal_absent : (old : Option OldRow) → IsRefusal (absent_due old)
refusal_absent old = refusal_if (is_none old) replies.Absent refl

refusal_changed : (c : CoreState) (s t : ℕ) (key : ℤ) (old : Option OldRow) → IsRefusal (changed_due c s t key old)
refusal_changed c s t key old = refusal_if (option_map_or (has_changed c s t key) old false) replies.Changed refl

finds_none : (c : CoreState) (s t : ℕ) (key : ℤ) → busy_due c s t key ≡ None → taken_due c s t key ≡ None → FindsNone c s t key
finds_none c s t key busy taken =
    let off = or_off (is_some (row_now c s t key)) (is_some (row_seen c s t key)) (test_fails (is_some (row_now c s t key) || is_some (row_seen c s t key)) replies.Taken taken) in
    record { now = none_of (row_now c s t key) off.0; seen = none_of (row_seen c s t key) off.1; free = free_by c s t key busy }

finds_old : (c : CoreState) (s t : ℕ) (key : ℤ) → absent_due (row_seen c s t key) ≡ None → busy_due c s t key ≡ None → changed_due c s t key (row_seen c s t key) ≡ None → FindsOld c s t key
finds_old c s t key absent busy changed =
    let some = some_there (row_seen c s t key) (test_fails (is_none (row_seen c s t key)) replies.Absent absent) in
    record {
      old = some.0;
      seen = some.1;
      free = free_by c s t key busy;
      same = sym (ap (λ (o : Option OldRow). option_map_or (has_changed c s t key) o false) some.1) ∙ test_fails (option_map_or (has_changed c s t key) (row_seen c s t key) false) replies.Changed changed;
    }

pub insert_tells : (c : CoreState) (s t : ℕ) (key : ℤ) (row : Row) → is_granted (reply_due c s (commands.Insert t key row)) ≡ true → TellsInsert c s t key row
insert_tells c s t key row e =
    let p1 = passes (outside_due (seat_of c s).state) _ _ (refusal_outside c s) e in
    let p2 = passes (failed_due (seat_of c s).state) _ _ (refusal_failed c s) p1.1 in
    let p3 = passes (busy_due c s t key) _ _ (refusal_busy (claimer_of c.locks s (claim_of t key))) p2.1 in
    let p4 = passes (taken_due c s t key) _ _ (refusal_taken c s t key) p3.1 in
    let p5 = passes (too_big_due c t (inserted_row key row)) _ _ (refusal_too_big c t (inserted_row key row)) p4.1 in
    record { okay = p1.2 ∙ p2.2 ∙ p3.2 ∙ p4.2 ∙ p5.2; opened = opened_by c s p1.0 p2.0; none = finds_none c s t key p3.0 p4.0; fits = fits_by c t (inserted_row key row) p5.0 }

fits_once : (c : CoreState) (t : ℕ) (change : Stored → Stored) (o : Option OldRow) (old : OldRow) → o ≡ Some old → too_big_once c t change o ≡ None → FitsOut c t (change old.stored)
fits_once c t change o old is e = fits_by c t (change old.stored) (sym (ap (too_big_once c t change) is) ∙ e)

pub update_tells : (c : CoreState) (s t : ℕ) (key : ℤ) (sets : List Set) → is_granted (reply_due c s (commands.Update t key sets)) ≡ true → TellsUpdate c s t key sets
update_tells c s t key sets e =
    let old = row_seen c s t key in
    let change : Stored → Stored = λ stored. updated_row stored key sets in
    let p1 = passes (outside_due (seat_of c s).state) _ _ (refusal_outside c s) e in
    let p2 = passes (failed_due (seat_of c s).state) _ _ (refusal_failed c s) p1.1 in
    let p3 = passes (absent_due old) _ _ (refusal_absent old) p2.1 in
    let p4 = passes (busy_due c s t key) _ _ (refusal_busy (claimer_of c.locks s (claim_of t key))) p3.1 in
    let p5 = passes (changed_due c s t key old) _ _ (refusal_changed c s t key old) p4.1 in
    let p6 = passes (too_big_once c t change old) _ _ (refusal_once c t change old) p5.1 in
    let finds = finds_old c s t key p3.0 p4.0 p5.0 in
    record { okay = p1.2 ∙ p2.2 ∙ p3.2 ∙ p4.2 ∙ p5.2 ∙ p6.2; opened = opened_by c s p1.0 p2.0; finds = finds; fits = fits_once c t change old finds.old finds.seen p6.0 }

pub delete_tells : (c : CoreState) (s t : ℕ) (key : ℤ) → is_granted (reply_due c s (commands.Delete t key)) ≡ true → TellsDelete c s t key
delete_tells c s t key e =
    let old = row_seen c s t key in
    let p1 = passes (outside_due (seat_of c s).state) _ _ (refusal_outside c s) e in
    let p2 = passes (failed_due (seat_of c s).state) _ _ (refusal_failed c s) p1.1 in
    let p3 = passes (absent_due old) _ _ (refusal_absent old) p2.1 in
    let p4 = passes (busy_due c s t key) _ _ (refusal_busy (claimer_of c.locks s (claim_of t key))) p3.1 in
    let p5 = passes (changed_due c s t key old) _ _ (refusal_changed c s t key old) p4.1 in
    record { okay = p1.2 ∙ p2.2 ∙ p3.2 ∙ p4.2 ∙ p5.2; opened = opened_by c s p1.0 p2.0; finds = finds_old c s t key p3.0 p4.0 p5.0 }

pub rekey_tells : (c : CoreState) (s t : ℕ) (from to : ℤ) (sets : List Set) → is_granted (reply_due c s (commands.Rekey t from to sets)) ≡ true → TellsRekey c s t from to sets
rekey_tells c s t from to sets e =
    let old = row_seen c s t from in
    let change : Stored → Stored = λ stored. updated_row stored to sets in
    let p1 = passes (outside_due (seat_of c s).state) _ _ (refusal_outside c s) e in
    let p2 = passes (failed_due (seat_of c s).state) _ _ (refusal_failed c s) p1.1 in
    let p3 = passes (absent_due old) _ _ (refusal_absent old) p2.1 in
    let p4 = passes (busy_due c s t from) _ _ (refusal_busy (claimer_of c.locks s (claim_of t from))) p3.1 in
    let p5 = passes (changed_due c s t from old) _ _ (refusal_changed c s t from old) p4.1 in
    let p6 = passes (busy_due c s t to) _ _ (refusal_busy (claimer_of c.locks s (claim_of t to))) p5.1 in
    let p7 = passes (taken_due c s t to) _ _ (refusal_taken c s t to) p6.1 in
    let p8 = passes (too_big_once c t change old) _ _ (refusal_once c t change old) p7.1 in
    let finds = finds_old c s t from p3.0 p4.0 p5.0 in
    record { okay = p1.2 ∙ p2.2 ∙ p3.2 ∙ p4.2 ∙ p5.2 ∙ p6.2 ∙ p7.2 ∙ p8.2; opened = opened_by c s p1.0 p2.0; finds = finds; none = finds_none c s t to p6.0 p7.0; fits = fits_once c t change old finds.old finds.seen p8.0 }
