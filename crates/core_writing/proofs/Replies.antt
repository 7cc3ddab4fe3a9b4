-- The reply that is due of a write in an open transaction, by the first of its refusals that holds.
use Rattle.std.proofs.Common.{ap, refl, sym, ◌∙◌}
use Rattle.std.specs.Prelude.{Bool, List, None, Option, Some, [], false, is_some, true, ℕ, ℤ, ◌||◌, ◌∷◌, ◌≡◌}
use Rattle.tuple_layout.specs.Places.{Row}
use Rattle.tuple_layout.specs.declared.cell.Stored.{Stored}
use Rattle.command_set.specs.Replies.{answers_if, first_of}
use Rattle.command_set.specs.declared.Reply.{Reply}
use Rattle.command_set.specs.declared.Set.{Set}
use Rattle.write_steps.specs.declared.stage.OldRow.{OldRow}
use Rattle.core_state.specs.Begun.{inserted_row, updated_row}
use Rattle.core_state.specs.State.{CoreState, is_open, seat_of}
use Rattle.core_state.specs.Views.{row_seen}
use Rattle.core_looks.proofs.Firsts.{first_passes, first_stops}
use Rattle.core_looks.specs.Due.{absent_due, busy_due, changed_due, has_changed, reply_due, row_now, taken_due, too_big_due, too_big_once}
use Rattle.core_parts.proofs.Made.{first_inside}
use Rattle.core_writing.specs.Begins.{keys_locked}
use Rattle.command_set.specs.declared.Command.TheVariants as commands
use Rattle.command_set.specs.declared.Reply.TheVariants as replies

-- a row is at a key
abbrev pub is_taken : CoreState → ℕ → ℕ → ℤ → Bool
is_taken c s t key = is_some (row_now c s t key) || is_some (row_seen c s t key)

-- ---- one refusal after the other

pub due_here : (r : Reply) (a : Option Reply) (xs : List (Option Reply)) (g reply : Reply) → r ≡ first_of (a ∷ xs) g → a ≡ Some reply → r ≡ reply
due_here r a xs g reply due holds = due ∙ first_stops a xs g reply holds

pub due_next : (r : Reply) (a : Option Reply) (xs : List (Option Reply)) (g : Reply) → r ≡ first_of (a ∷ xs) g → a ≡ None → r ≡ first_of xs g
due_next r a xs g due passes = due ∙ first_passes a xs g passes

-- a test that was made
pub test_is : (test is : Bool) (reply : Reply) (due : Option Reply) → test ≡ is → answers_if test reply ≡ due → answers_if is reply ≡ due
test_is test is reply due same answers = ap (λ (b : Bool). answers_if b reply) (sym same) ∙ answers

-- ---- an insert

insert_due : (c : CoreState) (s t : ℕ) (key : ℤ) (row : Row) → is_open (seat_of c s).state ≡ true → reply_due c s (commands.Insert t key row) ≡ first_of (busy_due c s t key ∷ taken_due c s t key ∷ too_big_due c t (inserted_row key row) ∷ []) replies.Okay
insert_due c s t key row inside = first_inside (seat_of c s).state _ replies.Okay inside

pub insert_busy : (c : CoreState) (s t : ℕ) (key : ℤ) (row : Row) (reply : Reply) → is_open (seat_of c s).state ≡ true → busy_due c s t key ≡ Some reply → reply_due c s (commands.Insert t key row) ≡ reply
insert_busy c s t key row reply inside busy = due_here _ _ _ _ reply (insert_due c s t key row inside) busy

-- past the claim
insert_claimed : (c : CoreState) (s t : ℕ) (key : ℤ) (row : Row) → is_open (seat_of c s).state ≡ true → busy_due c s t key ≡ None → reply_due c s (commands.Insert t key row) ≡ first_of (taken_due c s t key ∷ too_big_due c t (inserted_row key row) ∷ []) replies.Okay
insert_claimed c s t key row inside free = due_next _ _ _ _ (insert_due c s t key row inside) free

pub insert_taken : (c : CoreState) (s t : ℕ) (key : ℤ) (row : Row) (taken : Bool) (reply : Reply) → is_open (seat_of c s).state ≡ true → busy_due c s t key ≡ None → taken ≡ is_taken c s t key → answers_if taken replies.Taken ≡ Some reply
    → reply_due c s (commands.Insert t key row) ≡ reply
insert_taken c s t key row taken reply inside free is answers = due_here _ _ _ _ reply (insert_claimed c s t key row inside free) (test_is taken (is_taken c s t key) replies.Taken (Some reply) is answers)

-- and past the test of the key: by the size
pub insert_new : (c : CoreState) (s t : ℕ) (key : ℤ) (row : Row) (taken : Bool) → is_open (seat_of c s).state ≡ true → busy_due c s t key ≡ None → taken ≡ is_taken c s t key → taken ≡ false
    → reply_due c s (commands.Insert t key row) ≡ first_of (too_big_due c t (inserted_row key row) ∷ []) replies.Okay
insert_new c s t key row taken inside free is new = due_next _ _ _ _ (insert_claimed c s t key row inside free) (test_is taken (is_taken c s t key) replies.Taken None is (ap (λ (b : Bool). answers_if b replies.Taken) new))

pub due_big : (r : Reply) (c : CoreState) (s t : ℕ) (keys : List ℤ) (mid : CoreState) (row new : Stored) (reply : Reply) → r ≡ first_of (too_big_due c t row ∷ []) replies.Okay → mid ≡ keys_locked c s t keys → new ≡ row → too_big_due mid t new ≡ Some reply → r ≡ reply
due_big r c s t keys mid row new reply due is new_is big = due_here r (too_big_due c t row) [] replies.Okay reply due (sym (ap (λ (v : CoreState). too_big_due v t new) is ∙ ap (too_big_due c t) new_is) ∙ big)

pub due_okay : (r : Reply) (c : CoreState) (s t : ℕ) (keys : List ℤ) (mid : CoreState) (row new : Stored) → r ≡ first_of (too_big_due c t row ∷ []) replies.Okay → mid ≡ keys_locked c s t keys → new ≡ row → too_big_due mid t new ≡ None → r ≡ replies.Okay
due_okay r c s t keys mid row new due is new_is fits = due_next r (too_big_due c t row) [] replies.Okay due (sym (ap (λ (v : CoreState). too_big_due v t new) is ∙ ap (too_big_due c t) new_is) ∙ fits)

-- ---- a row that is found

pub there_due : (o : Option OldRow) (old : OldRow) → o ≡ Some old → absent_due o ≡ None
there_due o old seen = ap absent_due seen

pub none_due : (o : Option OldRow) → o ≡ None → absent_due o ≡ Some replies.Absent
none_due o seen = ap absent_due seen

-- whether it has changed
pub changed_is : (c : CoreState) (s t : ℕ) (key : ℤ) (old : OldRow) (changed : Bool) (due : Option Reply) → row_seen c s t key ≡ Some old → changed ≡ has_changed c s t key old → answers_if changed replies.Changed ≡ due → changed_due c s t key (row_seen c s t key) ≡ due
changed_is c s t key old changed due seen is answers = ap (changed_due c s t key) seen ∙ ap (λ (b : Bool). answers_if b replies.Changed) (sym is) ∙ answers

unchanged_is : (c : CoreState) (s t : ℕ) (key : ℤ) (old : OldRow) (changed : Bool) → row_seen c s t key ≡ Some old → changed ≡ has_changed c s t key old → changed ≡ false → changed_due c s t key (row_seen c s t key) ≡ None
unchanged_is c s t key old changed seen is same = changed_is c s t key old changed None seen is (ap (λ (b : Bool). answers_if b replies.Changed) same)

-- whether it is too large once it is changed
sized_is : (r : Reply) (c : CoreState) (t : ℕ) (change : Stored → Stored) (o : Option OldRow) (old : OldRow) → o ≡ Some old → r ≡ first_of (too_big_once c t change o ∷ []) replies.Okay → r ≡ first_of (too_big_due c t (change old.stored) ∷ []) replies.Okay
sized_is r c t change o old seen due = due ∙ ap (λ (its : Option OldRow). first_of (too_big_once c t change its ∷ []) replies.Okay) seen

-- ---- a delete

pub delete_absent : (c : CoreState) (s t : ℕ) (key : ℤ) → is_open (seat_of c s).state ≡ true → row_seen c s t key ≡ None → reply_due c s (commands.Delete t key) ≡ replies.Absent
delete_absent c s t key inside seen = first_inside (seat_of c s).state _ replies.Okay inside ∙ first_stops (absent_due (row_seen c s t key)) _ replies.Okay replies.Absent (none_due (row_seen c s t key) seen)

pub delete_found : (c : CoreState) (s t : ℕ) (key : ℤ) (old : OldRow) → is_open (seat_of c s).state ≡ true → row_seen c s t key ≡ Some old
    → reply_due c s (commands.Delete t key) ≡ first_of (busy_due c s t key ∷ changed_due c s t key (row_seen c s t key) ∷ []) replies.Okay
delete_found c s t key old inside seen = first_inside (seat_of c s).state _ replies.Okay inside ∙ first_passes (absent_due (row_seen c s t key)) _ replies.Okay (there_due (row_seen c s t key) old seen)

pub delete_changed : (c : CoreState) (s t : ℕ) (key : ℤ) (old : OldRow) (changed : Bool) (reply : Reply) → is_open (seat_of c s).state ≡ true → row_seen c s t key ≡ Some old → busy_due c s t key ≡ None → changed ≡ has_changed c s t key old
    → answers_if changed replies.Changed ≡ Some reply → reply_due c s (commands.Delete t key) ≡ reply
delete_changed c s t key old changed reply inside seen free is answers = due_here _ _ _ _ reply (due_next _ _ _ _ (delete_found c s t key old inside seen) free) (changed_is c s t key old changed (Some reply) seen is answers)

pub delete_okay : (c : CoreState) (s t : ℕ) (key : ℤ) (old : OldRow) (changed : Bool) → is_open (seat_of c s).state ≡ true → row_seen c s t key ≡ Some old → busy_due c s t key ≡ None → changed ≡ has_changed c s t key old → changed ≡ false
    → reply_due c s (commands.Delete t key) ≡ replies.Okay
delete_okay c s t key old changed inside seen free is same = due_next _ _ _ _ (due_next _ _ _ _ (delete_found c s t key old inside seen) free) (unchanged_is c s t key old changed seen is same)

-- ---- an update

pub update_absent : (c : CoreState) (s t : ℕ) (key : ℤ) (sets : List Set) → is_open (seat_of c s).state ≡ true → row_seen c s t key ≡ None → reply_due c s (commands.Update t key sets) ≡ replies.Absent
update_absent c s t key sets inside seen = first_inside (seat_of c s).state _ replies.Okay inside ∙ first_stops (absent_due (row_seen c s t key)) _ replies.Okay replies.Absent (none_due (row_seen c s t key) seen)

pub update_found : (c : CoreState) (s t : ℕ) (key : ℤ) (sets : List Set) (old : OldRow) → is_open (seat_of c s).state ≡ true → row_seen c s t key ≡ Some old
    → reply_due c s (commands.Update t key sets) ≡ first_of (busy_due c s t key ∷ changed_due c s t key (row_seen c s t key) ∷ too_big_once c t (λ stored. updated_row stored key sets) (row_seen c s t key) ∷ []) replies.Okay
update_found c s t key sets old inside seen = first_inside (seat_of c s).state _ replies.Okay inside ∙ first_passes (absent_due (row_seen c s t key)) _ replies.Okay (there_due (row_seen c s t key) old seen)

pub update_changed : (c : CoreState) (s t : ℕ) (key : ℤ) (sets : List Set) (old : OldRow) (changed : Bool) (reply : Reply) → is_open (seat_of c s).state ≡ true → row_seen c s t key ≡ Some old → busy_due c s t key ≡ None → changed ≡ has_changed c s t key old
    → answers_if changed replies.Changed ≡ Some reply → reply_due c s (commands.Update t key sets) ≡ reply
update_changed c s t key sets old changed reply inside seen free is answers = due_here _ _ _ _ reply (due_next _ _ _ _ (update_found c s t key sets old inside seen) free) (changed_is c s t key old changed (Some reply) seen is answers)

pub update_same : (c : CoreState) (s t : ℕ) (key : ℤ) (sets : List Set) (old : OldRow) (changed : Bool) → is_open (seat_of c s).state ≡ true → row_seen c s t key ≡ Some old → busy_due c s t key ≡ None → changed ≡ has_changed c s t key old → changed ≡ false
    → reply_due c s (commands.Update t key sets) ≡ first_of (too_big_due c t (updated_row old.stored key sets) ∷ []) replies.Okay
update_same c s t key sets old changed inside seen free is same =
    sized_is _ c t (λ stored. updated_row stored key sets) (row_seen c s t key) old seen (due_next _ _ _ _ (due_next _ _ _ _ (update_found c s t key sets old inside seen) free) (unchanged_is c s t key old changed seen is same))

-- ---- a rekey

pub rekey_absent : (c : CoreState) (s t : ℕ) (from to : ℤ) (sets : List Set) → is_open (seat_of c s).state ≡ true → row_seen c s t from ≡ None → reply_due c s (commands.Rekey t from to sets) ≡ replies.Absent
rekey_absent c s t from to sets inside seen = first_inside (seat_of c s).state _ replies.Okay inside ∙ first_stops (absent_due (row_seen c s t from)) _ replies.Okay replies.Absent (none_due (row_seen c s t from) seen)

pub rekey_found : (c : CoreState) (s t : ℕ) (from to : ℤ) (sets : List Set) (old : OldRow) → is_open (seat_of c s).state ≡ true → row_seen c s t from ≡ Some old
    → reply_due c s (commands.Rekey t from to sets)
    ≡ first_of (busy_due c s t from ∷ changed_due c s t from (row_seen c s t from) ∷ busy_due c s t to ∷ taken_due c s t to ∷ too_big_once c t (λ stored. updated_row stored to sets) (row_seen c s t from) ∷ []) replies.Okay
rekey_found c s t from to sets old inside seen = first_inside (seat_of c s).state _ replies.Okay inside ∙ first_passes (absent_due (row_seen c s t from)) _ replies.Okay (there_due (row_seen c s t from) old seen)

pub rekey_changed : (c : CoreState) (s t : ℕ) (from to : ℤ) (sets : List Set) (old : OldRow) (changed : Bool) (reply : Reply) → is_open (seat_of c s).state ≡ true → row_seen c s t from ≡ Some old → busy_due c s t from ≡ None → changed ≡ has_changed c s t from old
    → answers_if changed replies.Changed ≡ Some reply → reply_due c s (commands.Rekey t from to sets) ≡ reply
rekey_changed c s t from to sets old changed reply inside seen free is answers = due_here _ _ _ _ reply (due_next _ _ _ _ (rekey_found c s t from to sets old inside seen) free) (changed_is c s t from old changed (Some reply) seen is answers)

-- past the tests of its own key: by the other
rekey_same : (c : CoreState) (s t : ℕ) (from to : ℤ) (sets : List Set) (old : OldRow) (changed : Bool) → is_open (seat_of c s).state ≡ true → row_seen c s t from ≡ Some old → busy_due c s t from ≡ None → changed ≡ has_changed c s t from old → changed ≡ false
    → reply_due c s (commands.Rekey t from to sets) ≡ first_of (busy_due c s t to ∷ taken_due c s t to ∷ too_big_once c t (λ stored. updated_row stored to sets) (row_seen c s t from) ∷ []) replies.Okay
rekey_same c s t from to sets old changed inside seen free is same = due_next _ _ _ _ (due_next _ _ _ _ (rekey_found c s t from to sets old inside seen) free) (unchanged_is c s t from old changed seen is same)

-- what a rekey knows of the row that it moves
pub record MayMove (c : CoreState) (s t : ℕ) (from : ℤ) (old : OldRow) : Type 0 where
  pub inside : is_open (seat_of c s).state ≡ true
  pub seen : row_seen c s t from ≡ Some old
  pub free : busy_due c s t from ≡ None
  pub same : has_changed c s t from old ≡ false

rekey_moves : (c : CoreState) (s t : ℕ) (from to : ℤ) (sets : List Set) (old : OldRow) → MayMove c s t from old
    → reply_due c s (commands.Rekey t from to sets) ≡ first_of (busy_due c s t to ∷ taken_due c s t to ∷ too_big_once c t (λ stored. updated_row stored to sets) (row_seen c s t from) ∷ []) replies.Okay
rekey_moves c s t from to sets old may = rekey_same c s t from to sets old (has_changed c s t from old) may.inside may.seen may.free refl may.same

pub rekey_busy : (c : CoreState) (s t : ℕ) (from to : ℤ) (sets : List Set) (old : OldRow) (reply : Reply) → MayMove c s t from old → busy_due c s t to ≡ Some reply → reply_due c s (commands.Rekey t from to sets) ≡ reply
rekey_busy c s t from to sets old reply may busy = due_here _ _ _ _ reply (rekey_moves c s t from to sets old may) busy

rekey_claimed : (c : CoreState) (s t : ℕ) (from to : ℤ) (sets : List Set) (old : OldRow) → MayMove c s t from old → busy_due c s t to ≡ None
    → reply_due c s (commands.Rekey t from to sets) ≡ first_of (taken_due c s t to ∷ too_big_once c t (λ stored. updated_row stored to sets) (row_seen c s t from) ∷ []) replies.Okay
rekey_claimed c s t from to sets old may free = due_next _ _ _ _ (rekey_moves c s t from to sets old may) free

pub rekey_taken : (c : CoreState) (s t : ℕ) (from to : ℤ) (sets : List Set) (old : OldRow) (taken : Bool) (reply : Reply) → MayMove c s t from old → busy_due c s t to ≡ None → taken ≡ is_taken c s t to → answers_if taken replies.Taken ≡ Some reply
    → reply_due c s (commands.Rekey t from to sets) ≡ reply
rekey_taken c s t from to sets old taken reply may free is answers = due_here _ _ _ _ reply (rekey_claimed c s t from to sets old may free) (test_is taken (is_taken c s t to) replies.Taken (Some reply) is answers)

pub rekey_new : (c : CoreState) (s t : ℕ) (from to : ℤ) (sets : List Set) (old : OldRow) (taken : Bool) → MayMove c s t from old → busy_due c s t to ≡ None → taken ≡ is_taken c s t to → taken ≡ false
    → reply_due c s (commands.Rekey t from to sets) ≡ first_of (too_big_due c t (updated_row old.stored to sets) ∷ []) replies.Okay
rekey_new c s t from to sets old taken may free is new =
    sized_is _ c t (λ stored. updated_row stored to sets) (row_seen c s t from) old may.seen (due_next _ _ _ _ (rekey_claimed c s t from to sets old may free) (test_is taken (is_taken c s t to) replies.Taken None is (ap (λ (b : Bool). answers_if b replies.Taken) new)))
