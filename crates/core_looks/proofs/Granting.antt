-- What the plain store answers at a moment that is granted: what its command grants, and the state after its effect.
use Rattle.std.proofs.Common.{Bool, ap, refl, subst, ◌∙◌}
use Rattle.std.specs.FinMap as map
use Rattle.std.specs.Option.{option_map}
use Rattle.std.specs.Prelude.{List, None, Option, Some, [], false, if◌then◌else◌, is_none, is_some, nat_lt, negsuc, not, pos, true, ℕ, ℤ, ⊤, ◌&&◌, ◌||◌, ◌∷◌, ◌≡◌}
use Rattle.tuple_layout.specs.Places.{Row, Rows}
use Rattle.tuple_layout.specs.Schemas.{TableSchema}
use Rattle.tuple_layout.specs.Sizes.{all_out_size, largest_tuple}
use Rattle.tuple_layout.specs.declared.Place.{Place}
use Rattle.command_set.specs.Answers.{answer, effect, once_used, refused, table_of}
use Rattle.command_set.specs.Changes.{is_named, keys_of, place}
use Rattle.command_set.specs.Plain.{now_of, row_at, row_with, session_of, value_at, view_of}
use Rattle.command_set.specs.Replies.{absent, answers_if, bad_offset, changed, changer_of, failed, first_of, granted, holder_of, is_failed, is_granted, is_outside, null, outside, refusals, refused_upkeep, reply_of, rewriter_of, schema_of, taken, too_big, transaction_of}
use Rattle.command_set.specs.declared.Command.{Command}
use Rattle.command_set.specs.declared.Reply.{Reply}
use Rattle.command_set.specs.declared.state.Plain.{Plain}
use Rattle.command_set.specs.declared.state.Transaction.{Transaction}
use Rattle.command_set.specs.declared.state.Upkeep.{Upkeep}
use Rattle.command_set.specs.declared.state.Upkeep.TheVariants.{Main, Rewrite, Toast}
use Rattle.core_state.proofs.Answered.{answered}
use Rattle.core_state.specs.Facts.{IsSound, PartsAreSound}
use Rattle.core_state.specs.Stands.{Stands}
use Rattle.core_state.specs.State.{CoreState, IsSession, schemas_of, seat_of}
use Rattle.core_looks.proofs.Replies.{reply_is}
use Rattle.core_looks.specs.Due.{reply_due}
use Rattle.core_looks.specs.Laws.{granted_answer}
use Rattle.command_set.specs.declared.Command.TheVariants as commands
use Rattle.command_set.specs.declared.Reply.TheVariants as replies
use Rattle.core_state.specs.declared.seat.Job.TheVariants as jobs

-- no refusal grants
abbrev pub Bars : Option Reply → Type 0
Bars o = (reply : Reply) → o ≡ Some reply → is_granted reply ≡ false

abbrev pub AllBar : List (Option Reply) → Type 0
AllBar [] = ⊤
AllBar (o ∷ os) = Bars o × AllBar os

-- so a granted reply is the one behind them
pub granted_is : (rs : List (Option Reply)) (g : Reply) → AllBar rs → is_granted (first_of rs g) ≡ true → first_of rs g ≡ g
granted_is [] g all e = refl
granted_is (None ∷ rs) g all e = granted_is rs g all.1 e
granted_is (Some reply ∷ rs) g all e =
    let bars = all.0 reply refl in
    absurd (cc)

some_is : (a b : Reply) → Some a ≡ Some b → a ≡ b
some_is a b e = cc

test_bars : (b : Bool) (reply : Reply) → is_granted reply ≡ false → Bars (answers_if b reply)
test_bars true reply e its is = subst (λ (r : Reply). is_granted r ≡ false) (some_is reply its is) e
test_bars false reply e its is = absurd (cc)

locked_bars : (o : Option ℕ) → Bars (option_map replies.Locked o)
locked_bars None its is = absurd (cc)
locked_bars (Some n) its is = subst (λ (r : Reply). is_granted r ≡ false) (some_is (replies.Locked n) its is) refl

busy_bars : (o : Option ℕ) → Bars (option_map replies.Busy o)
busy_bars None its is = absurd (cc)
busy_bars (Some n) its is = subst (λ (r : Reply). is_granted r ≡ false) (some_is (replies.Busy n) its is) refl

offset_bars : (offset : ℤ) → Bars (bad_offset offset)
offset_bars (pos offset) its is = absurd (cc)
offset_bars (negsuc n) its is = subst (λ (r : Reply). is_granted r ≡ false) (some_is replies.BadOffset its is) refl

outside_bars : (m : Plain) (s : ℕ) → Bars (outside m s)
outside_bars m s = test_bars (is_outside (session_of m s)) replies.Outside refl

failed_bars : (m : Plain) (s : ℕ) → Bars (failed m s)
failed_bars m s = test_bars (is_failed (session_of m s)) replies.Failed refl

absent_bars : (view : Rows) (p : Place) → Bars (absent view p)
absent_bars view p = test_bars (is_none (map.get view p)) replies.Absent refl

null_bars : (value : Option (List ℕ)) → Bars (null value)
null_bars value = test_bars (is_none value) replies.Null refl

changed_bars : (t : Transaction) (p : Place) → Bars (changed t p)
changed_bars t p = test_bars (is_some t.base && is_named t.since p && not (is_named (keys_of t.changes) p)) replies.Changed refl

taken_bars : (m : Plain) (t : Transaction) (p : Place) → Bars (taken m t p)
taken_bars m t p = test_bars (is_some (map.get (now_of m t) p) || is_some (map.get (view_of m t) p)) replies.Taken refl

big_bars : (schema : TableSchema) (row : Row) → Bars (too_big schema row)
big_bars schema row = test_bars (nat_lt largest_tuple (all_out_size schema.storages row)) (replies.TooBig (all_out_size schema.storages row)) refl

upkeep_bars : (m : Plain) (s table : ℕ) (kind : Upkeep) → AllBar (refused_upkeep m s table kind)
upkeep_bars m s table kind = (test_bars (not (is_outside (session_of m s))) replies.Inside refl, (locked_bars (holder_of m s table kind), tt))

all_bar : (schemas : List TableSchema) (m : Plain) (s : ℕ) (t : Transaction) (command : Command) → AllBar (refusals schemas m s t command)
all_bar schemas m s t (commands.Begin level) = (test_bars (not (is_outside (session_of m s))) replies.Inside refl, tt)
all_bar schemas m s t commands.Commit = (outside_bars m s, (test_bars (is_failed (session_of m s)) replies.RolledBack refl, tt))
all_bar schemas m s t commands.Rollback = (outside_bars m s, tt)
all_bar schemas m s t (commands.Get table key) = (outside_bars m s, (failed_bars m s, (locked_bars (rewriter_of m s table), (absent_bars (view_of m t) (place table key), tt))))
all_bar schemas m s t (commands.Part table key column offset len) = (outside_bars m s, (failed_bars m s, (locked_bars (rewriter_of m s table), (absent_bars (view_of m t) (place table key), (null_bars (value_at (row_at (view_of m t) (place table key)) column), (offset_bars offset, tt))))))
all_bar schemas m s t (commands.Open handle table key column) =
    (outside_bars m s, (failed_bars m s, (locked_bars (rewriter_of m s table), (test_bars (is_some (map.get t.handles handle)) replies.HandleThere refl, (absent_bars (view_of m t) (place table key), (null_bars (value_at (row_at (view_of m t) (place table key)) column), tt))))))
all_bar schemas m s t (commands.Fetch handle offset len) = (outside_bars m s, (failed_bars m s, (test_bars (is_none (map.get t.handles handle)) replies.NoHandle refl, (offset_bars offset, tt))))
all_bar schemas m s t (commands.Close handle) = (outside_bars m s, (failed_bars m s, (test_bars (is_none (map.get t.handles handle)) replies.NoHandle refl, tt)))
all_bar schemas m s t (commands.Insert table key row) = (outside_bars m s, (failed_bars m s, (locked_bars (rewriter_of m s table), (busy_bars (changer_of m s (place table key)), (taken_bars m t (place table key), (big_bars (schema_of schemas table) row, tt))))))
all_bar schemas m s t (commands.Update table key sets) =
    (outside_bars m s, (failed_bars m s, (locked_bars (rewriter_of m s table), (absent_bars (view_of m t) (place table key), (busy_bars (changer_of m s (place table key)), (changed_bars t (place table key), (big_bars (schema_of schemas table) (row_with (row_at (view_of m t) (place table key)) sets), tt)))))))
all_bar schemas m s t (commands.Delete table key) = (outside_bars m s, (failed_bars m s, (locked_bars (rewriter_of m s table), (absent_bars (view_of m t) (place table key), (busy_bars (changer_of m s (place table key)), (changed_bars t (place table key), tt))))))
all_bar schemas m s t (commands.Rekey table from to sets) = (
  outside_bars m s,
  (
    failed_bars m s,
    (
      locked_bars (rewriter_of m s table),
      (
        absent_bars (view_of m t) (place table from),
        (
          busy_bars (changer_of m s (place table from)),
          (
            changed_bars t (place table from),
            (busy_bars (changer_of m s (place table to)), (taken_bars m t (place table to), (big_bars (schema_of schemas table) (row_with (row_at (view_of m t) (place table from)) sets), tt))),
          ),
        ),
      ),
    ),
  ),
)
all_bar schemas m s t (commands.VacuumMain table) = upkeep_bars m s table Main
all_bar schemas m s t (commands.VacuumToast table) = upkeep_bars m s table Toast
all_bar schemas m s t (commands.Rewrite table) = upkeep_bars m s table Rewrite

-- ---- the answer

pub answer_granted : (c : CoreState) (s : ℕ) (command : Command) (m : Plain) (told : List (Option Reply)) → IsSession c.seats s → IsSound c → PartsAreSound c → (seat_of c s).job ≡ jobs.Submitted command → Stands c m told → is_granted (reply_due c s command) ≡ true
    → answer (schemas_of c.tables) m s command ≡ granted_answer m s command
answer_granted c s command m told there sound parts job stands due =
    let n = once_used m s (session_of m s) (table_of command) in
    let t = transaction_of (session_of n s) in
    let said = reply_is c s command m told there sound parts job stands in
    let granted_due_is : is_granted (reply_of (schemas_of c.tables) n s command) ≡ true = ap is_granted said ∙ due in
    let is : reply_of (schemas_of c.tables) n s command ≡ granted n t command = granted_is (refusals (schemas_of c.tables) n s t command) (granted n t command) (all_bar (schemas_of c.tables) n s t command) granted_due_is in
    ap (λ (b : Bool). answered (reply_of (schemas_of c.tables) n s command) (if b then effect n s t command else refused n s (reply_of (schemas_of c.tables) n s command))) granted_due_is
    ∙ ap (λ (r : Reply). answered r (effect n s t command)) is
