-- What refusals there are: none grants, and past the first two of a data command each fails the transaction, or has looked into a table.
use Rattle.std.proofs.Common.{Bool, ap, inl, inr, refl, subst, sym, ◌∙◌}
use Rattle.std.specs.Option.{option_map, option_map_or}
use Rattle.std.specs.Prelude.{List, None, Option, Some, [], false, is_none, is_some, negsuc, pos, true, ℕ, ℤ, ⊤, ◌++◌, ◌||◌, ◌∷◌, ◌≡◌, ◌⊎◌}
use Rattle.tuple_layout.specs.Tuples.{cell_widths}
use Rattle.tuple_layout.specs.declared.cell.Stored.{Stored}
use Rattle.tuple_toaster.specs.Pushed.{all_moved_size}
use Rattle.command_set.specs.Answers.{refused, table_of, with_failure}
use Rattle.command_set.specs.Journals.{is_data}
use Rattle.command_set.specs.Replies.{answers_if, bad_offset, fails, first_of, is_granted}
use Rattle.command_set.specs.declared.Command.{Command}
use Rattle.command_set.specs.declared.Level.{Level}
use Rattle.command_set.specs.declared.Reply.{Reply}
use Rattle.command_set.specs.declared.state.Plain.{Plain}
use Rattle.read_steps.specs.Reads.{cell_of}
use Rattle.write_steps.specs.declared.stage.OldRow.{OldRow}
use Rattle.core_state.specs.Begun.{inserted_row, updated_row}
use Rattle.core_state.specs.Events.{GivenUp, Looked, line_refused}
use Rattle.core_state.specs.Lines.{failed_state}
use Rattle.core_state.specs.State.{CoreState, handle_of, seat_of, table_at}
use Rattle.core_state.specs.Views.{row_seen}
use Rattle.core_state.specs.declared.seat.State.{State}
use Rattle.core_looks.proofs.Before.{opens_by}
use Rattle.core_looks.proofs.Sights.{state_at}
use Rattle.core_looks.specs.Due.{cells_found, claim_of, claimer_of, granted_due, has_changed, is_null, refusals_due, refusals_first, reply_due, row_now, too_big_due, too_big_once}
use Rattle.command_set.specs.declared.Command.TheVariants as commands
use Rattle.command_set.specs.declared.Reply.TheVariants as replies
use Rattle.core_state.specs.declared.seat.State.TheVariants as states

-- a reply that refuses a command in an open transaction, by the table that the command uses
abbrev pub is_refusal : Option ℕ → Reply → Bool
is_refusal table replies.Absent = is_some table
is_refusal table replies.Null = is_some table
is_refusal table reply = fails reply

-- each of these refuses
abbrev pub Refuses : Option ℕ → Option Reply → Type 0
Refuses table o = (reply : Reply) → o ≡ Some reply → is_refusal table reply ≡ true

abbrev pub AllRefuse : Option ℕ → List (Option Reply) → Type 0
AllRefuse table [] = ⊤
AllRefuse table (o ∷ os) = Refuses table o × AllRefuse table os

-- so the first of them is one that refuses, or what is granted
pub first_kind : (table : Option ℕ) (rs : List (Option Reply)) (g : Reply) → AllRefuse table rs → (first_of rs g ≡ g) ⊎ (is_refusal table (first_of rs g) ≡ true)
first_kind table [] g all = inl refl
first_kind table (None ∷ rs) g all = first_kind table rs g all.1
first_kind table (Some reply ∷ rs) g all = inr (all.0 reply refl)

-- a test refuses
pub by_test : (table : Option ℕ) (b : Bool) (reply : Reply) → is_refusal table reply ≡ true → Refuses table (answers_if b reply)
by_test table true reply e its is = subst (λ (r : Reply). is_refusal table r ≡ true) (some_is reply its is) e
  where
    some_is : (a b : Reply) → Some a ≡ Some b → a ≡ b
    some_is a b e = cc
by_test table false reply e its is = absurd (cc)

busy_refuses : (table : Option ℕ) (o : Option ℕ) → Refuses table (option_map replies.Busy o)
busy_refuses table None its is = absurd (cc)
busy_refuses table (Some n) its is = subst (λ (r : Reply). is_refusal table r ≡ true) (some_is (replies.Busy n) its is) refl
  where
    some_is : (a b : Reply) → Some a ≡ Some b → a ≡ b
    some_is a b e = cc

offset_refuses : (table : Option ℕ) (offset : ℤ) → Refuses table (bad_offset offset)
offset_refuses table (pos offset) its is = absurd (cc)
offset_refuses table (negsuc n) its is = subst (λ (r : Reply). is_refusal table r ≡ true) (some_is replies.BadOffset its is) refl
  where
    some_is : (a b : Reply) → Some a ≡ Some b → a ≡ b
    some_is a b e = cc

big_refuses : (c : CoreState) (t : ℕ) (table : Option ℕ) (new : Stored) → Refuses table (too_big_due c t new)
big_refuses c t table new = by_test table _ (replies.TooBig (all_moved_size (table_at c.tables t).rows.schema.storages (cell_widths new.cells))) refl

once_refuses : (c : CoreState) (t : ℕ) (table : Option ℕ) (change : Stored → Stored) (o : Option OldRow) → Refuses table (too_big_once c t change o)
once_refuses c t table change None its is = absurd (cc)
once_refuses c t table change (Some old) its is = big_refuses c t table (change old.stored) its is

-- ---- the refusals of a data command past the first two

pub record RefusalsDue (c : CoreState) (s : ℕ) (command : Command) : Type 0 where
  pub rest : List (Option Reply)
  pub is : refusals_due c s command ≡ refusals_first c s ++ rest
  pub refuse : AllRefuse (table_of command) rest
  pub grants : is_granted (granted_due c s command) ≡ true

pub refusals_are : (c : CoreState) (s : ℕ) (command : Command) → is_data command ≡ true → RefusalsDue c s command
refusals_are c s (commands.Begin level) e = absurd (cc)
refusals_are c s commands.Commit e = absurd (cc)
refusals_are c s commands.Rollback e = absurd (cc)
refusals_are c s (commands.Get t key) e = record { rest = _; is = refl; refuse = (by_test (Some t) (is_none (row_seen c s t key)) replies.Absent refl, tt); grants = refl }
refusals_are c s (commands.Part t key column offset len) e = record {
  rest = _;
  is = refl;
  refuse = (by_test (Some t) (is_none (row_seen c s t key)) replies.Absent refl, (by_test (Some t) (is_null (cell_of (cells_found (row_seen c s t key)) column)) replies.Null refl, (offset_refuses (Some t) offset, tt)));
  grants = refl;
}
refusals_are c s (commands.Open name t key column) e = record {
  rest = _;
  is = refl;
  refuse = (by_test (Some t) (is_some (handle_of (seat_of c s).handles name)) replies.HandleThere refl, (by_test (Some t) (is_none (row_seen c s t key)) replies.Absent refl, (by_test (Some t) (is_null (cell_of (cells_found (row_seen c s t key)) column)) replies.Null refl, tt)));
  grants = refl;
}
refusals_are c s (commands.Fetch name offset len) e = record { rest = _; is = refl; refuse = (by_test None (is_none (handle_of (seat_of c s).handles name)) replies.NoHandle refl, (offset_refuses None offset, tt)); grants = refl }
refusals_are c s (commands.Close name) e = record { rest = _; is = refl; refuse = (by_test None (is_none (handle_of (seat_of c s).handles name)) replies.NoHandle refl, tt); grants = refl }
refusals_are c s (commands.Insert t key row) e = record {
  rest = _;
  is = refl;
  refuse = (busy_refuses (Some t) (claimer_of c.locks s (claim_of t key)), (by_test (Some t) (is_some (row_now c s t key) || is_some (row_seen c s t key)) replies.Taken refl, (big_refuses c t (Some t) (inserted_row key row), tt)));
  grants = refl;
}
refusals_are c s (commands.Update t key sets) e = record {
  rest = _;
  is = refl;
  refuse = (
    by_test (Some t) (is_none (row_seen c s t key)) replies.Absent refl,
    (busy_refuses (Some t) (claimer_of c.locks s (claim_of t key)), (by_test (Some t) (option_map_or (has_changed c s t key) (row_seen c s t key) false) replies.Changed refl, (once_refuses c t (Some t) (λ stored. updated_row stored key sets) (row_seen c s t key), tt))),
  );
  grants = refl;
}
refusals_are c s (commands.Delete t key) e = record {
  rest = _;
  is = refl;
  refuse = (by_test (Some t) (is_none (row_seen c s t key)) replies.Absent refl, (busy_refuses (Some t) (claimer_of c.locks s (claim_of t key)), (by_test (Some t) (option_map_or (has_changed c s t key) (row_seen c s t key) false) replies.Changed refl, tt)));
  grants = refl;
}
refusals_are c s (commands.Rekey t from to sets) e = record {
  rest = _;
  is = refl;
  refuse = (
    by_test (Some t) (is_none (row_seen c s t from)) replies.Absent refl,
    (
      busy_refuses (Some t) (claimer_of c.locks s (claim_of t from)),
      (
        by_test (Some t) (option_map_or (has_changed c s t from) (row_seen c s t from) false) replies.Changed refl,
        (
          busy_refuses (Some t) (claimer_of c.locks s (claim_of t to)),
          (by_test (Some t) (is_some (row_now c s t to) || is_some (row_seen c s t to)) replies.Taken refl, (once_refuses c t (Some t) (λ stored. updated_row stored to sets) (row_seen c s t from), tt)),
        ),
      ),
    ),
  );
  grants = refl;
}
refusals_are c s (commands.VacuumMain t) e = absurd (cc)
refusals_are c s (commands.VacuumToast t) e = absurd (cc)
refusals_are c s (commands.Rewrite t) e = absurd (cc)

-- the reply that is due of a data command in an open transaction is granted, or refuses
pub open_kind : (c : CoreState) (s : ℕ) (command : Command) (level : Level) (xid snapshot : Option ℕ) → is_data command ≡ true → state_at c s ≡ states.Open level xid snapshot → (is_granted (reply_due c s command) ≡ true) ⊎ (is_refusal (table_of command) (reply_due c s command) ≡ true)
open_kind c s command level xid snapshot given is =
    let due = refusals_are c s command given in
    let same : reply_due c s command ≡ first_of due.rest (granted_due c s command) = ap (λ (list : List (Option Reply)). first_of list (granted_due c s command)) due.is ∙ opens_by c s level xid snapshot due.rest (granted_due c s command) is in
    elim (first_kind (table_of command) due.rest (granted_due c s command) due.refuse) [
      | inl granted_is ↦ inl (ap is_granted (same ∙ granted_is) ∙ due.grants)
      | inr its ↦ inr (ap (is_refusal (table_of command)) same ∙ its)
    ]

-- one that refuses fails the transaction, or has looked into a table
pub record LooksInto (table : Option ℕ) (reply : Reply) : Type 0 where
  pub t : ℕ
  pub uses : table ≡ Some t
  pub line : (state : State) → line_refused state table reply ≡ Looked t
  pub after : (m : Plain) (s : ℕ) → refused m s reply ≡ m
  pub refuses : is_granted reply ≡ false

spared : (table : Option ℕ) (reply : Reply) → is_some table ≡ true → (reply ≡ replies.Absent) ⊎ (reply ≡ replies.Null) → LooksInto table reply
spared None reply some e = absurd (cc)
spared (Some t) reply some e = elim e [
  | inl h ↦ subst (λ (r : Reply). LooksInto (Some t) r) (sym h) (record { t = t; uses = refl; line = λ state. refl; after = λ m s. refl; refuses = refl })
  | inr h ↦ subst (λ (r : Reply). LooksInto (Some t) r) (sym h) (record { t = t; uses = refl; line = λ state. refl; after = λ m s. refl; refuses = refl })
]

pub refusal_kind : (table : Option ℕ) (reply : Reply) → is_refusal table reply ≡ true → (fails reply ≡ true) ⊎ LooksInto table reply
refusal_kind table replies.Okay e = inl e
refusal_kind table replies.RolledBack e = inl e
refusal_kind table (replies.Row key row) e = inl e
refusal_kind table (replies.Bytes bytes) e = inl e
refusal_kind table replies.Null e = inr (spared table replies.Null e (inr refl))
refusal_kind table replies.Absent e = inr (spared table replies.Absent e (inl refl))
refusal_kind table replies.Taken e = inl e
refusal_kind table (replies.Busy n) e = inl e
refusal_kind table replies.Changed e = inl e
refusal_kind table (replies.Locked n) e = inl e
refusal_kind table replies.Failed e = inl e
refusal_kind table replies.Outside e = inl e
refusal_kind table replies.Inside e = inl e
refusal_kind table (replies.TooBig n) e = inl e
refusal_kind table replies.BadOffset e = inl e
refusal_kind table replies.NoHandle e = inl e
refusal_kind table replies.HandleThere e = inl e
refusal_kind table replies.NoValueId e = inl e
refusal_kind table replies.Started e = inl e
refusal_kind table replies.Done e = inl e
refusal_kind table replies.Memory e = inl e

-- one that fails grants nothing, and its line gives the transaction up
pub record FailsBy (reply : Reply) : Type 0 where
  pub line : (state : State) (table : Option ℕ) → line_refused state table reply ≡ GivenUp (failed_state state)
  pub after : (m : Plain) (s : ℕ) → refused m s reply ≡ with_failure m s
  pub refuses : is_granted reply ≡ false

pub fails_by : (reply : Reply) → fails reply ≡ true → FailsBy reply
fails_by replies.Okay e = absurd (cc)
fails_by replies.RolledBack e = absurd (cc)
fails_by (replies.Row key row) e = absurd (cc)
fails_by (replies.Bytes bytes) e = absurd (cc)
fails_by replies.Null e = absurd (cc)
fails_by replies.Absent e = absurd (cc)
fails_by replies.Taken e = record { line = λ state table. refl; after = λ m s. refl; refuses = refl }
fails_by (replies.Busy n) e = record { line = λ state table. refl; after = λ m s. refl; refuses = refl }
fails_by replies.Changed e = record { line = λ state table. refl; after = λ m s. refl; refuses = refl }
fails_by (replies.Locked n) e = record { line = λ state table. refl; after = λ m s. refl; refuses = refl }
fails_by replies.Failed e = absurd (cc)
fails_by replies.Outside e = absurd (cc)
fails_by replies.Inside e = absurd (cc)
fails_by (replies.TooBig n) e = record { line = λ state table. refl; after = λ m s. refl; refuses = refl }
fails_by replies.BadOffset e = record { line = λ state table. refl; after = λ m s. refl; refuses = refl }
fails_by replies.NoHandle e = record { line = λ state table. refl; after = λ m s. refl; refuses = refl }
fails_by replies.HandleThere e = record { line = λ state table. refl; after = λ m s. refl; refuses = refl }
fails_by replies.NoValueId e = record { line = λ state table. refl; after = λ m s. refl; refuses = refl }
fails_by replies.Started e = absurd (cc)
fails_by replies.Done e = absurd (cc)
fails_by replies.Memory e = record { line = λ state table. refl; after = λ m s. refl; refuses = refl }
