-- The replies to the commands that the core takes.
use Rattle.std.proofs.Common.{◌≡◌, ℕ, ℤ, pos, negsuc, Bool, true, false, List, [], ◌∷◌, Option, Some, None, refl, sym, ap, ◌∙◌}
use Rattle.std.specs.Prelude.{if◌then◌else◌}
use Rattle.std.specs.Option.{option_map}
use Rattle.tuple_layout.specs.Places.{Row}
use Rattle.tuple_layout.specs.Schemas.{TableSchema}
use Rattle.tuple_layout.specs.Sizes.{all_out_size}
use Rattle.command_set.specs.declared.state.Plain.{Plain}
use Rattle.command_set.specs.declared.state.Transaction.{Transaction}
use Rattle.command_set.specs.declared.state.Upkeep.{Upkeep}
use Rattle.command_set.specs.declared.state.Upkeep.TheVariants.{Main, Rewrite, Toast}
use Rattle.command_set.specs.Changes.{place}
use Rattle.command_set.specs.Plain.{row_at, row_with, session_of, view_of}
use Rattle.command_set.specs.Replies.{answers_if, bad_offset, first_of, granted, is_granted, refusals, refused_upkeep, schema_of, too_big, transaction_of}
use Rattle.command_set.specs.Answers.{answer, once_used, table_of}
use Rattle.command_set.specs.Journals.{is_started}
use Rattle.command_set.specs.declared.Command.{Command}
use Rattle.command_set.specs.declared.Command.TheVariants as commands
use Rattle.command_set.specs.declared.Reply.{Reply}
use Rattle.command_set.specs.declared.Reply.TheVariants as replies
use Rattle.core_state.specs.Commands.{IsFitting}
use Rattle.session_shell.specs.Hubs.{is_read}

-- a reply that is there grants nothing
abbrev Refuses : Option Reply → Type 0
Refuses None = Unit {0}
Refuses (Some reply) = is_granted reply ≡ false

abbrev AllRefuse : List (Option Reply) → Type 0
AllRefuse [] = Unit {0}
AllRefuse (o ∷ os) = Refuses o × AllRefuse os

-- so a reply that grants is the one behind them
granted_last : (os : List (Option Reply)) (g : Reply) → AllRefuse os → is_granted (first_of os g) ≡ true → first_of os g ≡ g
granted_last [] g all e = refl
granted_last (Some reply ∷ os) g all e = absurd (let no = all.0 in cc)
granted_last (None ∷ os) g all e = granted_last os g all.1 e

test_refuses : (b : Bool) (reply : Reply) → is_granted reply ≡ false → Refuses (answers_if b reply)
test_refuses true reply h = h
test_refuses false reply h = tt

other_refuses : (f : ℕ → Reply) (o : Option ℕ) → ((n : ℕ) → is_granted (f n) ≡ false) → Refuses (option_map f o)
other_refuses f None h = tt
other_refuses f (Some n) h = h n

offset_refuses : (offset : ℤ) → Refuses (bad_offset offset)
offset_refuses (pos offset) = tt
offset_refuses (negsuc n) = refl

big_refuses : (schema : TableSchema) (row : Row) → Refuses (too_big schema row)
big_refuses schema row = test_refuses _ (replies.TooBig (all_out_size schema.storages row)) refl

upkeep_refuses : (m : Plain) (s table : ℕ) (kind : Upkeep) → AllRefuse (refused_upkeep m s table kind)
upkeep_refuses m s table kind = (test_refuses _ replies.Inside refl, (other_refuses replies.Locked _ (λ n. refl), tt))

all_refuse : (schemas : List TableSchema) (m : Plain) (s : ℕ) (t : Transaction) (command : Command) → AllRefuse (refusals schemas m s t command)
all_refuse schemas m s t (commands.Begin level) = (test_refuses _ replies.Inside refl, tt)
all_refuse schemas m s t commands.Commit = (test_refuses _ replies.Outside refl, (test_refuses _ replies.RolledBack refl, tt))
all_refuse schemas m s t commands.Rollback = (test_refuses _ replies.Outside refl, tt)
all_refuse schemas m s t (commands.Get table key) = (test_refuses _ replies.Outside refl, (test_refuses _ replies.Failed refl, (other_refuses replies.Locked _ (λ n. refl), (test_refuses _ replies.Absent refl, tt))))
all_refuse schemas m s t (commands.Part table key column offset len) = (test_refuses _ replies.Outside refl, (test_refuses _ replies.Failed refl, (other_refuses replies.Locked _ (λ n. refl), (test_refuses _ replies.Absent refl, (test_refuses _ replies.Null refl, (offset_refuses offset, tt))))))
all_refuse schemas m s t (commands.Open handle table key column) = (test_refuses _ replies.Outside refl, (test_refuses _ replies.Failed refl, (other_refuses replies.Locked _ (λ n. refl), (test_refuses _ replies.HandleThere refl, (test_refuses _ replies.Absent refl, (test_refuses _ replies.Null refl, tt))))))
all_refuse schemas m s t (commands.Fetch handle offset len) = (test_refuses _ replies.Outside refl, (test_refuses _ replies.Failed refl, (test_refuses _ replies.NoHandle refl, (offset_refuses offset, tt))))
all_refuse schemas m s t (commands.Close handle) = (test_refuses _ replies.Outside refl, (test_refuses _ replies.Failed refl, (test_refuses _ replies.NoHandle refl, tt)))
all_refuse schemas m s t (commands.Insert table key row) = (test_refuses _ replies.Outside refl, (test_refuses _ replies.Failed refl, (other_refuses replies.Locked _ (λ n. refl), (other_refuses replies.Busy _ (λ n. refl), (test_refuses _ replies.Taken refl, (big_refuses (schema_of schemas table) row, tt))))))
all_refuse schemas m s t (commands.Update table key sets) = (test_refuses _ replies.Outside refl, (test_refuses _ replies.Failed refl, (other_refuses replies.Locked _ (λ n. refl), (test_refuses _ replies.Absent refl, (other_refuses replies.Busy _ (λ n. refl), (test_refuses _ replies.Changed refl, (big_refuses (schema_of schemas table) (row_with (row_at (view_of m t) (place table key)) sets), tt)))))))
all_refuse schemas m s t (commands.Delete table key) = (test_refuses _ replies.Outside refl, (test_refuses _ replies.Failed refl, (other_refuses replies.Locked _ (λ n. refl), (test_refuses _ replies.Absent refl, (other_refuses replies.Busy _ (λ n. refl), (test_refuses _ replies.Changed refl, tt))))))
all_refuse schemas m s t (commands.Rekey table from to sets) = (test_refuses _ replies.Outside refl, (test_refuses _ replies.Failed refl, (other_refuses replies.Locked _ (λ n. refl), (test_refuses _ replies.Absent refl, (other_refuses replies.Busy _ (λ n. refl), (test_refuses _ replies.Changed refl, (other_refuses replies.Busy _ (λ n. refl), (test_refuses _ replies.Taken refl, (big_refuses (schema_of schemas table) (row_with (row_at (view_of m t) (place table from)) sets), tt)))))))))
all_refuse schemas m s t (commands.VacuumMain table) = upkeep_refuses m s table Main
all_refuse schemas m s t (commands.VacuumToast table) = upkeep_refuses m s table Toast
all_refuse schemas m s t (commands.Rewrite table) = upkeep_refuses m s table Rewrite

-- what a command answers that is granted
record Grants (schemas : List TableSchema) (m : Plain) (s : ℕ) (command : Command) : Type 0 where
  state : Plain
  transaction : Transaction
  is : (answer schemas m s command).reply ≡ granted state transaction command

grants : (schemas : List TableSchema) (m : Plain) (s : ℕ) (command : Command) → is_granted (answer schemas m s command).reply ≡ true → Grants schemas m s command
grants schemas m s command e =
    let n = once_used m s (session_of m s) (table_of command) in
    let t = transaction_of (session_of n s) in
    record { state = n; transaction = t; is = granted_last (refusals schemas n s t command) (granted n t command) (all_refuse schemas n s t command) e }

-- a command that is no read is granted without more words
granted_okay : (schemas : List TableSchema) (command : Command) (m : Plain) (t : Transaction) → IsFitting schemas command → is_read command ≡ false → granted m t command ≡ replies.Okay
granted_okay schemas (commands.Begin level) m t fits e = refl
granted_okay schemas commands.Commit m t fits e = refl
granted_okay schemas commands.Rollback m t fits e = refl
granted_okay schemas (commands.Get table key) m t fits e = absurd (cc)
granted_okay schemas (commands.Part table key column offset len) m t fits e = absurd (cc)
granted_okay schemas (commands.Open handle table key column) m t fits e = refl
granted_okay schemas (commands.Fetch handle offset len) m t fits e = absurd (cc)
granted_okay schemas (commands.Close handle) m t fits e = refl
granted_okay schemas (commands.Insert table key row) m t fits e = refl
granted_okay schemas (commands.Update table key sets) m t fits e = refl
granted_okay schemas (commands.Delete table key) m t fits e = refl
granted_okay schemas (commands.Rekey table from to sets) m t fits e = refl
granted_okay schemas (commands.VacuumMain table) m t fits e = absurd fits
granted_okay schemas (commands.VacuumToast table) m t fits e = absurd fits
granted_okay schemas (commands.Rewrite table) m t fits e = absurd fits

said_by : (b : Bool) (command : Command) (schemas : List TableSchema) (m : Plain) (s : ℕ) → is_read command ≡ b → IsFitting schemas command → is_granted (answer schemas m s command).reply ≡ true →
    (if b then None else Some replies.Okay) ≡ (if b then None else Some (answer schemas m s command).reply)
said_by true command schemas m s e fits granted = refl
said_by false command schemas m s e fits granted = let g = grants schemas m s command granted in ap Some (sym (g.is ∙ granted_okay schemas command g.state g.transaction fits e))

-- what a granted command that goes on says at once
pub said_at_once : (schemas : List TableSchema) (m : Plain) (s : ℕ) (command : Command) → IsFitting schemas command → is_granted (answer schemas m s command).reply ≡ true → (if is_read command then None else Some replies.Okay) ≡ (if is_read command then None else Some (answer schemas m s command).reply)
said_at_once schemas m s command fits granted = said_by (is_read command) command schemas m s refl fits granted

granted_not_started : (schemas : List TableSchema) (command : Command) (m : Plain) (t : Transaction) → IsFitting schemas command → is_started (granted m t command) ≡ false
granted_not_started schemas (commands.Begin level) m t fits = refl
granted_not_started schemas commands.Commit m t fits = refl
granted_not_started schemas commands.Rollback m t fits = refl
granted_not_started schemas (commands.Get table key) m t fits = refl
granted_not_started schemas (commands.Part table key column offset len) m t fits = refl
granted_not_started schemas (commands.Open handle table key column) m t fits = refl
granted_not_started schemas (commands.Fetch handle offset len) m t fits = refl
granted_not_started schemas (commands.Close handle) m t fits = refl
granted_not_started schemas (commands.Insert table key row) m t fits = refl
granted_not_started schemas (commands.Update table key sets) m t fits = refl
granted_not_started schemas (commands.Delete table key) m t fits = refl
granted_not_started schemas (commands.Rekey table from to sets) m t fits = refl
granted_not_started schemas (commands.VacuumMain table) m t fits = absurd fits
granted_not_started schemas (commands.VacuumToast table) m t fits = absurd fits
granted_not_started schemas (commands.Rewrite table) m t fits = absurd fits

-- a refusal does not say so
refusal_starts_none : (reply : Reply) → is_granted reply ≡ false → is_started reply ≡ false
refusal_starts_none replies.Okay refused = refl
refusal_starts_none replies.RolledBack refused = refl
refusal_starts_none (replies.Row key row) refused = refl
refusal_starts_none (replies.Bytes bytes) refused = refl
refusal_starts_none replies.Null refused = refl
refusal_starts_none replies.Absent refused = refl
refusal_starts_none replies.Taken refused = refl
refusal_starts_none (replies.Busy n) refused = refl
refusal_starts_none replies.Changed refused = refl
refusal_starts_none (replies.Locked n) refused = refl
refusal_starts_none replies.Failed refused = refl
refusal_starts_none replies.Outside refused = refl
refusal_starts_none replies.Inside refused = refl
refusal_starts_none (replies.TooBig n) refused = refl
refusal_starts_none replies.BadOffset refused = refl
refusal_starts_none replies.NoHandle refused = refl
refusal_starts_none replies.HandleThere refused = refl
refusal_starts_none replies.NoValueId refused = refl
refusal_starts_none replies.Started refused = absurd (cc)
refusal_starts_none replies.Done refused = refl
refusal_starts_none replies.Memory refused = refl

started_by : (b : Bool) (schemas : List TableSchema) (m : Plain) (s : ℕ) (command : Command) → IsFitting schemas command → is_granted (answer schemas m s command).reply ≡ b → is_started (answer schemas m s command).reply ≡ false
started_by true schemas m s command fits e = let g = grants schemas m s command e in ap is_started g.is ∙ granted_not_started schemas command g.state g.transaction fits
started_by false schemas m s command fits e = refusal_starts_none (answer schemas m s command).reply e

-- no reply of these commands says that upkeep has begun
pub not_started : (schemas : List TableSchema) (m : Plain) (s : ℕ) (command : Command) → IsFitting schemas command → is_started (answer schemas m s command).reply ≡ false
not_started schemas m s command fits = started_by (is_granted (answer schemas m s command).reply) schemas m s command fits refl
