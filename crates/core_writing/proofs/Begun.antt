-- A write has begun by the line that is due.
use Rattle.std.proofs.Common.{ap, refl, subst, sym, ◌∙◌}
use Rattle.std.specs.Option.{option_map_or}
use Rattle.std.specs.Prelude.{List, None, Option, Some, [], ℕ, ℤ, ◌∷◌, ◌≡◌}
use Rattle.tuple_layout.specs.Places.{Row}
use Rattle.tuple_layout.specs.declared.cell.Stored.{Stored}
use Rattle.command_set.specs.declared.Command.{Command}
use Rattle.command_set.specs.declared.Set.{Set}
use Rattle.write_steps.specs.declared.stage.OldRow.{OldRow}
use Rattle.core_state.specs.Begun.{inserted_row, plan_of, updated_row, write_begun}
use Rattle.core_state.specs.Events.{Looked, WriteBegun, at_moment, line_granted}
use Rattle.core_state.specs.Lines.{after_write_begun}
use Rattle.core_state.specs.State.{CoreState, IsSession}
use Rattle.core_state.specs.Views.{row_seen}
use Rattle.core_looks.specs.Due.{reply_due}
use Rattle.core_writes.specs.Laws.{columns_of}
use Rattle.core_writing.proofs.Given.{begun_is, past_begun}
use Rattle.core_writing.specs.Begins.{HasBegun, keys_locked, once_begun}
use Rattle.command_set.specs.declared.Command.TheVariants as commands
use Rattle.command_set.specs.declared.Reply.TheVariants as replies

pub begun_whole : (c : CoreState) (s t : ℕ) (keys : List ℤ) (old : Option OldRow) (new : Option Stored) (plan : List ℕ) (mid core : CoreState) (command : Command) → IsSession c.seats s → mid ≡ keys_locked c s t keys → core ≡ once_begun mid s t old new plan
    → plan ≡ plan_of (columns_of mid t) new → at_moment (line_granted c s command) c s ≡ after_write_begun c s t keys (write_begun c s t old new) → reply_due c s command ≡ replies.Okay → HasBegun c s command core
begun_whole c s t keys old new plan mid core command there mid_is is plan_is line due =
    let planned : plan ≡ plan_of (columns_of c t) new = plan_is ∙ ap (λ (v : CoreState). plan_of (columns_of v t) new) mid_is in
    let begun : core ≡ once_begun (keys_locked c s t keys) s t old new plan = is ∙ ap (λ (v : CoreState). once_begun v s t old new plan) mid_is in
    subst (HasBegun c s command) (sym begun) (record {
      is = begun_is c s t keys old new plan there planned ∙ sym line;
      past = past_begun (keys_locked c s t keys) s t old new plan there;
      due = due;
    })

pub insert_begun : (c : CoreState) (s t : ℕ) (key : ℤ) (row : Row) (new : Stored) (plan : List ℕ) (mid core : CoreState) → IsSession c.seats s → mid ≡ keys_locked c s t (key ∷ []) → new ≡ inserted_row key row → core ≡ once_begun mid s t None (Some new) plan
    → plan ≡ plan_of (columns_of mid t) (Some new) → reply_due c s (commands.Insert t key row) ≡ replies.Okay → HasBegun c s (commands.Insert t key row) core
insert_begun c s t key row new plan mid core there mid_is new_is is planned due =
    begun_whole c s t (key ∷ []) None (Some (inserted_row key row)) plan mid core (commands.Insert t key row) there mid_is (is ∙ ap (λ (x : Stored). once_begun mid s t None (Some x) plan) new_is)
    (planned ∙ ap (λ (x : Stored). plan_of (columns_of mid t) (Some x)) new_is) refl due

-- ---- of a row that was found

pub delete_begun : (c : CoreState) (s t : ℕ) (key : ℤ) (old its : OldRow) (plan : List ℕ) (mid core : CoreState) → IsSession c.seats s → mid ≡ keys_locked c s t (key ∷ []) → row_seen c s t key ≡ Some old → its ≡ old → core ≡ once_begun mid s t (Some its) None plan
    → plan ≡ [] → reply_due c s (commands.Delete t key) ≡ replies.Okay → HasBegun c s (commands.Delete t key) core
delete_begun c s t key old its plan mid core there mid_is seen its_is is planned due =
    begun_whole c s t (key ∷ []) (Some old) None plan mid core (commands.Delete t key) there mid_is (is ∙ ap (λ (x : OldRow). once_begun mid s t (Some x) None plan) its_is) planned
    (ap (λ (o : Option OldRow). at_moment (option_map_or (λ row. WriteBegun t (key ∷ []) (write_begun c s t (Some row) None)) o (Looked t)) c s) seen) due

pub update_begun : (c : CoreState) (s t : ℕ) (key : ℤ) (sets : List Set) (old its : OldRow) (new : Stored) (plan : List ℕ) (mid core : CoreState) → IsSession c.seats s → mid ≡ keys_locked c s t (key ∷ []) → row_seen c s t key ≡ Some old → its ≡ old
    → new ≡ updated_row old.stored key sets → core ≡ once_begun mid s t (Some its) (Some new) plan → plan ≡ plan_of (columns_of mid t) (Some new) → reply_due c s (commands.Update t key sets) ≡ replies.Okay → HasBegun c s (commands.Update t key sets) core
update_begun c s t key sets old its new plan mid core there mid_is seen its_is new_is is planned due =
    begun_whole c s t (key ∷ []) (Some old) (Some (updated_row old.stored key sets)) plan mid core (commands.Update t key sets) there mid_is
    (is ∙ ap (λ (x : OldRow). once_begun mid s t (Some x) (Some new) plan) its_is ∙ ap (λ (x : Stored). once_begun mid s t (Some old) (Some x) plan) new_is) (planned ∙ ap (λ (x : Stored). plan_of (columns_of mid t) (Some x)) new_is)
    (ap (λ (o : Option OldRow). at_moment (option_map_or (λ row. WriteBegun t (key ∷ []) (write_begun c s t (Some row) (Some (updated_row row.stored key sets)))) o (Looked t)) c s) seen) due

pub rekey_begun : (c : CoreState) (s t : ℕ) (from to : ℤ) (sets : List Set) (old its : OldRow) (new : Stored) (plan : List ℕ) (mid core : CoreState) → IsSession c.seats s → mid ≡ keys_locked c s t (from ∷ to ∷ []) → row_seen c s t from ≡ Some old → its ≡ old
    → new ≡ updated_row old.stored to sets → core ≡ once_begun mid s t (Some its) (Some new) plan → plan ≡ plan_of (columns_of mid t) (Some new) → reply_due c s (commands.Rekey t from to sets) ≡ replies.Okay → HasBegun c s (commands.Rekey t from to sets) core
rekey_begun c s t from to sets old its new plan mid core there mid_is seen its_is new_is is planned due =
    begun_whole c s t (from ∷ to ∷ []) (Some old) (Some (updated_row old.stored to sets)) plan mid core (commands.Rekey t from to sets) there mid_is
    (is ∙ ap (λ (x : OldRow). once_begun mid s t (Some x) (Some new) plan) its_is ∙ ap (λ (x : Stored). once_begun mid s t (Some old) (Some x) plan) new_is) (planned ∙ ap (λ (x : Stored). plan_of (columns_of mid t) (Some x)) new_is)
    (ap (λ (o : Option OldRow). at_moment (option_map_or (λ row. WriteBegun t (from ∷ to ∷ []) (write_begun c s t (Some row) (Some (updated_row row.stored to sets)))) o (Looked t)) c s) seen) due
