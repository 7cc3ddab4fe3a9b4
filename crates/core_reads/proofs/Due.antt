-- What it tells of a core that a command's moment is granted.
use Rattle.std.proofs.Common.{refl}
use Rattle.std.specs.Prelude.{Bool, List, None, Option, Some, false, is_none, is_some, negsuc, pos, true, ℕ, ℤ, ◌∷◌, ◌≡◌}
use Rattle.command_set.specs.Replies.{answers_if, bad_offset, first_of, is_granted}
use Rattle.command_set.specs.declared.Reply.{Reply}
use Rattle.write_steps.specs.declared.stage.OldRow.{OldRow}
use Rattle.core_looks.specs.Due.{absent_due, failed_due, outside_due}
use Rattle.core_state.specs.State.{is_open}
use Rattle.core_state.specs.declared.seat.Handle.{Handle}
use Rattle.core_state.specs.declared.seat.State.{State}
use Rattle.command_set.specs.declared.Reply.TheVariants as replies
use Rattle.core_state.specs.declared.seat.State.TheVariants as states

-- what is left to be refused by is granted
abbrev pub Grants : List (Option Reply) → Reply → Type 0
Grants rest reply = is_granted (first_of rest reply) ≡ true

-- a refusal that passes: what that tells, and that the rest answers
pub record Passes (fact : Type 0) (whole more : List (Option Reply)) (reply : Reply) : Type 0 where
  pub is : fact
  pub rest : Grants more reply
  pub same : first_of whole reply ≡ first_of more reply

-- its session's transaction is open
pub grants_inside : (state : State) (rest : List (Option Reply)) (reply : Reply) → Grants (outside_due state ∷ failed_due state ∷ rest) reply → Passes (is_open state ≡ true) (outside_due state ∷ failed_due state ∷ rest) rest reply
grants_inside states.Outside rest reply e = absurd (cc)
grants_inside states.Failed rest reply e = absurd (cc)
grants_inside (states.Open level xid snapshot) rest reply e = record { is = refl; rest = e; same = refl }

-- the row is there
pub grants_found : (o : Option OldRow) (rest : List (Option Reply)) (reply : Reply) → Grants (absent_due o ∷ rest) reply → Passes ((old : OldRow) × (o ≡ Some old)) (absent_due o ∷ rest) rest reply
grants_found None rest reply e = absurd (cc)
grants_found (Some old) rest reply e = record { is = (old, refl); rest = e; same = refl }

-- a test that refuses does not hold
pub grants_unless : (b : Bool) (refusal : Reply) (rest : List (Option Reply)) (reply : Reply) → is_granted refusal ≡ false → Grants (answers_if b refusal ∷ rest) reply → Passes (b ≡ false) (answers_if b refusal ∷ rest) rest reply
grants_unless true refusal rest reply refuses e = absurd (cc)
grants_unless false refusal rest reply refuses e = record { is = refl; rest = e; same = refl }

-- the offset is not negative
pub grants_offset : (offset : ℤ) (rest : List (Option Reply)) (reply : Reply) → Grants (bad_offset offset ∷ rest) reply → Passes ((n : ℕ) × (offset ≡ pos n)) (bad_offset offset ∷ rest) rest reply
grants_offset (pos n) rest reply e = record { is = (n, refl); rest = e; same = refl }
grants_offset (negsuc n) rest reply e = absurd (cc)

-- the handle is open
pub grants_handle : (o : Option Handle) (rest : List (Option Reply)) (reply : Reply) → Grants (answers_if (is_none o) replies.NoHandle ∷ rest) reply → Passes ((handle : Handle) × (o ≡ Some handle)) (answers_if (is_none o) replies.NoHandle ∷ rest) rest reply
grants_handle None rest reply e = absurd (cc)
grants_handle (Some handle) rest reply e = record { is = (handle, refl); rest = e; same = refl }

-- or is not
pub grants_unopened : (o : Option Handle) (rest : List (Option Reply)) (reply : Reply) → Grants (answers_if (is_some o) replies.HandleThere ∷ rest) reply → Passes (o ≡ None) (answers_if (is_some o) replies.HandleThere ∷ rest) rest reply
grants_unopened None rest reply e = record { is = refl; rest = e; same = refl }
grants_unopened (Some handle) rest reply e = absurd (cc)
