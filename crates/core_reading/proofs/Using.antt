-- What a use has asked for, and a command that is over once it has used its table.
use Rattle.std.proofs.Common.{ap, refl, subst, sym, ◌∙◌}
use Rattle.std.specs.Prelude.{Err, Ok, OnErr, Result, ℕ, ◌≡◌}
use Rattle.lock_table.specs.Locks.{table_lock}
use Rattle.lock_table.specs.declared.lock.LockMode.TheVariants.{Use}
use Rattle.core_state.specs.Lines.{after_looking}
use Rattle.core_state.specs.State.{CoreState}
use Rattle.core_parts.proofs.Ending.{asks_granted, asks_nothing}
use Rattle.core_parts.proofs.Made.{looked_is}
use Rattle.core_parts.specs.Moments.{HasAsked}
use Rattle.core_parts.specs.Takes.{locked, with_copy}
use Rattle.core_sights.specs.Ready.{IsReady}

-- ---- locks

-- where a fact holds, it holds after want of memory
pub on_err : {T E P : Type 0} (r : Result T E) → P → OnErr r P
on_err (Ok value) p = tt
on_err (Err fault) p = p

-- a use has been asked for, and nothing else
pub asks_use : (c : CoreState) (s t : ℕ) → IsReady c s → HasAsked c s (locked c s t)
asks_use c s t ready = asks_granted c s c (table_lock t Use) ready.there ready.sound.places (asks_nothing c s) refl

-- what has been asked for then, if it was the use
pub asked_by : (c : CoreState) (s t : ℕ) (used new : CoreState) → IsReady c s → used ≡ locked c s t → new ≡ used → HasAsked c s new
asked_by c s t used new ready used_is is = subst (HasAsked c s) (sym (is ∙ used_is)) (asks_use c s t ready)

-- ---- a command that is over once it has used its table

pub looked_by : (c : CoreState) (s t : ℕ) (used new : CoreState) → IsReady c s → used ≡ locked c s t → new ≡ with_copy used s → new ≡ after_looking c s t
looked_by c s t used new ready used_is is = is ∙ ap (λ (u : CoreState). with_copy u s) used_is ∙ looked_is c s t ready.there ready.idle
