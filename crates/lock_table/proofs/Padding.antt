-- The places up to a session's own.
use Rattle.std.proofs.Common.{◌≡◌, ℕ, ◌+◌, ◌-◌, ◌≤◌, List, [], ◌∷◌, ◌++◌, ap, arith}
use Rattle.std.specs.Prelude.{replicate}
use Rattle.std.proofs.lemmas.List.{replicate_more}
use Rattle.lock_table.specs.declared.held.SessionLocks.{SessionLocks}
use Rattle.lock_table.specs.Held.{nothing}

-- one place more at which nothing is held
pub padded_more : (place n : ℕ) (more after : List SessionLocks) (new : SessionLocks) → n ≤ place → more ≡ replicate (place - n) nothing → new ≡ nothing → after ≡ more ++ new ∷ [] → after ≡ replicate (place + 1 - n) nothing
padded_more place n more after new below so_far empty is = rw (is, so_far, empty, replicate_more (place - n) nothing) (ap (λ m. replicate m nothing) (omega arith))
