-- What stands at an xid after a transaction is added or has ended.
use Rattle.std.proofs.Common.{◌≡◌, ◌<◌, ◌≤◌, ◌-◌, ℕ, true, [], ◌∷◌, ◌++◌, Option, Some, None, is_some, slice_get, slice_set, ◌==◌, if◌then◌else◌, refl, sym, ◌∙◌, arith, inl, inr}
use Rattle.std.specs.Option.{option_and_then}
use Rattle.std.proofs.lemmas.Bool.Decides.{nat_tests}
use Rattle.std.proofs.lemmas.Bool.{cases_lt}
use Rattle.std.proofs.lemmas.Option.{slice_get_within, slice_get_past, none-some}
use Rattle.list_facts.proofs.Changed.{get_set_same, get_set_other, get_push_at}
use Rattle.xact_status.proofs.Pushed.{get_push_other}
use Rattle.xact_status.specs.declared.Xact.{Xact}
use Rattle.xact_status.specs.declared.Xact.TheVariants.{Running, Committed, Aborted}
use Rattle.xact_status.specs.Xacts.{Xacts, IsAssigned, xact_at, is_running, next_xid, session_of}

running_of : (o : Option Xact) → is_some (option_and_then session_of o) ≡ true → (xact : Xact) × (session : ℕ) × (o ≡ Some xact) × (session_of xact ≡ Some session)
running_of None runs = absurd (cc)
running_of (Some (Running session)) runs = (Running session, session, refl, refl)
running_of (Some (Committed number)) runs = absurd (cc)
running_of (Some Aborted) runs = absurd (cc)

-- an xid that runs has a transaction that runs for a session
pub running_xact : (xacts : Xacts) (xid : ℕ) → is_running xacts xid ≡ true → (xact : Xact) × (session : ℕ) × (xact_at xacts xid ≡ Some xact) × (session_of xact ≡ Some session)
running_xact xacts xid runs = running_of (xact_at xacts xid) runs

-- xids below the first have no transaction
pub xact_at_low : (xacts : Xacts) (xid : ℕ) → xid < 3 → xact_at xacts xid ≡ None
xact_at_low xacts xid below = grind (arith, nat_tests)

-- from the first on they have theirs in order
pub xact_at_from : (xacts : Xacts) (xid : ℕ) → 3 ≤ xid → xact_at xacts xid ≡ slice_get xacts (xid - 3)
xact_at_from xacts xid from = grind (arith, nat_tests)

-- the xid that comes next has none
pub xact_at_next : (xacts : Xacts) → xact_at xacts (next_xid xacts) ≡ None
xact_at_next xacts = xact_at_from xacts (next_xid xacts) (omega arith) ∙ slice_get_past xacts _ (omega arith)

-- an xid that has a transaction was given
pub assigned_from_xact : (xacts : Xacts) (xid : ℕ) (xact : Xact) → xact_at xacts xid ≡ Some xact → IsAssigned xacts xid
assigned_from_xact xacts xid xact is =
    elim (cases_lt xid 3) [
      | inl below ↦ absurd (none-some xact (sym (xact_at_low xacts xid below) ∙ is))
      | inr from ↦ let within = slice_get_within xacts (xid - 3) xact (sym (xact_at_from xacts xid from) ∙ is) in record { from_first = from; below_next = omega (arith, within) }
    ]

-- an xid that runs was given
pub assigned_from_running : (xacts : Xacts) (xid : ℕ) → is_running xacts xid ≡ true → IsAssigned xacts xid
assigned_from_running xacts xid runs = let found = running_xact xacts xid runs in assigned_from_xact xacts xid found.0 found.2

-- a write at one xid's place leaves what stands at the others
pub xact_at_set : (xacts : Xacts) (xid : ℕ) (xact : Xact) → IsAssigned xacts xid → (other : ℕ) → xact_at (slice_set xacts (xid - 3) xact) other ≡ (if other == xid then Some xact else xact_at xacts other)
xact_at_set xacts xid xact assigned other = grind (arith, nat_tests, get_set_same xacts (xid - 3) xact (omega (arith, assigned.from_first, assigned.below_next)), get_set_other xacts (xid - 3) (other - 3) xact)

-- one more transaction stands at the xid that came next
pub xact_at_push : (xacts : Xacts) (xact : Xact) (other : ℕ) → xact_at (xacts ++ xact ∷ []) other ≡ (if other == next_xid xacts then Some xact else xact_at xacts other)
xact_at_push xacts xact other = grind (arith, nat_tests, get_push_at xacts xact, get_push_other xacts xact (other - 3))
