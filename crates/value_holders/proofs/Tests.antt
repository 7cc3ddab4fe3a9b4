-- What the tests on stamps say, case by case: for whom an inserter and an ender count, and what is protected.
use Rattle.std.proofs.Common.{◌≡◌, ℕ, Bool, true, false, not, ◌&&◌, ◌||◌, ◌⊎◌, Option, Some, None, ◌==◌, refl, sym, ap, ◌∙◌, arith, inl, inr}
use mathlib.Core.Bool.{false≢true}
use Rattle.std.specs.Option.{option_map_or}
use Rattle.std.proofs.lemmas.Bool.Decides.{nat_tests}
use Rattle.xact_status.specs.Xacts.{Xacts, is_running, is_committed}
use Rattle.xact_status.proofs.Events.{running_is_uncommitted}
use Rattle.snapshot_registry.specs.Snapshots.{Snaps, seen_by_any, is_protected}
use Rattle.xact_status.specs.declared.Stamp.{Stamp}
use Rattle.xact_status.specs.Versions.{counts_for, is_current}
use Rattle.value_holders.specs.Stamps.{Runs, IsUnended, has_ended}

-- tests
pub or_cases : (a b : Bool) → (a || b) ≡ true → (a ≡ true) ⊎ (b ≡ true)
or_cases true b e = inl refl
or_cases false b e = inr e

pub or_left : (a b : Bool) → a ≡ true → (a || b) ≡ true
or_left true b e = refl
or_left false b e = absurd (false≢true e)

pub or_right : (a b : Bool) → b ≡ true → (a || b) ≡ true
or_right true b e = refl
or_right false b e = e

pub and_parts : (a b : Bool) → (a && b) ≡ true → (a ≡ true) × (b ≡ true)
and_parts true b e = (refl, e)
and_parts false b e = absurd (false≢true e)

pub and_both : (a b : Bool) → a ≡ true → b ≡ true → (a && b) ≡ true
and_both true b e h = h
and_both false b e h = e

pub fails : (b : Bool) → not b ≡ true → b ≡ false
fails true e = absurd (false≢true e)
fails false e = refl

pub not_true : (b : Bool) → (b ≡ true → ⊥) → b ≡ false
not_true true h = absurd (h refl)
not_true false h = refl

pub test : (b : Bool) → (b ≡ true) ⊎ (b ≡ false)
test true = inl refl
test false = inr refl

-- a test cannot both pass and fail
pub clash : (b : Bool) → b ≡ true → b ≡ false → ⊥
clash b passes fails = false≢true (sym fails ∙ passes)

same_number : (n : ℕ) → (n == n) ≡ true
same_number n = grind (arith, nat_tests)

equal : (m n : ℕ) → (m == n) ≡ true → m ≡ n
equal m n e = grind (arith, nat_tests, e)

-- a transaction that runs has not committed
pub runs_uncommitted : (xacts : Xacts) (xid : ℕ) → is_running xacts xid ≡ true → is_committed xacts xid ≡ true → ⊥
runs_uncommitted xacts xid runs committed = clash (is_committed xacts xid) committed (running_is_uncommitted xacts xid runs)

-- what counts for a transaction is its own or has committed
pub counts_cases : (xacts : Xacts) (xid other : ℕ) → counts_for xacts (Some xid) other ≡ true → (xid ≡ other) ⊎ (is_committed xacts other ≡ true)
counts_cases xacts xid other counts = elim (or_cases (xid == other) (is_committed xacts other) counts) [
  | inl same ↦ inl (equal xid other same)
  | inr committed ↦ inr committed
]

pub counts_own : (xacts : Xacts) (xid : ℕ) → counts_for xacts (Some xid) xid ≡ true
counts_own xacts xid = or_left (xid == xid) (is_committed xacts xid) (same_number xid)

pub counts_committed : (xacts : Xacts) (own : Option ℕ) (xid : ℕ) → is_committed xacts xid ≡ true → counts_for xacts own xid ≡ true
counts_committed xacts own xid committed = or_right (option_map_or (λ mine. mine == xid) own false) (is_committed xacts xid) committed

-- of xids that run, a transaction's own alone counts for it
pub counts_running : (xacts : Xacts) (own : Option ℕ) (xid : ℕ) → is_running xacts xid ≡ true → counts_for xacts own xid ≡ true → own ≡ Some xid
counts_running xacts None xid runs counts = absurd (runs_uncommitted xacts xid runs counts)
counts_running xacts (Some mine) xid runs counts = elim (counts_cases xacts mine xid counts) [
  | inl same ↦ ap Some same
  | inr committed ↦ absurd (runs_uncommitted xacts xid runs committed)
]

-- an end that counts has an ender that counts
pub ended_by_whom : (xacts : Xacts) (own : Option ℕ) (stamp : Stamp) → has_ended xacts own stamp ≡ true → (ender : ℕ) × (stamp.ender ≡ Some ender) × (counts_for xacts own ender ≡ true)
ended_by_whom xacts own stamp ended = of_ender stamp.ender ended
  where
    of_ender : (o : Option ℕ) → option_map_or (counts_for xacts own) o false ≡ true → (ender : ℕ) × (o ≡ Some ender) × (counts_for xacts own ender ≡ true)
    of_ender None e = absurd (false≢true e)
    of_ender (Some ender) e = (ender, refl, e)

pub ended_from : (xacts : Xacts) (own : Option ℕ) (stamp : Stamp) (ender : ℕ) → stamp.ender ≡ Some ender → counts_for xacts own ender ≡ true → has_ended xacts own stamp ≡ true
ended_from xacts own stamp ender is counts = ap (λ o. option_map_or (counts_for xacts own) o false) is ∙ counts

-- an end by what has committed counts for all
pub ended_for_all : (xacts : Xacts) (own : Option ℕ) (stamp : Stamp) → has_ended xacts None stamp ≡ true → has_ended xacts own stamp ≡ true
ended_for_all xacts own stamp ended =
    let by = ended_by_whom xacts None stamp ended in
    ended_from xacts own stamp by.0 by.1 (counts_committed xacts own by.0 by.2)

-- where no ender runs or has committed the end counts for none that runs
pub unended_for : (xacts : Xacts) (own : Option ℕ) (stamp : Stamp) → Runs xacts own → IsUnended xacts stamp.ender → has_ended xacts own stamp ≡ true → ⊥
unended_for xacts None stamp runs unended ended =
    let by = ended_by_whom xacts None stamp ended in
    clash (is_committed xacts by.0) by.2 (unended.not_ended by.0 by.1)
unended_for xacts (Some xid) stamp runs unended ended =
    let by = ended_by_whom xacts (Some xid) stamp ended in
    elim (counts_cases xacts xid by.0 by.2) [
      | inl same ↦ clash (is_running xacts by.0) (ap (is_running xacts) (sym same) ∙ runs) (unended.not_ending by.0 by.1)
      | inr committed ↦ clash (is_committed xacts by.0) committed (unended.not_ended by.0 by.1)
    ]

-- what is there has an inserter that counts, and no end that does
pub current_parts : (xacts : Xacts) (own : Option ℕ) (stamp : Stamp) → is_current xacts own stamp ≡ true → (counts_for xacts own stamp.inserter ≡ true) × (has_ended xacts own stamp ≡ false)
current_parts xacts own stamp current =
    let parts = and_parts (counts_for xacts own stamp.inserter) (not (has_ended xacts own stamp)) current in
    (parts.0, fails (has_ended xacts own stamp) parts.1)

pub current_from : (xacts : Xacts) (own : Option ℕ) (stamp : Stamp) → counts_for xacts own stamp.inserter ≡ true → has_ended xacts own stamp ≡ false → is_current xacts own stamp ≡ true
current_from xacts own stamp inserted unended = and_both (counts_for xacts own stamp.inserter) (not (has_ended xacts own stamp)) inserted (ap not unended)

-- the inserter of what is protected runs or has committed
pub protected_inserter : (xacts : Xacts) (snaps : Snaps) (inserter : ℕ) (ender : Option ℕ) → is_protected xacts snaps inserter ender ≡ true → (is_running xacts inserter ≡ true) ⊎ (is_committed xacts inserter ≡ true)
protected_inserter xacts snaps inserter ender protected =
    let kept = not (option_map_or (is_committed xacts) ender false) || seen_by_any xacts snaps inserter ender in
    elim (or_cases (is_running xacts inserter) (is_committed xacts inserter && kept) protected) [
      | inl runs ↦ inl runs
      | inr committed ↦ inr (and_parts (is_committed xacts inserter) kept committed).0
    ]

pub protected_running : (xacts : Xacts) (snaps : Snaps) (inserter : ℕ) (ender : Option ℕ) → is_running xacts inserter ≡ true → is_protected xacts snaps inserter ender ≡ true
protected_running xacts snaps inserter ender runs = or_left (is_running xacts inserter) (is_committed xacts inserter && (not (option_map_or (is_committed xacts) ender false) || seen_by_any xacts snaps inserter ender)) runs

pub protected_unended : (xacts : Xacts) (snaps : Snaps) (inserter : ℕ) (ender : Option ℕ) → is_committed xacts inserter ≡ true → option_map_or (is_committed xacts) ender false ≡ false → is_protected xacts snaps inserter ender ≡ true
protected_unended xacts snaps inserter ender committed unended =
    let whole = not (option_map_or (is_committed xacts) ender false) in
    or_right (is_running xacts inserter) (is_committed xacts inserter && (whole || seen_by_any xacts snaps inserter ender)) (and_both (is_committed xacts inserter) (whole || seen_by_any xacts snaps inserter ender) committed (or_left whole (seen_by_any xacts snaps inserter ender) (ap not unended)))

pub protected_seen : (xacts : Xacts) (snaps : Snaps) (inserter : ℕ) (ender : Option ℕ) → is_committed xacts inserter ≡ true → seen_by_any xacts snaps inserter ender ≡ true → is_protected xacts snaps inserter ender ≡ true
protected_seen xacts snaps inserter ender committed seen =
    let whole = not (option_map_or (is_committed xacts) ender false) in
    or_right (is_running xacts inserter) (is_committed xacts inserter && (whole || seen_by_any xacts snaps inserter ender)) (and_both (is_committed xacts inserter) (whole || seen_by_any xacts snaps inserter ender) committed (or_right whole (seen_by_any xacts snaps inserter ender) seen))

-- what is there for a transaction that runs, or for none, is protected
pub current_is_protected : (xacts : Xacts) (snaps : Snaps) (own : Option ℕ) (stamp : Stamp) → Runs xacts own → is_current xacts own stamp ≡ true → is_protected xacts snaps stamp.inserter stamp.ender ≡ true
current_is_protected xacts snaps None stamp runs current =
    let parts = current_parts xacts None stamp current in
    protected_unended xacts snaps stamp.inserter stamp.ender parts.0 parts.1
current_is_protected xacts snaps (Some xid) stamp runs current =
    let parts = current_parts xacts (Some xid) stamp current in
    elim (counts_cases xacts xid stamp.inserter parts.0) [
      | inl same ↦ protected_running xacts snaps stamp.inserter stamp.ender (ap (is_running xacts) (sym same) ∙ runs)
      | inr committed ↦ protected_unended xacts snaps stamp.inserter stamp.ender committed
          (not_true (has_ended xacts None stamp) (λ ended. clash (has_ended xacts (Some xid) stamp) (ended_for_all xacts (Some xid) stamp ended) parts.1))
    ]
