-- The tests of the worlds: which xids count in each, before and after transactions start and end and snapshots are taken and given up.
use Rattle.std.proofs.Common.{ℕ, ◌≡◌, ◌≢◌, ◌<◌, ◌≤◌, ◌⊎◌, inl, inr, Bool, true, false, not, ◌&&◌, ◌||◌, ◌==◌, cond, nat_lt, Option, Some, None, is_some, refl, sym, ap, ◌∙◌, arith}
use Rattle.std.specs.Option.{option_and_then, option_map_or}
use Rattle.std.proofs.lemmas.Bool.{cases_eq}
use Rattle.std.proofs.lemmas.Bool.Decides.{nat_tests}
use Rattle.xact_status.specs.declared.Xact.{Xact}
use Rattle.xact_status.specs.declared.Xact.TheVariants.{Running, Committed, Aborted}
use Rattle.xact_status.specs.Xacts.{Xacts, xact_at, session_of, has_aborted, next_xid, is_running, is_committed, is_aborted, running_xids, after_assign, after_commit, after_abort}
use Rattle.xact_status.specs.Versions.{is_dead, is_there, counts_for}
use Rattle.xact_status.proofs.Events.{committed_assign, committed_commit, committed_abort, committed_is_over, running_is_uncommitted, aborted_is_uncommitted, assigned_from_committed}
use Rattle.xact_status.proofs.RunningLists.{running_holds}
use Rattle.snapshot_registry.specs.declared.Snapshot.{Snapshot}
use Rattle.snapshot_registry.specs.declared.Held.{Held}
use Rattle.snapshot_registry.specs.Snapshots.{Snaps, holds, snapshot_now, committed_in, takes_effect, held_at, horizon}
use Rattle.snapshot_registry.specs.Laws.{IsRegistryOf}
use Rattle.snapshot_registry.proofs.Unseen.{shown_below_xmin}
use Rattle.snapshot_registry.proofs.Horizons.{horizon_below_xmin}
use Rattle.snapshot_registry.proofs.Moments.{stays_assign, stays_commit, stays_abort}
use Rattle.value_holders.specs.Stamps.{IsUnended, Runs}
use Rattle.table_rows.specs.Worlds.{World, Latest, Own, Shown, counts_in, IsWorld}

-- ---- one xid

-- what a snapshot shows as committed has committed
pub not_shown : (xacts : Xacts) (snapshot : Snapshot) (xid : ℕ) → is_committed xacts xid ≡ false → committed_in xacts snapshot xid ≡ false
not_shown xacts snapshot xid off = ap (λ c. c && (nat_lt xid snapshot.xmax && not (holds snapshot.running xid))) off

-- a snapshot that is taken now shows what has committed
pub shown_now : (xacts : Xacts) (xid : ℕ) → committed_in xacts (snapshot_now xacts) xid ≡ is_committed xacts xid
shown_now xacts xid = by_test (is_committed xacts xid) refl
  where
    shown : (h : Bool) (m n : ℕ) → h ≡ false → m < n → (nat_lt m n && not h) ≡ true
    shown h m n over lt = grind (arith, nat_tests, over)

    by_test : (b : Bool) → is_committed xacts xid ≡ b → committed_in xacts (snapshot_now xacts) xid ≡ is_committed xacts xid
    by_test true is = ap (λ c. c && (nat_lt xid (next_xid xacts) && not (holds (running_xids xacts) xid))) is ∙ shown (holds (running_xids xacts) xid) xid (next_xid xacts) (running_holds xacts xid ∙ committed_is_over xacts xid is) (assigned_from_committed xacts xid is).below_next ∙ sym is
    by_test false is = not_shown xacts (snapshot_now xacts) xid is ∙ sym is

-- a test of an own xid tells of it, and of any other as if there were none
pub own_counts : (x : ℕ) (b : Bool) → ((x == x) || b) ≡ true
own_counts x b = grind (arith, nat_tests)

pub other_counts : (x z : ℕ) (b : Bool) → z ≢ x → ((x == z) || b) ≡ b
other_counts x z b other = grind (arith, nat_tests)

-- ---- a running xid counts in its own world alone

pub counts_running : (xacts : Xacts) (snaps : Snaps) (x : ℕ) (w : World) → is_running xacts x ≡ true → (counts_in xacts snaps w x ≡ false) ⊎ (w ≡ Own x)
counts_running xacts snaps x Latest runs = inl (running_is_uncommitted xacts x runs)
counts_running xacts snaps x (Own y) runs = elim (cases_eq x y) [
  | inl same ↦ inr (ap Own (sym same))
  | inr other ↦ inl (other_counts y x (is_committed xacts x) other ∙ running_is_uncommitted xacts x runs)
]
counts_running xacts snaps x (Shown id) runs = inl (by_held (held_at snaps id))
  where
    by_held : (o : Option Held) → option_map_or (λ held. committed_in xacts held.snapshot x) o false ≡ false
    by_held None = refl
    by_held (Some held) = not_shown xacts held.snapshot x (running_is_uncommitted xacts x runs)

runs_not : (b : Bool) → b ≡ true → b ≡ false → ⊥
runs_not true e f = cc
runs_not false e f = cc

-- an xid that neither runs nor has committed counts in none
pub counts_over : (xacts : Xacts) (snaps : Snaps) (z : ℕ) (w : World) → IsWorld xacts w → is_running xacts z ≡ false → is_committed xacts z ≡ false → counts_in xacts snaps w z ≡ false
counts_over xacts snaps z Latest there over off = off
counts_over xacts snaps z (Own y) there over off = elim (cases_eq z y) [
  | inl same ↦ absurd (runs_not (is_running xacts z) (ap (is_running xacts) same ∙ there) over)
  | inr other ↦ other_counts y z (is_committed xacts z) other ∙ off
]
counts_over xacts snaps z (Shown id) there over off = by_held (held_at snaps id)
  where
    by_held : (o : Option Held) → option_map_or (λ held. committed_in xacts held.snapshot z) o false ≡ false
    by_held None = refl
    by_held (Some held) = not_shown xacts held.snapshot z off

-- so an end that was not made, or has aborted, counts in none
pub unended_out : (xacts : Xacts) (snaps : Snaps) (w : World) (ender : Option ℕ) → IsWorld xacts w → IsUnended xacts ender → option_map_or (counts_in xacts snaps w) ender false ≡ false
unended_out xacts snaps w None there unended = refl
unended_out xacts snaps w (Some e) there unended = counts_over xacts snaps e w there (unended.not_ending e refl) (unended.not_ended e refl)

-- ---- a transaction starts

pub latest_assigned : (xacts : Xacts) (session z : ℕ) → is_committed (after_assign xacts session) z ≡ is_committed xacts z
latest_assigned xacts session z = committed_assign xacts session z

pub own_assigned : (xacts : Xacts) (session y z : ℕ) → counts_for (after_assign xacts session) (Some y) z ≡ counts_for xacts (Some y) z
own_assigned xacts session y z = ap (λ c. (y == z) || c) (committed_assign xacts session z)

pub shown_assigned : (xacts : Xacts) (snaps : Snaps) (session id z : ℕ) → counts_in (after_assign xacts session) snaps (Shown id) z ≡ counts_in xacts snaps (Shown id) z
shown_assigned xacts snaps session id z = by_held (held_at snaps id)
  where
    by_held : (o : Option Held) → option_map_or (λ held. committed_in (after_assign xacts session) held.snapshot z) o false ≡ option_map_or (λ held. committed_in xacts held.snapshot z) o false
    by_held None = refl
    by_held (Some held) = stays_assign xacts held.snapshot session z

-- ---- one commits

-- what has committed then counted for it before
pub latest_committed : (xacts : Xacts) (x z : ℕ) → is_running xacts x ≡ true → is_committed (after_commit xacts x) z ≡ counts_for xacts (Some x) z
latest_committed xacts x z runs = committed_commit xacts x runs z ∙ turned x z (is_committed xacts z)
  where
    turned : (m n : ℕ) (b : Bool) → cond (n == m) true b ≡ ((m == n) || b)
    turned m n b = elim (cases_eq n m) [ inl same ↦ grind (arith, nat_tests) | inr other ↦ grind (arith, nat_tests) ]

-- what counts for another then counted for it or for the other before
pub own_committed : (xacts : Xacts) (x y z : ℕ) → is_running xacts x ≡ true → counts_for (after_commit xacts x) (Some y) z ≡ ((x == z) || counts_for xacts (Some y) z)
own_committed xacts x y z runs = ap (λ c. (y == z) || c) (latest_committed xacts x z runs) ∙ turned (y == z) (x == z) (is_committed xacts z)
  where
    turned : (a b c : Bool) → (a || (b || c)) ≡ (b || (a || c))
    turned true true c = refl
    turned true false c = refl
    turned false true c = refl
    turned false false c = refl

pub shown_committed : (xacts : Xacts) (snaps : Snaps) (x id z : ℕ) → is_running xacts x ≡ true → IsRegistryOf xacts snaps → counts_in (after_commit xacts x) snaps (Shown id) z ≡ counts_in xacts snaps (Shown id) z
shown_committed xacts snaps x id z runs registry = by_held (held_at snaps id) refl
  where
    by_held : (o : Option Held) → held_at snaps id ≡ o → option_map_or (λ held. committed_in (after_commit xacts x) held.snapshot z) o false ≡ option_map_or (λ held. committed_in xacts held.snapshot z) o false
    by_held None is = refl
    by_held (Some held) is = stays_commit xacts held.snapshot x z runs (registry.each id held is)

-- ---- one aborts

pub own_aborted : (xacts : Xacts) (x y z : ℕ) → is_running xacts x ≡ true → counts_for (after_abort xacts x) (Some y) z ≡ counts_for xacts (Some y) z
own_aborted xacts x y z runs = ap (λ c. (y == z) || c) (committed_abort xacts x runs z)

pub shown_aborted : (xacts : Xacts) (snaps : Snaps) (x id z : ℕ) → is_running xacts x ≡ true → counts_in (after_abort xacts x) snaps (Shown id) z ≡ counts_in xacts snaps (Shown id) z
shown_aborted xacts snaps x id z runs = by_held (held_at snaps id)
  where
    by_held : (o : Option Held) → option_map_or (λ held. committed_in (after_abort xacts x) held.snapshot z) o false ≡ option_map_or (λ held. committed_in xacts held.snapshot z) o false
    by_held None = refl
    by_held (Some held) = stays_abort xacts held.snapshot x z runs

-- ---- what is dead under the horizon, or an earlier one, is in no world

or_parts : (a b : Bool) → (a || b) ≡ true → (a ≡ true) ⊎ (b ≡ true)
or_parts true b e = inl refl
or_parts false b e = inr e

no_inserter : (a b : Bool) → a ≡ false → (a && b) ≡ false
no_inserter true b e = absurd (cc)
no_inserter false b e = refl

an_ender : (a b : Bool) → b ≡ true → (a && not b) ≡ false
an_ender true true e = refl
an_ender true false e = absurd (cc)
an_ender false b e = refl

dead_by : (xacts : Xacts) (counts : ℕ → Bool) (bound inserter : ℕ) (ender : Option ℕ) → (is_aborted xacts inserter ≡ true → counts inserter ≡ false) → ((z : ℕ) → is_committed xacts z ≡ true → z < bound → counts z ≡ true) → is_dead xacts bound inserter ender ≡ true → is_there counts inserter ender ≡ false
dead_by xacts counts bound inserter ender aborted committed dead = elim (or_parts (is_aborted xacts inserter) (option_map_or (λ xid. is_committed xacts xid && nat_lt xid bound) ender false) dead) [
  | inl gone ↦ no_inserter (counts inserter) (not (option_map_or counts ender false)) (aborted gone)
  | inr over ↦ by_ender ender over
]
  where
    and_parts : (a : Bool) (m n : ℕ) → (a && nat_lt m n) ≡ true → (a ≡ true) × (m < n)
    and_parts a m n e = grind (arith, nat_tests, e)

    by_ender : (o : Option ℕ) → option_map_or (λ xid. is_committed xacts xid && nat_lt xid bound) o false ≡ true → is_there counts inserter o ≡ false
    by_ender None e = absurd (cc)
    by_ender (Some e') e = let parts = and_parts (is_committed xacts e') e' bound e in an_ender (counts inserter) (counts e') (committed e' parts.0 parts.1)

pub aborted_is_over : (xacts : Xacts) (xid : ℕ) → is_aborted xacts xid ≡ true → is_running xacts xid ≡ false
aborted_is_over xacts xid aborted = of_xact (xact_at xacts xid) aborted
  where
    of_xact : (o : Option Xact) → option_map_or has_aborted o false ≡ true → is_some (option_and_then session_of o) ≡ false
    of_xact None e = refl
    of_xact (Some (Running session)) e = absurd (cc)
    of_xact (Some (Committed number)) e = refl
    of_xact (Some Aborted) e = refl

-- a committed xid below the bound counts in each world that has a snapshot or a transaction
committed_below : (xacts : Xacts) (snaps : Snaps) (bound z : ℕ) (id : ℕ) (held : Held) → IsRegistryOf xacts snaps → bound ≤ horizon xacts snaps → held_at snaps id ≡ Some held → is_committed xacts z ≡ true → z < bound → committed_in xacts held.snapshot z ≡ true
committed_below xacts snaps bound z id held registry le is committed lt = shown_below_xmin xacts held.snapshot z (registry.each id held is) (omega (arith, lt, le, horizon_below_xmin xacts snaps id held is)) committed

either : (a b : Bool) → b ≡ true → (a || b) ≡ true
either true b e = refl
either false b e = e

pub dead_out : (xacts : Xacts) (snaps : Snaps) (bound : ℕ) (w : World) (inserter : ℕ) (ender : Option ℕ) → IsRegistryOf xacts snaps → bound ≤ horizon xacts snaps → IsWorld xacts w → is_dead xacts bound inserter ender ≡ true → is_there (counts_in xacts snaps w) inserter ender ≡ false
dead_out xacts snaps bound Latest inserter ender registry le there dead = dead_by xacts (is_committed xacts) bound inserter ender (λ aborted. aborted_is_uncommitted xacts inserter aborted) (λ z committed lt. committed) dead
dead_out xacts snaps bound (Own y) inserter ender registry le there dead = dead_by xacts (counts_for xacts (Some y)) bound inserter ender
    (λ aborted. counts_over xacts snaps inserter (Own y) there (aborted_is_over xacts inserter aborted) (aborted_is_uncommitted xacts inserter aborted))
    (λ z committed lt. either (y == z) (is_committed xacts z) committed) dead
dead_out xacts snaps bound (Shown id) inserter ender registry le there dead = by_held (held_at snaps id) refl
  where
    by_held : (o : Option Held) → held_at snaps id ≡ o → is_there (λ z. option_map_or (λ held. committed_in xacts held.snapshot z) o false) inserter ender ≡ false
    by_held None is = refl
    by_held (Some held) is = dead_by xacts (committed_in xacts held.snapshot) bound inserter ender (λ aborted. not_shown xacts held.snapshot inserter (aborted_is_uncommitted xacts inserter aborted)) (λ z committed lt. committed_below xacts snaps bound z id held registry le is committed lt) dead

-- nor is it in the view of a reader with a snapshot and a running xid of its own
pub dead_unviewed : (xacts : Xacts) (snaps : Snaps) (bound id : ℕ) (held : Held) (own : Option ℕ) (inserter : ℕ) (ender : Option ℕ) → IsRegistryOf xacts snaps → bound ≤ horizon xacts snaps → held_at snaps id ≡ Some held → Runs xacts own → is_dead xacts bound inserter ender ≡ true → is_there (takes_effect xacts held.snapshot own) inserter ender ≡ false
dead_unviewed xacts snaps bound id held None inserter ender registry le is runs dead = dead_by xacts (committed_in xacts held.snapshot) bound inserter ender (λ aborted. not_shown xacts held.snapshot inserter (aborted_is_uncommitted xacts inserter aborted)) (λ z committed lt. committed_below xacts snaps bound z id held registry le is committed lt) dead
dead_unviewed xacts snaps bound id held (Some x) inserter ender registry le is runs dead = dead_by xacts (takes_effect xacts held.snapshot (Some x)) bound inserter ender
    (λ aborted. other_counts x inserter (committed_in xacts held.snapshot inserter) (λ same. runs_not (is_running xacts inserter) (ap (is_running xacts) same ∙ runs) (aborted_is_over xacts inserter aborted)) ∙ not_shown xacts held.snapshot inserter (aborted_is_uncommitted xacts inserter aborted))
    (λ z committed lt. either (x == z) (committed_in xacts held.snapshot z) (committed_below xacts snaps bound z id held registry le is committed lt)) dead
