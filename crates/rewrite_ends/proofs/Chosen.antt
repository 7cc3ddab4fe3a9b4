-- Where no running transaction has put or ended a version, it is copied exactly where it must be kept.
use Rattle.std.proofs.Common.{ℕ, ◌≡◌, ◌-◌, ◌⊎◌, inl, inr, Bool, true, false, not, ◌||◌, ◌&&◌, Option, Some, None, is_some, option_and_then, refl, sym, ap, ◌∙◌, arith}
use Rattle.std.specs.Option.{option_map_or}
use Rattle.std.proofs.lemmas.Option.{slice_get_cases}
use Rattle.xact_status.specs.declared.Xact.{Xact}
use Rattle.xact_status.specs.declared.Xact.TheVariants.{Running, Committed, Aborted}
use Rattle.xact_status.specs.Xacts.{Xacts, has_aborted, is_aborted, is_committed, is_running, number_of, session_of, xact_at}
use Rattle.xact_status.specs.Versions.{is_live}
use Rattle.xact_status.proofs.Events.{aborted_is_uncommitted}
use Rattle.xact_status.proofs.Places.{xact_at_from}
use Rattle.snapshot_registry.specs.Snapshots.{Snaps, is_protected, seen_by_any, sees}
use Rattle.row_versions.specs.declared.version.Version.{Version}
use Rattle.value_holders.proofs.Tests.{and_parts, clash, or_cases, or_left, or_right, protected_inserter, protected_seen, protected_unended, test}
use Rattle.rewrite_facts.specs.Copies.{is_chosen}
use Rattle.rewrite_facts.proofs.Inserted.{seen_committed}
use Rattle.rewrite_ends.specs.Quiet.{IsOver}

-- a transaction that is over has committed or aborted
pub over_is : (xacts : Xacts) (xid : ℕ) → IsOver xacts xid → (is_committed xacts xid ≡ true) ⊎ (is_aborted xacts xid ≡ true)
over_is xacts xid over = elim (slice_get_cases xacts (xid - 3)).1 [
  | inl some ↦ by_xact some.0 (xact_at_from xacts xid over.given.from_first ∙ some.2)
  | inr none ↦ absurd (omega (arith, none.0, over.given.from_first, over.given.below_next))
]
  where
    by_xact : (xact : Xact) → xact_at xacts xid ≡ Some xact → (is_committed xacts xid ≡ true) ⊎ (is_aborted xacts xid ≡ true)
    by_xact (Running session) is = absurd (clash (is_running xacts xid) (ap (λ o. is_some (option_and_then session_of o)) is) over.ended)
    by_xact (Committed number) is = inl (ap (λ o. is_some (option_and_then number_of o)) is)
    by_xact Aborted is = inr (ap (λ o. option_map_or has_aborted o false) is)

-- what is live has an inserter that has committed, and no ender that has
live_unended : (xacts : Xacts) (ender : Option ℕ) → option_map_or (is_aborted xacts) ender true ≡ true → option_map_or (is_committed xacts) ender false ≡ false
live_unended xacts None live = refl
live_unended xacts (Some xid) live = aborted_is_uncommitted xacts xid live

-- what is copied must be kept
pub chosen_protected : (xacts : Xacts) (snaps : Snaps) (version : Version) → is_chosen xacts snaps version ≡ true → is_protected xacts snaps version.inserter version.ender ≡ true
chosen_protected xacts snaps version chosen = elim (or_cases (is_live xacts version.inserter version.ender) (seen_by_any xacts snaps version.inserter version.ender) chosen) [
  | inl live ↦ let both = and_parts (is_committed xacts version.inserter) (option_map_or (is_aborted xacts) version.ender true) live in protected_unended xacts snaps version.inserter version.ender both.0 (live_unended xacts version.ender both.1)
  | inr seen ↦ protected_seen xacts snaps version.inserter version.ender (seen_committed xacts snaps version.inserter version.ender seen) seen
]

-- the transactions that a version names are over
pub record IsQuiet (xacts : Xacts) (version : Version) : Type 0 where
  pub inserter : IsOver xacts version.inserter
  pub ender : (xid : ℕ) → version.ender ≡ Some xid → IsOver xacts xid

-- and what must be kept is copied, where no transaction that runs has put or ended it
pub protected_chosen : (xacts : Xacts) (snaps : Snaps) (version : Version) → IsQuiet xacts version → is_protected xacts snaps version.inserter version.ender ≡ true → is_chosen xacts snaps version ≡ true
protected_chosen xacts snaps version quiet protected =
    let lives = is_live xacts version.inserter version.ender in
    let seen = seen_by_any xacts snaps version.inserter version.ender in
    elim (test seen) [
      | inl sees ↦ or_right lives seen sees
      | inr unseen ↦ or_left lives seen (live (is_committed xacts version.inserter) (option_map_or (is_committed xacts) version.ender false) (option_map_or (is_aborted xacts) version.ender true) seen inserted unseen (by_ender version.ender quiet.ender) kept)
    ]
  where
    inserted : is_committed xacts version.inserter ≡ true
    inserted = elim (protected_inserter xacts snaps version.inserter version.ender protected) [
      | inl runs ↦ absurd (clash (is_running xacts version.inserter) runs quiet.inserter.ended)
      | inr committed ↦ committed
    ]

    kept : (false || (is_committed xacts version.inserter && (not (option_map_or (is_committed xacts) version.ender false) || seen_by_any xacts snaps version.inserter version.ender))) ≡ true
    kept = ap (λ b. b || (is_committed xacts version.inserter && (not (option_map_or (is_committed xacts) version.ender false) || seen_by_any xacts snaps version.inserter version.ender))) (sym quiet.inserter.ended) ∙ protected

    by_ender : (o : Option ℕ) → ((xid : ℕ) → o ≡ Some xid → IsOver xacts xid) → option_map_or (is_committed xacts) o false ≡ false → option_map_or (is_aborted xacts) o true ≡ true
    by_ender None over unended = refl
    by_ender (Some xid) over unended = elim (over_is xacts xid (over xid refl)) [
      | inl committed ↦ absurd (clash (is_committed xacts xid) committed unended)
      | inr aborted ↦ aborted
    ]

    live : (committed ended aborted visible : Bool) → committed ≡ true → visible ≡ false → (ended ≡ false → aborted ≡ true) → (false || (committed && (not ended || visible))) ≡ true → (committed && aborted) ≡ true
    live true true aborted visible sure hidden by is = absurd (clash visible is hidden)
    live true false aborted visible sure hidden by is = by refl
    live false ended aborted visible sure hidden by is = absurd (cc)
