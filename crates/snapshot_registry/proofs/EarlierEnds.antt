-- What was ended by a commit below the horizon, or by an earlier commit, is unseen.
use Rattle.std.proofs.Common.{◌≡◌, ◌<◌, ◌≤◌, ℕ, true, false, not, Option, Some, None, is_some, nat_le, refl, sym, ap, ◌∙◌, arith, inr}
use Rattle.std.specs.Option.{option_map_or}
use Rattle.std.proofs.lemmas.Bool.Decides.{nat_tests}
use Rattle.xact_status.specs.Xacts.{Xacts, is_running, is_committed, commit_number}
use Rattle.snapshot_registry.specs.declared.Snapshot.{Snapshot}
use Rattle.snapshot_registry.specs.Snapshots.{Snaps, committed_in, sees, seen_by_any, horizon, is_protected}
use Rattle.snapshot_registry.specs.Laws.{is_committed_by, IsTakenFrom, IsRegistryOf, EarlierEndsAreUnseen}
use Rattle.snapshot_registry.proofs.Entries.{no_snapshot_passes}
use Rattle.snapshot_registry.proofs.Horizons.{horizon_below_xmin}
use Rattle.snapshot_registry.proofs.Unseen.{ended_unseen, shown_below_xmin, neither}

-- what has committed by a number has that number at most, and has committed
pub number_at_most : (xacts : Xacts) (bound xid number : ℕ) → commit_number xacts xid ≡ Some number → is_committed_by xacts bound xid ≡ true → number ≤ bound
number_at_most xacts bound xid number is by = of_test number bound (sym (ap (λ o. option_map_or (λ its. nat_le its bound) o false) is) ∙ by)
  where
    of_test : (m n : ℕ) → nat_le m n ≡ true → m ≤ n
    of_test m n e = grind (arith, nat_tests, e)

pub committed_by_number : (xacts : Xacts) (bound xid : ℕ) → is_committed_by xacts bound xid ≡ true → is_committed xacts xid ≡ true
committed_by_number xacts bound xid by = of_number (commit_number xacts xid) by
  where
    of_number : (o : Option ℕ) → option_map_or (λ its. nat_le its bound) o false ≡ true → is_some o ≡ true
    of_number None e = absurd (cc)
    of_number (Some its) e = refl

-- and by each later one
pub committed_by_later : (xacts : Xacts) (number bound xid : ℕ) → number ≤ bound → is_committed_by xacts number xid ≡ true → is_committed_by xacts bound xid ≡ true
committed_by_later xacts number bound xid le by = of_number (commit_number xacts xid) by
  where
    later : (its m n : ℕ) → m ≤ n → nat_le its m ≡ true → nat_le its n ≡ true
    later its m n h e = grind (arith, nat_tests, e)

    of_number : (o : Option ℕ) → option_map_or (λ its. nat_le its number) o false ≡ true → option_map_or (λ its. nat_le its bound) o false ≡ true
    of_number None e = absurd (cc)
    of_number (Some its) e = later its number bound le e

-- a snapshot that shows a commit shows each earlier one
pub earlier_shown : (xacts : Xacts) (snapshot : Snapshot) (xid number ender : ℕ) → IsTakenFrom xacts snapshot → committed_in xacts snapshot xid ≡ true → commit_number xacts xid ≡ Some number → is_committed_by xacts number ender ≡ true → committed_in xacts snapshot ender ≡ true
earlier_shown xacts snapshot xid number ender taken shown is by =
    let le : number ≤ taken.number = number_at_most xacts taken.number xid number is (sym (taken.moment.shows xid) ∙ shown) in
    taken.moment.shows ender ∙ committed_by_later xacts number taken.number ender le by

pub earlier_unseen : (xacts : Xacts) (snaps : Snaps) (bound xid number inserter ender : ℕ) → IsRegistryOf xacts snaps → bound ≤ horizon xacts snaps → xid < bound → commit_number xacts xid ≡ Some number → is_committed_by xacts number ender ≡ true → seen_by_any xacts snaps inserter (Some ender) ≡ false
earlier_unseen xacts snaps bound xid number inserter ender registry le lt is by = no_snapshot_passes (λ s. sees xacts s inserter (Some ender) None) snaps (λ id held at.
    let below : xid < held.snapshot.xmin = omega (arith, lt, le, horizon_below_xmin xacts snaps id held at) in
    let shown = shown_below_xmin xacts held.snapshot xid (registry.each id held at) below (ap is_some is) in
    ended_unseen xacts held.snapshot inserter ender None (earlier_shown xacts held.snapshot xid number ender (registry.each id held at) shown is by))

pub earlier_unprotected : (xacts : Xacts) (snaps : Snaps) (bound xid number inserter ender : ℕ) → IsRegistryOf xacts snaps → bound ≤ horizon xacts snaps → xid < bound → commit_number xacts xid ≡ Some number → is_committed_by xacts number ender ≡ true → is_running xacts inserter ≡ false → is_protected xacts snaps inserter (Some ender) ≡ false
earlier_unprotected xacts snaps bound xid number inserter ender registry le lt is by over = neither (is_running xacts inserter) (is_committed xacts inserter) (not (is_committed xacts ender)) (seen_by_any xacts snaps inserter (Some ender)) over
    (inr (ap not (committed_by_number xacts number ender by), earlier_unseen xacts snaps bound xid number inserter ender registry le lt is by))

pub earlier_ends_are_unseen : EarlierEndsAreUnseen
earlier_ends_are_unseen = record { unseen = earlier_unseen; unprotected = earlier_unprotected }
