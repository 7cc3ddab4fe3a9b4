-- What a reader sees: by its snapshot, or by its own xid.
use Rattle.std.proofs.Common.{◌≡◌, ◌≢◌, ℕ, ℤ, ◌⊎◌, inl, inr, Bool, true, false, not, ◌&&◌, ◌||◌, ◌==◌, Option, Some, None, is_some, refl, ap, arith}
use Rattle.std.specs.Option.{option_and_then, option_map_or}
use Rattle.std.specs.Ordering.{int_cmp, is_eq}
use Rattle.std.specs.declared.cmp.Ordering.{Ordering}
use Rattle.std.specs.declared.cmp.Ordering.TheVariants.{Less, Equal, Greater}
use Rattle.std.proofs.lemmas.Bool.Decides.{nat_tests}
use Rattle.std.proofs.lemmas.Bool.{cases_Bool}
use Rattle.std.proofs.lemmas.Map.Lookups.{exact_signed}
use Rattle.slot_page.specs.declared.line.Tid.{Tid}
use Rattle.xact_status.specs.declared.Xact.{Xact}
use Rattle.xact_status.specs.declared.Xact.TheVariants.{Running, Committed, Aborted}
use Rattle.xact_status.specs.Xacts.{Xacts, has_aborted, is_aborted, is_committed, number_of, xact_at}
use Rattle.snapshot_registry.specs.declared.Snapshot.{Snapshot}
use Rattle.snapshot_registry.specs.Snapshots.{Snaps, committed_in, sees, sees_at, takes_effect}
use Rattle.row_versions.specs.declared.version.Version.{Version}
use Rattle.row_versions.specs.Relations.{Relation, is_seen, version_in}

-- a version of a key that a reader sees
pub record IsSeenAs (xacts : Xacts) (snaps : Snaps) (id : ℕ) (own : Option ℕ) (rel : Relation) (key : ℤ) (tid : Tid) (version : Version) : Type 0 where
  pub there : version_in rel tid ≡ Some version
  pub of_key : version.key ≡ key
  pub seen : sees_at xacts snaps id version.inserter version.ender own ≡ true

first_of : (a b : Bool) → (a && b) ≡ true → a ≡ true
first_of true b e = refl
first_of false b e = absurd (cc)

second_of : (a b : Bool) → (a && b) ≡ true → b ≡ true
second_of true b e = e
second_of false b e = absurd (cc)

equal_is : (r : Ordering) → is_eq r ≡ true → r ≡ Equal
equal_is Less e = absurd (cc)
equal_is Equal e = refl
equal_is Greater e = absurd (cc)

-- what is seen at a tid is a version there
pub seen_version : (xacts : Xacts) (snaps : Snaps) (id : ℕ) (own : Option ℕ) (rel : Relation) (key : ℤ) (tid : Tid) → is_seen xacts snaps id own rel key tid ≡ true → (version : Version) × IsSeenAs xacts snaps id own rel key tid version
seen_version xacts snaps id own rel key tid seen = by_item (version_in rel tid) refl seen
  where
    by_item : (item : Option Version) → version_in rel tid ≡ item → (option_map_or (λ version. is_eq (int_cmp version.key key)) item false && option_map_or (λ version. sees_at xacts snaps id version.inserter version.ender own) item false) ≡ true → (version : Version) × IsSeenAs xacts snaps id own rel key tid version
    by_item None is seen' = absurd (cc)
    by_item (Some version) is seen' = (
      version,
      record {
        there = is;
        of_key = exact_signed version.key key (equal_is (int_cmp version.key key) (first_of (is_eq (int_cmp version.key key)) (sees_at xacts snaps id version.inserter version.ender own) seen'));
        seen = second_of (is_eq (int_cmp version.key key)) (sees_at xacts snaps id version.inserter version.ender own) seen';
      },
    )

effect_of : (xacts : Xacts) (snapshot : Snapshot) (own : Option ℕ) (xid : ℕ) → takes_effect xacts snapshot own xid ≡ true → (own ≡ Some xid) ⊎ (committed_in xacts snapshot xid ≡ true)
effect_of xacts snapshot None xid e = inr e
effect_of xacts snapshot (Some mine) xid e = by_test (mine == xid) refl e
  where
    by_test : (b : Bool) → (mine == xid) ≡ b → (b || committed_in xacts snapshot xid) ≡ true → (Some mine ≡ Some xid) ⊎ (committed_in xacts snapshot xid ≡ true)
    by_test true is e' = inl (ap Some (grind (arith, nat_tests, is)))
    by_test false is e' = inr e'

-- what is seen was put by the reader's own xid, or by one that its snapshot shows as committed
pub put_before : (xacts : Xacts) (snapshot : Snapshot) (inserter : ℕ) (ender own : Option ℕ) → sees xacts snapshot inserter ender own ≡ true → (own ≡ Some inserter) ⊎ (committed_in xacts snapshot inserter ≡ true)
put_before xacts snapshot inserter ender own seen = effect_of xacts snapshot own inserter (first_of (takes_effect xacts snapshot own inserter) (not (option_map_or (takes_effect xacts snapshot own) ender false)) seen)

aborted_or_committed : (xact : Option Xact) → option_map_or has_aborted xact false ≡ true → is_some (option_and_then number_of xact) ≡ true → ⊥
aborted_or_committed None e f = cc
aborted_or_committed (Some (Running session)) e f = cc
aborted_or_committed (Some (Committed number)) e f = cc
aborted_or_committed (Some Aborted) e f = cc

-- a version whose inserter has aborted is seen by no reader but one with that xid
pub aborted_unseen : (xacts : Xacts) (snapshot : Snapshot) (inserter : ℕ) (ender own : Option ℕ) → is_aborted xacts inserter ≡ true → own ≢ Some inserter → sees xacts snapshot inserter ender own ≡ false
aborted_unseen xacts snapshot inserter ender own aborted other = elim (cases_Bool (sees xacts snapshot inserter ender own)) [
  | inl seen ↦ elim (put_before xacts snapshot inserter ender own seen) [
    | inl mine ↦ absurd (other mine)
    | inr shown ↦ absurd (aborted_or_committed (xact_at xacts inserter) aborted (first_of (is_committed xacts inserter) _ shown))
  ]
  | inr unseen ↦ unseen
]
