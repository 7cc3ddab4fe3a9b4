-- A version that is not protected never becomes so.
use Rattle.std.proofs.Common.{◌≡◌, ◌≢◌, ◌+◌, ◌-◌, ℕ, Bool, true, false, not, ◌&&◌, ◌||◌, cond, ◌⊎◌, Option, Some, None, ◌==◌, refl, sym, ap, ◌∙◌, arith, inl, inr}
use mathlib.Core.Bool.{false≢true}
use Rattle.std.specs.Option.{option_map_or}
use Rattle.std.proofs.lemmas.Bool.Decides.{nat_tests}
use Rattle.xact_status.specs.declared.Xact.TheVariants.{Committed, Aborted}
use Rattle.xact_status.specs.Xacts.{Xacts, is_running, is_committed, commit_count, after_assign, after_commit, after_abort}
use Rattle.xact_status.proofs.Events.{assigned_assign, assigned_set, running_assign, running_set, committed_assign, committed_commit, committed_abort}
use Rattle.snapshot_registry.specs.Snapshots.{Snaps, seen_by_any, is_protected, after_take, after_share, after_release}
use Rattle.snapshot_registry.specs.Laws.{IsRegistryOf, IsUnseen, IsUnprotected, UnprotectedStays}
use Rattle.snapshot_registry.proofs.Unseen.{unseen_stays_unseen}

-- what is not true is false
not_true : (b : Bool) → (b ≡ true → ⊥) → b ≡ false
not_true true h = absurd (h refl)
not_true false h = refl

-- the two ways not to be protected, for an inserter that does not run: it has not committed, or a committed transaction has ended the version and no snapshot sees it
parts : (runs committed whole seen : Bool) → (runs || (committed && (whole || seen))) ≡ false → (runs ≡ false) × ((committed ≡ false) ⊎ ((whole ≡ false) × (seen ≡ false)))
parts true committed whole seen e = absurd (false≢true (sym e))
parts false false whole seen e = (refl, inl refl)
parts false true true seen e = absurd (false≢true (sym e))
parts false true false seen e = (refl, inr (refl, e))

joined : (runs committed whole seen : Bool) → runs ≡ false → (committed ≡ false) ⊎ ((whole ≡ false) × (seen ≡ false)) → (runs || (committed && (whole || seen))) ≡ false
joined true committed whole seen over why = over
joined false committed whole seen over (inl none) = ap (λ c. c && (whole || seen)) none
joined false true whole seen over (inr unseen) = ap (λ w. w || seen) unseen.0 ∙ unseen.1
joined false false whole seen over (inr unseen) = refl

-- a version stays unprotected where its inserter neither starts to run nor commits, and it stays unseen
kept : (old new : Xacts) (before after : Snaps) (inserter : ℕ) (ender : Option ℕ) → (is_running new inserter ≡ true → is_running old inserter ≡ true) → (is_running old inserter ≡ false → is_committed new inserter ≡ is_committed old inserter) → ((xid : ℕ) → IsUnseen old before inserter xid → IsUnseen new after inserter xid) → is_protected old before inserter ender ≡ false → is_protected new after inserter ender ≡ false
kept old new before after inserter ender running committed unseen unprotected =
    let was = parts (is_running old inserter) (is_committed old inserter) (not (option_map_or (is_committed old) ender false)) (seen_by_any old before inserter ender) unprotected in
    let over : is_running new inserter ≡ false = not_true (is_running new inserter) (λ runs. false≢true (sym was.0 ∙ running runs)) in
    joined (is_running new inserter) (is_committed new inserter) (not (option_map_or (is_committed new) ender false)) (seen_by_any new after inserter ender) over (elim was.1 [
      | inl none ↦ inl (committed was.0 ∙ none)
      | inr ended ↦ inr (by_ender ender ended)
    ])
  where
    is_true : (b : Bool) → not b ≡ false → b ≡ true
    is_true true e = refl
    is_true false e = absurd (false≢true (sym e))

    by_ender : (o : Option ℕ) → (not (option_map_or (is_committed old) o false) ≡ false) × (seen_by_any old before inserter o ≡ false) → (not (option_map_or (is_committed new) o false) ≡ false) × (seen_by_any new after inserter o ≡ false)
    by_ender None ended = absurd (false≢true (sym ended.0))
    by_ender (Some xid) ended = let still = unseen xid (record { ended = is_true (is_committed old xid) ended.0; unseen = ended.1 }) in (ap not still.ended, still.unseen)

-- where the registry alone changes
kept_registry : (xacts : Xacts) (before after : Snaps) (inserter : ℕ) (ender : Option ℕ) → ((xid : ℕ) → IsUnseen xacts before inserter xid → IsUnseen xacts after inserter xid) → IsUnprotected xacts before inserter ender → IsUnprotected xacts after inserter ender
kept_registry xacts before after inserter ender unseen was = record {
  given = was.given;
  unprotected = kept xacts xacts before after inserter ender (λ runs. runs) (λ over. refl) unseen was.unprotected;
}

pub unprotected_assign : (xacts : Xacts) (snaps : Snaps) (session inserter : ℕ) (ender : Option ℕ) → IsRegistryOf xacts snaps → IsUnprotected xacts snaps inserter ender → IsUnprotected (after_assign xacts session) snaps inserter ender
unprotected_assign xacts snaps session inserter ender registry was = record {
  given = assigned_assign xacts session inserter was.given;
  unprotected = kept xacts (after_assign xacts session) snaps snaps inserter ender
      (λ runs. elim (running_assign xacts session inserter runs) [
        | inl new ↦ absurd (omega (arith, new, was.given.below_next))
        | inr ran ↦ ran
      ])
      (λ over. committed_assign xacts session inserter)
      (λ xid. unseen_stays_unseen.assigned xacts snaps session inserter xid registry)
      was.unprotected;
}

pub unprotected_commit : (xacts : Xacts) (snaps : Snaps) (xid inserter : ℕ) (ender : Option ℕ) → is_running xacts xid ≡ true → IsRegistryOf xacts snaps → IsUnprotected xacts snaps inserter ender → IsUnprotected (after_commit xacts xid) snaps inserter ender
unprotected_commit xacts snaps xid inserter ender runs registry was = record {
  given = assigned_set xacts (xid - 3) inserter (Committed (commit_count xacts + 1)) was.given;
  unprotected = kept xacts (after_commit xacts xid) snaps snaps inserter ender
      (λ still. (running_set xacts xid (Committed (commit_count xacts + 1)) refl runs inserter still).1)
      (λ over. committed_commit xacts xid runs inserter ∙ another inserter xid (is_committed xacts inserter) (λ same. false≢true (sym over ∙ ap (is_running xacts) same ∙ runs)))
      (λ other. unseen_stays_unseen.committed xacts snaps xid inserter other runs registry)
      was.unprotected;
}
  where
    another : (m n : ℕ) (b : Bool) → m ≢ n → cond (m == n) true b ≡ b
    another m n b differ = grind (arith, nat_tests)

pub unprotected_abort : (xacts : Xacts) (snaps : Snaps) (xid inserter : ℕ) (ender : Option ℕ) → is_running xacts xid ≡ true → IsRegistryOf xacts snaps → IsUnprotected xacts snaps inserter ender → IsUnprotected (after_abort xacts xid) snaps inserter ender
unprotected_abort xacts snaps xid inserter ender runs registry was = record {
  given = assigned_set xacts (xid - 3) inserter Aborted was.given;
  unprotected = kept xacts (after_abort xacts xid) snaps snaps inserter ender
      (λ still. (running_set xacts xid Aborted refl runs inserter still).1)
      (λ over. committed_abort xacts xid runs inserter)
      (λ other. unseen_stays_unseen.aborted xacts snaps xid inserter other runs registry)
      was.unprotected;
}

pub unprotected_stays : UnprotectedStays
unprotected_stays = record {
  taken = λ xacts snaps inserter ender. kept_registry xacts snaps (after_take snaps xacts) inserter ender (λ xid. unseen_stays_unseen.taken xacts snaps inserter xid);
  shared = λ xacts snaps id inserter ender. kept_registry xacts snaps (after_share snaps id) inserter ender (λ xid. unseen_stays_unseen.shared xacts snaps id inserter xid);
  released = λ xacts snaps id inserter ender. kept_registry xacts snaps (after_release snaps id) inserter ender (λ xid. unseen_stays_unseen.released xacts snaps id inserter xid);
  assigned = unprotected_assign;
  committed = unprotected_commit;
  aborted = unprotected_abort;
}
