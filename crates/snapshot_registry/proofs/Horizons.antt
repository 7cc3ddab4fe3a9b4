-- The horizon is a greatest lower bound, and no event lowers it.
use Rattle.std.proofs.Common.{◌≡◌, ◌≤◌, ◌+◌, ◌-◌, ℕ, Bool, true, false, ◌||◌, ◌⊎◌, List, [], ◌∷◌, ◌++◌, map, Some, None, slice_set, ◌==◌, refl, sym, ap, subst, ◌∙◌, arith, inl, inr, length-append, length-set}
use Rattle.std.specs.List.{list_any}
use Rattle.std.proofs.lemmas.Bool.Decides.{nat_tests}
use Rattle.std.proofs.lemmas.List.Folds.{list_any-append}
use Rattle.xact_status.specs.declared.Xact.{Xact}
use Rattle.xact_status.specs.declared.Xact.TheVariants.{Running, Committed, Aborted}
use Rattle.xact_status.specs.Xacts.{Xacts, next_xid, running_xids, is_running, session_of, commit_count, after_assign, after_commit, after_abort}
use Rattle.xact_status.proofs.Events.{running_assign, running_set}
use Rattle.xact_status.proofs.RunningLists.{running_holds}
use Rattle.snapshot_registry.specs.declared.Snapshot.{Snapshot}
use Rattle.snapshot_registry.specs.declared.Held.{Held}
use Rattle.snapshot_registry.specs.Snapshots.{Snaps, holds, snapshots, held_at, horizon, after_take, after_share, after_release}
use Rattle.snapshot_registry.specs.Laws.{HorizonNeverFalls}
use Rattle.snapshot_registry.proofs.Least.{least_below_start, least_below_held, least_greatest}
use Rattle.snapshot_registry.proofs.Entries.{passing_snapshot, snapshot_passes, held_after_take, held_after_share, held_after_release}

-- the xmins of registered snapshots
abbrev pub xmins : Snaps → List ℕ
xmins snaps = map (λ (s : Snapshot). s.xmin) (snapshots snaps)

-- a number is one of the xmins exactly where a snapshot has it
holds_xmins : (taken : List Snapshot) (x : ℕ) → holds (map (λ (s : Snapshot). s.xmin) taken) x ≡ list_any (λ (s : Snapshot). s.xmin == x) taken
holds_xmins [] x = refl
holds_xmins (s ∷ taken) x = ap (λ b. (s.xmin == x) || b) (holds_xmins taken x)

-- the horizon is at most the next xid, each running xid and each registered xmin
pub horizon_below_next : (xacts : Xacts) (snaps : Snaps) → horizon xacts snaps ≤ next_xid xacts
horizon_below_next xacts snaps = least_below_start (next_xid xacts) (running_xids xacts ++ xmins snaps)

pub horizon_below_running : (xacts : Xacts) (snaps : Snaps) (xid : ℕ) → is_running xacts xid ≡ true → horizon xacts snaps ≤ xid
horizon_below_running xacts snaps xid runs =
    let held : holds (running_xids xacts) xid ≡ true = running_holds xacts xid ∙ runs in
    least_below_held (next_xid xacts) (running_xids xacts ++ xmins snaps) xid (list_any-append (λ y. y == xid) (running_xids xacts) (xmins snaps) ∙ ap (λ b. b || holds (xmins snaps) xid) held)

pub horizon_below_xmin : (xacts : Xacts) (snaps : Snaps) (id : ℕ) (held : Held) → held_at snaps id ≡ Some held → horizon xacts snaps ≤ held.snapshot.xmin
horizon_below_xmin xacts snaps id held is =
    let x = held.snapshot.xmin in
    let among : holds (xmins snaps) x ≡ true = holds_xmins (snapshots snaps) x ∙ snapshot_passes (λ s. s.xmin == x) snaps id held is (same_number x) in
    least_below_held (next_xid xacts) (running_xids xacts ++ xmins snaps) x (list_any-append (λ y. y == x) (running_xids xacts) (xmins snaps) ∙ ap (λ b. holds (running_xids xacts) x || b) among ∙ or_true (holds (running_xids xacts) x))
  where
    same_number : (n : ℕ) → (n == n) ≡ true
    same_number n = grind (arith, nat_tests)

    or_true : (b : Bool) → (b || true) ≡ true
    or_true true = refl
    or_true false = refl

-- and is the greatest such number
pub horizon_greatest : (xacts : Xacts) (snaps : Snaps) (bound : ℕ) → bound ≤ next_xid xacts → ((xid : ℕ) → is_running xacts xid ≡ true → bound ≤ xid) → ((id : ℕ) (held : Held) → held_at snaps id ≡ Some held → bound ≤ held.snapshot.xmin) → bound ≤ horizon xacts snaps
horizon_greatest xacts snaps bound next running registered = least_greatest (next_xid xacts) (running_xids xacts ++ xmins snaps) bound next (λ x held. elim (or_cases _ _ (sym (list_any-append (λ y. y == x) (running_xids xacts) (xmins snaps)) ∙ held)) [
  | inl runs ↦ running x (sym (running_holds xacts x) ∙ runs)
  | inr among ↦
      let found = passing_snapshot (λ s. s.xmin == x) snaps (sym (holds_xmins (snapshots snaps) x) ∙ among) in
      let is : found.1.snapshot.xmin ≡ x = equal _ _ found.3 in
      let above = registered found.0 found.1 found.2 in
      omega (arith, is, above)
])
  where
    or_cases : (a b : Bool) → (a || b) ≡ true → (a ≡ true) ⊎ (b ≡ true)
    or_cases true b e = inl refl
    or_cases false b e = inr e

    equal : (m n : ℕ) → (m == n) ≡ true → m ≡ n
    equal m n e = grind (arith, nat_tests, e)

-- a registry has the same horizon where its snapshots had been registered before
kept_snapshots : (xacts : Xacts) (old new : Snaps) → ((id : ℕ) (held : Held) → held_at new id ≡ Some held → (before : Held) × (held_at old id ≡ Some before) × (held.snapshot ≡ before.snapshot)) → horizon xacts old ≤ horizon xacts new
kept_snapshots xacts old new kept = horizon_greatest xacts new (horizon xacts old) (horizon_below_next xacts old) (horizon_below_running xacts old) (λ id held is.
    let was = kept id held is in
    subst (λ (s : Snapshot). horizon xacts old ≤ s.xmin) (sym was.2) (horizon_below_xmin xacts old id was.0 was.1))

-- it does not fall where what runs ran before or is above, and the next xid does not fall
moved_xacts : (old new : Xacts) (snaps : Snaps) → next_xid old ≤ next_xid new → ((xid : ℕ) → is_running new xid ≡ true → (xid ≡ next_xid old) ⊎ (is_running old xid ≡ true)) → horizon old snaps ≤ horizon new snaps
moved_xacts old new snaps next running = horizon_greatest new snaps (horizon old snaps) (omega (arith, next, horizon_below_next old snaps)) (λ xid runs. elim (running xid runs) [
  | inl is_next ↦ omega (arith, is_next, horizon_below_next old snaps)
  | inr ran ↦ horizon_below_running old snaps xid ran
]) (λ id held is. horizon_below_xmin old snaps id held is)

-- a snapshot taken now has an xmin that is no lower
pub horizon_take : (xacts : Xacts) (snaps : Snaps) → horizon xacts snaps ≤ horizon xacts (after_take snaps xacts)
horizon_take xacts snaps = horizon_greatest xacts (after_take snaps xacts) (horizon xacts snaps) (horizon_below_next xacts snaps) (horizon_below_running xacts snaps) (λ id held is. elim (held_after_take snaps xacts id held is) [
  | inl new ↦ subst (λ (s : Snapshot). horizon xacts snaps ≤ s.xmin) (sym new) (least_greatest (next_xid xacts) (running_xids xacts) (horizon xacts snaps) (horizon_below_next xacts snaps) (λ x held. horizon_below_running xacts snaps x (sym (running_holds xacts x) ∙ held)))
  | inr old ↦ horizon_below_xmin xacts snaps id held old
])

pub horizon_assign : (xacts : Xacts) (snaps : Snaps) (session : ℕ) → horizon xacts snaps ≤ horizon (after_assign xacts session) snaps
horizon_assign xacts snaps session = moved_xacts xacts (after_assign xacts session) snaps (omega (arith, length-append xacts (Running session ∷ []))) (running_assign xacts session)

-- the end of a transaction takes its xid away
horizon_set : (xacts : Xacts) (snaps : Snaps) (ended : ℕ) (xact : Xact) → session_of xact ≡ None → is_running xacts ended ≡ true → horizon xacts snaps ≤ horizon (slice_set xacts (ended - 3) xact) snaps
horizon_set xacts snaps ended xact over runs = moved_xacts xacts (slice_set xacts (ended - 3) xact) snaps (omega (arith, length-set xacts (ended - 3) xact)) (λ xid still. inr (running_set xacts ended xact over runs xid still).1)

pub horizon_commit : (xacts : Xacts) (snaps : Snaps) (xid : ℕ) → is_running xacts xid ≡ true → horizon xacts snaps ≤ horizon (after_commit xacts xid) snaps
horizon_commit xacts snaps xid runs = horizon_set xacts snaps xid (Committed (commit_count xacts + 1)) refl runs

pub horizon_abort : (xacts : Xacts) (snaps : Snaps) (xid : ℕ) → is_running xacts xid ≡ true → horizon xacts snaps ≤ horizon (after_abort xacts xid) snaps
horizon_abort xacts snaps xid runs = horizon_set xacts snaps xid Aborted refl runs

pub horizon_never_falls : HorizonNeverFalls
horizon_never_falls = record {
  taken = horizon_take;
  shared = λ xacts snaps id. kept_snapshots xacts snaps (after_share snaps id) (held_after_share snaps id);
  released = λ xacts snaps id. kept_snapshots xacts snaps (after_release snaps id) (held_after_release snaps id);
  assigned = horizon_assign;
  committed = horizon_commit;
  aborted = horizon_abort;
}
