-- Every core is sound after a session's transaction has ended, whichever way.
use Rattle.std.proofs.Common.{ap, arith, cond, inl, inr, refl, sym, ◌∙◌}
use Rattle.std.proofs.lemmas.Bool.Decides.{nat_tests}
use Rattle.std.specs.FinMap.{int_cmp-IsAntisymmetric}
use Rattle.std.specs.Ordering.{int_cmp, is_eq}
use Rattle.std.specs.Prelude.{Bool, None, Option, Some, false, if◌then◌else◌, is_some, option_and_then, slice_set, true, ℕ, ℤ, ◌+◌, ◌-◌, ◌==◌, ◌||◌, ◌≡◌, ◌≢◌, ◌⊎◌}
use Rattle.std.specs.declared.cmp.Ordering.{Ordering}
use Rattle.std.specs.declared.cmp.Ordering.TheVariants.{Equal, Greater, Less}
use Rattle.slot_page.specs.declared.line.Tid.{Tid}
use Rattle.xact_status.proofs.Events.{assigned_set, committed_abort, committed_commit}
use Rattle.xact_status.proofs.Places.{assigned_from_running, xact_at_set}
use Rattle.xact_status.specs.Versions.{counts_for}
use Rattle.xact_status.specs.Xacts.{IsAssigned, Xacts, after_abort, after_commit, commit_count, is_committed, is_running, session_at, session_of, xact_at}
use Rattle.xact_status.specs.declared.Xact.{Xact}
use Rattle.xact_status.specs.declared.Xact.TheVariants.{Aborted, Committed}
use Rattle.snapshot_registry.proofs.Moments.{registry_abort, registry_commit}
use Rattle.snapshot_registry.proofs.Unprotected.{unprotected_stays}
use Rattle.snapshot_registry.specs.Laws.{IsRegistryOf, IsTakenFrom, IsUnprotected}
use Rattle.snapshot_registry.specs.Snapshots.{Snaps, sees_at}
use Rattle.snapshot_registry.specs.declared.Snapshot.{Snapshot}
use Rattle.value_holders.proofs.Events.{are_ended_stay}
use Rattle.value_holders.proofs.Readers.{readers_are_safe}
use Rattle.value_holders.specs.Holders.{AreEnded, AreSound, Holders}
use Rattle.value_holders.specs.Stamps.{IsUnended}
use Rattle.row_versions.specs.Relations.{Pages}
use Rattle.row_versions.specs.declared.version.Version.{Version}
use Rattle.lock_table.specs.Held.{holds_row}
use Rattle.lock_table.specs.Locks.{held_by}
use Rattle.table_rows.specs.Views.{IsOwnAt, IsViewNow}
use Rattle.table_rows.specs.Worlds.{IsUntouched, IsVersionAt, tuple_in}
use Rattle.table_state.specs.Tables.{IsTable}
use Rattle.table_state.specs.declared.table.Table.{Table}
use Rattle.core_state.specs.Facts.{IsSound}
use Rattle.core_state.proofs.Below.{Below}
use Rattle.core_state.specs.State.{CoreState, table_at}

-- an xid of the session, if it has one, has touched no version of a key
abbrev pub Untouched : Option ℕ → Pages → ℤ → Type 0
Untouched own pages key = (x : ℕ) → own ≡ Some x → IsUntouched x pages key

-- of the session's xid and any other that runs, one has touched no version of a key
abbrev pub OneTouches : Xacts → Option ℕ → Pages → Type 0
OneTouches xacts own pages = (x y : ℕ) (key : ℤ) → own ≡ Some x → is_running xacts y ≡ true → y ≢ x → IsUntouched x pages key ⊎ IsUntouched y pages key

-- what an end of a session's transaction makes of the statuses
pub record IsEnd (xacts new : Xacts) (own : Option ℕ) (s : ℕ) : Type 0 where
  -- the session's xid runs no longer, every other as before, and the registry is one of these statuses
  pub gone : (xid t : ℕ) → session_at new xid ≡ Some t → (session_at xacts xid ≡ Some t) × (own ≢ Some xid)
  pub others : (xid t : ℕ) → t ≢ s → session_at xacts xid ≡ Some t → session_at new xid ≡ Some t
  pub given : (xid : ℕ) → IsAssigned xacts xid → IsAssigned new xid
  pub registry : (snaps : Snaps) → IsRegistryOf xacts snaps → IsRegistryOf new snaps
  -- snapshots see what they saw, and nothing has to be kept that had not
  pub seen : (snaps : Snaps) (id inserter : ℕ) (ender : Option ℕ) → IsRegistryOf xacts snaps → sees_at new snaps id inserter ender None ≡ sees_at xacts snaps id inserter ender None
  pub unprotected : (snaps : Snaps) (inserter : ℕ) (ender : Option ℕ) → IsRegistryOf xacts snaps → IsUnprotected xacts snaps inserter ender → IsUnprotected new snaps inserter ender
  pub ended : (snaps : Snaps) (xid : ℕ) (holders : Holders Tid) → IsRegistryOf xacts snaps → AreSound xacts holders → AreEnded xacts snaps holders xid → AreEnded new snaps holders xid
  -- what has committed has, and what is unended is
  pub counts : (xid inserter : ℕ) → counts_for xacts (Some xid) inserter ≡ true → counts_for new (Some xid) inserter ≡ true
  pub unended : (ender : Option ℕ) → IsUnended xacts ender → IsUnended new ender
  -- another's world, view and changes at a key that the session has not touched
  pub alone : Below → (y : ℕ) (pages : Pages) (key : ℤ) → Untouched own pages key → tuple_in (counts_for new (Some y)) pages key ≡ tuple_in (counts_for xacts (Some y)) pages key
  pub view : Below → (snapshot : Snapshot) (y : ℕ) (pages : Pages) (key : ℤ) → IsTakenFrom xacts snapshot → Untouched own pages key → IsViewNow xacts snapshot y pages key → IsViewNow new snapshot y pages key
  pub own_at : Below → (y : ℕ) (pages : Pages) (key : ℤ) → Untouched own pages key → IsOwnAt xacts y pages key → IsOwnAt new y pages key
  pub table : Below → (number : ℕ) (snaps : Snaps) (table : Table) → IsRegistryOf xacts snaps → OneTouches xacts own table.rows.pages → IsTable number xacts snaps table → IsTable number new snaps table

-- a transaction without an xid leaves the statuses
pub none_ends : (xacts : Xacts) (s : ℕ) → IsEnd xacts xacts None s
none_ends xacts s = record {
  gone = λ xid t e. (e, λ is. absurd (cc));
  others = λ xid t differ e. e;
  given = λ xid e. e;
  registry = λ snaps e. e;
  seen = λ snaps id inserter ender registry. refl;
  unprotected = λ snaps inserter ender registry e. e;
  ended = λ snaps xid holders registry sound e. e;
  counts = λ xid inserter e. e;
  unended = λ ender e. e;
  alone = λ below y pages key untouched. refl;
  view = λ below snapshot y pages key taken untouched e. e;
  own_at = λ below y pages key untouched e. e;
  table = λ below number snaps table registry one e. e;
}

-- the session of an xid once another has ended
session_ended : (xacts : Xacts) (ended : ℕ) (xact : Xact) → session_of xact ≡ None → is_running xacts ended ≡ true → (xid : ℕ) → session_at (slice_set xacts (ended - 3) xact) xid ≡ (if xid == ended then None else session_at xacts xid)
session_ended xacts ended xact over running xid =
    ap (option_and_then session_of) (xact_at_set xacts ended xact (assigned_from_running xacts ended running) xid) ∙ by (xid == ended)
  where
    by : (b : Bool) → option_and_then session_of (cond b (Some xact) (xact_at xacts xid)) ≡ cond b None (session_at xacts xid)
    by true = over
    by false = refl

runs_for : (xacts : Xacts) (xid s : ℕ) → session_at xacts xid ≡ Some s → is_running xacts xid ≡ true
runs_for xacts xid s e = ap is_some e

gone_by : (xacts new : Xacts) (ended xid t : ℕ) → session_at new xid ≡ (if xid == ended then None else session_at xacts xid) → session_at new xid ≡ Some t → (session_at xacts xid ≡ Some t) × (Some ended ≢ Some xid)
gone_by xacts new ended xid t at runs = by (xid == ended) refl at
  where
    some_is : (a b : ℕ) → Some a ≡ Some b → a ≡ b
    some_is a b is = cc

    by : (b : Bool) → (xid == ended) ≡ b → session_at new xid ≡ cond b None (session_at xacts xid) → (session_at xacts xid ≡ Some t) × (Some ended ≢ Some xid)
    by true e at = absurd (cc)
    by false e at =
        let differ : xid ≢ ended = grind (arith, nat_tests, e) in
        (sym at ∙ runs, λ is. differ (sym (some_is ended xid is)))

others_by : (xacts new : Xacts) (ended s xid t : ℕ) → session_at new xid ≡ (if xid == ended then None else session_at xacts xid) → session_at xacts ended ≡ Some s → t ≢ s → session_at xacts xid ≡ Some t → session_at new xid ≡ Some t
others_by xacts new ended s xid t at own differ runs = by (xid == ended) refl at
  where
    clash : xid ≡ ended → ⊥
    clash is =
        let same : session_at xacts ended ≡ Some t = ap (session_at xacts) (sym is) ∙ runs in
        let t_is : t ≡ s = cc in
        differ t_is

    by : (b : Bool) → (xid == ended) ≡ b → session_at new xid ≡ cond b None (session_at xacts xid) → session_at new xid ≡ Some t
    by true e at = absurd (clash (grind (arith, nat_tests, e)))
    by false e at = at ∙ runs

-- what is unended stays so where no other has come to run, and only what runs may have committed
unended_by : (xacts new : Xacts) (ended : ℕ) → is_running xacts ended ≡ true → ((xid : ℕ) → is_running new xid ≡ true → is_running xacts xid ≡ true) → ((xid : ℕ) → xid ≢ ended → is_committed new xid ≡ is_committed xacts xid)
    → (ender : Option ℕ) → IsUnended xacts ender → IsUnended new ender
unended_by xacts new ended running fewer same ender old = record {
  not_ending = λ xid e. not_running xid (is_running new xid) refl (old.not_ending xid e);
  not_ended = λ xid e. same xid (λ is. clash xid is (old.not_ending xid e)) ∙ old.not_ended xid e;
}
  where
    not_running : (xid : ℕ) (b : Bool) → is_running new xid ≡ b → is_running xacts xid ≡ false → b ≡ false
    not_running xid false e f = refl
    not_running xid true e f =
        let before = fewer xid e in
        absurd (cc)

    clash : (xid : ℕ) → xid ≡ ended → is_running xacts xid ≡ false → ⊥
    clash xid is e =
        let here : is_running xacts ended ≡ false = ap (is_running xacts) (sym is) ∙ e in
        absurd (cc)

counts_by : (xacts new : Xacts) → ((xid : ℕ) → is_committed xacts xid ≡ true → is_committed new xid ≡ true) → (xid inserter : ℕ) → counts_for xacts (Some xid) inserter ≡ true → counts_for new (Some xid) inserter ≡ true
counts_by xacts new more xid inserter e = by (xid == inserter) (is_committed xacts inserter) refl e
  where
    by : (own b : Bool) → is_committed xacts inserter ≡ b → (own || b) ≡ true → (own || is_committed new inserter) ≡ true
    by true b f g = refl
    by false true f g = more inserter f
    by false false f g = absurd (cc)

-- a commit
pub commit_ends : (xacts : Xacts) (x s : ℕ) → session_at xacts x ≡ Some s → IsEnd xacts (after_commit xacts x) (Some x) s
commit_ends xacts x s mine =
    let running = runs_for xacts x s mine in
    let over = session_ended xacts x (Committed (commit_count xacts + 1)) refl running in
    record {
      gone = λ xid t e. gone_by xacts (after_commit xacts x) x xid t (over xid) e;
      others = λ xid t differ e. others_by xacts (after_commit xacts x) x s xid t (over xid) mine differ e;
      given = λ xid e. assigned_set xacts (x - 3) xid _ e;
      registry = λ snaps e. registry_commit xacts snaps x running e;
      seen = λ snaps id inserter ender registry. readers_are_safe.seen_past_commit xacts snaps x id inserter ender None running registry;
      unprotected = λ snaps inserter ender registry e. unprotected_stays.committed xacts snaps x inserter ender running registry e;
      ended = λ snaps xid holders registry sound e. are_ended_stay.committed xacts snaps x xid holders running registry sound e;
      counts = counts_by xacts (after_commit xacts x) (λ xid e. still xid (xid == x) (committed_commit xacts x running xid) e);
      unended = unended_by xacts (after_commit xacts x) x running (λ xid e. before xid (xid == x) (over xid) e) (λ xid differ. other xid (xid == x) refl differ (committed_commit xacts x running xid));
      alone = λ below y pages key untouched. below.tells.own_at_commit xacts x y pages key running (untouched x refl);
      view = λ below snapshot y pages key taken untouched e. below.views.committed xacts snapshot y x pages key running taken (untouched x refl) e;
      own_at = λ below y pages key untouched e. below.own.committed xacts y x pages key running (untouched x refl) e;
      table = λ below number snaps table registry one e. below.moments.committed number xacts snaps x table running registry (λ y key runs differ. one x y key refl runs differ) e;
    }
  where
    still : (xid : ℕ) (b : Bool) → is_committed (after_commit xacts x) xid ≡ cond b true (is_committed xacts xid) → is_committed xacts xid ≡ true → is_committed (after_commit xacts x) xid ≡ true
    still xid true e f = e
    still xid false e f = e ∙ f

    before : (xid : ℕ) (b : Bool) → session_at (after_commit xacts x) xid ≡ cond b None (session_at xacts xid) → is_running (after_commit xacts x) xid ≡ true → is_running xacts xid ≡ true
    before xid true e f = absurd (cc)
    before xid false e f = sym (ap is_some e) ∙ f

    other : (xid : ℕ) (b : Bool) → (xid == x) ≡ b → xid ≢ x → is_committed (after_commit xacts x) xid ≡ cond b true (is_committed xacts xid) → is_committed (after_commit xacts x) xid ≡ is_committed xacts xid
    other xid true e differ f = absurd (differ (grind (arith, nat_tests, e)))
    other xid false e differ f = f

-- an abort
pub abort_ends : (xacts : Xacts) (x s : ℕ) → session_at xacts x ≡ Some s → IsEnd xacts (after_abort xacts x) (Some x) s
abort_ends xacts x s mine =
    let running = runs_for xacts x s mine in
    let over = session_ended xacts x Aborted refl running in
    record {
      gone = λ xid t e. gone_by xacts (after_abort xacts x) x xid t (over xid) e;
      others = λ xid t differ e. others_by xacts (after_abort xacts x) x s xid t (over xid) mine differ e;
      given = λ xid e. assigned_set xacts (x - 3) xid _ e;
      registry = λ snaps e. registry_abort xacts snaps x running e;
      seen = λ snaps id inserter ender registry. readers_are_safe.seen_past_abort xacts snaps x id inserter ender None running;
      unprotected = λ snaps inserter ender registry e. unprotected_stays.aborted xacts snaps x inserter ender running registry e;
      ended = λ snaps xid holders registry sound e. are_ended_stay.aborted xacts snaps x xid holders running registry sound e;
      counts = counts_by xacts (after_abort xacts x) (λ xid e. committed_abort xacts x running xid ∙ e);
      unended = unended_by xacts (after_abort xacts x) x running (λ xid e. before xid (xid == x) (over xid) e) (λ xid differ. committed_abort xacts x running xid);
      alone = λ below y pages key untouched. below.tells.own_at_abort xacts x y pages key running;
      view = λ below snapshot y pages key taken untouched e. below.views.aborted xacts snapshot y x pages key running e;
      own_at = λ below y pages key untouched e. below.own.aborted xacts y x pages key running e;
      table = λ below number snaps table registry one e. below.moments.aborted number xacts snaps x table running registry e;
    }
  where
    before : (xid : ℕ) (b : Bool) → session_at (after_abort xacts x) xid ≡ cond b None (session_at xacts xid) → is_running (after_abort xacts x) xid ≡ true → is_running xacts xid ≡ true
    before xid true e f = absurd (cc)
    before xid false e f = sym (ap is_some e) ∙ f

-- ---- who has touched what

key_is : (a b : ℤ) → is_eq (int_cmp a b) ≡ true → a ≡ b
key_is a b e = int_cmp-IsAntisymmetric a b (by (int_cmp a b) e)
  where
    by : (o : Ordering) → is_eq o ≡ true → o ≡ Equal
    by Less e = absurd (cc)
    by Equal e = refl
    by Greater e = absurd (cc)

-- a running xid of a session has touched no version of a key that the session does not claim
unclaimed_untouched : (c : CoreState) (x s t : ℕ) (key : ℤ) → session_at c.xacts x ≡ Some s → holds_row (held_by c.locks s).rows (record { table = t; key = key }) ≡ false → IsSound c → IsUntouched x (table_at c.tables t).rows.pages key
unclaimed_untouched c x s t key mine free sound = record {
  inserter = λ tid version at is. clash tid version at (inl is);
  ender = λ tid version at is. clash tid version at (inr is);
}
  where
    clash : (tid : Tid) (version : Version) → IsVersionAt (table_at c.tables t).rows.pages key tid version → (version.inserter ≡ x) ⊎ (version.ender ≡ Some x) → ⊥
    clash tid version at by =
        let claimed = sound.touched.claimed x s t tid version mine at.there by in
        let same : holds_row (held_by c.locks s).rows (record { table = t; key = version.key }) ≡ holds_row (held_by c.locks s).rows (record { table = t; key = key }) = ap (λ (k : ℤ). holds_row (held_by c.locks s).rows (record { table = t; key = k })) (key_is version.key key at.of_key) in
        absurd (cc)

-- so where another claims it
pub other_untouched : (c : CoreState) (x s other t : ℕ) (key : ℤ) → session_at c.xacts x ≡ Some s → other ≢ s → holds_row (held_by c.locks other).rows (record { table = t; key = key }) ≡ true → IsSound c → IsUntouched x (table_at c.tables t).rows.pages key
other_untouched c x s other t key mine differ claimed sound = unclaimed_untouched c x s t key mine (sound.apart.claims other s (record { table = t; key = key }) differ claimed) sound

-- of two running xids of two sessions one has touched no version of a key
pub one_touches : (c : CoreState) (x y s other t : ℕ) (key : ℤ) → session_at c.xacts x ≡ Some s → session_at c.xacts y ≡ Some other → other ≢ s → IsSound c → IsUntouched x (table_at c.tables t).rows.pages key ⊎ IsUntouched y (table_at c.tables t).rows.pages key
one_touches c x y s other t key mine its differ sound = by (holds_row (held_by c.locks s).rows (record { table = t; key = key })) refl
  where
    by : (b : Bool) → holds_row (held_by c.locks s).rows (record { table = t; key = key }) ≡ b → IsUntouched x (table_at c.tables t).rows.pages key ⊎ IsUntouched y (table_at c.tables t).rows.pages key
    by true e = inr (other_untouched c y other s t key its (λ is. differ (sym is)) e sound)
    by false e = inl (unclaimed_untouched c x s t key mine e sound)
