-- Whether a found row has changed since the transaction's snapshot: the end of its version has committed, and the transaction has not changed the row.
use Rattle.std.proofs.Common.{Bool, ap, refl, subst, sym, ◌∙◌}
use Rattle.std.specs.Option.{option_map_or}
use Rattle.std.specs.Prelude.{None, Option, Some, false, is_some, not, true, ℕ, ℤ, ◌&&◌, ◌≡◌}
use Rattle.tuple_layout.specs.Places.{Rows}
use Rattle.slot_page.specs.declared.line.Tid.{Tid}
use Rattle.xact_status.specs.Versions.{is_there}
use Rattle.xact_status.specs.Xacts.{is_committed}
use Rattle.snapshot_registry.specs.Snapshots.{committed_in, takes_effect}
use Rattle.snapshot_registry.specs.declared.Snapshot.{Snapshot}
use Rattle.row_versions.specs.declared.version.Version.{Version}
use Rattle.lock_table.specs.Held.{holds_row}
use Rattle.lock_table.specs.Locks.{held_by}
use Rattle.command_set.specs.Answers.{with_copy, with_use}
use Rattle.command_set.specs.Changes.{is_named, keys_of, place}
use Rattle.command_set.specs.Replies.{answers_if, changed}
use Rattle.command_set.specs.declared.state.Plain.{Plain}
use Rattle.command_set.specs.declared.state.Transaction.{Transaction}
use Rattle.table_rows.proofs.Views.{agree_unwritten}
use Rattle.table_rows.specs.Views.{IsSince}
use Rattle.table_rows.specs.Worlds.{IsVersionAt}
use Rattle.write_steps.specs.declared.stage.OldRow.{OldRow}
use Rattle.core_state.specs.Facts.{IsSound}
use Rattle.core_state.specs.Lines.{takes_copy}
use Rattle.core_state.specs.Stands.{CopyStands}
use Rattle.core_state.specs.State.{CoreState, IsSession, snapshot_of, table_at, xid_of}
use Rattle.core_state.specs.Views.{counts_under, in_view, registered, row_seen}
use Rattle.core_looks.proofs.Found.{found_is}
use Rattle.core_looks.proofs.Sights.{pages_at, state_at, untouched}
use Rattle.core_looks.proofs.Used.{copied_taken, copy_plain}
use Rattle.core_looks.proofs.Uses.{TakesCopy, takes_is}
use Rattle.core_looks.proofs.Views.{IsOpenAs}
use Rattle.core_looks.specs.Due.{changed_due, claim_of, has_changed, is_ended_at}
use Rattle.command_set.specs.declared.Reply.TheVariants as replies

-- ---- a version that is seen

-- what a session sees at a key that it has not claimed its snapshot shows
shown_there : (c : CoreState) (s t : ℕ) (key : ℤ) (snapshot : Snapshot) (own : Option ℕ) (tid : Tid) (version : Version) → IsSession c.seats s → IsSound c → xid_of (state_at c s) ≡ own → holds_row (held_by c.locks s).rows (claim_of t key) ≡ false
    → IsVersionAt (pages_at c t) key tid version → is_there (takes_effect c.xacts snapshot own) version.inserter version.ender ≡ true → is_there (committed_in c.xacts snapshot) version.inserter version.ender ≡ true
shown_there c s t key snapshot None tid version there sound mine unclaimed at seen = seen
shown_there c s t key snapshot (Some x) tid version there sound mine unclaimed at seen = (agree_unwritten c.xacts snapshot x (pages_at c t) key (untouched c s t x key there sound mine unclaimed)).on tid version at ∙ seen

-- so a place has changed since exactly where the end of what is seen has committed
pub since_is : (c : CoreState) (s t : ℕ) (key : ℤ) (snapshot : Snapshot) (old : OldRow) (changed : Bool) → IsSession c.seats s → IsSound c → registered c.snaps (snapshot_of (state_at c s)) ≡ Some snapshot → holds_row (held_by c.locks s).rows (claim_of t key) ≡ false
    → row_seen c s t key ≡ Some old → IsSince c.xacts snapshot (pages_at c t) key changed → changed ≡ is_ended_at c.xacts (table_at c.tables t) old.tid
since_is c s t key snapshot old changed there sound shown unclaimed seen since =
    let at = found_is (in_view c.xacts c.snaps (state_at c s)) (table_at c.tables t) key old seen in
    let counted : is_there (takes_effect c.xacts snapshot (xid_of (state_at c s))) at.version.inserter at.version.ender ≡ true = subst (λ (o : Option Snapshot). is_there (counts_under c.xacts o (xid_of (state_at c s))) at.version.inserter at.version.ender ≡ true) shown at.counted in
    let version_at : IsVersionAt (pages_at c t) key old.tid at.version = record { there = at.there; of_key = at.of_key } in
    since.tells old.tid at.version version_at (shown_there c s t key snapshot (xid_of (state_at c s)) old.tid at.version there sound refl unclaimed version_at counted)
    ∙ sym (ap (λ (o : Option Version). option_map_or (λ version. option_map_or (is_committed c.xacts) version.ender false) o false) at.there)

-- ---- the plain store's test

-- by the base and the places of a transaction
test_same : (c : CoreState) (m : Plain) (s t : ℕ) (key : ℤ) (tr : Transaction) (old : OldRow) (o : Option Snapshot) (base : Option Rows) → IsSession c.seats s → IsSound c → IsOpenAs c m s tr → row_seen c s t key ≡ Some old
    → registered c.snaps (snapshot_of (state_at c s)) ≡ o → CopyStands c.xacts c.tables o base tr.since
    → (is_some base && is_named tr.since (place t key) && not (is_named (keys_of tr.changes) (place t key))) ≡ (is_some o && (is_ended_at c.xacts (table_at c.tables t) old.tid && not (holds_row (held_by c.locks s).rows (claim_of t key))))
test_same c m s t key tr old None None there sound opened seen shown copy = refl
test_same c m s t key tr old None (Some base) there sound opened seen shown copy = absurd copy
test_same c m s t key tr old (Some snapshot) None there sound opened seen shown copy = absurd copy
test_same c m s t key tr old (Some snapshot) (Some base) there sound opened seen shown copy =
    ap (λ (b : Bool). is_named tr.since (place t key) && not b) (opened.stands.claimed (place t key))
    ∙ by (holds_row (held_by c.locks s).rows (claim_of t key)) refl
  where
    never : (a b : Bool) → (a && false) ≡ (b && false)
    never true true = refl
    never true false = refl
    never false true = refl
    never false false = refl

    by : (b : Bool) → holds_row (held_by c.locks s).rows (claim_of t key) ≡ b → (is_named tr.since (place t key) && not b) ≡ (is_ended_at c.xacts (table_at c.tables t) old.tid && not b)
    by true claimed = never (is_named tr.since (place t key)) (is_ended_at c.xacts (table_at c.tables t) old.tid)
    by false unclaimed = ap (λ (b : Bool). b && true) (since_is c s t key snapshot old (is_named tr.since (place t key)) there sound shown unclaimed seen (copy.since (place t key)))

pub changed_same : (c : CoreState) (m : Plain) (s t : ℕ) (key : ℤ) (tr : Transaction) (old : OldRow) → IsSession c.seats s → IsSound c → IsOpenAs c m s tr → row_seen c s t key ≡ Some old
    → changed (with_use m tr t) (place t key) ≡ changed_due c s t key (Some old)
changed_same c m s t key tr old there sound opened seen = by (takes_copy (state_at c s)) refl
  where
    test : Transaction → Bool
    test x = is_some x.base && is_named x.since (place t key) && not (is_named (keys_of x.changes) (place t key))

    no_snapshot : TakesCopy (state_at c s) → has_changed c s t key old ≡ false
    no_snapshot takes = ap (λ (o : Option ℕ). is_some (registered c.snaps o) && (is_ended_at c.xacts (table_at c.tables t) old.tid && not (holds_row (held_by c.locks s).rows (claim_of t key)))) takes.none

    by : (b : Bool) → takes_copy (state_at c s) ≡ b → answers_if (test (with_copy m.latest tr tr.level tr.base)) replies.Changed ≡ answers_if (has_changed c s t key old) replies.Changed
    by true e =
        let takes = takes_is (state_at c s) e in
        ap (λ (x : Transaction). answers_if (test x) replies.Changed) (copied_taken c m s tr takes opened) ∙ sym (ap (λ (b : Bool). answers_if b replies.Changed) (no_snapshot takes))
    by false e =
        ap (λ (x : Transaction). answers_if (test x) replies.Changed) (copy_plain c m s t tr there sound e opened)
        ∙ ap (λ (b : Bool). answers_if b replies.Changed) (test_same c m s t key tr old (registered c.snaps (snapshot_of (state_at c s))) tr.base there sound opened seen refl opened.stands.copy)
