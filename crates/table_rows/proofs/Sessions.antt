-- What a session knows of a key, through the events of all sessions.
use Rattle.std.proofs.Common.{ℕ, ℤ, ◌≡◌, ◌≢◌, ◌⊎◌, inl, inr, Bool, true, false, not, ◌&&◌, ◌||◌, ◌==◌, List, Option, Some, None, refl, sym, ap, subst, ◌∙◌}
use Rattle.std.specs.Option.{option_map_or}
use Rattle.std.specs.Ordering.{int_cmp, is_eq}
use Rattle.std.proofs.lemmas.Option.{none-some, same_Some}
use Rattle.slot_page.specs.declared.line.Tid.{Tid}
use Rattle.slot_page.specs.Pages.{item_in}
use Rattle.slot_page.proofs.Tids.{cases_tid}
use Rattle.xact_status.specs.Xacts.{Xacts, is_running, is_committed, after_assign, after_commit, after_abort}
use Rattle.xact_status.proofs.Events.{committed_assign, committed_abort, running_is_uncommitted}
use Rattle.snapshot_registry.specs.declared.Snapshot.{Snapshot}
use Rattle.snapshot_registry.specs.Snapshots.{snapshot_now, committed_in, takes_effect}
use Rattle.snapshot_registry.specs.Laws.{IsTakenFrom}
use Rattle.snapshot_registry.proofs.Moments.{stays_assign, stays_commit, stays_abort}
use Rattle.row_versions.specs.declared.version.Version.{Version}
use Rattle.row_versions.specs.Versions.{new_version}
use Rattle.row_versions.specs.Relations.{Pages}
use Rattle.xact_status.specs.Versions.{is_there, counts_for}
use Rattle.value_holders.specs.Stamps.{IsUnended, IsOpenFor}
use Rattle.table_rows.specs.Worlds.{tuple_at, tuple_in, IsOne, IsVersionAt, IsUntouched}
use Rattle.table_rows.specs.Steps.{stamp_of, ended_by, IsPut, IsEnded, IsReplaced}
use Rattle.table_rows.specs.Views.{IsOwnAt, IsViewNow, IsSince}
use Rattle.table_rows.proofs.Worlds.{world_gives_none, at_version, of_present, there_same, version_shown}
use Rattle.std.proofs.lemmas.Bool.{cases_eq}
use Rattle.table_rows.proofs.Changes.{at_replaced_in}
use Rattle.table_rows.proofs.Unique.{agree_committed, agree_untouched}
use Rattle.table_rows.proofs.Views.{agree_unwritten}
use Rattle.table_rows.proofs.Tests.{not_shown, shown_now, own_counts, other_counts, own_assigned, own_aborted, latest_committed}

-- ---- where the versions of the pages after a step come from

-- a version that is there after it was there before, or is the new one, or the old one with its end
pub data From (xid : ℕ) (pages : Pages) (old version : Version) (tid : Tid) (now : Version) : Type 0 where
  Stays : item_in pages tid ≡ Some now → From xid pages old version tid now
  New : now ≡ version → From xid pages old version tid now
  Ended : item_in pages tid ≡ Some old → now ≡ ended_by xid old → From xid pages old version tid now

pub from_replaced : (xid : ℕ) (pages later : Pages) (tid new : Tid) (old version : Version) → IsReplaced xid pages later tid new old version → (t : Tid) (now : Version) → item_in later t ≡ Some now → From xid pages old version t now
from_replaced xid pages later tid new old version replaced t now is = elim (cases_tid t new) [
  | inl here ↦ New (same_Some _ _ (sym is ∙ ap (item_in later) here ∙ replaced.put))
  | inr other ↦ elim (cases_tid t tid) [
    | inl there ↦ Ended (ap (item_in pages) there ∙ replaced.there) (same_Some _ _ (sym is ∙ ap (item_in later) there ∙ replaced.ended))
    | inr neither ↦ Stays (sym (replaced.elsewhere t other neither) ∙ is)
  ]
]

pub from_put : (pages later : Pages) (new : Tid) (version : Version) → IsPut pages later new version → (t : Tid) (now : Version) → item_in later t ≡ Some now → (item_in pages t ≡ Some now) ⊎ (now ≡ version)
from_put pages later new version put t now is = elim (cases_tid t new) [
  | inl here ↦ inr (same_Some _ _ (sym is ∙ ap (item_in later) here ∙ put.put))
  | inr other ↦ inl (sym (put.elsewhere t other) ∙ is)
]

pub from_ended : (xid : ℕ) (pages later : Pages) (tid : Tid) (old : Version) → IsEnded xid pages later tid old → (t : Tid) (now : Version) → item_in later t ≡ Some now → (item_in pages t ≡ Some now) ⊎ ((item_in pages t ≡ Some old) × (now ≡ ended_by xid old))
from_ended xid pages later tid old ended t now is = elim (cases_tid t tid) [
  | inl there ↦ inr (ap (item_in pages) there ∙ ended.there, same_Some _ _ (sym is ∙ ap (item_in later) there ∙ ended.ended))
  | inr other ↦ inl (sym (ended.elsewhere t other) ∙ is)
]

-- ---- tests of a running xid

-- what a version in a world tells of its xids
pub there_parts : (counts : ℕ → Bool) (inserter : ℕ) (ender : Option ℕ) → is_there counts inserter ender ≡ true → (counts inserter ≡ true) × (option_map_or counts ender false ≡ false)
there_parts counts inserter ender there = parts (counts inserter) (option_map_or counts ender false) there
  where
    parts : (a b : Bool) → (a && not b) ≡ true → (a ≡ true) × (b ≡ false)
    parts true true e = absurd (cc)
    parts true false e = (refl, refl)
    parts false b e = absurd (cc)

there_from : (counts : ℕ → Bool) (inserter : ℕ) (ender : Option ℕ) → counts inserter ≡ true → option_map_or counts ender false ≡ false → is_there counts inserter ender ≡ true
there_from counts inserter ender on off = both (counts inserter) (option_map_or counts ender false) on off
  where
    both : (a b : Bool) → a ≡ true → b ≡ false → (a && not b) ≡ true
    both true true e f = absurd (cc)
    both true false e f = refl
    both false b e f = absurd (cc)

true_false : (b : Bool) → b ≡ true → b ≡ false → ⊥
true_false true e f = cc
true_false false e f = cc

-- a running xid counts by a snapshot and an own xid as it does now
running_alike : (xacts : Xacts) (snapshot : Snapshot) (x y : ℕ) → is_running xacts y ≡ true → takes_effect xacts snapshot (Some x) y ≡ counts_for xacts (Some x) y
running_alike xacts snapshot x y runs = ap (λ b. (x == y) || b) (not_shown xacts snapshot y (running_is_uncommitted xacts y runs) ∙ sym (running_is_uncommitted xacts y runs))

-- an end that was not made counts in neither
unended_viewed : (xacts : Xacts) (snapshot : Snapshot) (x : ℕ) (ender : Option ℕ) → is_running xacts x ≡ true → IsUnended xacts ender → option_map_or (takes_effect xacts snapshot (Some x)) ender false ≡ false
unended_viewed xacts snapshot x None runs unended = refl
unended_viewed xacts snapshot x (Some e) runs unended = other_counts x e (committed_in xacts snapshot e) (λ same. true_false (is_running xacts e) (ap (is_running xacts) same ∙ runs) (unended.not_ending e refl)) ∙ not_shown xacts snapshot e (unended.not_ended e refl)

unended_own : (xacts : Xacts) (x : ℕ) (ender : Option ℕ) → is_running xacts x ≡ true → IsUnended xacts ender → option_map_or (counts_for xacts (Some x)) ender false ≡ false
unended_own xacts x None runs unended = refl
unended_own xacts x (Some e) runs unended = other_counts x e (is_committed xacts e) (λ same. true_false (is_running xacts e) (ap (is_running xacts) same ∙ runs) (unended.not_ending e refl)) ∙ unended.not_ended e refl

unended_shown : (xacts : Xacts) (snapshot : Snapshot) (ender : Option ℕ) → IsUnended xacts ender → option_map_or (committed_in xacts snapshot) ender false ≡ false
unended_shown xacts snapshot None unended = refl
unended_shown xacts snapshot (Some e) unended = not_shown xacts snapshot e (unended.not_ended e refl)

unended_uncommitted : (xacts : Xacts) (ender : Option ℕ) → IsUnended xacts ender → option_map_or (is_committed xacts) ender false ≡ false
unended_uncommitted xacts None unended = refl
unended_uncommitted xacts (Some e) unended = unended.not_ended e refl

-- a version whose end is not made was at its key before that was made
before_end : (pages : Pages) (key : ℤ) (t : Tid) (xid : ℕ) (old now : Version) → item_in pages t ≡ Some old → now ≡ ended_by xid old → is_eq (int_cmp now.key key) ≡ true → IsVersionAt pages key t old
before_end pages key t xid old now at is of_key = record { there = at; of_key = ap (λ (v : Version). is_eq (int_cmp v.key key)) (sym is) ∙ of_key }

-- ---- what the transaction sees by its snapshot is what is there for it

view_new : (xacts : Xacts) (snapshot : Snapshot) (x y : ℕ) (now : Version) (key : ℤ) (tuple : List ℕ) → is_running xacts y ≡ true → now ≡ new_version key y tuple → is_there (takes_effect xacts snapshot (Some x)) now.inserter now.ender ≡ is_there (counts_for xacts (Some x)) now.inserter now.ender
view_new xacts snapshot x y now key tuple runs is = subst (λ (v : Version). is_there (takes_effect xacts snapshot (Some x)) v.inserter v.ender ≡ is_there (counts_for xacts (Some x)) v.inserter v.ender) (sym is) (ap (λ b. b && true) (running_alike xacts snapshot x y runs))

view_end : (xacts : Xacts) (snapshot : Snapshot) (x y : ℕ) (pages : Pages) (key : ℤ) (t : Tid) (old now : Version) → is_running xacts x ≡ true → is_running xacts y ≡ true → IsOpenFor xacts y (stamp_of old) → IsViewNow xacts snapshot x pages key → IsVersionAt pages key t old → now ≡ ended_by y old
    → is_there (takes_effect xacts snapshot (Some x)) now.inserter now.ender ≡ is_there (counts_for xacts (Some x)) now.inserter now.ender
view_end xacts snapshot x y pages key t old now runs ends opened view at is = subst (λ (v : Version). is_there (takes_effect xacts snapshot (Some x)) v.inserter v.ender ≡ is_there (counts_for xacts (Some x)) v.inserter v.ender) (sym is) (both (takes_effect xacts snapshot (Some x) old.inserter) (counts_for xacts (Some x) old.inserter) _ _ _ _ inserter (unended_viewed xacts snapshot x old.ender runs opened.unended) (unended_own xacts x old.ender runs opened.unended) (running_alike xacts snapshot x y ends))
  where
    inserter : is_there (takes_effect xacts snapshot (Some x)) old.inserter old.ender ≡ is_there (counts_for xacts (Some x)) old.inserter old.ender
    inserter = view.on t old at

    both : (a b c d e f : Bool) → (a && not c) ≡ (b && not d) → c ≡ false → d ≡ false → e ≡ f → (a && not e) ≡ (b && not f)
    both a b c d e f same co dn ef = ap (λ z. a && not z) ef ∙ ap (λ z. z && not f) (first a b c d same co dn)
      where
        first : (a b c d : Bool) → (a && not c) ≡ (b && not d) → c ≡ false → d ≡ false → a ≡ b
        first true true c d same co dn = refl
        first true false c d same co dn = absurd (true_false (true && not c) (ap (λ z. true && not z) co) same)
        first false true c d same co dn = absurd (true_false (true && not d) (ap (λ z. true && not z) dn) (sym same))
        first false false c d same co dn = refl

pub view_put : (xacts : Xacts) (snapshot : Snapshot) (x y : ℕ) (pages later : Pages) (new : Tid) (k key : ℤ) (tuple : List ℕ) → is_running xacts y ≡ true → IsPut pages later new (new_version key y tuple) → IsViewNow xacts snapshot x pages k → IsViewNow xacts snapshot x later k
view_put xacts snapshot x y pages later new k key tuple runs put view = record {
  on = λ t now at. elim (from_put pages later new (new_version key y tuple) put t now at.there) [
    | inl was ↦ view.on t now (record { there = was; of_key = at.of_key })
    | inr is_new ↦ view_new xacts snapshot x y now key tuple runs is_new
  ];
}

pub view_ended : (xacts : Xacts) (snapshot : Snapshot) (x y : ℕ) (pages later : Pages) (tid : Tid) (old : Version) (k : ℤ) → is_running xacts x ≡ true → is_running xacts y ≡ true → IsOpenFor xacts y (stamp_of old) → IsEnded y pages later tid old → IsViewNow xacts snapshot x pages k → IsViewNow xacts snapshot x later k
view_ended xacts snapshot x y pages later tid old k runs ends opened ended view = record {
  on = λ t now at. elim (from_ended y pages later tid old ended t now at.there) [
    | inl was ↦ view.on t now (record { there = was; of_key = at.of_key })
    | inr was ↦ view_end xacts snapshot x y pages k t old now runs ends opened view (before_end pages k t y old now was.0 was.1 at.of_key) was.1
  ];
}

pub view_replaced : (xacts : Xacts) (snapshot : Snapshot) (x y : ℕ) (pages later : Pages) (tid new : Tid) (old : Version) (k key : ℤ) (tuple : List ℕ) → is_running xacts x ≡ true → is_running xacts y ≡ true → IsOpenFor xacts y (stamp_of old) → IsReplaced y pages later tid new old (new_version key y tuple) → IsViewNow xacts snapshot x pages k → IsViewNow xacts snapshot x later k
view_replaced xacts snapshot x y pages later tid new old k key tuple runs ends opened replaced view = record { on = λ t now at. by_from t now at (from_replaced y pages later tid new old (new_version key y tuple) replaced t now at.there) }
  where
    by_from : (t : Tid) (now : Version) → IsVersionAt later k t now → From y pages old (new_version key y tuple) t now → is_there (takes_effect xacts snapshot (Some x)) now.inserter now.ender ≡ is_there (counts_for xacts (Some x)) now.inserter now.ender
    by_from t now at (Stays was) = view.on t now (record { there = was; of_key = at.of_key })
    by_from t now at (New is_new) = view_new xacts snapshot x y now key tuple ends is_new
    by_from t now at (Ended was is) = view_end xacts snapshot x y pages k t old now runs ends opened view (before_end pages k t y old now was is at.of_key) is

pub view_left : (xacts : Xacts) (snapshot : Snapshot) (x : ℕ) (pages later : Pages) (k : ℤ) → ((tid : Tid) (version : Version) → item_in later tid ≡ Some version → item_in pages tid ≡ Some version) → IsViewNow xacts snapshot x pages k → IsViewNow xacts snapshot x later k
view_left xacts snapshot x pages later k left view = record { on = λ t now at. view.on t now (record { there = left t now at.there; of_key = at.of_key }) }

-- what becomes of other transactions
view_effect : (old new : Xacts) (snapshot : Snapshot) (x : ℕ) (inserter : ℕ) (ender : Option ℕ) → ((z : ℕ) → committed_in new snapshot z ≡ committed_in old snapshot z) → is_there (takes_effect new snapshot (Some x)) inserter ender ≡ is_there (takes_effect old snapshot (Some x)) inserter ender
view_effect old new snapshot x inserter ender same = there_same _ _ inserter ender (λ z. ap (λ b. (x == z) || b) (same z))

pub view_committed : (xacts : Xacts) (snapshot : Snapshot) (x y : ℕ) (pages : Pages) (k : ℤ) → is_running xacts y ≡ true → IsTakenFrom xacts snapshot → IsUntouched y pages k → IsViewNow xacts snapshot x pages k → IsViewNow (after_commit xacts y) snapshot x pages k
view_committed xacts snapshot x y pages k runs taken untouched view = record {
  on = λ t now at.
      view_effect xacts (after_commit xacts y) snapshot x now.inserter now.ender (λ z. stays_commit xacts snapshot y z runs taken) ∙ view.on t now at ∙ (agree_committed xacts y x pages k runs untouched).on t now at;
}

pub view_aborted : (xacts : Xacts) (snapshot : Snapshot) (x y : ℕ) (pages : Pages) (k : ℤ) → is_running xacts y ≡ true → IsViewNow xacts snapshot x pages k → IsViewNow (after_abort xacts y) snapshot x pages k
view_aborted xacts snapshot x y pages k runs view = record {
  on = λ t now at.
      view_effect xacts (after_abort xacts y) snapshot x now.inserter now.ender (λ z. stays_abort xacts snapshot y z runs) ∙ view.on t now at ∙ there_same _ _ now.inserter now.ender (λ z. sym (own_aborted xacts y x z runs));
}

pub view_assigned : (xacts : Xacts) (snapshot : Snapshot) (x session : ℕ) (pages : Pages) (k : ℤ) → IsViewNow xacts snapshot x pages k → IsViewNow (after_assign xacts session) snapshot x pages k
view_assigned xacts snapshot x session pages k view = record {
  on = λ t now at.
      view_effect xacts (after_assign xacts session) snapshot x now.inserter now.ender (λ z. stays_assign xacts snapshot session z) ∙ view.on t now at ∙ there_same _ _ now.inserter now.ender (λ z. sym (own_assigned xacts session x z));
}

-- ---- the transaction's own change is the last at a key

pub own_none : (xacts : Xacts) (x : ℕ) (pages : Pages) (k : ℤ) → tuple_in (counts_for xacts (Some x)) pages k ≡ None → IsOwnAt xacts x pages k
own_none xacts x pages k none = record { each = λ t now at there. absurd (none-some now.tuple (sym (world_gives_none (counts_for xacts (Some x)) pages k none t) ∙ at_version (counts_for xacts (Some x)) pages k t now at.there ∙ of_present (counts_for xacts (Some x)) k now at.of_key there)) }

own_new : (xacts : Xacts) (x y : ℕ) (now : Version) (key : ℤ) (tuple : List ℕ) → is_running xacts y ≡ true → now ≡ new_version key y tuple → is_there (counts_for xacts (Some x)) now.inserter now.ender ≡ true → now.inserter ≡ x
own_new xacts x y now key tuple runs is there = elim (cases_eq y x) [
  | inl same ↦ ap (λ (v : Version). v.inserter) is ∙ same
  | inr other ↦ absurd (true_false (counts_for xacts (Some x) now.inserter) (there_parts (counts_for xacts (Some x)) now.inserter now.ender there).0 (ap (λ (v : Version). counts_for xacts (Some x) v.inserter) is ∙ other_counts x y (is_committed xacts y) other ∙ running_is_uncommitted xacts y runs))
]

own_end : (xacts : Xacts) (x y : ℕ) (pages : Pages) (k : ℤ) (t : Tid) (old now : Version) → is_running xacts x ≡ true → IsOpenFor xacts y (stamp_of old) → IsOwnAt xacts x pages k → IsVersionAt pages k t old → now ≡ ended_by y old → is_there (counts_for xacts (Some x)) now.inserter now.ender ≡ true → now.inserter ≡ x
own_end xacts x y pages k t old now runs opened own at is there =
    let parts = there_parts (counts_for xacts (Some x)) now.inserter now.ender there in
    let inserter : counts_for xacts (Some x) old.inserter ≡ true = ap (λ (v : Version). counts_for xacts (Some x) v.inserter) (sym is) ∙ parts.0 in
    ap (λ (v : Version). v.inserter) is ∙ own.each t old at (there_from (counts_for xacts (Some x)) old.inserter old.ender inserter (unended_own xacts x old.ender runs opened.unended))

pub own_put : (xacts : Xacts) (x y : ℕ) (pages later : Pages) (new : Tid) (k key : ℤ) (tuple : List ℕ) → is_running xacts y ≡ true → IsPut pages later new (new_version key y tuple) → IsOwnAt xacts x pages k → IsOwnAt xacts x later k
own_put xacts x y pages later new k key tuple runs put own = record {
  each = λ t now at there. elim (from_put pages later new (new_version key y tuple) put t now at.there) [
    | inl was ↦ own.each t now (record { there = was; of_key = at.of_key }) there
    | inr is_new ↦ own_new xacts x y now key tuple runs is_new there
  ];
}

pub own_ended : (xacts : Xacts) (x y : ℕ) (pages later : Pages) (tid : Tid) (old : Version) (k : ℤ) → is_running xacts x ≡ true → IsOpenFor xacts y (stamp_of old) → IsEnded y pages later tid old → IsOwnAt xacts x pages k → IsOwnAt xacts x later k
own_ended xacts x y pages later tid old k runs opened ended own = record {
  each = λ t now at there. elim (from_ended y pages later tid old ended t now at.there) [
    | inl was ↦ own.each t now (record { there = was; of_key = at.of_key }) there
    | inr was ↦ own_end xacts x y pages k t old now runs opened own (before_end pages k t y old now was.0 was.1 at.of_key) was.1 there
  ];
}

pub own_replaced : (xacts : Xacts) (x y : ℕ) (pages later : Pages) (tid new : Tid) (old : Version) (k key : ℤ) (tuple : List ℕ) → is_running xacts x ≡ true → is_running xacts y ≡ true → IsOpenFor xacts y (stamp_of old) → IsReplaced y pages later tid new old (new_version key y tuple) → IsOwnAt xacts x pages k → IsOwnAt xacts x later k
own_replaced xacts x y pages later tid new old k key tuple runs ends opened replaced own = record { each = λ t now at there. by_from t now at there (from_replaced y pages later tid new old (new_version key y tuple) replaced t now at.there) }
  where
    by_from : (t : Tid) (now : Version) → IsVersionAt later k t now → is_there (counts_for xacts (Some x)) now.inserter now.ender ≡ true → From y pages old (new_version key y tuple) t now → now.inserter ≡ x
    by_from t now at there (Stays was) = own.each t now (record { there = was; of_key = at.of_key }) there
    by_from t now at there (New is_new) = own_new xacts x y now key tuple ends is_new there
    by_from t now at there (Ended was is) = own_end xacts x y pages k t old now runs opened own (before_end pages k t y old now was is at.of_key) is there

-- an update makes it so at its key, whoever put the old version
pub own_updated : (xacts : Xacts) (x : ℕ) (pages later : Pages) (tid new : Tid) (old : Version) (k key : ℤ) (tuple : List ℕ) → is_running xacts x ≡ true → IsReplaced x pages later tid new old (new_version key x tuple) → ((t : Tid) → t ≢ tid → tuple_at (counts_for xacts (Some x)) pages k t ≡ None) → IsOwnAt xacts x later k
own_updated xacts x pages later tid new old k key tuple runs replaced off = record {
  each = λ t now at there. elim (cases_tid t new) [
    | inl here ↦ ap (λ (v : Version). v.inserter) (same_Some _ _ (sym at.there ∙ ap (item_in later) here ∙ replaced.put))
    | inr other ↦ absurd (none-some now.tuple (sym (at_replaced_in (counts_for xacts (Some x)) x pages later tid new old (new_version key x tuple) k replaced (own_counts x (is_committed xacts x)) off t other) ∙ at_version (counts_for xacts (Some x)) later k t now at.there ∙ of_present (counts_for xacts (Some x)) k now at.of_key there))
  ];
}

pub own_left : (xacts : Xacts) (x : ℕ) (pages later : Pages) (k : ℤ) → ((tid : Tid) (version : Version) → item_in later tid ≡ Some version → item_in pages tid ≡ Some version) → IsOwnAt xacts x pages k → IsOwnAt xacts x later k
own_left xacts x pages later k left own = record { each = λ t now at there. own.each t now (record { there = left t now at.there; of_key = at.of_key }) there }

pub own_committed_by : (xacts : Xacts) (x y : ℕ) (pages : Pages) (k : ℤ) → is_running xacts y ≡ true → IsUntouched y pages k → IsOwnAt xacts x pages k → IsOwnAt (after_commit xacts y) x pages k
own_committed_by xacts x y pages k runs untouched own = record { each = λ t now at there. own.each t now at ((agree_committed xacts y x pages k runs untouched).on t now at ∙ there) }

pub own_aborted_by : (xacts : Xacts) (x y : ℕ) (pages : Pages) (k : ℤ) → is_running xacts y ≡ true → IsOwnAt xacts x pages k → IsOwnAt (after_abort xacts y) x pages k
own_aborted_by xacts x y pages k runs own = record { each = λ t now at there. own.each t now at (there_same _ _ now.inserter now.ender (λ z. sym (own_aborted xacts y x z runs)) ∙ there) }

pub own_assigned_by : (xacts : Xacts) (x session : ℕ) (pages : Pages) (k : ℤ) → IsOwnAt xacts x pages k → IsOwnAt (after_assign xacts session) x pages k
own_assigned_by xacts x session pages k own = record { each = λ t now at there. own.each t now at (there_same _ _ now.inserter now.ender (λ z. sym (own_assigned xacts session x z)) ∙ there) }

-- ---- whether a key was changed since a snapshot

pub since_taken : (xacts : Xacts) (snapshot : Snapshot) (pages : Pages) (k : ℤ) → snapshot ≡ snapshot_now xacts → IsSince xacts snapshot pages k false
since_taken xacts snapshot pages k new = record { tells = λ t now at there. sym (sym (same now.ender) ∙ (there_parts (committed_in xacts snapshot) now.inserter now.ender there).1) }
  where
    same : (ender : Option ℕ) → option_map_or (committed_in xacts snapshot) ender false ≡ option_map_or (is_committed xacts) ender false
    same None = refl
    same (Some e) = ap (λ s. committed_in xacts s e) new ∙ shown_now xacts e

since_new : (xacts : Xacts) (snapshot : Snapshot) (y : ℕ) (now : Version) (key : ℤ) (tuple : List ℕ) (changed : Bool) → is_running xacts y ≡ true → now ≡ new_version key y tuple → is_there (committed_in xacts snapshot) now.inserter now.ender ≡ true → changed ≡ option_map_or (is_committed xacts) now.ender false
since_new xacts snapshot y now key tuple changed runs is there = absurd (true_false (committed_in xacts snapshot now.inserter) (there_parts (committed_in xacts snapshot) now.inserter now.ender there).0 (ap (λ (v : Version). committed_in xacts snapshot v.inserter) is ∙ not_shown xacts snapshot y (running_is_uncommitted xacts y runs)))

since_end : (xacts : Xacts) (snapshot : Snapshot) (y : ℕ) (pages : Pages) (k : ℤ) (t : Tid) (old now : Version) (changed : Bool) → is_running xacts y ≡ true → IsOpenFor xacts y (stamp_of old) → IsSince xacts snapshot pages k changed → IsVersionAt pages k t old → now ≡ ended_by y old → is_there (committed_in xacts snapshot) now.inserter now.ender ≡ true → changed ≡ option_map_or (is_committed xacts) now.ender false
since_end xacts snapshot y pages k t old now changed runs opened since at is there =
    let inserter : committed_in xacts snapshot old.inserter ≡ true = ap (λ (v : Version). committed_in xacts snapshot v.inserter) (sym is) ∙ (there_parts (committed_in xacts snapshot) now.inserter now.ender there).0 in
    since.tells t old at (there_from (committed_in xacts snapshot) old.inserter old.ender inserter (unended_shown xacts snapshot old.ender opened.unended)) ∙ unended_uncommitted xacts old.ender opened.unended ∙ sym (ap (λ (v : Version). option_map_or (is_committed xacts) v.ender false) is ∙ running_is_uncommitted xacts y runs)

pub since_put : (xacts : Xacts) (snapshot : Snapshot) (y : ℕ) (pages later : Pages) (new : Tid) (k key : ℤ) (tuple : List ℕ) (changed : Bool) → is_running xacts y ≡ true → IsPut pages later new (new_version key y tuple) → IsSince xacts snapshot pages k changed → IsSince xacts snapshot later k changed
since_put xacts snapshot y pages later new k key tuple changed runs put since = record {
  tells = λ t now at there. elim (from_put pages later new (new_version key y tuple) put t now at.there) [
    | inl was ↦ since.tells t now (record { there = was; of_key = at.of_key }) there
    | inr is_new ↦ since_new xacts snapshot y now key tuple changed runs is_new there
  ];
}

pub since_ended : (xacts : Xacts) (snapshot : Snapshot) (y : ℕ) (pages later : Pages) (tid : Tid) (old : Version) (k : ℤ) (changed : Bool) → is_running xacts y ≡ true → IsOpenFor xacts y (stamp_of old) → IsEnded y pages later tid old → IsSince xacts snapshot pages k changed → IsSince xacts snapshot later k changed
since_ended xacts snapshot y pages later tid old k changed runs opened ended since = record {
  tells = λ t now at there. elim (from_ended y pages later tid old ended t now at.there) [
    | inl was ↦ since.tells t now (record { there = was; of_key = at.of_key }) there
    | inr was ↦ since_end xacts snapshot y pages k t old now changed runs opened since (before_end pages k t y old now was.0 was.1 at.of_key) was.1 there
  ];
}

pub since_replaced : (xacts : Xacts) (snapshot : Snapshot) (y : ℕ) (pages later : Pages) (tid new : Tid) (old : Version) (k key : ℤ) (tuple : List ℕ) (changed : Bool) → is_running xacts y ≡ true → IsOpenFor xacts y (stamp_of old) → IsReplaced y pages later tid new old (new_version key y tuple) → IsSince xacts snapshot pages k changed → IsSince xacts snapshot later k changed
since_replaced xacts snapshot y pages later tid new old k key tuple changed runs opened replaced since = record { tells = λ t now at there. by_from t now at there (from_replaced y pages later tid new old (new_version key y tuple) replaced t now at.there) }
  where
    by_from : (t : Tid) (now : Version) → IsVersionAt later k t now → is_there (committed_in xacts snapshot) now.inserter now.ender ≡ true → From y pages old (new_version key y tuple) t now → changed ≡ option_map_or (is_committed xacts) now.ender false
    by_from t now at there (Stays was) = since.tells t now (record { there = was; of_key = at.of_key }) there
    by_from t now at there (New is_new) = since_new xacts snapshot y now key tuple changed runs is_new there
    by_from t now at there (Ended was is) = since_end xacts snapshot y pages k t old now changed runs opened since (before_end pages k t y old now was is at.of_key) is there

pub since_left : (xacts : Xacts) (snapshot : Snapshot) (pages later : Pages) (k : ℤ) (changed : Bool) → ((tid : Tid) (version : Version) → item_in later tid ≡ Some version → item_in pages tid ≡ Some version) → IsSince xacts snapshot pages k changed → IsSince xacts snapshot later k changed
since_left xacts snapshot pages later k changed left since = record { tells = λ t now at there. since.tells t now (record { there = left t now at.there; of_key = at.of_key }) there }

-- another transaction commits that has touched nothing at the key
shown_there : (old new : Xacts) (snapshot : Snapshot) (inserter : ℕ) (ender : Option ℕ) → ((z : ℕ) → committed_in new snapshot z ≡ committed_in old snapshot z) → is_there (committed_in new snapshot) inserter ender ≡ true → is_there (committed_in old snapshot) inserter ender ≡ true
shown_there old new snapshot inserter ender same there = sym (there_same _ _ inserter ender same) ∙ there

pub since_untouched : (xacts : Xacts) (snapshot : Snapshot) (y : ℕ) (pages : Pages) (k : ℤ) (changed : Bool) → is_running xacts y ≡ true → IsTakenFrom xacts snapshot → IsUntouched y pages k → IsSince xacts snapshot pages k changed → IsSince (after_commit xacts y) snapshot pages k changed
since_untouched xacts snapshot y pages k changed runs taken untouched since = record { tells = λ t now at there. since.tells t now at (shown_there xacts (after_commit xacts y) snapshot now.inserter now.ender (λ z. stays_commit xacts snapshot y z runs taken) there) ∙ by_ender now.ender (untouched.ender t now at) }
  where
    by_ender : (ender : Option ℕ) → ender ≢ Some y → option_map_or (is_committed xacts) ender false ≡ option_map_or (is_committed (after_commit xacts y)) ender false
    by_ender None other = refl
    by_ender (Some e) other = sym (latest_committed xacts y e runs ∙ other_counts y e (is_committed xacts e) (λ same. other (ap Some same)))

-- or one whose own change is the last there
pub since_changed : (xacts : Xacts) (snapshot : Snapshot) (y : ℕ) (pages : Pages) (k : ℤ) → is_running xacts y ≡ true → IsTakenFrom xacts snapshot → IsOwnAt xacts y pages k → IsSince (after_commit xacts y) snapshot pages k true
since_changed xacts snapshot y pages k runs taken own = record { tells = λ t now at there. sym (by_test t now at (shown_there xacts (after_commit xacts y) snapshot now.inserter now.ender (λ z. stays_commit xacts snapshot y z runs taken) there) (option_map_or (is_committed (after_commit xacts y)) now.ender false) refl) }
  where
    same : (ender : Option ℕ) → option_map_or (is_committed (after_commit xacts y)) ender false ≡ option_map_or (counts_for xacts (Some y)) ender false
    same None = refl
    same (Some e) = latest_committed xacts y e runs

    shown_counts : (z : ℕ) → committed_in xacts snapshot z ≡ true → counts_for xacts (Some y) z ≡ true
    shown_counts z shown = right (y == z) (is_committed xacts z) (left (is_committed xacts z) _ shown)
      where
        left : (a b : Bool) → (a && b) ≡ true → a ≡ true
        left true b e = refl
        left false b e = absurd (cc)

        right : (a b : Bool) → b ≡ true → (a || b) ≡ true
        right true b e = refl
        right false b e = e

    by_test : (t : Tid) (now : Version) → IsVersionAt pages k t now → is_there (committed_in xacts snapshot) now.inserter now.ender ≡ true → (b : Bool) → option_map_or (is_committed (after_commit xacts y)) now.ender false ≡ b → option_map_or (is_committed (after_commit xacts y)) now.ender false ≡ true
    by_test t now at there true is = is
    by_test t now at there false is =
        let shown = (there_parts (committed_in xacts snapshot) now.inserter now.ender there).0 in
        let mine = own.each t now at (there_from (counts_for xacts (Some y)) now.inserter now.ender (shown_counts now.inserter shown) (sym (same now.ender) ∙ is)) in
        absurd (true_false (committed_in xacts snapshot now.inserter) shown (ap (committed_in xacts snapshot) mine ∙ not_shown xacts snapshot y (running_is_uncommitted xacts y runs)))

pub since_aborted : (xacts : Xacts) (snapshot : Snapshot) (y : ℕ) (pages : Pages) (k : ℤ) (changed : Bool) → is_running xacts y ≡ true → IsSince xacts snapshot pages k changed → IsSince (after_abort xacts y) snapshot pages k changed
since_aborted xacts snapshot y pages k changed runs since = record { tells = λ t now at there. since.tells t now at (shown_there xacts (after_abort xacts y) snapshot now.inserter now.ender (λ z. stays_abort xacts snapshot y z runs) there) ∙ by_ender now.ender }
  where
    by_ender : (ender : Option ℕ) → option_map_or (is_committed xacts) ender false ≡ option_map_or (is_committed (after_abort xacts y)) ender false
    by_ender None = refl
    by_ender (Some e) = sym (committed_abort xacts y runs e)

pub since_assigned : (xacts : Xacts) (snapshot : Snapshot) (session : ℕ) (pages : Pages) (k : ℤ) (changed : Bool) → IsSince xacts snapshot pages k changed → IsSince (after_assign xacts session) snapshot pages k changed
since_assigned xacts snapshot session pages k changed since = record { tells = λ t now at there. since.tells t now at (shown_there xacts (after_assign xacts session) snapshot now.inserter now.ender (λ z. stays_assign xacts snapshot session z) there) ∙ by_ender now.ender }
  where
    by_ender : (ender : Option ℕ) → option_map_or (is_committed xacts) ender false ≡ option_map_or (is_committed (after_assign xacts session)) ender false
    by_ender None = refl
    by_ender (Some e) = sym (committed_assign xacts session e)

-- ---- a claim under a snapshot: what it shows at the key is unchanged, or nothing is there

pub view_claimed : (xacts : Xacts) (snapshot : Snapshot) (x : ℕ) (pages : Pages) (k : ℤ) → IsUntouched x pages k → IsOne (is_committed xacts) pages k → IsSince xacts snapshot pages k false → (tuple_in (is_committed xacts) pages k ≡ None) ⊎ ((t : Tid) × (a : List ℕ) × (tuple_at (committed_in xacts snapshot) pages k t ≡ Some a)) → IsViewNow xacts snapshot x pages k
view_claimed xacts snapshot x pages k untouched one since found = record {
  on = λ t now at.
      sym ((agree_unwritten xacts snapshot x pages k untouched).on t now at) ∙ same t now at (is_there (committed_in xacts snapshot) now.inserter now.ender) (is_there (is_committed xacts) now.inserter now.ender) refl refl ∙ (agree_untouched (is_committed xacts) (counts_for xacts (Some x)) x pages k untouched (λ z apart. sym (other_counts x z (is_committed xacts z) apart))).on t now at;
}
  where
    -- what the snapshot shows is in the latest world
    is_latest : (t : Tid) (now : Version) → IsVersionAt pages k t now → is_there (committed_in xacts snapshot) now.inserter now.ender ≡ true → is_there (is_committed xacts) now.inserter now.ender ≡ true
    is_latest t now at there = there_from (is_committed xacts) now.inserter now.ender (left (is_committed xacts now.inserter) _ (there_parts (committed_in xacts snapshot) now.inserter now.ender there).0) (sym (since.tells t now at there))
      where
        left : (a b : Bool) → (a && b) ≡ true → a ≡ true
        left true b e = refl
        left false b e = absurd (cc)

    at_latest : (t : Tid) (now : Version) → IsVersionAt pages k t now → is_there (is_committed xacts) now.inserter now.ender ≡ true → tuple_at (is_committed xacts) pages k t ≡ Some now.tuple
    at_latest t now at there = at_version (is_committed xacts) pages k t now at.there ∙ of_present (is_committed xacts) k now at.of_key there

    same : (t : Tid) (now : Version) → IsVersionAt pages k t now → (b c : Bool) → is_there (committed_in xacts snapshot) now.inserter now.ender ≡ b → is_there (is_committed xacts) now.inserter now.ender ≡ c → is_there (committed_in xacts snapshot) now.inserter now.ender ≡ is_there (is_committed xacts) now.inserter now.ender
    same t now at true true e f = e ∙ sym f
    same t now at false false e f = e ∙ sym f
    same t now at true false e f = absurd (true_false (is_there (is_committed xacts) now.inserter now.ender) (is_latest t now at e) f)
    same t now at false true e f = absurd (elim found [
      | inl none ↦ none-some now.tuple (sym (world_gives_none (is_committed xacts) pages k none t) ∙ at_latest t now at f)
      | inr shown ↦
          let was = version_shown (committed_in xacts snapshot) pages k shown.0 shown.1 shown.2 in
          let here = one.same t shown.0 now.tuple was.0.tuple (at_latest t now at f) (at_latest shown.0 was.0 was.1.at (is_latest shown.0 was.0 was.1.at was.1.present)) in
          let its = same_Some _ _ (sym at.there ∙ ap (item_in pages) here ∙ was.1.at.there) in
          true_false (is_there (committed_in xacts snapshot) now.inserter now.ender) (ap (λ (v : Version). is_there (committed_in xacts snapshot) v.inserter v.ender) its ∙ was.1.present) e
    ])
