-- What each call of `RowVersions` does to the versions of its pages.
use Rattle.std.proofs.Common.{ℕ, ◌≡◌, ◌≢◌, inl, inr, true, false, Some, refl, sym, ap, subst, ◌∙◌}
use Rattle.std.proofs.lemmas.Option.{none-some, same_Some}
use Rattle.slot_page.specs.declared.line.Tid.{Tid}
use Rattle.slot_page.specs.declared.line.LinePointer.{LinePointer}
use Rattle.slot_page.specs.declared.line.LinePointer.TheVariants.{Normal, Dead, Unused}
use Rattle.slot_page.specs.Slots.{item_of, is_unused, IsDead}
use Rattle.slot_page.specs.Pages.{slot_of, item_in, written, put_tid, with_put_on}
use Rattle.slot_page.proofs.Pages.{put_was_free, item_put, items_kept_when_put, written_here, items_elsewhere, items_kept_when_freed}
use Rattle.xact_status.specs.Xacts.{Xacts, IsAssigned}
use Rattle.row_versions.specs.declared.version.Version.{Version}
use Rattle.row_versions.specs.Versions.{ended, is_dead_version}
use Rattle.xact_status.specs.Versions.{is_dead}
use Rattle.row_versions.specs.Relations.{Pages, AreAssigned, pages_ended, pages_pruned}
use Rattle.row_versions.proofs.Events.{item_of-pruned}
use Rattle.heap_prune.specs.Lines.{IsLineAssigned}
use Rattle.row_versions.specs.Versions.{version_stamp}
use Rattle.table_rows.specs.Steps.{ended_by, IsPut, IsEnded, IsReplaced, TakesDead, SameVersions, AreGiven}

pub is_put : (size : ℕ) (version : Version) (pages : Pages) → IsPut pages (with_put_on size version pages) (put_tid size pages) version
is_put size version pages = record {
  free = ap item_of (put_was_free size pages);
  put = item_put size version pages;
  elsewhere = λ t other. items_kept_when_put size version pages t other;
}

line_used : (line : LinePointer Version) (version : Version) → item_of line ≡ Some version → is_unused line ≡ false
line_used (Normal size item) version is = refl
line_used Dead version is = refl
line_used Unused version is = absurd (none-some version is)

line_ended : (xid : ℕ) (line : LinePointer Version) (version : Version) → item_of line ≡ Some version → item_of (ended xid line) ≡ Some (ended_by xid version)
line_ended xid (Normal size item) version is = ap (λ (v : Version). Some (ended_by xid v)) (same_Some _ _ is)
line_ended xid Dead version is = absurd (none-some version is)
line_ended xid Unused version is = absurd (none-some version is)

pub is_ended : (xid : ℕ) (pages : Pages) (tid : Tid) (old : Version) → item_in pages tid ≡ Some old → IsEnded xid pages (pages_ended xid pages tid) tid old
is_ended xid pages tid old there = record {
  there = there;
  ended = ap item_of (written_here pages tid (ended xid (slot_of pages tid)) (line_used (slot_of pages tid) old there)) ∙ line_ended xid (slot_of pages tid) old there;
  elsewhere = λ other apart. items_elsewhere pages tid other (ended xid (slot_of pages tid)) apart;
}

-- the code puts first, since that may find no memory, and then ends
pub is_replaced : (xid : ℕ) (pages : Pages) (tid : Tid) (old : Version) (size : ℕ) (version : Version) → item_in pages tid ≡ Some old → IsReplaced xid pages (pages_ended xid (with_put_on size version pages) tid) tid (put_tid size pages) old version
is_replaced xid pages tid old size version there = record {
  there = there;
  free = put.free;
  put = end.elsewhere (put_tid size pages) (λ same. apart (sym same)) ∙ put.put;
  ended = end.ended;
  elsewhere = λ other not_new not_old. end.elsewhere other not_old ∙ put.elsewhere other not_new;
}
  where
    put : IsPut pages (with_put_on size version pages) (put_tid size pages) version
    put = is_put size version pages

    apart : tid ≢ put_tid size pages
    apart same = none-some old (sym put.free ∙ ap (item_in pages) (sym same) ∙ there)

    end : IsEnded xid (with_put_on size version pages) (pages_ended xid (with_put_on size version pages) tid) tid old
    end = is_ended xid (with_put_on size version pages) tid old (put.elsewhere tid apart ∙ there)

pub takes_dead : (xacts : Xacts) (bound : ℕ) (pages : Pages) (page : ℕ) → TakesDead xacts bound pages (pages_pruned xacts bound pages page)
takes_dead xacts bound pages page = record {
  left = λ t version there. elim (item_of-pruned xacts bound pages page t) [
    | inl same ↦ sym same ∙ there
    | inr h ↦ absurd (none-some version (sym h.3 ∙ there))
  ];
  gone = λ t version there. elim (item_of-pruned xacts bound pages page t) [
    | inl same ↦ inl (same ∙ there)
    | inr h ↦ inr (dead t version h.0 (same_Some _ _ (sym h.1 ∙ there)) h.2)
  ];
}
  where
    dead : (t : Tid) (version was : Version) → was ≡ version → is_dead_version xacts bound was ≡ true → is_dead xacts bound version.inserter version.ender ≡ true
    dead t version was same d = subst (λ (v : Version). is_dead xacts bound v.inserter v.ender ≡ true) same d

pub same_reaped : (pages : Pages) (tid : Tid) → IsDead (slot_of pages tid) → SameVersions pages (written pages tid Unused)
same_reaped pages tid dead = record { each = λ t. items_kept_when_freed pages tid t dead }

-- ---- xids

line_inserter : (xacts : Xacts) (line : LinePointer Version) (version : Version) → IsLineAssigned version_stamp xacts line → item_of line ≡ Some version → IsAssigned xacts version.inserter
line_inserter xacts (Normal size item) version given is = subst (λ (v : Version). IsAssigned xacts v.inserter) (same_Some _ _ is) given.inserter
line_inserter xacts Dead version given is = absurd (none-some version is)
line_inserter xacts Unused version given is = absurd (none-some version is)

line_ender : (xacts : Xacts) (line : LinePointer Version) (version : Version) (xid : ℕ) → IsLineAssigned version_stamp xacts line → item_of line ≡ Some version → version.ender ≡ Some xid → IsAssigned xacts xid
line_ender xacts (Normal size item) version xid given is names = given.ender xid (ap (λ (v : Version). v.ender) (same_Some _ _ is) ∙ names)
line_ender xacts Dead version xid given is names = absurd (none-some version is)
line_ender xacts Unused version xid given is names = absurd (none-some version is)

pub given_from : (xacts : Xacts) (pages : Pages) → AreAssigned xacts pages → AreGiven xacts pages
given_from xacts pages assigned = record {
  inserter = λ t version is. line_inserter xacts (slot_of pages t) version (assigned.each t) is;
  ender = λ t version xid is names. line_ender xacts (slot_of pages t) version xid (assigned.each t) is names;
}

line_given : (xacts : Xacts) (line : LinePointer Version) → ((version : Version) → item_of line ≡ Some version → IsAssigned xacts version.inserter) → ((version : Version) (xid : ℕ) → item_of line ≡ Some version → version.ender ≡ Some xid → IsAssigned xacts xid) → IsLineAssigned version_stamp xacts line
line_given xacts (Normal size item) inserter ender = record { inserter = inserter item refl; ender = λ xid names. ender item xid refl names }
line_given xacts Dead inserter ender = tt
line_given xacts Unused inserter ender = tt

pub assigned_from : (xacts : Xacts) (pages : Pages) → AreGiven xacts pages → AreAssigned xacts pages
assigned_from xacts pages given = record { each = λ t. line_given xacts (slot_of pages t) (λ version is. given.inserter t version is) (λ version xid is names. given.ender t version xid is names) }
