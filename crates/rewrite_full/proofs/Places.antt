-- The way through the old relation: from version to version, past those that are not chosen.
use Rattle.std.proofs.Common.{◌≡◌, ℕ, ◌+◌, ◌-◌, ◌*◌, ◌<◌, ◌≤◌, ◌⊎◌, inl, inr, false, Some, length, sym, ap, ◌∙◌, arith}
use Rattle.std.proofs.lemmas.Bool.{false≢true}
use Rattle.std.proofs.lemmas.Option.{none-some, same_Some}
use Rattle.slot_page.specs.declared.line.Tid.{Tid}
use Rattle.slot_page.specs.Pages.{item_in}
use Rattle.slot_page.specs.NextItems.{IsNextItem, is_before}
use Rattle.slot_page.proofs.NextItems.{not_before_is, not_before_page, not_before_slot}
use Rattle.xact_status.specs.Xacts.{Xacts}
use Rattle.snapshot_registry.specs.Snapshots.{Snaps}
use Rattle.row_versions.specs.declared.version.Version.{Version}
use Rattle.row_versions.specs.Relations.{Pages}
use Rattle.rewrite_facts.specs.Copies.{is_chosen, next_place}
use Rattle.rewrite_facts.proofs.Orders.{before_later, before_next, cases_before, not_before_self}
use Rattle.rewrite_full.specs.Moves.{ArePassed}

-- how far the end is from a place
abbrev pub way_left : Pages → Tid → ℕ
way_left pages here = (length pages - here.page) * 300 + (299 - here.slot)

pub way_falls : (pages : Pages) (here tid : Tid) → is_before tid here ≡ false → tid.page < length pages → tid.slot < 291 → way_left pages (next_place tid) < way_left pages here
way_falls pages here tid not_before page slot = by_place (not_before_is tid here not_before)
  where
    by_place : (here.page < tid.page) ⊎ ((tid.page ≡ here.page) × (here.slot ≤ tid.slot)) → way_left pages (next_place tid) < way_left pages here
    by_place (inl later) = omega (arith, later, page, slot)
    by_place (inr same) = omega (arith, same.0, same.1, page, slot)

pub passed_none : (xacts : Xacts) (snaps : Snaps) (pages : Pages) (from : Tid) → ArePassed xacts snaps pages from from
passed_none xacts snaps pages from = record {
  not_before = not_before_self from;
  none = λ tid version there not_before before. absurd (false≢true (sym not_before ∙ before));
}

-- up to the next version
pub passed_to : (xacts : Xacts) (snaps : Snaps) (pages : Pages) (from here tid : Tid) → ArePassed xacts snaps pages from here → IsNextItem pages here tid → ArePassed xacts snaps pages from tid
passed_to xacts snaps pages from here tid passed next = record {
  not_before = later_not from here tid passed.not_before next.not_before;
  none = λ t version there not_before before. elim (cases_before t here) [
    | inl earlier ↦ passed.none t version there not_before earlier
    | inr later ↦ absurd (none-some version (sym (next.passed.each t later before) ∙ there))
  ];
}
  where
    later_not : (a b c : Tid) → is_before b a ≡ false → is_before c b ≡ false → is_before c a ≡ false
    later_not a b c first second = elim (cases_before c a) [
      | inl before ↦ absurd (false≢true (sym second ∙ before_later c a b before first))
      | inr e ↦ e
    ]

-- the place after one is not before what that one is not before
next_not_before : (tid from : Tid) → is_before tid from ≡ false → is_before (next_place tid) from ≡ false
next_not_before tid from not_before = by_place (not_before_is tid from not_before)
  where
    by_place : (from.page < tid.page) ⊎ ((tid.page ≡ from.page) × (from.slot ≤ tid.slot)) → is_before (next_place tid) from ≡ false
    by_place (inl later) = not_before_page (next_place tid) from later
    by_place (inr same) = not_before_slot (next_place tid) from same.0 (omega (arith, same.1))

-- and past it where it is not chosen
pub passed_over : (xacts : Xacts) (snaps : Snaps) (pages : Pages) (from here tid : Tid) (version : Version) → ArePassed xacts snaps pages from here → IsNextItem pages here tid → item_in pages tid ≡ Some version → is_chosen xacts snaps version ≡ false → ArePassed xacts snaps pages from (next_place tid)
passed_over xacts snaps pages from here tid version passed next there unchosen = record {
  not_before = next_not_before tid from to.not_before;
  none = λ t other at not_before before. elim (before_next t tid before) [
    | inl is ↦ ap (is_chosen xacts snaps) (same_Some other version (sym at ∙ ap (item_in pages) is ∙ there)) ∙ unchosen
    | inr earlier ↦ to.none t other at not_before earlier
  ];
}
  where
    to : ArePassed xacts snaps pages from tid
    to = passed_to xacts snaps pages from here tid passed next
