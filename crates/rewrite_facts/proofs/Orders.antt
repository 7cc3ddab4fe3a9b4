-- Places in the old relation, by page and slot, and the copies up to one.
use Rattle.std.proofs.Common.{◌≡◌, ◌+◌, ◌<◌, ◌≤◌, ◌⊎◌, inl, inr, Bool, true, false, Some, List, [], ◌∷◌, Contains, refl, sym, ◌∙◌, subst, arith}
use Rattle.std.proofs.lemmas.Bool.{cases_lt, false≢true}
use Rattle.list_facts.proofs.Members.{cases_in, first_in, later_in, none_in_nil}
use Rattle.slot_page.specs.declared.line.Tid.{Tid}
use Rattle.slot_page.specs.Pages.{item_in}
use Rattle.slot_page.specs.NextItems.{is_before}
use Rattle.slot_page.proofs.NextItems.{before_is, before_page, before_slot, not_before_is}
use Rattle.slot_page.proofs.Tids.{tid_same}
use Rattle.xact_status.specs.Xacts.{Xacts}
use Rattle.snapshot_registry.specs.Snapshots.{Snaps}
use Rattle.row_versions.specs.declared.version.Version.{Version}
use Rattle.row_versions.specs.Relations.{Pages}
use Rattle.rewrite_facts.specs.Copies.{AreInOrder, AreVisited, Copied, HasCopy, is_chosen, next_place}

-- whether a tid comes before a place
pub cases_before : (t u : Tid) → (is_before t u ≡ true) ⊎ (is_before t u ≡ false)
cases_before t u = by_test (is_before t u) refl
  where
    by_test : (b : Bool) → is_before t u ≡ b → (is_before t u ≡ true) ⊎ (is_before t u ≡ false)
    by_test true e = inl e
    by_test false e = inr e

before_by : (t u : Tid) → (t.page < u.page) ⊎ ((t.page ≡ u.page) × (t.slot < u.slot)) → is_before t u ≡ true
before_by t u (inl below) = before_page t u below
before_by t u (inr here) = before_slot t u here.0 here.1

-- what comes before a place comes before any that is not before it
pub before_later : (t place later : Tid) → is_before t place ≡ true → is_before later place ≡ false → is_before t later ≡ true
before_later t place later before not_before = by_first (before_is t place before) (not_before_is later place not_before)
  where
    by_first : (t.page < place.page) ⊎ ((t.page ≡ place.page) × (t.slot < place.slot)) → (place.page < later.page) ⊎ ((later.page ≡ place.page) × (place.slot ≤ later.slot)) → is_before t later ≡ true
    by_first (inl a) (inl b) = before_page t later (omega (arith, a, b))
    by_first (inl a) (inr b) = before_page t later (omega (arith, a, b.0))
    by_first (inr a) (inl b) = before_page t later (omega (arith, a.0, b))
    by_first (inr a) (inr b) = before_slot t later (omega (arith, a.0, b.0)) (omega (arith, a.1, b.1))

-- a tid comes before the place after it, and what comes before that place is it or comes before it
pub here_next : (tid : Tid) → is_before tid (next_place tid) ≡ true
here_next tid = before_slot tid (next_place tid) refl (omega arith)

pub before_next : (t tid : Tid) → is_before t (next_place tid) ≡ true → (t ≡ tid) ⊎ (is_before t tid ≡ true)
before_next t tid before = by_first (before_is t (next_place tid) before)
  where
    by_slot : t.page ≡ tid.page → t.slot < tid.slot + 1 → (t ≡ tid) ⊎ (is_before t tid ≡ true)
    by_slot page slot = elim (cases_lt t.slot tid.slot) [
      | inl below ↦ inr (before_slot t tid page below)
      | inr at_least ↦ inl (tid_same t tid page (omega (arith, slot, at_least)))
    ]

    by_first : (t.page < tid.page) ⊎ ((t.page ≡ tid.page) × (t.slot < tid.slot + 1)) → (t ≡ tid) ⊎ (is_before t tid ≡ true)
    by_first (inl below) = inr (before_page t tid below)
    by_first (inr here) = by_slot here.0 here.1

pub not_before_self : (tid : Tid) → is_before tid tid ≡ false
not_before_self tid = elim (cases_before tid tid) [
  | inl before ↦ absurd (by_first (before_is tid tid before))
  | inr e ↦ e
]
  where
    by_first : (tid.page < tid.page) ⊎ ((tid.page ≡ tid.page) × (tid.slot < tid.slot)) → ⊥
    by_first (inl a) = omega (arith, a)
    by_first (inr a) = omega (arith, a.1)

pub next_not_before : (tid : Tid) → is_before (next_place tid) tid ≡ false
next_not_before tid = elim (cases_before (next_place tid) tid) [
  | inl before ↦ absurd (by_first (before_is (next_place tid) tid before))
  | inr e ↦ e
]
  where
    by_first : (tid.page < tid.page) ⊎ ((tid.page ≡ tid.page) × (tid.slot + 1 < tid.slot)) → ⊥
    by_first (inl a) = omega (arith, a)
    by_first (inr a) = omega (arith, a.1)

-- no place before the first
pub none_before : (t : Tid) → is_before t (record { page = 0; slot = 0 }) ≡ true → ⊥
none_before t before = by_first (before_is t (record { page = 0; slot = 0 }) before)
  where
    by_first : (t.page < 0) ⊎ ((t.page ≡ 0) × (t.slot < 0)) → ⊥
    by_first (inl a) = omega (arith, a)
    by_first (inr a) = omega (arith, a.1)

pub order_later : (place later : Tid) (copies : List Copied) → is_before later place ≡ false → AreInOrder place copies → AreInOrder later copies
order_later place later [] not_before order = tt
order_later place later (copy ∷ copies) not_before order = (before_later copy.from place later order.0 not_before, order.1)

-- each copy's old version lies before the place
pub order_before : (place : Tid) (copies : List Copied) (copy : Copied) → AreInOrder place copies → Contains copies copy → is_before copy.from place ≡ true
order_before place [] copy order held = absurd (none_in_nil copy held)
order_before place (first ∷ copies) copy order held = elim (cases_in first copies copy held) [
  | inl is ↦ subst (λ (c : Copied). is_before c.from place ≡ true) is order.0
  | inr later ↦ before_later copy.from first.from place (order_before first.from copies copy order.1 later) (not_after first.from place order.0)
]
  where
    not_after : (t u : Tid) → is_before t u ≡ true → is_before u t ≡ false
    not_after t u before = elim (cases_before u t) [
      | inl other ↦ absurd (by_both (before_is t u before) (before_is u t other))
      | inr e ↦ e
    ]
      where
        by_both : (t.page < u.page) ⊎ ((t.page ≡ u.page) × (t.slot < u.slot)) → (u.page < t.page) ⊎ ((u.page ≡ t.page) × (u.slot < t.slot)) → ⊥
        by_both (inl a) (inl b) = omega (arith, a, b)
        by_both (inl a) (inr b) = omega (arith, a, b.0)
        by_both (inr a) (inl b) = omega (arith, a.0, b)
        by_both (inr a) (inr b) = omega (arith, a.1, b.1)

-- versions that are passed over, none of which is chosen
pub visited_passed : (xacts : Xacts) (snaps : Snaps) (pages : Pages) (place later : Tid) (copies : List Copied)
    → ((t : Tid) (version : Version) → item_in pages t ≡ Some version → is_before t place ≡ false → is_before t later ≡ true → is_chosen xacts snaps version ≡ false)
    → AreVisited xacts snaps pages place copies → AreVisited xacts snaps pages later copies
visited_passed xacts snaps pages place later copies passed visited = record {
  each = λ t version there before chosen. elim (cases_before t place) [
    | inl earlier ↦ visited.each t version there earlier chosen
    | inr not_before ↦ absurd (false≢true (sym (passed t version there not_before before) ∙ chosen))
  ];
}

-- and one that is copied
pub visited_copied : (xacts : Xacts) (snaps : Snaps) (pages : Pages) (copies : List Copied) (copy : Copied) → AreVisited xacts snaps pages copy.from copies → AreVisited xacts snaps pages (next_place copy.from) (copy ∷ copies)
visited_copied xacts snaps pages copies copy visited = record {
  each = λ t version there before chosen. elim (before_next t copy.from before) [
    | inl is ↦ record { copy = copy; there = first_copy; from = sym is }
    | inr earlier ↦ later_copy t (visited.each t version there earlier chosen)
  ];
}
  where
    first_copy : Contains (copy ∷ copies) copy
    first_copy = first_in copy copies copy refl

    later_copy : (t : Tid) → HasCopy copies t → HasCopy (copy ∷ copies) t
    later_copy t has = record { copy = has.copy; there = later_in copy copies has.copy has.there; from = has.from }
