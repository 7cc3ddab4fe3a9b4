-- Lists of tids in strict order, and the tids of a page at the head of one.
use Rattle.std.proofs.Common.{ℕ, ◌≡◌, ◌≢◌, ◌⊎◌, ◌+◌, ◌<◌, ◌≤◌, inl, inr, Bool, true, false, cond, nat_eq, zero, suc, List, [], ◌∷◌, ◌++◌, Contains, length, get_or, drop, refl, sym, ap, ◌∙◌, subst, arith}
use Rattle.std.specs.List.{AllByRecursion}
use Rattle.std.specs.List.Sorted.{IsSorted, IsStrictlySortedBy}
use Rattle.std.specs.declared.cmp.Ordering.TheVariants.{Less, Equal}
use Rattle.std.specs.Ordering.{is_lt, ordering_reverse}
use Rattle.std.proofs.lemmas.Bool.Decides.{nat_tests}
use Rattle.std.proofs.lemmas.Cmp.{tied_itself}
use Rattle.std.proofs.lemmas.List.Elements.{Contains-append_cases}
use Rattle.std.proofs.lemmas.Map.Keys.{Less-from_sorted, sorted_head, sorted_tail}
use Rattle.list_facts.proofs.Members.{none_in_nil, cases_in, first_in, later_in}
use Rattle.slot_page.specs.declared.line.Tid.{Tid}
use Rattle.slot_page.specs.declared.line.LinePointer.{LinePointer}
use Rattle.slot_page.specs.Tids.{tid_cmp}
use Rattle.slot_page.specs.DeadSlots.{tids_where}
use Rattle.slot_page.proofs.Tids.{tid_total}
use Rattle.chunk_index.proofs.PinFacts.{all_in}
use Rattle.toast_vacuum.specs.Ops.{Ops}
use Rattle.toast_vacuum.specs.Machines.{AreReapable, on_page}

-- tests of pages
pub eq_of : (m n : ℕ) → nat_eq m n ≡ true → m ≡ n
eq_of m n is = grind (arith, nat_tests)

pub ne_of : (m n : ℕ) → nat_eq m n ≡ false → m ≢ n
ne_of m n is same = absurd (grind (arith, nat_tests))

-- the order of tids
less_page : (t u : Tid) → tid_cmp t u ≡ Less → t.page ≤ u.page
less_page t u less = grind (arith, nat_tests)

pub lower_page : (t u : Tid) → t.page < u.page → tid_cmp t u ≡ Less
lower_page t u low = grind (arith, nat_tests)

lower_slot : (t u : Tid) → t.page ≡ u.page → t.slot < u.slot → tid_cmp t u ≡ Less
lower_slot t u same low = grind (arith, nat_tests)

irreflexive : (t : Tid) → tid_cmp t t ≡ Less → ⊥
irreflexive t less = clash (sym (tied_itself tid_total t) ∙ less)
  where
    clash : Equal ≡ Less → ⊥
    clash e = cc

-- each tid of a list in order is less than those after it
all_less : (t : Tid) (ts : List Tid) (u : Tid) → IsStrictlySortedBy tid_cmp (t ∷ ts) → Contains ts u → tid_cmp t u ≡ Less
all_less t ts u ascending held = all_in (λ v. tid_cmp t v ≡ Less) ts u (sorted_head tid_cmp t ts ascending) held

pub sorted_of : (ts : List Tid) → IsStrictlySortedBy tid_cmp ts → IsSorted tid_cmp ts
sorted_of ts ascending = λ k d low high. ap is_lt (tid_total.antisymm (get_or ts (k + 1) d) (get_or ts k d) ∙ ap ordering_reverse (Less-from_sorted tid_cmp ts k (k + 1) d ascending (omega arith) high))

-- what is left of a list from a place on
pub in_drop : {X : Type 0} (n : ℕ) (xs : List X) (x : X) → Contains (drop n xs) x → Contains xs x
in_drop zero xs x held = held
in_drop (suc n) [] x held = held
in_drop (suc n) (y ∷ ys) x held = later_in y ys x (in_drop n ys x held)

pub ascending_drop : (n : ℕ) (ts : List Tid) → IsStrictlySortedBy tid_cmp ts → IsStrictlySortedBy tid_cmp (drop n ts)
ascending_drop zero ts ascending = ascending
ascending_drop (suc n) [] ascending = ascending
ascending_drop (suc n) (t ∷ ts) ascending = ascending_drop n ts (sorted_tail tid_cmp t ts ascending)

-- what holds of each element holds of all, and one list after another
to_all : {X : Type 0} (P : X → Type 0) (xs : List X) → ((x : X) → Contains xs x → P x) → AllByRecursion P xs
to_all P [] each = tt
to_all P (x ∷ xs) each = (each x (first_in x xs x refl), to_all P xs (λ y held. each y (later_in x xs y held)))

pub ascending_append : (before after : List Tid) → IsStrictlySortedBy tid_cmp before → IsStrictlySortedBy tid_cmp after → ((t u : Tid) → Contains before t → Contains after u → tid_cmp t u ≡ Less) → IsStrictlySortedBy tid_cmp (before ++ after)
unfolding IsStrictlySortedBy
ascending_append [] after first second less = second
ascending_append (t ∷ ts) after first second less = (
  to_all (λ u. tid_cmp t u ≡ Less) (ts ++ after) (λ u held. elim (Contains-append_cases ts after u held) [
    | inl early ↦ all_less t ts u first early
    | inr late ↦ less t u (first_in t ts t refl) late
  ]),
  ascending_append ts after first.1 second (λ u w held late. less u w (later_in t ts u held) late),
)

-- the tids of slots that pass a test are in order
where_from : {T : Type 0} (test : LinePointer T → Bool) (page slot : ℕ) (lines : List (LinePointer T)) (t : Tid) → Contains (tids_where test page slot lines) t → (t.page ≡ page) × (slot ≤ t.slot)
where_from test page slot [] t held = absurd (none_in_nil t held)
where_from test page slot (line ∷ lines) t held = by_test (test line) held (where_from test page (suc slot) lines t)
  where
    by_test : (b : Bool) → Contains (cond b (record { page = page; slot = slot } ∷ tids_where test page (suc slot) lines) (tids_where test page (suc slot) lines)) t → (Contains (tids_where test page (suc slot) lines) t → (t.page ≡ page) × (suc slot ≤ t.slot)) → (t.page ≡ page) × (slot ≤ t.slot)
    by_test true held' rest = elim (cases_in (record { page = page; slot = slot }) (tids_where test page (suc slot) lines) t held') [
      | inl here ↦ (sym (ap (λ (u : Tid). u.page) here), omega (arith, ap (λ (u : Tid). u.slot) here))
      | inr later ↦ let is = rest later in (is.0, omega (arith, is.1))
    ]
    by_test false held' rest = let is = rest held' in (is.0, omega (arith, is.1))

pub where_ascending : {T : Type 0} (test : LinePointer T → Bool) (page slot : ℕ) (lines : List (LinePointer T)) → IsStrictlySortedBy tid_cmp (tids_where test page slot lines)
unfolding IsStrictlySortedBy
where_ascending test page slot [] = tt
where_ascending test page slot (line ∷ lines) = by_test (test line) (where_ascending test page (suc slot) lines)
  where
    by_test : (b : Bool) → IsStrictlySortedBy tid_cmp (tids_where test page (suc slot) lines) → IsStrictlySortedBy tid_cmp (cond b (record { page = page; slot = slot } ∷ tids_where test page (suc slot) lines) (tids_where test page (suc slot) lines))
    by_test true rest = (to_all (λ u. tid_cmp (record { page = page; slot = slot }) u ≡ Less) (tids_where test page (suc slot) lines) (λ u held. let is = where_from test page (suc slot) lines u held in lower_slot (record { page = page; slot = slot }) u (sym is.0) (omega (arith, is.1))), rest)
    by_test false rest = rest

-- the tids of a page at the head of a list
pub on_page_in : (page : ℕ) (ts : List Tid) (t : Tid) → Contains (on_page page ts) t → Contains ts t × (t.page ≡ page)
on_page_in page [] t held = absurd (none_in_nil t held)
on_page_in page (x ∷ xs) t held = by_test (nat_eq x.page page) refl held (on_page_in page xs t)
  where
    by_test : (b : Bool) → nat_eq x.page page ≡ b → Contains (cond b (x ∷ on_page page xs) []) t → (Contains (on_page page xs) t → Contains xs t × (t.page ≡ page)) → Contains (x ∷ xs) t × (t.page ≡ page)
    by_test true is held' rest = elim (cases_in x (on_page page xs) t held') [
      | inl here ↦ (first_in x xs t here, sym (ap (λ (u : Tid). u.page) here) ∙ eq_of x.page page is)
      | inr later ↦ let has = rest later in (later_in x xs t has.0, has.1)
    ]
    by_test false is held' rest = absurd (none_in_nil t held')

-- each tid is one of them, or comes after them
pub parted : (page : ℕ) (ts : List Tid) (t : Tid) → Contains ts t → Contains (on_page page ts) t ⊎ Contains (drop (length (on_page page ts)) ts) t
parted page [] t held = absurd (none_in_nil t held)
parted page (x ∷ xs) t held = by_test (nat_eq x.page page) (cases_in x xs t held) (parted page xs t)
  where
    by_test : (b : Bool) → (x ≡ t) ⊎ Contains xs t → (Contains xs t → Contains (on_page page xs) t ⊎ Contains (drop (length (on_page page xs)) xs) t) → Contains (cond b (x ∷ on_page page xs) []) t ⊎ Contains (drop (length (cond b (x ∷ on_page page xs) [])) (x ∷ xs)) t
    by_test true (inl here) rest = inl (first_in x (on_page page xs) t here)
    by_test true (inr later) rest = elim (rest later) [ inl own ↦ inl (later_in x (on_page page xs) t own) | inr after ↦ inr after ]
    by_test false either rest = inr held

-- those after them lie beyond the page, where none lies before it
pub beyond : (page : ℕ) (ts : List Tid) (t : Tid) → IsStrictlySortedBy tid_cmp ts → ((u : Tid) → Contains ts u → page ≤ u.page) → Contains (drop (length (on_page page ts)) ts) t → page < t.page
beyond page [] t ascending from held = absurd (none_in_nil t held)
beyond page (x ∷ xs) t ascending from held = by_test (nat_eq x.page page) refl held (beyond page xs t (sorted_tail tid_cmp x xs ascending) (λ u later. from u (later_in x xs u later)))
  where
    by_test : (b : Bool) → nat_eq x.page page ≡ b → Contains (drop (length (cond b (x ∷ on_page page xs) [])) (x ∷ xs)) t → (Contains (drop (length (on_page page xs)) xs) t → page < t.page) → page < t.page
    by_test true is held' rest = rest held'
    by_test false is held' rest =
        let other = ne_of x.page page is in
        let low = from x (first_in x xs x refl) in
        elim (cases_in x xs t held') [
          | inl here ↦ subst (λ (u : Tid). page < u.page) here (omega (arith, other, low))
          | inr later ↦ omega (arith, other, low, less_page x t (all_less x xs t ascending later))
        ]

-- they may be freed where each is dead and unnamed
pub reapable : {S : Type 0} (ops : Ops S) (page : ℕ) (ts : List Tid) (s : S) → IsStrictlySortedBy tid_cmp ts → ((t : Tid) → Contains ts t → ops.IsDeadAt s t × ops.IsFree s t) → AreReapable ops (on_page page ts) s
reapable ops page [] s ascending each = tt
reapable ops page (x ∷ xs) s ascending each = by_test (nat_eq x.page page) (reapable ops page xs s (sorted_tail tid_cmp x xs ascending) (λ t held. each t (later_in x xs t held)))
  where
    by_test : (b : Bool) → AreReapable ops (on_page page xs) s → AreReapable ops (cond b (x ∷ on_page page xs) []) s
    by_test true rest = let has = each x (first_in x xs x refl) in (has.0, has.1, λ again. irreflexive x (all_less x xs x ascending (on_page_in page xs x again).0), rest)
    by_test false rest = tt
