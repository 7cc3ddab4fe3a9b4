-- The tids of a page's dead slots: which they are, and their order.
use Rattle.std.proofs.Common.{ℕ, ◌≡◌, ◌<◌, ◌≤◌, ◌+◌, ◌-◌, inl, inr, Bool, true, false, cond, List, [], ◌∷◌, ◌++◌, length, get_or, map, drop, count_by, Contains, refl, sym, ap, ◌∙◌, arith, zero, suc, Some, slice_get, subst}
use Rattle.std.proofs.lemmas.Option.{slice_get_within, get_or_from_slice_get}
use Rattle.std.specs.List.Sorted.{IsSorted}
use Rattle.std.specs.Ordering.{is_lt}
use Rattle.std.proofs.lemmas.Bool.{cases_lt}
use Rattle.std.proofs.lemmas.Bool.Decides.{nat_tests}
use Rattle.std.proofs.lemmas.List.{append-nil, drop_all, length-append, get_or_append_left, get_or-append_right}
use Rattle.std.proofs.lemmas.List.Elements.{Contains-get_or}
use Rattle.slot_page.specs.declared.line.Tid.{Tid}
use Rattle.slot_page.specs.declared.line.LinePointer.{LinePointer}
use Rattle.slot_page.specs.declared.line.LinePointer.TheVariants.{Normal, Dead, Unused}
use Rattle.slot_page.specs.Slots.{IsDead, slot_at}
use Rattle.slot_page.specs.Pages.{page_at, slot_of}
use Rattle.slot_page.specs.Tids.{tid_cmp}
use Rattle.slot_page.proofs.Tids.{tid_same}
use Rattle.slot_page.specs.DeadSlots.{tids_where, is_dead_line, dead_tids}
use Rattle.std.proofs.lemmas.List.Sums.{sum_by-cons}
use Rattle.list_facts.proofs.Members.{none_in_nil, cases_in, first_in, later_in}
use Rattle.slot_page.proofs.Loops.{map_none}

-- the tids where the slots pass a test after a change are those where they pass the changed test before it
pub tids_where-map : {T : Type 0} (test : LinePointer T → Bool) (f : LinePointer T → LinePointer T) (page slot : ℕ) (lines : List (LinePointer T)) → tids_where test page slot (map f lines) ≡ tids_where (λ line. test (f line)) page slot lines
tids_where-map test f page slot [] = refl
tids_where-map test f page slot (line ∷ lines) = ap (λ rest. cond (test (f line)) (record { page = page; slot = slot } ∷ rest) rest) (tids_where-map test f page (suc slot) lines)

-- once all slots are looked at, all tids are gathered
pub gathered_all : {T : Type 0} (test : LinePointer T → Bool) (f : LinePointer T → LinePointer T) (page i : ℕ) (lines : List (LinePointer T)) (dead before : List Tid) → length lines ≤ i
    → dead ++ tids_where (λ line. test (f line)) page i (drop i lines) ≡ before ++ tids_where (λ line. test (f line)) page 0 lines → dead ≡ before ++ tids_where test page 0 (map f lines)
gathered_all test f page i lines dead before past h =
    sym (append-nil dead) ∙ ap (λ rest. dead ++ tids_where (λ line. test (f line)) page i rest) (sym (drop_all i lines past)) ∙ h ∙ ap (λ tids. before ++ tids) (sym (tids_where-map test f page 0 lines))

-- what is gathered, of slots that begin at a place
record IsGathered {T : Type 0} (test : LinePointer T → Bool) (page slot : ℕ) (lines : List (LinePointer T)) (t : Tid) : Type 0 where
  on_page : t.page ≡ page
  from : slot ≤ t.slot
  passes : test (slot_at lines (t.slot - slot)) ≡ true

one_on : {T : Type 0} (test : LinePointer T → Bool) (page slot : ℕ) (line : LinePointer T) (lines : List (LinePointer T)) (t : Tid) → IsGathered test page (suc slot) lines t → IsGathered test page slot (line ∷ lines) t
one_on test page slot line lines t is = record {
  on_page = is.on_page;
  from = omega (arith, is.from);
  passes = let later : t.slot - slot ≡ suc (t.slot - suc slot) = omega (arith, is.from) in ap (λ k. test (slot_at (line ∷ lines) k)) later ∙ is.passes;
}

gathered_is : {T : Type 0} (test : LinePointer T → Bool) (page slot : ℕ) (lines : List (LinePointer T)) (t : Tid) → Contains (tids_where test page slot lines) t → IsGathered test page slot lines t
gathered_is test page slot [] t held = absurd (none_in_nil t held)
gathered_is test page slot (line ∷ lines) t held = by_test (test line) refl held (gathered_is test page (suc slot) lines t)
  where
    by_test : (b : Bool) → test line ≡ b → Contains (cond b (record { page = page; slot = slot } ∷ tids_where test page (suc slot) lines) (tids_where test page (suc slot) lines)) t → (Contains (tids_where test page (suc slot) lines) t → IsGathered test page (suc slot) lines t) → IsGathered test page slot (line ∷ lines) t
    by_test true passes held' rest = elim (cases_in (record { page = page; slot = slot }) (tids_where test page (suc slot) lines) t held') [
      | inl is ↦ record {
        on_page = sym (ap (λ (u : Tid). u.page) is);
        from = omega (arith, ap (λ (u : Tid). u.slot) is);
        passes = let first : t.slot - slot ≡ 0 = omega (arith, ap (λ (u : Tid). u.slot) is) in ap (λ k. test (slot_at (line ∷ lines) k)) first ∙ passes;
      }
      | inr later ↦ one_on test page slot line lines t (rest later)
    ]
    by_test false fails held' rest = one_on test page slot line lines t (rest held')

gathered_at : {T : Type 0} (test : LinePointer T → Bool) (page slot : ℕ) (lines : List (LinePointer T)) (k : ℕ) → test Unused ≡ false → test (slot_at lines k) ≡ true → Contains (tids_where test page slot lines) (record { page = page; slot = slot + k })
gathered_at test page slot [] k unused passes = absurd (cc)
gathered_at test page slot (line ∷ lines) k unused passes = by_place k (test line) refl passes (λ j. gathered_at test page (suc slot) lines j unused)
  where
    by_place : (k : ℕ) (b : Bool) → test line ≡ b → test (slot_at (line ∷ lines) k) ≡ true → ((j : ℕ) → test (slot_at lines j) ≡ true → Contains (tids_where test page (suc slot) lines) (record { page = page; slot = suc slot + j }))
        → Contains (cond b (record { page = page; slot = slot } ∷ tids_where test page (suc slot) lines) (tids_where test page (suc slot) lines)) (record { page = page; slot = slot + k })
    by_place zero true is passes' rest = first_in _ _ _ (tid_same _ _ refl (omega arith))
    by_place zero false is passes' rest = absurd (cc)
    by_place (suc j) true is passes' rest = later_in _ _ _ (rw (tid_same (record { page = page; slot = slot + suc j }) (record { page = page; slot = suc slot + j }) refl (omega arith)) (rest j passes'))
    by_place (suc j) false is passes' rest = rw (tid_same (record { page = page; slot = slot + suc j }) (record { page = page; slot = suc slot + j }) refl (omega arith)) (rest j passes')

dead_is : {T : Type 0} (line : LinePointer T) → is_dead_line line ≡ true → IsDead line
dead_is (Normal size item) e = absurd (cc)
dead_is Dead e = tt
dead_is Unused e = absurd (cc)

is_dead : {T : Type 0} (line : LinePointer T) → IsDead line → is_dead_line line ≡ true
is_dead (Normal size item) d = absurd d
is_dead Dead d = refl
is_dead Unused d = absurd d

-- a tid that is gathered names a dead slot of the page
pub dead_tids_are : {T : Type 0} (page : ℕ) (slots : List (LinePointer T)) (t : Tid) → Contains (dead_tids page slots) t → (t.page ≡ page) × IsDead (slot_at slots t.slot)
dead_tids_are page slots t held =
    let is = gathered_is is_dead_line page 0 slots t held in
    (is.on_page, dead_is (slot_at slots t.slot) (ap (λ k. is_dead_line (slot_at slots k)) (omega arith) ∙ is.passes))

-- and each dead slot of the page is gathered
pub are_dead_tids : {T : Type 0} (page : ℕ) (slots : List (LinePointer T)) (t : Tid) → t.page ≡ page → IsDead (slot_at slots t.slot) → Contains (dead_tids page slots) t
are_dead_tids page slots t on_page dead = rw (tid_same t (record { page = page; slot = 0 + t.slot }) on_page (omega arith)) (gathered_at is_dead_line page 0 slots t.slot refl (is_dead (slot_at slots t.slot) dead))

-- so does each of a list that was gathered
pub gathered_dead : {T : Type 0} (page n : ℕ) (slots : List (LinePointer T)) (dead : List Tid) (t : Tid) → dead ≡ dead_tids page slots → slice_get dead n ≡ Some t → (t.page ≡ page) × IsDead (slot_at slots t.slot)
gathered_dead page n slots dead t is at = dead_tids_are page slots t (subst (λ ts. Contains ts t) is (n, slice_get_within dead n t at, get_or_from_slice_get dead n t t at))

-- a list with one more tid before it is sorted where that tid is below each of the list
sorted_cons : (t : Tid) (ts : List Tid) → ((u : Tid) → Contains ts u → is_lt (tid_cmp u t) ≡ false) → IsSorted tid_cmp ts → IsSorted tid_cmp (t ∷ ts)
sorted_cons t ts first sorted = λ k d low high. at k d high
  where
    more : (k : ℕ) → suc k + 1 ≡ suc (k + 1)
    more k = omega arith

    at : (k : ℕ) (d : Tid) → k + 1 < length (t ∷ ts) → is_lt (tid_cmp (get_or (t ∷ ts) (k + 1) d) (get_or (t ∷ ts) k d)) ≡ false
    at zero d high = first (get_or ts 0 d) (Contains-get_or ts 0 d (omega (arith, high)))
    at (suc k) d high = ap (λ n. is_lt (tid_cmp (get_or (t ∷ ts) n d) (get_or ts k d))) (more k) ∙ sorted k d (omega arith) (omega (arith, high))

tids_sorted : {T : Type 0} (test : LinePointer T → Bool) (page slot : ℕ) (lines : List (LinePointer T)) → IsSorted tid_cmp (tids_where test page slot lines)
tids_sorted test page slot [] = λ k d low high. absurd (omega (arith, high))
tids_sorted test page slot (line ∷ lines) = by_test (test line) (tids_sorted test page (suc slot) lines)
  where
    by_test : (b : Bool) → IsSorted tid_cmp (tids_where test page (suc slot) lines) → IsSorted tid_cmp (cond b (record { page = page; slot = slot } ∷ tids_where test page (suc slot) lines) (tids_where test page (suc slot) lines))
    by_test true rest = sorted_cons (record { page = page; slot = slot }) (tids_where test page (suc slot) lines) (λ u held. let is = gathered_is test page (suc slot) lines u held in grind (arith, nat_tests, is.on_page, is.from)) rest
    by_test false rest = rest

-- the tids of a page's dead slots are in order
pub dead_tids_sorted : {T : Type 0} (page : ℕ) (slots : List (LinePointer T)) → IsSorted tid_cmp (dead_tids page slots)
dead_tids_sorted page slots = tids_sorted is_dead_line page 0 slots

-- what was gathered of the pages below stays in order with them
pub gathered_sorted : {T : Type 0} (page : ℕ) (slots : List (LinePointer T)) (before : List Tid) → IsSorted tid_cmp before → ((t : Tid) → Contains before t → t.page < page) → IsSorted tid_cmp (before ++ dead_tids page slots)
gathered_sorted page slots before sorted below = λ k d low high. elim (cases_lt (k + 1) (length before)) [
  | inl within ↦ rw (get_or_append_left before (dead_tids page slots) d (k + 1) within, get_or_append_left before (dead_tids page slots) d k (omega arith)) (sorted k d (omega arith) within)
  | inr past ↦ elim (cases_lt k (length before)) [
    | inl last ↦
        let first : get_or (before ++ dead_tids page slots) (k + 1) d ≡ get_or (dead_tids page slots) 0 d = get_or-append_right before (dead_tids page slots) (length before) (k + 1) d refl past ∙ ap (λ n. get_or (dead_tids page slots) n d) (omega arith) in
        let is = dead_tids_are page slots (get_or (dead_tids page slots) 0 d) (Contains-get_or (dead_tids page slots) 0 d (omega (arith, high, length-append before (dead_tids page slots)))) in
        let lower = below (get_or before k d) (Contains-get_or before k d last) in
        rw (first, get_or_append_left before (dead_tids page slots) d k last) (grind (arith, nat_tests, is.0, lower))
    | inr beyond ↦ rw (get_or-append_right before (dead_tids page slots) (length before) (k + 1) d refl past, get_or-append_right before (dead_tids page slots) (length before) k d refl beyond, one_less (k + 1) k (length before) beyond refl) (dead_tids_sorted page slots (k - length before) d (omega arith) (omega (arith, high, beyond, length-append before (dead_tids page slots))))
  ]
]
  where
    one_less : (n k m : ℕ) → m ≤ k → n ≡ k + 1 → n - m ≡ (k - m) + 1
    one_less n k m within is = omega (arith, within, is)

-- a tid at a place of a list is of the list
pub listed_at : (tids : List Tid) (n : ℕ) (t : Tid) → slice_get tids n ≡ Some t → Contains tids t
listed_at tids n t at = (n, slice_get_within tids n t at, get_or_from_slice_get tids n t t at)

-- what was gathered of one page names dead slots of the relation
pub gathered_are : {T : Type 0} (pages : List (List (LinePointer T))) (page : ℕ) (dead : List Tid) (t : Tid) → dead ≡ dead_tids page (page_at pages page) → Contains dead t → IsDead (slot_of pages t)
gathered_are pages page dead t is held =
    let named = dead_tids_are page (page_at pages page) t (subst (λ ts. Contains ts t) is held) in
    rw named.0 named.1

-- where nothing is gathered of a page after a prune, none of its slots passed the prune's test
none_passed : {T : Type 0} (p : LinePointer T → Bool) (page slot : ℕ) (lines : List (LinePointer T)) → tids_where is_dead_line page slot (map (λ line. cond (p line) Dead line) lines) ≡ [] → count_by p lines ≡ 0
none_passed p page slot [] none = refl
none_passed {T} p page slot (line ∷ lines) none = by_tests (p line) (is_dead_line line) refl refl (none_passed p page (suc slot) lines)
  where
    rest : List Tid
    rest = tids_where is_dead_line page (suc slot) (map (λ l. cond (p l) Dead l) lines)

    differ : record { page = page; slot = slot } ∷ rest ≡ [] → ⊥
    differ e = cc

    -- what is gathered, by whether the slot passes
    by_pass : (b : Bool) → p line ≡ b → cond (is_dead_line (cond b Dead line)) (record { page = page; slot = slot } ∷ rest) rest ≡ []
    by_pass b is = ap (λ a. cond (is_dead_line (cond a Dead line)) (record { page = page; slot = slot } ∷ rest) rest) (sym is) ∙ none

    by_tests : (b d : Bool) → p line ≡ b → is_dead_line line ≡ d → (rest ≡ [] → count_by p lines ≡ 0) → count_by p (line ∷ lines) ≡ 0
    by_tests true d passes dead later = absurd (differ (by_pass true passes))
    by_tests false true fails dead later = absurd (differ (ap (λ a. cond a (record { page = page; slot = slot } ∷ rest) rest) (sym dead) ∙ by_pass false fails))
    by_tests false false fails alive later = omega (arith, sum_by-cons (λ l. cond (p l) 1 0) line lines, ap {B = ℕ} (λ b. cond b 1 0) fails, later (ap (λ a. cond a (record { page = page; slot = slot } ∷ rest) rest) (sym alive) ∙ by_pass false fails))

-- so the prune leaves the page as it is
pub none_gathered : {T : Type 0} (p : LinePointer T → Bool) (page : ℕ) (slots : List (LinePointer T)) (before after : List Tid) → after ≡ before ++ dead_tids page (map (λ line. cond (p line) Dead line) slots) → length after ≡ length before → (count_by p slots ≡ 0) × (map (λ line. cond (p line) Dead line) slots ≡ slots)
none_gathered p page slots before after gathered same =
    let pruned = map (λ line. cond (p line) Dead line) slots in
    let none : count_by p slots ≡ 0 = none_passed p page 0 slots (length_zero (dead_tids page pruned) (omega (arith, length-append before (dead_tids page pruned), ap length gathered, same))) in
    (none, map_none p Dead slots none)
  where
    length_zero : {X : Type 0} (xs : List X) → length xs ≡ 0 → xs ≡ []
    length_zero [] e = refl
    length_zero (x ∷ xs) e = absurd (omega (arith, e))
