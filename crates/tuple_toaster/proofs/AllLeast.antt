-- A row's tuple is smallest with every column out of line that may be: so one that fits with those that are planned fits with all.
use Rattle.std.proofs.Common.{ap, arith, refl, subst, sym, ◌∙◌}
use Rattle.std.proofs.lemmas.Bool.Decides.{nat_tests}
use Rattle.std.proofs.lemmas.List.Elements.{All-head, All-tail}
use Rattle.std.specs.List.{All, list_any}
use Rattle.std.specs.Prelude.{Bool, List, Some, [], false, if◌then◌else◌, length, nat_le, slice_get, suc, true, ℕ, ◌+◌, ◌++◌, ◌-◌, ◌==◌, ◌||◌, ◌∷◌, ◌≡◌, ◌≤◌}
use Rattle.tuple_layout.specs.Sizes.{Missing, Outside, Width, Within, column_end, data_end_from, header_size, inline_end, is_missing, may_go_out}
use Rattle.tuple_layout.specs.declared.Storage.{Storage}
use Rattle.tuple_layout.specs.declared.Storage.TheVariants.{External, Plain}
use Rattle.tuple_toaster.proofs.Going.{pushed_go}
use Rattle.tuple_toaster.proofs.Walks.{pushed_all}
use Rattle.tuple_toaster.specs.Kept.{MayGo}
use Rattle.tuple_toaster.specs.Pushed.{all_moved_size, eligible, is_among, moved_from, pushed, shortest, size_with, width_besides}

-- ---- one column

-- it may go out
abbrev may_go : Storage → Width → Bool
may_go storage Missing = false
may_go storage (Within n) = may_go_out storage n
may_go storage Outside = false

inline_later : (storage : Storage) (at to n : ℕ) → at ≤ to → inline_end storage at n ≤ inline_end storage to n
inline_later Plain at to n later = omega (arith, later)
inline_later External at to n later = grind (arith, nat_tests, later)

column_later : (storage : Storage) (at to : ℕ) (w : Width) → at ≤ to → column_end storage at w ≤ column_end storage to w
column_later storage at to Missing later = later
column_later storage at to (Within n) later = inline_later storage at to n later
column_later storage at to Outside later = omega (arith, later)

pointer_less : (storage : Storage) (at to : ℕ) (w : Width) → at ≤ to → may_go storage w ≡ true → column_end storage at Outside ≤ column_end storage to w
pointer_less storage at to Missing later may = absurd (cc)
pointer_less Plain at to (Within n) later may = absurd (cc)
pointer_less External at to (Within n) later may = grind (arith, nat_tests, later, may)
pointer_less storage at to Outside later may = absurd (cc)

-- out of line in the first place, and in the second
column_least : (storage : Storage) (at to : ℕ) (w : Width) (all out : Bool) → (out ≡ true → all ≡ true) → (all ≡ true → may_go storage w ≡ true) → at ≤ to
    → column_end storage at (if all then Outside else w) ≤ column_end storage to (if out then Outside else w)
column_least storage at to w true true some may later = omega (arith, later)
column_least storage at to w true false some may later = pointer_less storage at to w later (may refl)
column_least storage at to w false true some may later =
    let clash = some refl in
    absurd (cc)
column_least storage at to w false false some may later = column_later storage at to w later

not_missing : (storage : Storage) (w : Width) → may_go storage w ≡ true → is_missing w ≡ false
not_missing storage Missing may = absurd (cc)
not_missing storage (Within n) may = refl
not_missing storage Outside may = refl

-- ---- all columns

-- each column, from this number on, that is out of line in the first place has a value in line
abbrev AreThere : ℕ → List Width → List ℕ → Type 0
AreThere n ws all = (i : ℕ) (w : Width) → slice_get ws i ≡ Some w → is_among all (n + i) ≡ true → is_missing w ≡ false

-- and may go out
abbrev AreGoing : ℕ → List Storage → List Width → List ℕ → Type 0
AreGoing n schema ws all = (i : ℕ) (storage : Storage) (w : Width) → slice_get schema i ≡ Some storage → slice_get ws i ≡ Some w → is_among all (n + i) ≡ true → may_go storage w ≡ true

missing_out : (w : Width) (b : Bool) → (b ≡ true → is_missing w ≡ false) → is_missing (if b then Outside else w) ≡ is_missing w
missing_out w true there =
    let fact = there refl in
    cc
missing_out w false there = refl

nulls_stay : (n : ℕ) (ws : List Width) (out : List ℕ) → AreThere n ws out → list_any is_missing (moved_from n out ws) ≡ list_any is_missing ws
nulls_stay n [] out there = refl
nulls_stay n (w ∷ ws) out there =
    let at : n + 0 ≡ n = omega arith in
    ap (λ (b : Bool). b || list_any is_missing (moved_from (n + 1) out ws)) (missing_out w (is_among out n) (λ e. there 0 w refl (ap (is_among out) at ∙ e)))
    ∙ ap (λ (b : Bool). is_missing w || b) (nulls_stay (n + 1) ws out (λ i its e f. there (suc i) its e (subst (λ (k : ℕ). is_among out k ≡ true) (omega arith) f)))

ends_least : (n : ℕ) (schema : List Storage) (ws : List Width) (all out : List ℕ) (at to : ℕ) → ((k : ℕ) → is_among out k ≡ true → is_among all k ≡ true) → AreGoing n schema ws all → at ≤ to
    → data_end_from at schema (moved_from n all ws) ≤ data_end_from to schema (moved_from n out ws)
ends_least n [] ws all out at to some may later = later
ends_least n (storage ∷ schema) [] all out at to some may later = later
ends_least n (storage ∷ schema) (w ∷ ws) all out at to some may later =
    let here : n + 0 ≡ n = omega arith in
    ends_least (n + 1) schema ws all out (column_end storage at (width_besides all n w)) (column_end storage to (width_besides out n w)) some
    (λ i its_storage its e f g. may (suc i) its_storage its e f (subst (λ (k : ℕ). is_among all k ≡ true) (omega arith) g))
    (column_least storage at to w (is_among all n) (is_among out n) (some n) (λ e. may 0 storage w refl refl (ap (is_among all) here ∙ e)) later)

-- ---- those that are planned are some of all

among_each : (P : ℕ → Type 0) (columns : List ℕ) (k : ℕ) → All P columns → is_among columns k ≡ true → P k
among_each P [] k each e = absurd (cc)
among_each P (column ∷ columns) k each e = by (among_each P columns k (All-tail P column columns each)) (column == k) refl e
  where
    by : (is_among columns k ≡ true → P k) → (b : Bool) → (column == k) ≡ b → (b || is_among columns k) ≡ true → P k
    by rest true same f = subst P (grind (arith, nat_tests, same)) (All-head P column columns each)
    by rest false differ f = rest f

some_shortest : (test : List ℕ → Bool) (taken left : List ℕ) (k : ℕ) → is_among (shortest test taken left) k ≡ true → is_among left k ≡ true
some_shortest test taken [] k e = e
some_shortest test taken (column ∷ left) k e = by (some_shortest test (taken ++ column ∷ []) left k) (test taken) e
  where
    later : (is_among (shortest test (taken ++ column ∷ []) left) k ≡ true → is_among left k ≡ true) → (b : Bool) → (b || is_among (shortest test (taken ++ column ∷ []) left) k) ≡ true → (b || is_among left k) ≡ true
    later rest true f = refl
    later rest false f = rest f

    by : (is_among (shortest test (taken ++ column ∷ []) left) k ≡ true → is_among left k ≡ true) → (b : Bool) → is_among (if b then [] else column ∷ shortest test (taken ++ column ∷ []) left) k ≡ true → ((column == k) || is_among left k) ≡ true
    by rest true f = absurd (cc)
    by rest false f = later rest (column == k) f

-- ---- the size

goes : (schema : List Storage) (ws : List Width) (k : ℕ) → is_among (eligible schema ws) k ≡ true → MayGo schema ws k
goes schema ws k e = among_each (MayGo schema ws) (eligible schema ws) k (subst (All (MayGo schema ws)) (pushed_all schema ws) (pushed_go schema ws 0)) e

may_by : (schema : List Storage) (ws : List Width) (i : ℕ) (storage : Storage) (w : Width) → slice_get schema i ≡ Some storage → slice_get ws i ≡ Some w → MayGo schema ws (1 + i) → may_go storage w ≡ true
may_by schema ws i storage w e f may =
    let place : 1 + i - 1 ≡ i = omega arith in
    let is_external : External ≡ storage = some_storage External storage (subst (λ (k : ℕ). Some External ≡ slice_get schema k) place (sym may.external) ∙ e) in
    let is_inline : Within may.size ≡ w = some_width (Within may.size) w (subst (λ (k : ℕ). Some (Within may.size) ≡ slice_get ws k) place (sym may.inline) ∙ f) in
    let long = may.long in
    let goes_out : may_go External (Within may.size) ≡ true = grind (arith, nat_tests, long) in
    subst (λ (s : Storage). may_go s w ≡ true) is_external (subst (λ (x : Width). may_go External x ≡ true) is_inline goes_out)
  where
    some_storage : (a b : Storage) → Some a ≡ Some b → a ≡ b
    some_storage a b e = cc

    some_width : (a b : Width) → Some a ≡ Some b → a ≡ b
    some_width a b e = cc

there_by : (schema : List Storage) (ws : List Width) → AreThere 1 ws (eligible schema ws)
there_by schema ws i w e among =
    let may = goes schema ws (1 + i) among in
    let place : 1 + i - 1 ≡ i = omega arith in
    let inline : slice_get ws i ≡ Some (Within may.size) = subst (λ (k : ℕ). slice_get ws k ≡ Some (Within may.size)) place may.inline in
    by may.size inline
  where
    by : (n : ℕ) → slice_get ws i ≡ Some (Within n) → is_missing w ≡ false
    by n f =
        let is : w ≡ Within n = cc in
        ap is_missing is

pub all_least : (schema : List Storage) (ws : List Width) (target : ℕ) → all_moved_size schema ws ≤ size_with schema ws (pushed schema ws target)
all_least schema ws target =
    let all = eligible schema ws in
    let out = pushed schema ws target in
    let some : (k : ℕ) → is_among out k ≡ true → is_among all k ≡ true = some_shortest (λ (taken : List ℕ). nat_le (size_with schema ws taken) target) [] all in
    let ends = ends_least 1 schema ws all out 8 8 some (λ i storage w e f among. may_by schema ws i storage w e f (goes schema ws (1 + i) among)) (omega arith) in
    let nulls = ap (header_size (length schema + 1)) (nulls_stay 1 ws all (there_by schema ws) ∙ sym (nulls_stay 1 ws out (λ i w e among. there_by schema ws i w e (some (1 + i) among)))) in
    omega (arith, ends, nulls)
