-- What is pushed: columns that may go out, no two of them the same; and what the widths are then.
use Rattle.std.proofs.Common.{◌≡◌, ℕ, zero, suc, ◌+◌, ◌-◌, ◌<◌, ◌≤◌, Bool, true, false, List, [], ◌∷◌, ◌++◌, Option, Some, None, length, map, refl, sym, ap, subst, ◌∙◌, arith, inl, inr, ◌⊎◌}
use Rattle.std.specs.Prelude.{nat_le, nat_eq, ◌||◌, slice_get, if◌then◌else◌}
use Rattle.std.specs.List.{All, AllByRecursion, AllZip, IsDistinct}
use Rattle.std.specs.Option.{option_map_or}
use Rattle.std.proofs.lemmas.List.Elements.{All-nil, All-cons, All-head, All-tail}
use Rattle.std.proofs.lemmas.Bool.Decides.{nat_tests}
use Rattle.tuple_layout.specs.declared.Storage.{Storage}
use Rattle.tuple_layout.specs.declared.Storage.TheVariants.{Plain, External}
use Rattle.tuple_layout.specs.declared.cell.Cell.{Cell}
use Rattle.tuple_layout.specs.declared.cell.Cell.TheVariants.{Null, Inline, Out}
use Rattle.tuple_layout.specs.Places.{Row}
use Rattle.tuple_layout.specs.Sizes.{Width, Missing, Within, Outside, least_out, width, widths}
use Rattle.tuple_layout.specs.Tuples.{cell_width, cell_widths, is_outside}
use Rattle.tuple_toaster.specs.Pushed.{Columns, put_before, with_column, eligible_from, eligible, is_among, moved_from, moved, size_with, shortest, pushed}
use Rattle.tuple_toaster.specs.Kept.{MayGo, IsCellOf, is_out_column}
use Rattle.tuple_toaster.proofs.Least.{widths_from}
use Rattle.tuple_toaster.proofs.Ordered.{AreFrom, eligible_after, test_cases, same_cases}

either : (b : Bool) → (b ≡ true) ⊎ (b ≡ false)
either true = inl refl
either false = inr refl

-- ---- each of them may go out

-- from this column on: a column and its length
record Going (n : ℕ) (schema : List Storage) (ws : List Width) (c : ℕ × ℕ) : Type 0 where
  from : n ≤ c.0
  external : slice_get schema (c.0 - n) ≡ Some External
  inline : slice_get ws (c.0 - n) ≡ Some (Within c.1)
  long : least_out ≤ c.1

abbrev AreGoing : ℕ → List Storage → List Width → Columns → Type 0
AreGoing n schema ws cs = AllByRecursion (Going n schema ws) cs

put_each : (P : ℕ × ℕ → Type 0) (c : ℕ × ℕ) (cs : Columns) → P c → AllByRecursion P cs → AllByRecursion P (put_before c cs)
put_each P c [] here h = (here, tt)
put_each P c (d ∷ ds) here h = elim (test_cases d.1 c.1) [ inl low ↦ rw low.1 (here, h) | inr high ↦ rw high.1 (h.0, put_each P c ds here h.1) ]

-- one column more in front
going_later : (n : ℕ) (s : Storage) (ss : List Storage) (w : Width) (ws : List Width) (cs : Columns) → AreGoing (n + 1) ss ws cs → AreGoing n (s ∷ ss) (w ∷ ws) cs
going_later n s ss w ws [] h = tt
going_later n s ss w ws (c ∷ cs) h =
    let place : c.0 - n ≡ suc (c.0 - (n + 1)) = omega (arith, h.0.from) in (
      record {
        from = omega (arith, h.0.from);
        external = ap (slice_get (s ∷ ss)) place ∙ h.0.external;
        inline = ap (slice_get (w ∷ ws)) place ∙ h.0.inline;
        long = h.0.long;
      },
      going_later n s ss w ws cs h.1,
    )

going_with : (n : ℕ) (s : Storage) (ss : List Storage) (w : Width) (ws : List Width) (cs : Columns) → AreGoing (n + 1) ss ws cs → AreGoing n (s ∷ ss) (w ∷ ws) (with_column n s w cs)
going_with n s ss Missing ws cs h = going_later n s ss Missing ws cs h
going_with n Plain ss (Within size) ws cs h = going_later n Plain ss (Within size) ws cs h
going_with n External ss (Within size) ws cs h = elim (test_cases least_out size) [
  | inl low ↦
      let place : n - n ≡ 0 = omega arith in
      let own : Going n (External ∷ ss) (Within size ∷ ws) (n, size) = record { from = omega arith; external = ap (slice_get (External ∷ ss)) place; inline = ap (slice_get (Within size ∷ ws)) place; long = low.0 } in
      rw low.1 (put_each (Going n (External ∷ ss) (Within size ∷ ws)) (n, size) cs own (going_later n External ss (Within size) ws cs h))
  | inr high ↦ rw high.1 (going_later n External ss (Within size) ws cs h)
]
going_with n s ss Outside ws cs h = going_later n s ss Outside ws cs h

eligible_going : (n : ℕ) (schema : List Storage) (ws : List Width) → AreGoing n schema ws (eligible_from n schema ws)
eligible_going n [] ws = tt
eligible_going n (s ∷ ss) [] = tt
eligible_going n (s ∷ ss) (w ∷ ws) = going_with n s ss w ws (eligible_from (n + 1) ss ws) (eligible_going (n + 1) ss ws)

inside : {X : Type 0} (xs : List X) (k : ℕ) (x : X) → slice_get xs k ≡ Some x → k < length xs
inside [] k x e = absurd (cc)
inside (y ∷ ys) zero x e = omega arith
inside (y ∷ ys) (suc k) x e = omega (arith, inside ys k x e)

may_go : (schema : List Storage) (ws : List Width) (c : ℕ × ℕ) → Going 1 schema ws c → MayGo schema ws c.0
may_go schema ws c h = record {
  size = c.1;
  from = h.from;
  within = omega (arith, h.from, inside schema (c.0 - 1) External h.external);
  external = h.external;
  inline = h.inline;
  long = h.long;
}

all_may_go : (schema : List Storage) (ws : List Width) (cs : Columns) → AreGoing 1 schema ws cs → All (MayGo schema ws) (map (λ c. c.0) cs)
all_may_go schema ws [] h = All-nil (MayGo schema ws)
all_may_go schema ws (c ∷ cs) h = All-cons (MayGo schema ws) c.0 (map (λ d. d.0) cs) (may_go schema ws c h.0) (all_may_go schema ws cs h.1)

shortest_all : (P : ℕ → Type 0) (test : List ℕ → Bool) (taken left : List ℕ) → All P left → All P (shortest test taken left)
shortest_all P test taken [] h = All-nil P
shortest_all P test taken (c ∷ cs) h = elim (either (test taken)) [
  | inl fits ↦ rw fits (All-nil P)
  | inr goes ↦ rw goes (All-cons P c (shortest test (taken ++ c ∷ []) cs) (All-head P c cs h) (shortest_all P test (taken ++ c ∷ []) cs (All-tail P c cs h)))
]

pub pushed_go : (schema : List Storage) (ws : List Width) (target : ℕ) → All (MayGo schema ws) (pushed schema ws target)
pushed_go schema ws target = shortest_all (MayGo schema ws) (λ out. nat_le (size_with schema ws out) target) [] (eligible schema ws) (all_may_go schema ws (eligible_from 1 schema ws) (eligible_going 1 schema ws))

-- ---- no two of them are the same

-- no later column is this one
abbrev Apart : ℕ → List ℕ → Type 0
Apart column columns = AllByRecursion (λ other. nat_eq column other ≡ false) columns

abbrev columns : Columns → List ℕ
columns cs = map (λ c. c.0) cs

differ : (m n : ℕ) → m < n → nat_eq m n ≡ false
differ m n lt = grind (arith, nat_tests)

turned : (m n : ℕ) → nat_eq m n ≡ false → nat_eq n m ≡ false
turned m n other = grind (arith, nat_tests)

apart_from : (n : ℕ) (cs : Columns) → AreFrom (n + 1) cs → Apart n (columns cs)
apart_from n [] h = tt
apart_from n (c ∷ cs) h = (differ n c.0 (omega (arith, h.0)), apart_from n cs h.1)

apart_put : (column : ℕ) (c : ℕ × ℕ) (cs : Columns) → nat_eq column c.0 ≡ false → Apart column (columns cs) → Apart column (columns (put_before c cs))
apart_put column c [] here h = (here, tt)
apart_put column c (d ∷ ds) here h = elim (test_cases d.1 c.1) [ inl low ↦ rw low.1 (here, h) | inr high ↦ rw high.1 (h.0, apart_put column c ds here h.1) ]

distinct_put : (c : ℕ × ℕ) (cs : Columns) → Apart c.0 (columns cs) → IsDistinct nat_eq (columns cs) → IsDistinct nat_eq (columns (put_before c cs))
unfolding IsDistinct
distinct_put c [] apart h = (tt, tt)
distinct_put c (d ∷ ds) apart h = elim (test_cases d.1 c.1) [
  | inl low ↦ rw low.1 (apart, h)
  | inr high ↦ rw high.1 (apart_put d.0 c ds (turned c.0 d.0 apart.0) h.0, distinct_put c ds apart.1 h.1)
]

distinct_with : (n : ℕ) (s : Storage) (w : Width) (cs : Columns) → AreFrom (n + 1) cs → IsDistinct nat_eq (columns cs) → IsDistinct nat_eq (columns (with_column n s w cs))
unfolding IsDistinct
distinct_with n s Missing cs from h = h
distinct_with n Plain (Within size) cs from h = h
distinct_with n External (Within size) cs from h = elim (test_cases least_out size) [ inl low ↦ rw low.1 (distinct_put (n, size) cs (apart_from n cs from) h) | inr high ↦ rw high.1 h ]
distinct_with n s Outside cs from h = h

distinct_eligible : (n : ℕ) (schema : List Storage) (ws : List Width) → IsDistinct nat_eq (columns (eligible_from n schema ws))
unfolding IsDistinct
distinct_eligible n [] ws = tt
distinct_eligible n (s ∷ ss) [] = tt
distinct_eligible n (s ∷ ss) (w ∷ ws) = distinct_with n s w (eligible_from (n + 1) ss ws) (eligible_after (n + 1) ss ws) (distinct_eligible (n + 1) ss ws)

shortest_each : (P : ℕ → Type 0) (test : List ℕ → Bool) (taken left : List ℕ) → AllByRecursion P left → AllByRecursion P (shortest test taken left)
shortest_each P test taken [] h = tt
shortest_each P test taken (c ∷ cs) h = elim (either (test taken)) [ inl fits ↦ rw fits tt | inr goes ↦ rw goes (h.0, shortest_each P test (taken ++ c ∷ []) cs h.1) ]

shortest_distinct : (test : List ℕ → Bool) (taken left : List ℕ) → IsDistinct nat_eq left → IsDistinct nat_eq (shortest test taken left)
unfolding IsDistinct
shortest_distinct test taken [] h = tt
shortest_distinct test taken (c ∷ cs) h = elim (either (test taken)) [
  | inl fits ↦ rw fits tt
  | inr goes ↦ rw goes (shortest_each (λ other. nat_eq c other ≡ false) test (taken ++ c ∷ []) cs h.0, shortest_distinct test (taken ++ c ∷ []) cs h.1)
]

pub pushed_distinct : (schema : List Storage) (ws : List Width) (target : ℕ) → IsDistinct nat_eq (pushed schema ws target)
pushed_distinct schema ws target = shortest_distinct (λ out. nat_le (size_with schema ws out) target) [] (eligible schema ws) (distinct_eligible 1 schema ws)

-- ---- the widths

cell_is : (cell : Cell) (value : Option (List ℕ)) → IsCellOf cell value → cell_width cell ≡ width value (is_outside (cell_width cell))
cell_is Null value is = ap (λ (v : Option (List ℕ)). width v false) (sym is)
cell_is (Inline bytes) value is = ap (λ (v : Option (List ℕ)). width v false) (sym is)
cell_is (Out p) None is = absurd (cc is)
cell_is (Out p) (Some bytes) is = refl

cells_are : (n : ℕ) (cells : List Cell) (values : Row) (out : ℕ → Bool) → AllZip IsCellOf cells values → ((k : ℕ) → out (n + k) ≡ option_map_or (λ cell. is_outside (cell_width cell)) (slice_get cells k) false) → cell_widths cells ≡ widths_from n values out
cells_are n [] [] out are told = refl
cells_are n [] (v ∷ vs) out are told = absurd are
cells_are n (c ∷ cs) [] out are told = absurd are
cells_are n (c ∷ cs) (v ∷ vs) out are told =
    let here : n + 0 ≡ n = omega arith in
    let next : (k : ℕ) → (n + 1) + k ≡ n + suc k = λ k. omega arith in
    let own : is_outside (cell_width c) ≡ out n = sym (told 0) ∙ ap out here in
    ap (λ (w : Width). w ∷ cell_widths cs) (cell_is c v are.0 ∙ ap (width v) own) ∙ ap (λ (ws : List Width). width v (out n) ∷ ws) (cells_are (n + 1) cs vs out are.1 (λ k. ap out (next k) ∙ told (suc k)))

-- the widths of cells are those of the row, out of line where the cells are
pub cells_widths : (cells : List Cell) (row : Row) → AllZip IsCellOf cells row → cell_widths cells ≡ widths row (is_out_column cells)
cells_widths cells row are =
    let place : (k : ℕ) → 1 + k - 1 ≡ k = λ k. omega arith in
    cells_are 1 cells row (is_out_column cells) are (λ k. ap (λ (j : ℕ). option_map_or (λ cell. is_outside (cell_width cell)) (slice_get cells j) false) (place k))

out_too : (value : Option (List ℕ)) (kept out : Bool) → (value ≡ None → out ≡ false) → (if out then Outside else width value kept) ≡ width value (kept || out)
out_too None kept true h = absurd (cc (h refl))
out_too None kept false h = refl
out_too (Some bytes) true true h = refl
out_too (Some bytes) true false h = refl
out_too (Some bytes) false true h = refl
out_too (Some bytes) false false h = refl

moved_widths_from : (n : ℕ) (out : List ℕ) (values : Row) (kept : ℕ → Bool) → ((k : ℕ) → slice_get values k ≡ Some None → is_among out (n + k) ≡ false)
    → moved_from n out (widths_from n values kept) ≡ widths_from n values (λ column. kept column || is_among out column)
moved_widths_from n out [] kept h = refl
moved_widths_from n out (v ∷ vs) kept h =
    let here : n + 0 ≡ n = omega arith in
    let next : (k : ℕ) → (n + 1) + k ≡ n + suc k = λ k. omega arith in
    let own = out_too v (kept n) (is_among out n) (λ e. ap (is_among out) (sym here) ∙ h 0 (ap (λ (x : Option (List ℕ)). Some x) e)) in
    ap (λ (w : Width). w ∷ moved_from (n + 1) out (widths_from (n + 1) vs kept)) own
    ∙ ap (λ (ws : List Width). width v (kept n || is_among out n) ∷ ws) (moved_widths_from (n + 1) out vs kept (λ k e. ap (is_among out) (next k) ∙ h (suc k) e))

null_width : (n : ℕ) (values : Row) (kept : ℕ → Bool) (k : ℕ) → slice_get values k ≡ Some None → slice_get (widths_from n values kept) k ≡ Some Missing
null_width n [] kept k e = absurd (cc)
null_width n (None ∷ vs) kept zero e = refl
null_width n (Some bytes ∷ vs) kept zero e = absurd (cc)
null_width n (v ∷ vs) kept (suc k) e = null_width (n + 1) vs kept k e

among_all : (P : ℕ → Type 0) (out : List ℕ) (column : ℕ) → All P out → is_among out column ≡ true → P column
among_all P [] column h e = absurd (cc)
among_all P (c ∷ cs) column h e = elim (same_cases c column) [
  | inl same ↦ let Q : ℕ → Type 0 = P in subst Q same.0 (All-head P c cs h)
  | inr other ↦ among_all P cs column (All-tail P c cs h) (ap (λ (b : Bool). b || is_among cs column) (sym other.1) ∙ e)
]

null_stays_by : (schema : List Storage) (row : Row) (kept : ℕ → Bool) (out : List ℕ) (k : ℕ) (b : Bool) → All (MayGo schema (widths row kept)) out → slice_get row k ≡ Some None → is_among out (1 + k) ≡ b → b ≡ false
null_stays_by schema row kept out k true all e among =
    let may = among_all (MayGo schema (widths row kept)) out (1 + k) all among in
    let place : 1 + k - 1 ≡ k = omega arith in
    let missing : slice_get (widths row kept) (1 + k - 1) ≡ Some Missing = ap (slice_get (widths row kept)) place ∙ null_width 1 row kept k e in
    let bad : Some (Within may.size) ≡ Some Missing = sym may.inline ∙ missing in
    absurd (cc bad)
null_stays_by schema row kept out k false all e among = refl

-- the widths with what is pushed out of line too
pub pushed_widths : (schema : List Storage) (row : Row) (kept : ℕ → Bool) (target : ℕ) → moved (pushed schema (widths row kept) target) (widths row kept) ≡ widths row (λ column. kept column || is_among (pushed schema (widths row kept) target) column)
pushed_widths schema row kept target =
    let out = pushed schema (widths row kept) target in
    moved_widths_from 1 out row kept (λ k e. null_stays_by schema row kept out k (is_among out (1 + k)) (pushed_go schema (widths row kept) target) e refl)
