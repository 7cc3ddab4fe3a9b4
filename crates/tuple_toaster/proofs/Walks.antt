-- The walks over the columns, and the choice of one column after the other.
use Rattle.std.proofs.Common.{◌≡◌, ℕ, ◌+◌, ◌<◌, ◌≤◌, Bool, true, false, List, [], ◌∷◌, ◌++◌, Option, Some, length, map, drop, get_or, min, refl, sym, ap, ◌∙◌, append_assoc, arith, inl, inr, ◌⊎◌}
use Rattle.std.specs.Prelude.{nat_le, ◌||◌, if◌then◌else◌}
use Rattle.std.specs.List.{list_any}
use Rattle.std.proofs.lemmas.List.{drop_more, drop_all, length_push, append-nil}
use Rattle.std.proofs.lemmas.Bool.Decides.{nat_tests}
use Rattle.tuple_layout.specs.declared.Storage.{Storage}
use Rattle.tuple_layout.specs.declared.cell.Cell.{Cell}
use Rattle.tuple_layout.specs.Sizes.{Width, is_missing, column_end, data_end_from, header_size, size}
use Rattle.tuple_layout.specs.Tuples.{cell_width, cell_widths}
use Rattle.tuple_toaster.specs.Pushed.{Columns, eligible_from, eligible, width_besides, moved_from, moved, size_with, shortest, pushed, all_moved_size}
use Rattle.tuple_toaster.specs.Largest.{first_of, longer, candidate, candidate_besides}
use Rattle.tuple_toaster.proofs.Ordered.{without, eligible_more, without_first, few_eligible, first_with, longer_assoc}

-- what is left of the columns at a place of the walk
abbrev pub left_of : List ℕ → List Cell → ℕ → List Width
left_of out cells n = moved_from (n + 1) out (cell_widths (drop n cells))

left_more : (out : List ℕ) (cells : List Cell) (n : ℕ) (c : Cell) → n < length cells → c ≡ get_or cells n c → left_of out cells n ≡ width_besides out (n + 1) (cell_width c) ∷ left_of out cells (n + 1)
left_more out cells n c h is = ap (λ (x : List Cell). moved_from (n + 1) out (cell_widths x)) (drop_more cells n c h ∙ ap (λ (x : Cell). x ∷ drop (n + 1) cells) (sym is))

left_all : (out : List ℕ) (cells : List Cell) (n : ℕ) → length cells ≤ n → left_of out cells n ≡ []
left_all out cells n h = ap (λ (x : List Cell). moved_from (n + 1) out (cell_widths x)) (drop_all n cells h)

storage_more : (schema : List Storage) (n : ℕ) (s : Storage) → n < length schema → s ≡ get_or schema n s → drop n schema ≡ s ∷ drop (n + 1) schema
storage_more schema n s h is = drop_more schema n s h ∙ ap (λ (x : Storage). x ∷ drop (n + 1) schema) (sym is)

-- ---- the size

pub end_more : (schema : List Storage) (cells : List Cell) (out : List ℕ) (n at total : ℕ) (s : Storage) (c : Cell) → n < length schema → n < length cells → s ≡ get_or schema n s → c ≡ get_or cells n c
    → data_end_from at (drop n schema) (left_of out cells n) ≡ total → data_end_from (column_end s at (width_besides out (n + 1) (cell_width c))) (drop (n + 1) schema) (left_of out cells (n + 1)) ≡ total
end_more schema cells out n at total s c h k s-is c-is rest =
    ap (λ (x : List Storage). data_end_from at x (width_besides out (n + 1) (cell_width c) ∷ left_of out cells (n + 1))) (sym (storage_more schema n s h s-is)) ∙ ap (data_end_from at (drop n schema)) (sym (left_more out cells n c k c-is)) ∙ rest

or_assoc : (a b c : Bool) → (a || (b || c)) ≡ ((a || b) || c)
or_assoc true b c = refl
or_assoc false b c = refl

or_false : (b : Bool) → (b || false) ≡ b
or_false true = refl
or_false false = refl

pub size_is : (schema : List Storage) (cells : List Cell) (out : List ℕ) (n start end : ℕ) (null : Bool) → length cells ≡ length schema → n ≡ min (length schema) (length cells)
    → data_end_from end (drop n schema) (left_of out cells n) ≡ data_end_from 8 schema (moved out (cell_widths cells)) → (null || list_any is_missing (left_of out cells n)) ≡ list_any is_missing (moved out (cell_widths cells))
    → start ≡ header_size (length cells + 1) null → start + end ≡ size_with schema (cell_widths cells) out
size_is schema cells out n start end null len all rest nulls start-is =
    let past : left_of out cells n ≡ [] = left_all out cells n (omega arith) in
    let no_more : drop n schema ≡ [] = drop_all n schema (omega arith) in
    let end-is : end ≡ data_end_from 8 schema (moved out (cell_widths cells)) = ap (λ (x : List Storage). data_end_from end x (left_of out cells n)) (sym no_more) ∙ rest in
    let null-is : null ≡ list_any is_missing (moved out (cell_widths cells)) = sym (or_false null) ∙ ap (λ (x : List Width). null || list_any is_missing x) (sym past) ∙ nulls in
    rw (start-is, end-is, null-is, len) refl

-- ---- the largest

pub best_more : (schema : List Storage) (cells : List Cell) (out : List ℕ) (n : ℕ) (best total : Option (ℕ × ℕ)) (s : Storage) (c : Cell) → n < length schema → n < length cells → s ≡ get_or schema n s → c ≡ get_or cells n c
    → longer best (first_of (eligible_from (n + 1) (drop n schema) (left_of out cells n))) ≡ total
    → longer (longer best (candidate_besides out (n + 1) s (cell_width c))) (first_of (eligible_from (n + 1 + 1) (drop (n + 1) schema) (left_of out cells (n + 1)))) ≡ total
best_more schema cells out n best total s c h k s-is c-is rest =
    let w = width_besides out (n + 1) (cell_width c) in
    let others = eligible_from (n + 1 + 1) (drop (n + 1) schema) (left_of out cells (n + 1)) in
    sym (longer_assoc best (candidate (n + 1) s w) (first_of others)) ∙ ap (longer best) (sym (first_with (n + 1) s w others))
    ∙ ap (λ (x : List Storage). longer best (first_of (eligible_from (n + 1) x (w ∷ left_of out cells (n + 1))))) (sym (storage_more schema n s h s-is))
    ∙ ap (λ (x : List Width). longer best (first_of (eligible_from (n + 1) (drop n schema) x))) (sym (left_more out cells n c k c-is)) ∙ rest

-- the same as the walk has it
pub best_step : (schema : List Storage) (cells : List Cell) (out : List ℕ) (n m column : ℕ) (best cand new total : Option (ℕ × ℕ)) (s : Storage) (c : Cell) → m ≡ n + 1 → column ≡ n → new ≡ longer best cand → cand ≡ candidate_besides out (column + 1) s (cell_width c)
    → n < length schema → n < length cells → s ≡ get_or schema n s → c ≡ get_or cells n c → longer best (first_of (eligible_from (n + 1) (drop n schema) (left_of out cells n))) ≡ total
    → longer new (first_of (eligible_from (m + 1) (drop m schema) (left_of out cells m))) ≡ total
best_step schema cells out n m column best cand new total s c m-is column-is new-is cand-is h k s-is c-is rest =
    let found : new ≡ longer best (candidate_besides out (n + 1) s (cell_width c)) = new-is ∙ ap (longer best) (cand-is ∙ ap (λ (x : ℕ). candidate_besides out (x + 1) s (cell_width c)) column-is) in
    rw (m-is, found) (best_more schema cells out n best total s c h k s-is c-is rest)

-- ---- one column after the other

-- how far the choice has come
pub record Chosen (schema : List Storage) (ws : List Width) (target : ℕ) (out : List ℕ) : Type 0 where
  pub left : Columns
  pub order : eligible_from 1 schema (moved out ws) ≡ left
  pub rest : pushed schema ws target ≡ out ++ shortest (λ taken. nat_le (size_with schema ws taken) target) out (map (λ c. c.0) left)
  pub few : length out + length left ≤ length schema

moved_none : (column : ℕ) (ws : List Width) → moved_from column [] ws ≡ ws
moved_none column [] = refl
moved_none column (w ∷ ws) = ap (λ (x : List Width). w ∷ x) (moved_none (column + 1) ws)

pub chosen_none : (schema : List Storage) (ws : List Width) (target : ℕ) → Chosen schema ws target []
chosen_none schema ws target = record {
  left = eligible_from 1 schema ws;
  order = ap (eligible_from 1 schema) (moved_none 1 ws);
  rest = refl;
  few = omega (arith, few_eligible 1 schema ws);
}

not_fits : (n target : ℕ) → target < n → nat_le n target ≡ false
not_fits n target h = grind (arith, nat_tests)

fits : (n target : ℕ) → n ≤ target → nat_le n target ≡ true
fits n target h = grind (arith, nat_tests)

some_same : (a b : ℕ × ℕ) → first_of (a ∷ []) ≡ Some b → a ≡ b
some_same a b e = cc

chosen_more_by : (schema : List Storage) (ws : List Width) (target c len : ℕ) (out : List ℕ) (left : Columns) → eligible_from 1 schema (moved out ws) ≡ left
    → pushed schema ws target ≡ out ++ shortest (λ taken. nat_le (size_with schema ws taken) target) out (map (λ c. c.0) left) → length out + length left ≤ length schema → target < size_with schema ws out → first_of left ≡ Some (c, len)
    → Chosen schema ws target (out ++ c ∷ []) × (length out < length schema)
chosen_more_by schema ws target c len out [] order rest few large first = absurd (cc)
chosen_more_by schema ws target c len out (d ∷ ds) order rest few large first =
    let same : d ≡ (c, len) = some_same d (c, len) first in
    let column : d.0 ≡ c = ap (λ (x : ℕ × ℕ). x.0) same in
    let test = λ (taken : List ℕ). nat_le (size_with schema ws taken) target in (
      record {
        left = ds;
        order = ap (λ (n : ℕ). eligible_from 1 schema (moved (out ++ n ∷ []) ws)) (sym column) ∙ eligible_more 1 d.0 schema out ws ∙ ap (without d.0) order ∙ without_first d ds;
        rest = rest ∙ ap (λ (b : Bool). out ++ (if b then [] else d.0 ∷ shortest test (out ++ d.0 ∷ []) (map (λ x. x.0) ds))) (not_fits (size_with schema ws out) target large)
            ∙ sym (append_assoc out (d.0 ∷ []) (shortest test (out ++ d.0 ∷ []) (map (λ x. x.0) ds))) ∙ ap (λ (n : ℕ). (out ++ n ∷ []) ++ shortest test (out ++ n ∷ []) (map (λ x. x.0) ds)) column;
        few = omega (arith, few, length_push out c);
      },
      omega (arith, few),
    )

pub chosen_more : (schema : List Storage) (ws : List Width) (target c len : ℕ) (out : List ℕ) → Chosen schema ws target out → target < size_with schema ws out → first_of (eligible_from 1 schema (moved out ws)) ≡ Some (c, len)
    → Chosen schema ws target (out ++ c ∷ []) × (length out < length schema)
chosen_more schema ws target c len out h large first = chosen_more_by schema ws target c len out h.left h.order h.rest h.few large (sym (ap first_of h.order) ∙ first)

fits_now : (test : List ℕ → Bool) (out left : List ℕ) → test out ≡ true → shortest test out left ≡ []
fits_now test out [] e = refl
fits_now test out (c ∷ cs) e = rw e refl

-- the size is at most the target
pub chosen_fits : (schema : List Storage) (ws : List Width) (target : ℕ) (out : List ℕ) → Chosen schema ws target out → size_with schema ws out ≤ target → out ≡ pushed schema ws target
chosen_fits schema ws target out h small =
    let test = λ (taken : List ℕ). nat_le (size_with schema ws taken) target in
    sym (h.rest ∙ ap (λ (x : List ℕ). out ++ x) (fits_now test out (map (λ c. c.0) h.left) (fits (size_with schema ws out) target small)) ∙ append-nil out)

-- ---- a target that no size reaches

some_size : (schema : List Storage) (ws : List Width) → 1 ≤ size schema ws
some_size schema ws = omega arith

all_pushed : (schema : List Storage) (ws : List Width) (taken left : List ℕ) → shortest (λ out. nat_le (size_with schema ws out) 0) taken left ≡ left
all_pushed schema ws taken [] = refl
all_pushed schema ws taken (c ∷ cs) =
    ap (λ (b : Bool). if b then [] else c ∷ shortest (λ out. nat_le (size_with schema ws out) 0) (taken ++ c ∷ []) cs) (not_fits (size_with schema ws taken) 0 (omega (arith, some_size schema (moved taken ws))))
    ∙ ap (λ (x : List ℕ). c ∷ x) (all_pushed schema ws (taken ++ c ∷ []) cs)

pub pushed_all : (schema : List Storage) (ws : List Width) → pushed schema ws 0 ≡ eligible schema ws
pushed_all schema ws = all_pushed schema ws [] (eligible schema ws)

-- ---- how the choice ends

shortest_ends_by : (test : List ℕ → Bool) (taken : List ℕ) (c : ℕ) (cs : List ℕ) (b : Bool) → test taken ≡ b
    → (test ((taken ++ c ∷ []) ++ shortest test (taken ++ c ∷ []) cs) ≡ true) ⊎ (shortest test (taken ++ c ∷ []) cs ≡ cs) → (test (taken ++ shortest test taken (c ∷ cs)) ≡ true) ⊎ (shortest test taken (c ∷ cs) ≡ c ∷ cs)
shortest_ends_by test taken c cs true e rest = inl (ap (λ (x : List ℕ). test (taken ++ x)) (fits_now test taken (c ∷ cs) e) ∙ ap test (append-nil taken) ∙ e)
shortest_ends_by test taken c cs false e rest =
    let goes : shortest test taken (c ∷ cs) ≡ c ∷ shortest test (taken ++ c ∷ []) cs = ap (λ (b : Bool). if b then [] else c ∷ shortest test (taken ++ c ∷ []) cs) e in
    elim rest [
      | inl done ↦ inl (ap (λ (x : List ℕ). test (taken ++ x)) goes ∙ ap test (sym (append_assoc taken (c ∷ []) (shortest test (taken ++ c ∷ []) cs))) ∙ done)
      | inr all ↦ inr (goes ∙ ap (λ (x : List ℕ). c ∷ x) all)
    ]

shortest_ends : (test : List ℕ → Bool) (taken left : List ℕ) → (test (taken ++ shortest test taken left) ≡ true) ⊎ (shortest test taken left ≡ left)
shortest_ends test taken [] = inr refl
shortest_ends test taken (c ∷ cs) = shortest_ends_by test taken c cs (test taken) refl (shortest_ends test (taken ++ c ∷ []) cs)

within : (n target : ℕ) → nat_le n target ≡ true → n ≤ target
within n target h = grind (arith, nat_tests)

-- a row that is too large for the target has all out of line that may go
pub large_has_all : (schema : List Storage) (ws : List Width) (target : ℕ) → target < size_with schema ws (pushed schema ws target) → size_with schema ws (pushed schema ws target) ≡ all_moved_size schema ws
large_has_all schema ws target large = elim (shortest_ends (λ out. nat_le (size_with schema ws out) target) [] (eligible schema ws)) [
  | inl fit ↦ absurd (omega (arith, within (size_with schema ws (pushed schema ws target)) target fit, large))
  | inr all ↦ ap (size_with schema ws) all
]
