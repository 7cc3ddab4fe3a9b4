-- The widths of a row whose columns go out one by one.
use Rattle.std.proofs.Common.{◌≡◌, ℕ, zero, suc, ◌+◌, ◌<◌, Bool, true, false, cond, ◌==◌, ◌||◌, List, [], ◌∷◌, length, refl, sym, ap, ◌∙◌, arith}
use Rattle.std.specs.Prelude.{slice_set}
use Rattle.std.specs.List.{list_any}
use Rattle.std.proofs.lemmas.Bool.Decides.{nat_tests}
use Rattle.external_pointer.specs.declared.external.Pointer.{Pointer}
use Rattle.tuple_layout.specs.Sizes.{Width, Outside}
use Rattle.tuple_layout.specs.Tuples.{cell_width, cell_widths}
use Rattle.tuple_layout.specs.declared.cell.Cell.{Cell}
use Rattle.tuple_layout.specs.declared.cell.Cell.TheVariants.{Out}
use Rattle.tuple_toaster.specs.Pushed.{is_among, moved_from, width_besides}

-- with no column out besides, each width is as it was
pub moved-none : (n : ℕ) (ws : List Width) → moved_from n [] ws ≡ ws
moved-none n [] = refl
moved-none n (w ∷ ws) = ap (λ (rest : List Width). w ∷ rest) (moved-none (n + 1) ws)

-- a column that is out besides is as one that has a pointer
past : (n : ℕ) (out : List ℕ) (column : ℕ) (ws : List Width) → column < n → moved_from n (column ∷ out) ws ≡ moved_from n out ws
past n out column [] before = refl
past n out column (w ∷ ws) before =
    let differ : (column == n) ≡ false = grind (arith, nat_tests) in
    ap (λ (b : Bool). cond (b || list_any (λ c. c == n) out) Outside w ∷ moved_from (n + 1) (column ∷ out) ws) differ
    ∙ ap (λ (rest : List Width). width_besides out n w ∷ rest) (past (n + 1) out column ws (omega (arith, before)))

pub moved-out : (n : ℕ) (out : List ℕ) (cells : List Cell) (k : ℕ) (p : Pointer) → k < length cells → moved_from n ((n + k) ∷ out) (cell_widths cells) ≡ moved_from n out (cell_widths (slice_set cells k (Out p)))
moved-out n out [] k p there = absurd (omega (arith, there))
moved-out n out (c ∷ cells) zero p there =
    let same : ((n + 0) == n) ≡ true = grind (arith, nat_tests) in
    ap (λ (b : Bool). cond (b || list_any (λ c. c == n) out) Outside (cell_width c) ∷ moved_from (n + 1) ((n + 0) ∷ out) (cell_widths cells)) same
    ∙ ap (λ (rest : List Width). Outside ∷ rest) (past (n + 1) out (n + 0) (cell_widths cells) (omega arith))
    ∙ ap (λ (w : Width). w ∷ moved_from (n + 1) out (cell_widths cells)) (sym (outside (is_among out n)))
  where
    outside : (b : Bool) → cond b Outside Outside ≡ Outside
    outside true = refl
    outside false = refl
moved-out n out (c ∷ cells) (suc k) p there =
    let differ : ((n + suc k) == n) ≡ false = grind (arith, nat_tests) in
    let place : n + suc k ≡ n + 1 + k = omega arith in
    ap (λ (b : Bool). cond (b || list_any (λ c. c == n) out) Outside (cell_width c) ∷ moved_from (n + 1) ((n + suc k) ∷ out) (cell_widths cells)) differ
    ∙ ap (λ m. width_besides out n (cell_width c) ∷ moved_from (n + 1) (m ∷ out) (cell_widths cells)) place
    ∙ ap (λ (rest : List Width). width_besides out n (cell_width c) ∷ rest) (moved-out (n + 1) out cells k p (omega (arith, there)))
