-- One step of a loop over a list.
use Rattle.std.proofs.Common.{◌≡◌, ℕ, ◌+◌, ◌<◌, ◌≤◌, List, [], ◌∷◌, length, get_or, drop, refl, sym, ap, ◌∙◌, arith, drop-cons, add-one, zero, suc}
use Rattle.std.specs.Prelude.{map as mapped, slice_set}
use Rattle.std.specs.List.{enumerate_from}
use Rattle.std.specs.Option.{unwrap_or}
use Rattle.tuple_layout.specs.Places.{Row}
use Rattle.command_set.specs.declared.Set.{Set}
use Rattle.command_set.specs.Plain.{value_set}

-- what is left of a list from an element on
pub drop_step : {T : Type 0} (xs : List T) (i : ℕ) (x : T) → i < length xs → x ≡ get_or xs i x → drop i xs ≡ x ∷ drop (i + 1) xs
drop_step xs i x h e = rw add-one (drop-cons xs i x h ∙ ap (λ y. y ∷ drop (suc i) xs) (sym e))

-- the columns from this one on with what is set
abbrev pub set_from : ℕ → Row → List Set → Row
set_from column row sets = mapped (λ (column, value). unwrap_or (value_set sets column) value) (enumerate_from column row)

-- a write past the end changes nothing
pub set_past : {T : Type 0} (xs : List T) (i : ℕ) (x : T) → length xs ≤ i → slice_set xs i x ≡ xs
set_past [] i x h = refl
set_past (y ∷ ys) zero x h = absurd (omega (arith, h))
set_past (y ∷ ys) (suc i) x h = ap (λ rest. y ∷ rest) (set_past ys i x (omega (arith, h)))
