-- Tables as lists of entries.
use Rattle.std.proofs.Common.{◌≡◌, Bool, true, false, cond, List, [], ◌∷◌, Some, refl, ap}
use Rattle.std.specs.Map.{lookup, set_value}

module _ {K X : Type 0} (test : K → Bool) where
  -- writing the value that is there changes nothing
  pub set_same : (es : List (K × X)) (w : X) → lookup test es ≡ Some w → set_value test es w ≡ es
  set_same [] w e = refl
  set_same (x ∷ xs) w e = by (test x.0) e (set_same xs w)
    where
      by : (b : Bool) → cond b (Some x.1) (lookup test xs) ≡ Some w → (lookup test xs ≡ Some w → set_value test xs w ≡ xs) → cond b ((x.0, w) ∷ xs) (x ∷ set_value test xs w) ≡ x ∷ xs
      by true f rest = ap (λ (v : X). (x.0, v) ∷ xs) (cc)
      by false f rest = ap (λ (more : List (K × X)). x ∷ more) (rest f)
