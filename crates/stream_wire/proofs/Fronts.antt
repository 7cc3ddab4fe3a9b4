-- Fronts of lists that grow.
use Rattle.std.proofs.Common.{◌≡◌, List, [], ◌∷◌, ◌++◌, length, take, refl, ap, ◌∙◌}

-- a list that begins with a longer front begins with a shorter one
pub shorter_front : {T : Type 0} (old more new : List T) → take (length (old ++ more)) new ≡ old ++ more → take (length old) new ≡ old
shorter_front {T} [] more new e = refl
shorter_front {T} (x ∷ old) more [] e = absurd (cc)
shorter_front {T} (x ∷ old) more (y ∷ new) e = ap (λ (z : T). z ∷ take (length old) new) (cc) ∙ ap (λ (zs : List T). x ∷ zs) (shorter_front old more new (cc))
