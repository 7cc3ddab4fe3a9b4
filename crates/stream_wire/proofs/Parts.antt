-- Parts that are added one after the other.
use Rattle.std.proofs.Common.{◌≡◌, ℕ, List, ◌++◌, Result, Ok, Err, ap, ◌∙◌, append_assoc}
use Rattle.std.specs.Prelude.{OnOk}

pub three_parts : {T E : Type 0} (r : Result T E) (old a b d o1 o2 o3 : List ℕ) → o1 ≡ old ++ a → o2 ≡ o1 ++ b → OnOk r (o3 ≡ o2 ++ d) → OnOk r (o3 ≡ old ++ (a ++ (b ++ d)))
three_parts (Ok t) old a b d o1 o2 o3 e1 e2 e3 =
    e3 ∙ ap (λ (x : List ℕ). x ++ d) (e2 ∙ ap (λ (x : List ℕ). x ++ b) e1) ∙ append_assoc (old ++ a) b d ∙ append_assoc old a (b ++ d)
three_parts (Err e) old a b d o1 o2 o3 e1 e2 e3 = tt

pub four_parts : {T E : Type 0} (r : Result T E) (old a b c d o1 o2 o3 o4 : List ℕ) → o1 ≡ old ++ a → o2 ≡ o1 ++ b → o3 ≡ o2 ++ c → OnOk r (o4 ≡ o3 ++ d) → OnOk r (o4 ≡ old ++ (a ++ (b ++ (c ++ d))))
four_parts {T} {E} (Ok t) old a b c d o1 o2 o3 o4 e1 e2 e3 e4 =
    let r : Result T E = Ok t in
    three_parts r o1 b c d o2 o3 o4 e2 e3 e4 ∙ ap (λ (x : List ℕ). x ++ (b ++ (c ++ d))) e1 ∙ append_assoc old a (b ++ (c ++ d))
four_parts (Err e) old a b c d o1 o2 o3 o4 e1 e2 e3 e4 = tt
