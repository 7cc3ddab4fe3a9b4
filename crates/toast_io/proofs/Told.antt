-- What the shared words say once a source or a sink tells its bytes.
use Rattle.std.proofs.Common.{◌≡◌, ◌≤◌, ℕ, List, [], ◌++◌, length, drop, Option, None, Some, IfSome, OnSome, ap, subst}
use Rattle.std.specs.Io.KnownBytes.{Appends, Keeps}
use Rattle.toast_io.specs.Source.{Takes, ReadsToEnd}

-- all that is told was read, and nothing is left
pub told_whole : (old new : Option (List ℕ)) (bytes left : List ℕ) → old ≡ Some left → ReadsToEnd old new bytes → (bytes ≡ left) × (new ≡ Some [])
told_whole old new bytes left told reads =
    let Whole : Option (List ℕ) → Type 0 = λ o. IfSome o (λ l. bytes ≡ l) in
    let End : Option (List ℕ) → Type 0 = λ o. OnSome o (new ≡ Some []) in
    (subst Whole told reads.whole, subst End told reads.at_end)

-- so many of the told bytes are there, and the others are left
pub told_taken : (old new : Option (List ℕ)) (count : ℕ) (left : List ℕ) → old ≡ Some left → Takes old new count → (count ≤ length left) × (new ≡ Some (drop count left))
told_taken old new count left told takes =
    let There : Option (List ℕ) → Type 0 = λ o. IfSome o (λ l. count ≤ length l) in
    let Rest : Option (List ℕ) → Type 0 = λ o. IfSome o (λ l. new ≡ Some (drop count l)) in
    (subst There told takes.there, subst Rest told takes.rest)
