-- A row that is moved: its old place is free and its new one has it.
use Rattle.std.proofs.Common.{◌≡◌, ◌≢◌, Bool, true, false, cond, List, length, Option, Some, None, Ok, is_some, eq-eqb, eqb, refl, sym, ap, ◌∙◌}
use Rattle.std.specs.FinMap as finite
use Rattle.tuple_layout.specs.declared.Place.{Place}
use Rattle.tuple_layout.specs.Places.{Row, Rows, place_total, same_place, get-put, get-gone}
use Rattle.stream_wire.specs.declared.message.Sent.{Sent}
use Rattle.replica_map.specs.Applies.{row_with, moved}
use Rattle.tuple_layout.proofs.PlaceLemmas.{place_exact, same_place_is}

-- nothing is where no row is
pub nothing_there : (there : Option Row) → is_some there ≡ false → there ≡ None
nothing_there None e = refl
nothing_there (Some row) e = absurd (cc)

-- two tests that do not both hold may be made in either order
swapped : (a b : Bool) (x y z : Option Row) → (a ≡ true → b ≡ true → ⊥) → cond a x (cond b y z) ≡ cond b y (cond a x z)
swapped true true x y z apart = absurd (apart refl refl)
swapped true false x y z apart = refl
swapped false b x y z apart = refl

-- a row may be put before another one is taken away
put_first : (rows : Rows) (p q : Place) (row : Row) → p ≢ q → finite.insert (finite.remove rows p) q row ≡ finite.remove (finite.insert rows q row) p
put_first rows p q row apart =
    finite.same_map place_total place_exact _ _ (λ k.
    get-put (finite.remove rows p) q row k
    ∙ ap (cond (same_place k q) (Some row)) (get-gone rows p k)
    ∙ swapped (same_place k q) (same_place k p) (Some row) None (finite.get rows k) (λ e f. apart (sym (same_place_is k p f) ∙ same_place_is k q e))
    ∙ sym (get-gone (finite.insert rows q row) p k ∙ ap (cond (same_place k p) None) (get-put rows q row k)))

-- the rows after a move that is granted
pub moved_is : (rows after : Rows) (p q : Place) (columns : List Sent) (old : Row) → finite.get rows p ≡ Some old → finite.get rows q ≡ None → length columns ≡ length old → after ≡ finite.remove (finite.insert rows q (row_with old columns)) p
    → moved rows p q columns (finite.get rows p) (finite.get rows q) ≡ Ok after
moved_is rows after p q columns old there free same is =
    let apart : p ≢ q = λ e. (let both : Some old ≡ None = sym there ∙ ap (finite.get rows) e ∙ free in cc) in
    let equal : eqb (length columns) (length old) ≡ true = eq-eqb (length columns) (length old) same in
    rw (there, free, equal) (ap Ok (put_first rows p q (row_with old columns) apart ∙ sym is))
