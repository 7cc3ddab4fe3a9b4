-- What a log of edits tells of a place or a name.
use Rattle.std.proofs.Common.{◌≡◌, ℕ, List, [], ◌∷◌, Option, Some, None, Bool, true, false, cond, refl, ap, ◌∙◌, arith}
use Rattle.std.proofs.lemmas.Bool.Decides.{nat_tests}
use Rattle.std.specs.Prelude.{◌==◌}
use Rattle.std.specs.List.{find}
use Rattle.std.specs.Option.{option_and_then}
use Rattle.std.specs.Ordering.{nat_cmp, eq_by_cmp}
use Rattle.std.specs.Cmp.{nat_cmp_total}
use Rattle.std.specs.FinMap as map
use Rattle.tuple_layout.specs.declared.Place.{Place}
use Rattle.tuple_layout.specs.Places.{Row, Rows, place_cmp, same_place, get-put, get-gone}
use Rattle.command_set.specs.declared.rows.RowEdit.{RowEdit}
use Rattle.command_set.specs.Logs.{edited, rows_of, handles_of, newest, newest_value}

-- a choice of two edits, the first of which stands alone
and_then_cond : {A B : Type 0} (b : Bool) (f : A → Option B) (x : A) (o : Option A) → cond b (f x) (option_and_then f o) ≡ option_and_then f (cond b (Some x) o)
and_then_cond true f x o = refl
and_then_cond false f x o = refl

-- the row at a place after an edit
get_edited : (p : Place) (row : Option Row) (rows : Rows) (q : Place) → map.get (edited p row rows) q ≡ cond (same_place q p) row (map.get rows q)
get_edited p (Some row) rows q = get-put rows p row q
get_edited p None rows q = get-gone rows p q

-- the row at a place is what its newest edit left there
pub get_rows : (edits : List RowEdit) (p : Place) → map.get (rows_of edits) p ≡ newest edits p
get_rows [] p = map.get-empty place_cmp p
get_rows (edit ∷ edits) p =
    get_edited edit.place edit.row (rows_of edits) p
    ∙ ap (cond (same_place p edit.place) edit.row) (get_rows edits p)
    ∙ and_then_cond (same_place p edit.place) (λ (e : RowEdit). e.row) edit (find (λ e. same_place p e.place) edits)

same_number : (h n : ℕ) → eq_by_cmp nat_cmp h n ≡ (h == n)
same_number h n = grind (arith, nat_tests)

-- the value under a name is what its newest edit left there
pub get_handles : (edits : List (ℕ × Option (List ℕ))) (h : ℕ) → map.get (handles_of edits) h ≡ newest_value edits h
get_handles [] h = map.get-empty nat_cmp h
get_handles ((n, Some bytes) ∷ edits) h = map.get-insert nat_cmp_total (handles_of edits) n bytes h ∙ ap (λ b. cond b (Some bytes) (map.get (handles_of edits) h)) (same_number h n) ∙ ap (cond (h == n) (Some bytes)) (get_handles edits h) ∙ and_then_cond (h == n) (λ edit. edit.1) (n, Some bytes) (find (λ edit. h == edit.0) edits)
get_handles ((n, None) ∷ edits) h = map.get-remove nat_cmp_total (handles_of edits) n h ∙ ap (λ b. cond b None (map.get (handles_of edits) h)) (same_number h n) ∙ ap (cond (h == n) None) (get_handles edits h) ∙ and_then_cond (h == n) (λ edit. edit.1) (n, None) (find (λ edit. h == edit.0) edits)
