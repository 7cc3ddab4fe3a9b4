-- No message that is applied leaves a row of more than 8 columns.
use Rattle.std.proofs.Common.{◌≡◌, refl, ℕ, ◌≤◌, Bool, true, false, cond, List, length, Option, Some, None, Result, Ok, Err, IfSome, ◌==◌, position, subst}
use Rattle.std.proofs.lemmas.List.{length-map}
use Rattle.std.specs.FinMap as finite
use Rattle.tuple_layout.specs.declared.Place.{Place}
use Rattle.tuple_layout.specs.Places.{Row, Rows, same_place, get-put, get-gone}
use Rattle.stream_wire.specs.declared.message.Sent.{Sent}
use Rattle.stream_wire.specs.declared.message.Message.{Message}
use Rattle.stream_wire.specs.declared.message.Message.TheVariants as messages
use Rattle.stream_wire.specs.Spelling.{IsInRange}
use Rattle.replica_map.specs.declared.fault.ApplyFault.{ApplyFault}
use Rattle.replica_map.specs.declared.fault.ApplyFault.TheVariants.{WrongColumns}
use Rattle.replica_map.specs.States.{HasWidths, place}
use Rattle.replica_map.specs.Applies.{sent_value, row_with, new_row, is_unchanged, inserted, updated, moved, deleted, apply_message}
use Rattle.replica_map.proofs.Columns.{length-row_with}

abbrev IsNarrow : Row → Type 0
IsNarrow row = length row ≤ 8

either : (b : Bool) (x y : Option Row) → IfSome x IsNarrow → IfSome y IsNarrow → IfSome (cond b x y) IsNarrow
either true x y h k = h
either false x y h k = k

put_narrow : (rows : Rows) (at : Place) (row : Row) → HasWidths rows → length row ≤ 8 → HasWidths (finite.insert rows at row)
put_narrow rows at row widths narrow = λ p. rw (get-put rows at row p) (either (same_place p at) (Some row) (finite.get rows p) narrow (widths p))

gone_narrow : (rows : Rows) (at : Place) → HasWidths rows → HasWidths (finite.remove rows at)
gone_narrow rows at widths = λ p. rw (get-gone rows at p) (either (same_place p at) None (finite.get rows p) tt (widths p))

-- what is granted where a test holds
granted : (b : Bool) (x new : Rows) (fault : ApplyFault) → cond b (Ok x) (Err fault) ≡ Ok new → x ≡ new
granted true x new fault e = cc
granted false x new fault e = absurd (cc)

inserted_narrow : (rows new : Rows) (p : Place) (columns : List Sent) (there : Option Row) (unchanged : Option ℕ) → HasWidths rows → length columns ≤ 8 → inserted rows p columns there unchanged ≡ Ok new → HasWidths new
inserted_narrow rows new p columns (Some row) unchanged widths few e = absurd (cc)
inserted_narrow rows new p columns None (Some n) widths few e = absurd (cc)
inserted_narrow rows new p columns None None widths few e =
    let is : finite.insert rows p (new_row columns) ≡ new = cc in
    let narrow : length (new_row columns) ≤ 8 = rw (length-map columns (sent_value None)) few in
    subst HasWidths is (put_narrow rows p (new_row columns) widths narrow)

updated_narrow : (rows new : Rows) (p : Place) (columns : List Sent) (there : Option Row) → HasWidths rows → IfSome there IsNarrow → updated rows p columns there ≡ Ok new → HasWidths new
updated_narrow rows new p columns None widths old e = absurd (cc)
updated_narrow rows new p columns (Some row) widths old e =
    let is = granted (length columns == length row) (finite.insert rows p (row_with row columns)) new (WrongColumns (length columns) (length row)) e in
    subst HasWidths is (put_narrow rows p (row_with row columns) widths (rw (length-row_with row columns) old))

moved_narrow : (rows new : Rows) (p q : Place) (columns : List Sent) (there other : Option Row) → HasWidths rows → IfSome there IsNarrow → moved rows p q columns there other ≡ Ok new → HasWidths new
moved_narrow rows new p q columns None other widths old e = absurd (cc)
moved_narrow rows new p q columns (Some row) (Some taken) widths old e = absurd (cc)
moved_narrow rows new p q columns (Some row) None widths old e =
    let is = granted (length columns == length row) (finite.insert (finite.remove rows p) q (row_with row columns)) new (WrongColumns (length columns) (length row)) e in
    subst HasWidths is (put_narrow (finite.remove rows p) q (row_with row columns) (gone_narrow rows p widths) (rw (length-row_with row columns) old))

deleted_narrow : (rows new : Rows) (p : Place) (there : Option Row) → HasWidths rows → deleted rows p there ≡ Ok new → HasWidths new
deleted_narrow rows new p None widths e = absurd (cc)
deleted_narrow rows new p (Some row) widths e = let is : finite.remove rows p ≡ new = cc in subst HasWidths is (gone_narrow rows p widths)

same_narrow : (rows new : Rows) → HasWidths rows → (step : Result Rows ApplyFault) → step ≡ Ok rows → step ≡ Ok new → HasWidths new
same_narrow rows new widths step is e = let same : rows ≡ new = cc in subst HasWidths same widths

-- the rows after a message are narrow
pub applied_narrow : (rows new : Rows) (m : Message) → IsInRange m → HasWidths rows → apply_message rows m ≡ Ok new → HasWidths new
applied_narrow rows new (messages.Begin number) range widths e = same_narrow rows new widths (Ok rows) refl e
applied_narrow rows new (messages.Insert table key columns) range widths e =
    inserted_narrow rows new (place table key) columns (finite.get rows (place table key)) (position is_unchanged columns) widths range.1.1 e
applied_narrow rows new (messages.Update table key columns) range widths e =
    updated_narrow rows new (place table key) columns (finite.get rows (place table key)) widths (widths (place table key)) e
applied_narrow rows new (messages.Move table from to columns) range widths e =
    moved_narrow rows new (place table from) (place table to) columns (finite.get rows (place table from)) (finite.get rows (place table to)) widths (widths (place table from)) e
applied_narrow rows new (messages.Delete table key) range widths e =
    deleted_narrow rows new (place table key) (finite.get rows (place table key)) widths e
applied_narrow rows new (messages.Commit number) range widths e = same_narrow rows new widths (Ok rows) refl e
