-- The columns of a row, cell by cell.
use Rattle.std.proofs.Common.{append_assoc, ◌≡◌, ◌≤◌, ℕ, Bool, true, false, cond, ◌==◌, ◌&&◌, ◌||◌, eq-eqb, List, [], ◌∷◌, ◌++◌, Option, Some, None, length, map, filter_map, slice_set, refl, sym, ap, ◌∙◌, if◌then◌else◌, arith, suc}
use Rattle.std.specs.List.{list_any, cons_option, All}
use Rattle.std.proofs.lemmas.Bool.{eqb-true}
use Rattle.std.proofs.lemmas.List.{map-append, length-map}
use Rattle.std.proofs.lemmas.List.Folds.{list_any-append}
use Rattle.std.proofs.lemmas.List.Elements.{All-cons, All-nil}
use Rattle.tuple_layout.specs.declared.cell.Cell.{Cell}
use Rattle.tuple_layout.specs.declared.cell.Cell.TheVariants as cells
use Rattle.stream_wire.specs.Spelling.{AreColumns, IsShort}
use Rattle.stream_wire.specs.declared.message.Sent.{Sent as Column}
use Rattle.stream_wire.specs.declared.message.Sent.TheVariants as columns
use Rattle.decode_stream.specs.declared.fault.DecodeFault.{DecodeFault}
use Rattle.decode_stream.specs.declared.fault.DecodeFault.TheVariants.{SizeOf}
use Rattle.decode_stream.specs.Decoding.{GatheredValue, Found, size_fault, cell_fault, column_of, sent_value, fronts_after, first}
use Rattle.decode_stream.specs.declared.gathered.ValueName.{ValueName}
use Rattle.decode_stream.specs.States.{AreCells, IsShortCell, same_name, value_name}
use Rattle.decode_stream.specs.Rows.{planned, planned_of, pointed, points_to}
use Rattle.decode_stream.proofs.Lists.{fronts-push, set_behind}

-- one column more is planned
pub planned-push : (found : Found) (table : ℕ) (row : List Cell) (cell : Cell) → planned found table [] (row ++ cell ∷ []) ≡ planned found table [] row ++ planned_of found table row cell ∷ []
planned-push found table row cell = ap (λ fronts. map (λ (p : List Cell × Cell). planned_of found table p.0 p.1) fronts) (fronts-push [] row cell) ∙ map-append _ (fronts_after [] row) ((row, cell) ∷ [])

-- what is left of a name's value once a name of the same table is taken
pub taken_name : (table a b : ℕ) (name : ValueName) (now was : Option GatheredValue) → name ≡ value_name table a → now ≡ cond (same_name name (value_name table b)) None was → now ≡ (if (a == b) then None else was)
taken_name table a b name now was e h =
    h ∙ ap (λ (n : ValueName). cond (same_name n (value_name table b)) None was) e
    ∙ ap (λ (t : Bool). cond (t && (a == b)) None was) (eq-eqb table table refl)

-- which values are left once an earlier cell or this one has taken its own
pub left_more : (b d : Bool) (o : Option GatheredValue) → (if d then None else (if b then None else o)) ≡ (if (b || (d || false)) then None else o)
left_more true true o = refl
left_more true false o = refl
left_more false true o = refl
left_more false false o = refl

module _ (found now : Found) (table : ℕ) (before : List Cell)
    (left : (value_id : ℕ) → now table value_id ≡ (if list_any (points_to value_id) before then None else found table value_id)) where
  -- a cell for which nothing is left has its column already
  pub planned_stays : (cell : Cell) → None ≡ pointed now table cell → planned_of found table before cell ≡ column_of found table cell
  planned_stays cells.Null e = refl
  planned_stays (cells.Inline value) e = refl
  planned_stays (cells.Out p) e = by (list_any (points_to p.value_id) before) (e ∙ left p.value_id)
    where
      by : (b : Bool) → None ≡ (if b then None else found table p.value_id) → (if b then sent_value (found table p.value_id) else columns.Unchanged) ≡ sent_value (found table p.value_id)
      by true h = refl
      by false h = ap sent_value h

  -- what is left for a cell is its column
  pub taken_is : (cell : Cell) (v : GatheredValue) → Some v ≡ pointed now table cell → columns.Value v.bytes ≡ column_of found table cell
  taken_is cells.Null v e = absurd (cc)
  taken_is (cells.Inline value) v e = absurd (cc)
  taken_is (cells.Out p) v e = by (list_any (points_to p.value_id) before) (e ∙ left p.value_id)
    where
      by : (b : Bool) → Some v ≡ (if b then None else found table p.value_id) → columns.Value v.bytes ≡ sent_value (found table p.value_id)
      by true h = absurd (cc)
      by false h = ap sent_value h

  -- one cell more has taken its value
  pub left_after : (after : Found) (cell : Cell) → ((value_id : ℕ) → after table value_id ≡ (if points_to value_id cell then None else now table value_id))
      → (value_id : ℕ) → after table value_id ≡ (if list_any (points_to value_id) (before ++ cell ∷ []) then None else found table value_id)
  left_after after cell h value_id =
      h value_id
      ∙ ap (λ (o : Option GatheredValue). if points_to value_id cell then None else o) (left value_id)
      ∙ left_more (list_any (points_to value_id) before) (points_to value_id cell) (found table value_id)
      ∙ ap (λ (b : Bool). if b then None else found table value_id) (sym (list_any-append (points_to value_id) before (cell ∷ [])))

-- the columns with one more filled
module _ (found : Found) (table : ℕ) (before : List Cell) (cell : Cell) (rest : List Cell) where
  -- a column behind those that are filled is filled
  joined : map (column_of found table) before ++ column_of found table cell ∷ planned found table (before ++ cell ∷ []) rest ≡ map (column_of found table) (before ++ cell ∷ []) ++ planned found table (before ++ cell ∷ []) rest
  joined =
      sym (append_assoc (map (column_of found table) before) (column_of found table cell ∷ []) (planned found table (before ++ cell ∷ []) rest))
      ∙ ap (λ (filled : List Column). filled ++ planned found table (before ++ cell ∷ []) rest) (sym (map-append (column_of found table) before (cell ∷ [])))

  pub filled_stays : (row : List Column) → planned_of found table before cell ≡ column_of found table cell → row ≡ map (column_of found table) before ++ planned found table before (cell ∷ rest)
      → row ≡ map (column_of found table) (before ++ cell ∷ []) ++ planned found table (before ++ cell ∷ []) rest
  filled_stays row e h = h ∙ ap (λ (column : Column). map (column_of found table) before ++ column ∷ planned found table (before ++ cell ∷ []) rest) e ∙ joined

  pub filled_more : (row : List Column) (i : ℕ) (column : Column) → length (map (column_of found table) before) ≡ i → column ≡ column_of found table cell → row ≡ map (column_of found table) before ++ planned found table before (cell ∷ rest)
      → slice_set row i column ≡ map (column_of found table) (before ++ cell ∷ []) ++ planned found table (before ++ cell ∷ []) rest
  filled_more row i column n e h =
      ap (λ (l : List Column). slice_set l i column) h
      ∙ set_behind (map (column_of found table) before) (planned_of found table before cell) column (planned found table (before ++ cell ∷ []) rest) i n
      ∙ ap (λ (c : Column). map (column_of found table) before ++ c ∷ planned found table (before ++ cell ∷ []) rest) e
      ∙ joined

-- no fault among several
pub none_first : (o : Option DecodeFault) (more : List DecodeFault) → first (cons_option o more) ≡ None → o ≡ None
none_first None more e = refl
none_first (Some f) more e = absurd (cc)

pub none_later : (o : Option DecodeFault) (more : List DecodeFault) → first (cons_option o more) ≡ None → first more ≡ None
none_later None more e = e
none_later (Some f) more e = absurd (cc)

-- a gathered value without a fault is as short as its pointer says
short_value : (o : Option GatheredValue) (size : ℕ) → size ≤ 65536 → size_fault o size ≡ None → IsShort (sent_value o)
short_value None size within e = tt
short_value (Some v) size within e = by (length v.bytes == size) refl e
  where
    by : (b : Bool) → (length v.bytes == size) ≡ b → (if b then None else Some (SizeOf (length v.bytes) size)) ≡ None → length v.bytes ≤ 65536
    by true h f = let same : length v.bytes ≡ size = eqb-true (length v.bytes) size h in omega arith
    by false h f = absurd (cc)

short_column : (found : Found) (table : ℕ) (cell : Cell) → IsShortCell cell → cell_fault found table cell ≡ None → IsShort (column_of found table cell)
short_column found table cells.Null short e = tt
short_column found table (cells.Inline value) short e = short
short_column found table (cells.Out p) short e = short_value (found table p.value_id) p.size short e

-- columns of short cells without a fault are short
short_columns : (found : Found) (table : ℕ) (row : List Cell) → All IsShortCell row → first (filter_map (cell_fault found table) row) ≡ None → All IsShort (map (column_of found table) row)
short_columns found table [] short e = All-nil IsShort
short_columns found table (cell ∷ row) short e =
    All-cons IsShort (column_of found table cell) (map (column_of found table) row)
    (short_column found table cell (short 0 cell (omega arith)) (none_first _ _ e))
    (short_columns found table row (λ k d h. short (suc k) d (omega (arith, h))) (none_later (cell_fault found table cell) _ e))

pub columns_range : (found : Found) (table : ℕ) (row : List Cell) → AreCells row → first (filter_map (cell_fault found table) row) ≡ None → AreColumns (map (column_of found table) row)
columns_range found table row cells e =
    let len : length (map (column_of found table) row) ≡ length row = length-map row (column_of found table) in
    (omega (arith, cells.0), omega (arith, cells.1), short_columns found table row cells.2 e)
