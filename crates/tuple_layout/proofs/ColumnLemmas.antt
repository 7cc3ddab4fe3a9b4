-- Columns that are read one after the other.
use Rattle.std.proofs.Common.{◌≡◌, ℕ, ◌+◌, ◌-◌, ◌<◌, ◌≤◌, Bool, true, false, List, [], ◌∷◌, ◌++◌, length, take, drop, get_or, Option, refl, sym, ap, subst, ◌∙◌, append_assoc, arith, inl, inr}
use Rattle.std.specs.Prelude.{not}
use Rattle.std.specs.Str.{bytes_eq}
use Rattle.std.proofs.lemmas.Slice.Eq.{bytes_eq-Decides}
use Rattle.std.specs.Int.RustNames.{FitsSigned}
use Rattle.std.specs.Int.{w64}
use Rattle.std.proofs.lemmas.List.{append-nil, length-append, length_push, length-drop, drop-drop, drop_all, take-append-drop, get_or_append_left, get_or_push, get_or_default}
use Rattle.std.proofs.lemmas.List.Elements.{All-nil, All-push}
use Rattle.std.proofs.lemmas.Bool.{cases_lt}
use Rattle.external_pointer.proofs.Spelled.{length-pointer_bytes}
use Rattle.tuple_layout.specs.declared.Storage.{Storage}
use Rattle.tuple_layout.specs.declared.Storage.TheVariants.{Plain}
use Rattle.tuple_layout.specs.declared.cell.Cell.{Cell}
use Rattle.tuple_layout.specs.declared.cell.Cell.TheVariants.{Null, Inline, Out}
use Rattle.tuple_layout.specs.declared.cell.Stored.{Stored}
use Rattle.tuple_layout.specs.declared.fault.TupleFault.{TupleFault}
use Rattle.tuple_layout.specs.declared.fault.TupleFault.TheVariants.{Short, BadHeader, Compressed, BadColumn, Rest, Memory}
use Rattle.tuple_layout.specs.Sizes.{column_end, data_end_from}
use Rattle.tuple_layout.specs.Tuples.{cell_width, cell_widths, cell_bytes, data_from, key_bytes, header, tuple, HasForm, HasTuple, is_there}
use Rattle.tuple_layout.specs.Faults.{HasHeader, HoldsCells, HasOtherHeader, GoesPast, IsFault, bitmap_in, is_present, start_in, end_of, next_storage}
use Rattle.tuple_layout.specs.Reading.{HoldsFirst, IsColumn, IsColumnFault, IsColumnsFault}
use Rattle.tuple_layout.proofs.CellLemmas.{inline_end_of}

-- where a cell's bytes end
pub length-cell_bytes : (storage : Storage) (at : ℕ) (cell : Cell) → at + length (cell_bytes storage at cell) ≡ column_end storage at (cell_width cell)
length-cell_bytes storage at Null = omega arith
length-cell_bytes storage at (Inline value) = inline_end_of storage at value
length-cell_bytes storage at (Out p) = omega (arith, length-pointer_bytes p)

pub data_from-nil : (at : ℕ) (schema : List Storage) → data_from at schema [] ≡ []
data_from-nil at [] = refl
data_from-nil at (s ∷ ss) = refl

pub end-nil : (at : ℕ) (schema : List Storage) → data_end_from at schema [] ≡ at
end-nil at [] = refl
end-nil at (s ∷ ss) = refl

-- the data of one cell more
pub data_from-push : (at : ℕ) (schema : List Storage) (cells : List Cell) (c : Cell) (s : Storage) → length cells < length schema → s ≡ get_or schema (length cells) s
    → data_from at schema (cells ++ c ∷ []) ≡ data_from at schema cells ++ cell_bytes s (data_end_from at schema (cell_widths cells)) c
data_from-push at [] cells c s h is = absurd (omega arith)
data_from-push at (t ∷ ts) [] c s h is =
    ap (λ (x : List ℕ). cell_bytes t at c ++ x) (data_from-nil (column_end t at (cell_width c)) ts) ∙ append-nil (cell_bytes t at c) ∙ ap (λ (x : Storage). cell_bytes x at c) (sym is)
data_from-push at (t ∷ ts) (x ∷ xs) c s h is =
    let at' = column_end t at (cell_width x) in
    ap (λ (y : List ℕ). cell_bytes t at x ++ y) (data_from-push at' ts xs c s (omega (arith, h)) is)
    ∙ sym (append_assoc (cell_bytes t at x) (data_from at' ts xs) (cell_bytes s (data_end_from at' ts (cell_widths xs)) c))

-- and where they end
pub end-push : (at : ℕ) (schema : List Storage) (cells : List Cell) (c : Cell) (s : Storage) → length cells < length schema → s ≡ get_or schema (length cells) s
    → data_end_from at schema (cell_widths (cells ++ c ∷ [])) ≡ column_end s (data_end_from at schema (cell_widths cells)) (cell_width c)
end-push at [] cells c s h is = absurd (omega arith)
end-push at (t ∷ ts) [] c s h is = end-nil (column_end t at (cell_width c)) ts ∙ ap (λ (x : Storage). column_end x at (cell_width c)) (sym is)
end-push at (t ∷ ts) (x ∷ xs) c s h is = end-push (column_end t at (cell_width x)) ts xs c s (omega (arith, h)) is

-- ---- the loop over the columns

pub end_none : (schema : List Storage) → end_of schema [] ≡ 8
end_none schema = end-nil 8 schema

pub holds_none : (schema : List Storage) (bits : Option ℕ) (bytes : List ℕ) → HoldsFirst schema bits bytes [] (drop 8 bytes)
holds_none schema bits bytes = record {
  few = omega arith;
  forms = All-nil HasForm;
  nulls = λ k d h. absurd (omega (arith, h));
  behind_key = ap (λ (x : List ℕ). x ++ drop 8 bytes) (sym (data_from-nil 8 schema));
}

pub end_more : (schema : List Storage) (cells : List Cell) (cell : Cell) (s : Storage) (at size : ℕ) (rest : List ℕ) (there : Bool) → length cells < length schema → s ≡ get_or schema (length cells) s → at ≡ end_of schema cells
    → IsColumn s at rest there cell (drop size rest) → size ≤ length rest → at + size ≡ end_of schema (cells ++ cell ∷ [])
end_more schema cells cell s at size rest there h is at-is column within =
    let long : size ≡ length (cell_bytes s at cell) = omega (arith, ap length column.front, length-append (cell_bytes s at cell) (drop size rest), length-drop size rest) in
    ap (λ (n : ℕ). at + n) long ∙ length-cell_bytes s at cell ∙ ap (λ (n : ℕ). column_end s n (cell_width cell)) at-is ∙ sym (end-push 8 schema cells cell s h is)

pub holds_more : (schema : List Storage) (bits : Option ℕ) (bytes : List ℕ) (cells : List Cell) (cell : Cell) (s : Storage) (at size : ℕ) (there : Bool) → length cells < length schema → s ≡ get_or schema (length cells) s
    → at ≡ end_of schema cells → there ≡ is_present bits (length cells + 1) → HoldsFirst schema bits bytes cells (drop at bytes) → IsColumn s at (drop at bytes) there cell (drop size (drop at bytes))
    → HoldsFirst schema bits bytes (cells ++ cell ∷ []) (drop (at + size) bytes)
holds_more schema bits bytes cells cell s at size there h is at-is there-is holds column = record {
  few = omega (arith, length_push cells cell);
  forms = All-push HasForm cells cell holds.forms column.form;
  nulls = λ k d lt. elim (cases_lt k (length cells)) [
    | inl before ↦ ap (λ (x : Cell). is_there (cell_width x)) (get_or_append_left cells (cell ∷ []) d k before) ∙ holds.nulls k d before
    | inr at_end ↦
        let k-is : length cells ≡ k = omega (arith, length_push cells cell) in
        ap (λ (x : Cell). is_there (cell_width x)) (get_or_push cells cell d k k-is) ∙ column.present ∙ there-is ∙ ap (λ (n : ℕ). is_present bits (n + 1)) k-is
  ];
  behind_key =
      let placed : cell_bytes s at cell ≡ cell_bytes s (end_of schema cells) cell = ap (λ (n : ℕ). cell_bytes s n cell) at-is in
      holds.behind_key ∙ ap (λ (x : List ℕ). data_from 8 schema cells ++ x) (column.front ∙ ap (λ (x : List ℕ). cell_bytes s at cell ++ x) (drop-drop size at bytes) ∙ ap (λ (x : List ℕ). x ++ drop (at + size) bytes) placed)
      ∙ sym (append_assoc (data_from 8 schema cells) (cell_bytes s (end_of schema cells) cell) (drop (at + size) bytes))
      ∙ ap (λ (x : List ℕ). x ++ drop (at + size) bytes) (sym (data_from-push 8 schema cells cell s h is));
}

next_is : (schema : List Storage) (cells : List Cell) (s : Storage) → length cells < length schema → s ≡ get_or schema (length cells) s → s ≡ next_storage schema cells
next_is schema cells s h is = is ∙ get_or_default schema (length cells) s Plain h

pub stops_in : (schema : List Storage) (bits : Option ℕ) (bytes : List ℕ) (cells : List Cell) (s : Storage) (at column : ℕ) (there : Bool) (f : TupleFault) → length cells < length schema → s ≡ get_or schema (length cells) s
    → at ≡ end_of schema cells → column ≡ length cells + 1 → there ≡ is_present bits column → HoldsFirst schema bits bytes cells (drop at bytes) → IsColumnFault column s at (drop at bytes) there f → IsColumnsFault schema bits bytes f
stops_in schema bits bytes cells s at column there (Short need) h is at-is column-is there-is holds fault = absurd fault
stops_in schema bits bytes cells s at column there BadHeader h is at-is column-is there-is holds fault = absurd fault
stops_in schema bits bytes cells s at column there (Compressed c) h is at-is column-is there-is holds fault = record {
  cells = cells;
  rest = drop at bytes;
  holds = holds;
  more = h;
  there = ap (is_present bits) (sym column-is) ∙ sym there-is ∙ fault.0;
  is = fault.1 ∙ column-is;
  stops = rw (← at-is) fault.2;
}
stops_in schema bits bytes cells s at column there (BadColumn c) h is at-is column-is there-is holds fault = record {
  cells = cells;
  rest = drop at bytes;
  holds = holds;
  more = h;
  there = ap (is_present bits) (sym column-is) ∙ sym there-is ∙ fault.0;
  is = fault.1 ∙ column-is;
  stops = rw (← at-is, ← next_is schema cells s h is) fault.2;
}
stops_in schema bits bytes cells s at column there (Rest place) h is at-is column-is there-is holds fault = absurd fault
stops_in schema bits bytes cells s at column there Memory h is at-is column-is there-is holds fault = tt

-- ---- the whole tuple

pub holds_cells : (schema : List Storage) (bytes : List ℕ) (start : ℕ) (cells : List Cell) (rest : List ℕ) → HasHeader schema bytes → start ≡ start_in bytes → start + 8 ≤ length bytes
    → HoldsFirst schema (bitmap_in bytes) (drop start bytes) cells rest → HoldsCells schema bytes cells rest
holds_cells schema bytes start cells rest has_header start-is key holds = record {
  has_header = has_header;
  has_key = rw (← start-is) key;
  few = holds.few;
  forms = holds.forms;
  nulls = holds.nulls;
  behind_key = ap (λ (n : ℕ). drop (n + 8) bytes) (sym start-is) ∙ sym (drop-drop 8 start bytes) ∙ holds.behind_key;
}

pub columns_fault : (schema : List Storage) (bytes : List ℕ) (start : ℕ) (f : TupleFault) → HasHeader schema bytes → start ≡ start_in bytes → start + 8 ≤ length bytes
    → IsColumnsFault schema (bitmap_in bytes) (drop start bytes) f → IsFault schema bytes f
columns_fault schema bytes start (Short need) has_header start-is key fault = absurd fault
columns_fault schema bytes start BadHeader has_header start-is key fault = absurd fault
columns_fault schema bytes start (Compressed c) has_header start-is key fault = record {
  cells = fault.cells;
  rest = fault.rest;
  goes = record { holds = holds_cells schema bytes start fault.cells fault.rest has_header start-is key fault.holds; more = fault.more; there = fault.there };
  is = fault.is;
  stops = fault.stops;
}
columns_fault schema bytes start (BadColumn c) has_header start-is key fault = inr (record {
  cells = fault.cells;
  rest = fault.rest;
  goes = record { holds = holds_cells schema bytes start fault.cells fault.rest has_header start-is key fault.holds; more = fault.more; there = fault.there };
  is = fault.is;
  stops = fault.stops;
})
columns_fault schema bytes start (Rest place) has_header start-is key fault = absurd fault
columns_fault schema bytes start Memory has_header start-is key fault = tt

pub goes_past : (schema : List Storage) (bytes : List ℕ) (start end : ℕ) (cells : List Cell) → HasHeader schema bytes → start ≡ start_in bytes → start + 8 ≤ length bytes
    → HoldsFirst schema (bitmap_in bytes) (drop start bytes) cells (drop end (drop start bytes)) → length cells ≡ length schema → end ≡ end_of schema cells → end < length (drop start bytes) → GoesPast schema bytes (start + end)
goes_past schema bytes start end cells has_header start-is key holds all end-is more = record {
  cells = cells;
  rest = drop end (drop start bytes);
  holds = holds_cells schema bytes start cells (drop end (drop start bytes)) has_header start-is key holds;
  all = all;
  some = omega (arith, length-drop end (drop start bytes));
  is = rw (← start-is, ← end-is) refl;
}

-- nothing follows the columns
pub holds_all : (schema : List Storage) (bytes : List ℕ) (start end : ℕ) (cells : List Cell) → HasHeader schema bytes → start ≡ start_in bytes → start + 8 ≤ length bytes
    → HoldsFirst schema (bitmap_in bytes) (drop start bytes) cells (drop end (drop start bytes)) → length (drop start bytes) ≤ end → HoldsCells schema bytes cells []
holds_all schema bytes start end cells has_header start-is key holds past =
    subst (λ (x : List ℕ). HoldsCells schema bytes cells x) (drop_all end (drop start bytes) past) (holds_cells schema bytes start cells (drop end (drop start bytes)) has_header start-is key holds)

pub other_header : (schema : List Storage) (bytes : List ℕ) (start : ℕ) (cells : List Cell) (wanted : List ℕ) → HoldsCells schema bytes cells [] → start ≡ start_in bytes → length cells ≡ length schema → wanted ≡ header (cell_widths cells)
    → (take start bytes ≡ wanted → ⊥) → HasOtherHeader schema bytes
other_header schema bytes start cells wanted holds start-is all wanted-is differs = record {
  cells = cells;
  holds = holds;
  all = all;
  other = λ e. differs (ap (λ (n : ℕ). take n bytes) start-is ∙ e ∙ sym wanted-is);
}

-- the header, the key and the data are the whole tuple
pub whole : (schema : List Storage) (bytes : List ℕ) (stored : Stored) → HoldsCells schema bytes stored.cells [] → length stored.cells ≡ length schema → FitsSigned w64 stored.key → take (start_in bytes) bytes ≡ header (cell_widths stored.cells)
    → take 8 (drop (start_in bytes) bytes) ≡ key_bytes stored.key → HasTuple schema stored × (bytes ≡ tuple schema stored)
whole schema bytes stored holds all fits front key =
    let start = start_in bytes in
    let behind : drop 8 (drop start bytes) ≡ data_from 8 schema stored.cells = drop-drop 8 start bytes ∙ holds.behind_key ∙ append-nil (data_from 8 schema stored.cells) in
    let rest : drop start bytes ≡ key_bytes stored.key ++ data_from 8 schema stored.cells = sym (take-append-drop 8 (drop start bytes)) ∙ ap (λ (x : List ℕ). x ++ drop 8 (drop start bytes)) key ∙ ap (λ (x : List ℕ). key_bytes stored.key ++ x) behind in (
      record { one_each = all; forms = holds.forms; key = fits },
      sym (take-append-drop start bytes) ∙ ap (λ (x : List ℕ). x ++ drop start bytes) front ∙ ap (λ (x : List ℕ). header (cell_widths stored.cells) ++ x) rest,
    )

-- ---- what the code reads

-- the storage that a loop over the schema is at
pub storage_is : (schema storages : List Storage) (i n : ℕ) → storages ≡ schema → n ≡ i → i < length storages → get_or storages i Plain ≡ get_or schema n (get_or storages i Plain)
storage_is schema storages i n all count h =
    let s = get_or storages i Plain in
    get_or_default storages i Plain s h ∙ ap (λ (x : List Storage). get_or x i s) all ∙ ap (λ (k : ℕ). get_or schema k s) (sym count)

pub differ : (xs ys : List ℕ) (r : Bool) → r ≡ not (bytes_eq xs ys) → r ≡ true → xs ≡ ys → ⊥
differ xs ys r e t q =
    let bad : true ≡ false = sym t ∙ e ∙ ap not ((bytes_eq-Decides xs ys).1 q) in
    cc

from_not : (b : Bool) → false ≡ not b → b ≡ true
from_not true e = refl
from_not false e = absurd (cc)

pub same_bytes : (xs ys : List ℕ) (r : Bool) → r ≡ not (bytes_eq xs ys) → r ≡ false → xs ≡ ys
same_bytes xs ys r e f = (bytes_eq-Decides xs ys).0 (from_not (bytes_eq xs ys) (sym f ∙ e))

-- how much is left behind the columns
pub past_end : (bytes body : List ℕ) (start end : ℕ) → body ≡ drop start bytes → 0 < length body - end → end < length (drop start bytes)
past_end bytes body start end is some = omega (arith, ap length is, some)

pub at_end : (bytes body : List ℕ) (start end : ℕ) → body ≡ drop start bytes → length body - end ≤ 0 → length (drop start bytes) ≤ end
at_end bytes body start end is none = omega (arith, ap length is, none)
