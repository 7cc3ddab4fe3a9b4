-- Rows, their places, and finite maps from places to rows.
use Rattle.std.specs.Prelude.{◌≡◌, ℕ, Bool, List, Option, Some, None, cond}
use Rattle.std.specs.declared.cmp.Ordering.{Ordering}
use Rattle.std.specs.Ordering.{nat_cmp, int_cmp, eq_by_cmp, on, then_cmp}
use Rattle.std.specs.Cmp.{IsTotalOrder, then_total, on_total, nat_cmp_total, int_cmp_total}
use Rattle.std.specs.FinMap as map
use Rattle.tuple_layout.specs.declared.Place.{Place}

-- a row: for each column a byte string, or null, which is `None`
abbrev pub Row : Type 0
Row = List (Option (List ℕ))

-- the order of places: by table, then by key
abbrev pub place_cmp : Place → Place → Ordering
place_cmp = then_cmp (on (λ (p : Place). p.table) nat_cmp) (on (λ (p : Place). p.key) int_cmp)

-- the order of places is total
pub place_total : IsTotalOrder place_cmp
place_total = then_total (on_total (λ (p : Place). p.table) nat_cmp_total) (on_total (λ (p : Place). p.key) int_cmp_total)

-- whether two places are one
abbrev pub same_place : Place → Place → Bool
same_place = eq_by_cmp place_cmp

-- rows by their places
abbrev pub Rows : Type 0
Rows = map.FinMap place_cmp Row

-- a row that is put is at its place, and every other place has what it had
pub get-put : (rows : Rows) (at : Place) (row : Row) (q : Place) → map.get (map.insert rows at row) q ≡ cond (same_place q at) (Some row) (map.get rows q)
get-put rows at row q = map.get-insert place_total rows at row q

-- nothing is at a place after its row is taken away, and every other place has what it had
pub get-gone : (rows : Rows) (at q : Place) → map.get (map.remove rows at) q ≡ cond (same_place q at) None (map.get rows q)
get-gone rows at q = map.get-remove place_total rows at q
