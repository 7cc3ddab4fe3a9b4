-- The leaves of an index. Each is known by its least bound; the first has none (PostgreSQL, "B-Tree Indexes").
use Rattle.std.specs.Prelude.{Bool, true, false, not, ◌&&◌, Option, Some, None, List, [], ◌∷◌, if◌then◌else◌}
use Rattle.std.specs.List.{list_any}
use Rattle.std.specs.Prelude.{filter}
use Rattle.std.specs.Ordering.{is_lt, eq_by_cmp}
use Rattle.chunk_index.specs.declared.entry.Entry.{Entry}
use Rattle.chunk_index.specs.Entries.{entry_cmp}

-- a leaf, by its bound
abbrev pub Leaf : Type 0
Leaf = Option Entry

-- whether two bounds name one leaf
abbrev pub same_leaf : Leaf → Leaf → Bool
same_leaf None None = true
same_leaf None (Some other) = false
same_leaf (Some bound) None = false
same_leaf (Some bound) (Some other) = eq_by_cmp entry_cmp bound other

-- whether an entry is at or beyond the bound of a leaf
abbrev pub is_from : Leaf → Entry → Bool
is_from None e = true
is_from (Some bound) e = not (is_lt (entry_cmp e bound))

-- whether an entry is below a bound; each entry is below none
abbrev pub is_below : Option Entry → Entry → Bool
is_below None e = true
is_below (Some bound) e = is_lt (entry_cmp e bound)

-- the bound of the leaf after one, of leaves with these bounds after the first
abbrev pub next_bound : List Entry → Leaf → Option Entry
next_bound [] leaf = None
next_bound (bound ∷ bounds) None = Some bound
next_bound (bound ∷ bounds) (Some leaf) = if is_lt (entry_cmp leaf bound) then Some bound else next_bound bounds (Some leaf)

-- whether an entry lies in a leaf: from its bound on and below the next one
abbrev pub in_leaf : List Entry → Leaf → Entry → Bool
in_leaf bounds leaf e = is_from leaf e && is_below (next_bound bounds leaf) e

-- the leaf that an entry lies in, of a leaf and those with these bounds after it
abbrev pub leaf_from : Leaf → List Entry → Entry → Leaf
leaf_from leaf [] e = leaf
leaf_from leaf (bound ∷ bounds) e = if is_lt (entry_cmp e bound) then leaf else leaf_from (Some bound) bounds e

-- the leaf that an entry lies in
abbrev pub leaf_of : List Entry → Entry → Leaf
leaf_of bounds e = leaf_from None bounds e

-- the leaf that a sweep begins at: that of an entry, or the first
abbrev pub leaf_at : List Entry → Option Entry → Leaf
leaf_at bounds None = None
leaf_at bounds (Some e) = leaf_of bounds e

-- the bounds once a leaf has these entries left of all: a leaf other than the first that is empty is no leaf any more
abbrev pub bounds_left : List Entry → Leaf → List Entry → List Entry
bounds_left bounds leaf entries = if list_any (in_leaf bounds leaf) entries then bounds else filter (λ bound. not (same_leaf (Some bound) leaf)) bounds

-- whether a leaf is not after another one
abbrev pub is_at_most : Leaf → Leaf → Bool
is_at_most None other = true
is_at_most (Some bound) None = false
is_at_most (Some bound) (Some other) = is_from (Some bound) other
