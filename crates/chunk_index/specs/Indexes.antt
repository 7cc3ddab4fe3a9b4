-- An index of chunks: its entries in order, its leaves, and its pins.
use Rattle.std.specs.Prelude.{ℕ, ◌≤◌, Bool, not, ◌&&◌, ⊤, Some, None, List, [], ◌∷◌, if◌then◌else◌, nat_le, length, slice_get, Contains, filter, count_by}
use Rattle.std.specs.Option.{option_map_or}
use Rattle.std.specs.List.Sorted.{IsStrictlySortedBy}
use Rattle.slot_page.specs.declared.line.Tid.{Tid}
use Rattle.chunk_index.specs.declared.entry.Entry.{Entry}
use Rattle.chunk_index.specs.declared.entry.Pin.{Pin}
use Rattle.chunk_index.specs.declared.entry.Swept.{Swept}
use Rattle.chunk_index.specs.declared.entry.Swept.TheVariants.{Next, End, Pinned}
use Rattle.slot_page.specs.Tids.{is_listed}
use Rattle.chunk_index.specs.declared.entry.TheConstants.{LEAF_ENTRIES, LOWER_ENTRIES}
use Rattle.chunk_index.specs.Entries.{entry_cmp, with_entry}
use Rattle.chunk_index.specs.Leaves.{Leaf, in_leaf, leaf_of, next_bound, bounds_left}
use Rattle.chunk_index.specs.Pinned.{pin_cmp, with_pin, holder_of}

-- an index: the entries, the bounds of the leaves after the first, and the pins, all in order
pub record Index : Type 0 where
  pub entries : List Entry
  pub bounds : List Entry
  pub pins : List Pin

-- a leaf is the first one or has one of the bounds
abbrev pub IsLeaf : List Entry → Leaf → Type 0
IsLeaf bounds None = ⊤
IsLeaf bounds (Some bound) = Contains bounds bound

-- the entries of a leaf
abbrev pub entries_of : List Entry → Leaf → List Entry → List Entry
entries_of bounds leaf entries = filter (in_leaf bounds leaf) entries

-- what is true of each index: all is in order, what is pinned is a leaf, and no leaf has too many entries
pub record IsIndex (index : Index) : Type 0 where
  pub entries_sorted : IsStrictlySortedBy entry_cmp index.entries
  pub bounds_sorted : IsStrictlySortedBy entry_cmp index.bounds
  pub pins_sorted : IsStrictlySortedBy pin_cmp index.pins
  pub pinned : (pin : Pin) → Contains index.pins pin → IsLeaf index.bounds pin.leaf
  pub within : (leaf : Leaf) → IsLeaf index.bounds leaf → length (entries_of index.bounds leaf index.entries) ≤ LEAF_ENTRIES

-- the bounds once a leaf has come to have these entries: where they are too many, the leaf is split, and the first entry of the upper leaf is one more bound
abbrev pub bounds_split : List Entry → List Entry → List Entry
bounds_split bounds own = if nat_le (length own) LEAF_ENTRIES then bounds else option_map_or (with_entry bounds) (slice_get own LOWER_ENTRIES) bounds

-- the bounds with one more entry, of which its leaf may have to be split
abbrev pub bounds_with : List Entry → List Entry → Entry → List Entry
bounds_with bounds entries e = bounds_split bounds (entries_of bounds (leaf_of bounds e) (with_entry entries e))

-- of entries that are wanted, in order, those that lie in the leaf of the first
abbrev pub batch_of : List Entry → List Entry → List Entry
batch_of bounds [] = []
batch_of bounds (first ∷ rest) = filter (in_leaf bounds (leaf_of bounds first)) (first ∷ rest)

-- an index once a session has asked for a batch of wanted entries: the leaf of the first is pinned, and none where there is none
abbrev pub after_batch : Index → ℕ → List Entry → Index
after_batch index session [] = index
after_batch index session (first ∷ rest) = record index { pins = with_pin index.pins session (leaf_of index.bounds first) }

-- whether a sweep of a leaf takes an entry: it lies there, and its tid is listed
abbrev pub is_swept : List Entry → Leaf → List Tid → Entry → Bool
is_swept bounds leaf dead e = in_leaf bounds leaf e && is_listed dead e.tid

-- the entries that a sweep of a leaf leaves
abbrev pub unswept : List Entry → Leaf → List Tid → List Entry → List Entry
unswept bounds leaf dead entries = filter (λ e. not (is_swept bounds leaf dead e)) entries

-- an index whose leaf was swept
abbrev pub swept_index : Index → Leaf → List Tid → Index
swept_index index leaf dead = record index { entries = unswept index.bounds leaf dead index.entries; bounds = bounds_left index.bounds leaf (unswept index.bounds leaf dead index.entries) }

-- an index once a leaf was to be swept: where a session has it pinned, it is as before
abbrev pub after_sweep : Index → Leaf → List Tid → Index
after_sweep index leaf dead = option_map_or (λ holder. index) (holder_of index.pins leaf) (swept_index index leaf dead)

-- what the sweep answers: who has the leaf pinned, or how many entries went and the bound of the leaf that follows, if any
abbrev pub sweep_answer : Index → Leaf → List Tid → Swept
sweep_answer index leaf dead =
    let removed = count_by (is_swept index.bounds leaf dead) index.entries in
    option_map_or (λ holder. Pinned holder) (holder_of index.pins leaf) (option_map_or (λ from. Next from removed) (next_bound index.bounds leaf) (End removed))
