-- Where an entry lies among the leaves, and what the leaves are once one is changed.
use Rattle.std.specs.Prelude.{◌≡◌, ◌<◌, ◌≤◌, ◌-◌, ◌&&◌, ◌==◌, ℕ, zero, suc, Bool, true, false, not, Option, None, List, [], ◌∷◌, ◌++◌, Contains, length, filter, take, drop, slice_get, nat_le, if◌then◌else◌}
use Rattle.std.specs.Option.{option_map_or, is_some}
use Rattle.std.specs.List.{slice_index_or}
use Rattle.std.specs.List.Sorted.{IsStrictlySortedBy}
use Rattle.slot_page.specs.declared.line.Tid.{Tid}
use Rattle.slot_page.specs.Tids.{is_listed}
use Rattle.chunk_index.specs.declared.entry.Entry.{Entry}
use Rattle.chunk_index.specs.declared.entry.TheConstants.{LEAF_ENTRIES, LOWER_ENTRIES}
use Rattle.chunk_index.specs.Entries.{entry_cmp, with_entry, reaches}
use Rattle.chunk_index.specs.Leaves.{Leaf, is_from, is_below, leaf_of, leaf_at, bounds_left}
use Rattle.chunk_index.specs.Nodes.{Node, Content, entries_in, bounds_in, first_bound}
use Rattle.chunk_index.specs.Indexes.{IsLeaf, entries_of, unswept}

-- what is true of the entries and bounds of leaves
pub record IsContent (content : Content) : Type 0 where
  pub entries_sorted : IsStrictlySortedBy entry_cmp content.entries
  pub bounds_sorted : IsStrictlySortedBy entry_cmp content.bounds
  pub within : (leaf : Leaf) → IsLeaf content.bounds leaf → length (entries_of content.bounds leaf content.entries) ≤ LEAF_ENTRIES

-- the leaf at a place is the one that an entry lies in
pub record IsPlaceOf (nodes : List Node) (e : Entry) (at : ℕ) : Type 0 where
  pub within : at < length nodes
  pub from : (d : Node) → is_from (Node.bound (slice_index_or nodes at d)) e ≡ true
  pub below : is_below (first_bound (drop (suc at) nodes) None) e ≡ true

-- the leaf at a place is the one that a sweep begins at
pub record IsSweepPlace (nodes : List Node) (from : Option Entry) (at : ℕ) : Type 0 where
  pub within : at < length nodes
  pub leaf : (d : Node) → Node.bound (slice_index_or nodes at d) ≡ leaf_at (bounds_in nodes) from

-- the leaf at a place may be given an entry, which it has not yet
pub record CanTake (nodes : List Node) (e : Entry) (at : ℕ) : Type 0 where
  pub within : at < length nodes
  pub sorted : (d : Node) → IsStrictlySortedBy entry_cmp (Node.entries (slice_index_or nodes at d))
  pub absent : (d : Node) → Contains (Node.entries (slice_index_or nodes at d)) e → ⊥

-- whether the last of some entries passes a test, if there is one
abbrev pub last_passes : (Entry → Bool) → List Entry → Bool
last_passes p entries = option_map_or p (slice_get entries (length entries - 1)) true

-- the leaf at a place is the first with an entry that fails a test, where what is less than an entry that passes does so too
pub record IsParting (p : Entry → Bool) (nodes : List Node) (at : ℕ) : Type 0 where
  pub within : at ≤ length nodes
  pub before : (e : Entry) → Contains (entries_in (take at nodes)) e → p e ≡ true
  pub own : (d : Node) → at < length nodes → (e : Entry) × Contains (Node.entries (slice_index_or nodes at d)) e × (p e ≡ false)
  pub after : (e : Entry) → Contains (entries_in (drop (suc at) nodes)) e → p e ≡ false

-- whether the first of some leaves has a first entry that may be wanted
abbrev pub reaches_on : ℕ → ℕ → List Node → Bool
reaches_on value_id to [] = false
reaches_on value_id to (node ∷ nodes) = option_map_or (reaches value_id to) (slice_get node.entries 0) false

-- the leaf of the first of some entries; there is none to tell where there is no entry
abbrev pub first_leaf : List Entry → List Entry → Leaf
first_leaf bounds [] = None
first_leaf bounds (first ∷ rest) = leaf_of bounds first

-- leaves, of which others stand for the one at a place
abbrev pub changed : (Node → List Node) → List Node → ℕ → List Node
changed f [] at = []
changed f (node ∷ nodes) zero = f node ++ nodes
changed f (node ∷ nodes) (suc at) = node ∷ changed f nodes at

-- a leaf that is split: the lower keeps the bound
abbrev pub split : Leaf → List Entry → List Node
split bound entries = record { bound = bound; entries = take LOWER_ENTRIES entries } ∷ record { bound = slice_get entries LOWER_ENTRIES; entries = drop LOWER_ENTRIES entries } ∷ []

-- a leaf with one more entry, split where it has too many
abbrev pub added : Entry → Node → List Node
added e node = if nat_le (length (with_entry node.entries e)) LEAF_ENTRIES then record { bound = node.bound; entries = with_entry node.entries e } ∷ [] else split node.bound (with_entry node.entries e)

-- a leaf without the entries whose tids are listed; one other than the first that is left empty is gone
abbrev pub left_by : List Tid → Node → Node
left_by dead node = record { bound = node.bound; entries = filter (λ e. not (is_listed dead e.tid)) node.entries }

abbrev pub kept : Node → List Node
kept node = if is_some node.bound && (length node.entries == 0) then [] else node ∷ []

-- what a sweep of a leaf leaves of all
abbrev pub swept_content : Content → Leaf → List Tid → Content
swept_content content leaf dead = record { entries = unswept content.bounds leaf dead content.entries; bounds = bounds_left content.bounds leaf (unswept content.bounds leaf dead content.entries) }
