-- The leaves of an index with their entries, as its body keeps them.
use Rattle.std.specs.Prelude.{◌≡◌, ◌<◌, ◌≤◌, ⊤, true, Option, Some, None, List, [], ◌∷◌, Contains, length}
use Rattle.std.specs.Option.{option_to_list}
use Rattle.std.specs.List.{flat_map}
use Rattle.std.specs.List.Sorted.{IsStrictlySortedBy}
use Rattle.std.specs.declared.cmp.Ordering.TheVariants.{Less}
use Rattle.chunk_index.specs.declared.entry.Entry.{Entry}
use Rattle.chunk_index.specs.declared.entry.TheConstants.{LEAF_ENTRIES}
use Rattle.chunk_index.specs.Entries.{entry_cmp}
use Rattle.chunk_index.specs.Leaves.{Leaf, is_from, is_below}

-- a leaf with its entries
pub record Node : Type 0 where
  pub bound : Leaf
  pub entries : List Entry

-- the entries of leaves, one leaf after another
abbrev pub entries_in : List Node → List Entry
entries_in nodes = flat_map (λ (node : Node). node.entries) nodes

-- their bounds; the first leaf has none
abbrev pub bounds_in : List Node → List Entry
bounds_in nodes = flat_map (λ (node : Node). option_to_list node.bound) nodes

-- what the entries and bounds of leaves are
pub record Content : Type 0 where
  pub entries : List Entry
  pub bounds : List Entry

abbrev pub content_of : List Node → Content
content_of nodes = record { entries = entries_in nodes; bounds = bounds_in nodes }

-- the bound of the first of some leaves, or that of what follows them
abbrev pub first_bound : List Node → Option Entry → Option Entry
first_bound [] next = next
first_bound (node ∷ nodes) next = node.bound

-- a leaf begins before the next one, if there is one
abbrev pub IsBefore : Leaf → Option Entry → Type 0
IsBefore leaf None = ⊤
IsBefore None (Some next) = ⊤
IsBefore (Some bound) (Some next) = entry_cmp bound next ≡ Less

-- a leaf has its entries in order, from its bound on and below the next one, and not too many
pub record IsNode (node : Node) (next : Option Entry) : Type 0 where
  pub sorted : IsStrictlySortedBy entry_cmp node.entries
  pub from : (e : Entry) → Contains node.entries e → is_from node.bound e ≡ true
  pub below : (e : Entry) → Contains node.entries e → is_below next e ≡ true
  pub room : length node.entries ≤ LEAF_ENTRIES
  pub ordered : IsBefore node.bound next

-- so has each of some leaves, up to a bound
abbrev pub AreNodes : List Node → Option Entry → Type 0
AreNodes [] next = ⊤
AreNodes (node ∷ nodes) next = IsNode node (first_bound nodes next) × AreNodes nodes next

-- a leaf other than the first has a bound and an entry
pub record IsUpper (node : Node) : Type 0 where
  pub bounded : node.bound ≡ None → ⊥
  pub filled : 0 < length node.entries

abbrev pub AreUpper : List Node → Type 0
AreUpper [] = ⊤
AreUpper (node ∷ nodes) = IsUpper node × AreUpper nodes

-- the first leaf is there, and has no bound
abbrev pub IsFront : List Node → Type 0
IsFront [] = ⊥
IsFront (node ∷ nodes) = (node.bound ≡ None) × AreUpper nodes

-- the leaves of an index
pub record AreLeaves (nodes : List Node) : Type 0 where
  pub front : IsFront nodes
  pub chain : AreNodes nodes None
