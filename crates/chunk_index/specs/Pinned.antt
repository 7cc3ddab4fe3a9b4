-- The pins: a map from sessions to leaves, as a list in the order of the sessions.
use Rattle.std.specs.Prelude.{◌≡◌, ℕ, true, not, ◌==◌, Option, Some, None, List, filter, find}
use Rattle.std.specs.Option.{option_map}
use Rattle.std.specs.declared.cmp.Ordering.{Ordering}
use Rattle.std.specs.Ordering.{nat_cmp}
use Rattle.chunk_index.specs.declared.entry.Entry.{Entry}
use Rattle.chunk_index.specs.declared.entry.Pin.{Pin}
use Rattle.chunk_index.specs.Orders.{inserted}
use Rattle.chunk_index.specs.Leaves.{Leaf, same_leaf, is_from}

-- the order of pins: by session
abbrev pub pin_cmp : Pin → Pin → Ordering
pin_cmp p q = nat_cmp p.session q.session

-- the leaf that a session has pinned, if any
abbrev pub pin_of : List Pin → ℕ → Option Leaf
pin_of pins session = option_map (λ p. p.leaf) (find (λ p. p.session == session) pins)

-- the pins with one more
abbrev pub with_pin : List Pin → ℕ → Leaf → List Pin
with_pin pins session leaf = inserted pin_cmp (record { session = session; leaf = leaf }) pins

-- the pins without that of a session
abbrev pub without_pin : List Pin → ℕ → List Pin
without_pin pins session = filter (λ p. not (p.session == session)) pins

-- the least session that has a leaf pinned, if any: the first in their order
abbrev pub holder_of : List Pin → Leaf → Option ℕ
holder_of pins leaf = option_map (λ p. p.session) (find (λ p. same_leaf p.leaf leaf) pins)

-- a session has a leaf pinned that begins at or before an entry
abbrev pub IsPinnedFrom : Option Leaf → Entry → Type 0
IsPinnedFrom None e = ⊥
IsPinnedFrom (Some leaf) e = is_from leaf e ≡ true
