-- Worlds: which versions of a table's rows are there for a reader, and the tuple that a world has at a key (PostgreSQL, "Concurrency Control, Transaction Isolation").
use Rattle.std.specs.Prelude.{ℕ, ℤ, ◌≡◌, ◌≢◌, Bool, true, false, ◌&&◌, if◌then◌else◌, List, [], ◌∷◌, Option, Some, None, ⊤}
use Rattle.std.specs.Option.{option_and_then, option_map_or, option_or}
use Rattle.std.specs.Ordering.{int_cmp, is_eq}
use Rattle.slot_page.specs.declared.line.Tid.{Tid}
use Rattle.slot_page.specs.declared.line.LinePointer.{LinePointer}
use Rattle.slot_page.specs.Slots.{item_of}
use Rattle.slot_page.specs.Pages.{item_in}
use Rattle.xact_status.specs.Xacts.{Xacts, is_running, is_committed}
use Rattle.snapshot_registry.specs.Snapshots.{Snaps, committed_in, held_at}
use Rattle.row_versions.specs.declared.version.Version.{Version}
use Rattle.row_versions.specs.Relations.{Pages}
use Rattle.xact_status.specs.Versions.{is_there, counts_for}

-- ---- a world is a test of xids: whose changes count in it. One test serves inserters and enders

-- the tuple of a version that is in the world and of the row at a key
abbrev pub tuple_of : (ℕ → Bool) → ℤ → Version → Option (List ℕ)
tuple_of counts key version = if is_eq (int_cmp version.key key) && is_there counts version.inserter version.ender then Some version.tuple else None

-- the tuple that the world has at a key in the slot at a tid
abbrev pub tuple_at : (ℕ → Bool) → Pages → ℤ → Tid → Option (List ℕ)
tuple_at counts pages key tid = option_and_then (tuple_of counts key) (item_in pages tid)

-- the first thing that a function gives of the items of a list
abbrev pub first_some : {X Y : Type 0} → (X → Option Y) → List X → Option Y
first_some f [] = None
first_some f (x ∷ xs) = option_or (f x) (first_some f xs)

-- the same of a slot
abbrev pub tuple_by : (ℕ → Bool) → ℤ → LinePointer Version → Option (List ℕ)
tuple_by counts key line = option_and_then (tuple_of counts key) (item_of line)

-- the tuple that the world has at a key: that of its first version of the key
abbrev pub tuple_in : (ℕ → Bool) → Pages → ℤ → Option (List ℕ)
tuple_in counts pages key = first_some (first_some (tuple_by counts key)) pages

-- and it has no other
pub record IsOne (counts : ℕ → Bool) (pages : Pages) (key : ℤ) : Type 0 where
  pub same : (t u : Tid) (a b : List ℕ) → tuple_at counts pages key t ≡ Some a → tuple_at counts pages key u ≡ Some b → t ≡ u

-- ---- the worlds of a moment

-- what has committed; what a running transaction has beside that, its own changes; what a registered snapshot shows
pub data World : Type 0 where
  Latest : World
  Own : ℕ → World
  Shown : ℕ → World

-- the test of a world
abbrev pub counts_in : Xacts → Snaps → World → ℕ → Bool
counts_in xacts snaps Latest xid = is_committed xacts xid
counts_in xacts snaps (Own own) xid = counts_for xacts (Some own) xid
counts_in xacts snaps (Shown id) xid = option_map_or (λ held. committed_in xacts held.snapshot xid) (held_at snaps id) false

-- the transaction of a world runs. The world of an id that is not registered is empty
abbrev pub IsWorld : Xacts → World → Type 0
IsWorld xacts Latest = ⊤
IsWorld xacts (Own own) = is_running xacts own ≡ true
IsWorld xacts (Shown id) = ⊤

-- no world has two versions of a key
pub record AreOne (xacts : Xacts) (snaps : Snaps) (pages : Pages) : Type 0 where
  pub each : (world : World) (key : ℤ) → IsWorld xacts world → IsOne (counts_in xacts snaps world) pages key

-- ---- the versions of a key

-- a version of the key stands at a tid
pub record IsVersionAt (pages : Pages) (key : ℤ) (tid : Tid) (version : Version) : Type 0 where
  pub there : item_in pages tid ≡ Some version
  pub of_key : is_eq (int_cmp version.key key) ≡ true

-- no version of the key names an xid
pub record IsUntouched (xid : ℕ) (pages : Pages) (key : ℤ) : Type 0 where
  pub inserter : (tid : Tid) (version : Version) → IsVersionAt pages key tid version → version.inserter ≢ xid
  pub ender : (tid : Tid) (version : Version) → IsVersionAt pages key tid version → version.ender ≢ Some xid

-- the same versions of the key are in two worlds
pub record Agree (counts counts' : ℕ → Bool) (pages : Pages) (key : ℤ) : Type 0 where
  pub on : (tid : Tid) (version : Version) → IsVersionAt pages key tid version → is_there counts version.inserter version.ender ≡ is_there counts' version.inserter version.ender
