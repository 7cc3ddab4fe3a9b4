-- Ids of values (PostgreSQL, "TOAST, Out-of-Line, On-Disk TOAST Storage"; "Object Identifier Types").
use Rattle.std.specs.Prelude.{ℕ, zero, suc, ◌+◌, ◌-◌, ◌≤◌, Bool, not, ◌&&◌, ◌||◌, ◌==◌, if◌then◌else◌, Option, List, [], ◌∷◌, ◌++◌, filter, find}
use Rattle.std.specs.List.{list_any}
use Rattle.value_ids.specs.declared.pool.InHand.{InHand}

-- a pool: its least and its greatest id, the counter, and the ids in hand
pub record Pool : Type 0 where
  pub low : ℕ
  pub high : ℕ
  pub next : ℕ
  pub in_hand : List InHand

-- what is true of each pool: the counter is one of its ids
pub record IsPool (pool : Pool) : Type 0 where
  pub from_low : pool.low ≤ pool.next
  pub to_high : pool.next ≤ pool.high

-- so many ids from one on
abbrev pub ids_from : ℕ → ℕ → List ℕ
ids_from id zero = []
ids_from id (suc n) = id ∷ ids_from (id + 1) n

-- the ids of a pool, each once, from the counter on, the least following the greatest
abbrev pub ids_of : Pool → List ℕ
ids_of pool = ids_from pool.next (pool.high + 1 - pool.next) ++ ids_from pool.low (pool.next - pool.low)

-- how many ids a pool has
abbrev pub id_count : Pool → ℕ
id_count pool = pool.high - pool.low + 1

-- whether an id is in hand for a table
abbrev pub is_held : List InHand → ℕ → ℕ → Bool
is_held in_hand table id = list_any (λ held. (held.table == table) && (held.id == id)) in_hand

-- whether an id is in use for a table, by a test of which are used
abbrev pub is_in_use : (ℕ → Bool) → List InHand → ℕ → ℕ → Bool
is_in_use used in_hand table id = used id || is_held in_hand table id

-- the first of some ids that is not in use, if there is one
abbrev pub first_free_of : (ℕ → Bool) → List InHand → ℕ → List ℕ → Option ℕ
first_free_of used in_hand table ids = find (λ id. not (is_in_use used in_hand table id)) ids

-- the first id from the counter on that is not in use, if there is one
abbrev pub first_free_id : (ℕ → Bool) → Pool → ℕ → Option ℕ
first_free_id used pool table = first_free_of used pool.in_hand table (ids_of pool)

-- the id after one, the least following the greatest
abbrev pub id_after : Pool → ℕ → ℕ
id_after pool id = if id == pool.high then pool.low else id + 1

-- the ids in hand without those of a session
abbrev pub released : List InHand → ℕ → List InHand
released in_hand session = filter (λ held. not (held.session == session)) in_hand
