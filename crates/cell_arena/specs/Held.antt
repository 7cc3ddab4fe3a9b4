-- Ids of which each is in the map, for tests.
use Rattle.std.specs.Prelude.{◌≡◌, ◌≢◌, ℕ, List, [], Option, Some}
use lib.ListN.{get_elem?}
use mathlib.Core.Option.{some}
use Rattle.cell_arena.specs.Cells.{cell_at}

-- each id that is left is in the map, and none is there twice
pub record AreHeld (cells : List (List ℕ)) (ids : List (Option ℕ)) : Type 0 where
  pub each : (k n : ℕ) → get_elem? ids k ≡ some (Some n) → cell_at cells n ≢ []
  pub apart : (j k n : ℕ) → get_elem? ids j ≡ some (Some n) → get_elem? ids k ≡ some (Some n) → j ≡ k
