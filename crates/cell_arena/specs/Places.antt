-- Places in memory: where the values of a list lie whose first lies at base.
use Rattle.std.specs.Prelude.{◌≡◌, ℕ, ◌-◌, ◌/◌, ◌<◌}
use denote.RattleType.{RattleType}
use denote.RawPtr.{Ptr, count_of}
use Rattle.core.specs.Ptr.{ptr_add, array_size}

-- which value lies at p
unfoldable pub number_at : RattleType → Ptr → Ptr → ℕ
number_at R base p = (count_of p - count_of base) / array_size R 1

-- where the value with the number i lies
unfoldable pub place_at : RattleType → ℕ → Ptr → Ptr
place_at = ptr_add

-- one of the len values lies at p
pub record IsPlaceOf (R : RattleType) (base : Ptr) (len : ℕ) (p : Ptr) : Type 0 where
  pub below : number_at R base p < len
  pub place : p ≡ place_at R (number_at R base p) base
