-- Why no id was drawn.
use Rattle.std.specs.Prelude.{ℕ, Bool, None, ◌≡◌, ⊤}
use Rattle.value_ids.specs.declared.fault.DrawFault.{DrawFault}
use Rattle.value_ids.specs.declared.fault.DrawFault.TheVariants.{NoValueId, Memory}
use Rattle.value_ids.specs.Ids.{Pool, first_free_id, id_count}

-- no id: each is in use, and the number tells how many there are. Want of memory has no cause of its own
abbrev pub IsCause : (ℕ → Bool) → Pool → ℕ → DrawFault → Type 0
IsCause used pool table (NoValueId in_use) = (first_free_id used pool table ≡ None) × (in_use ≡ id_count pool)
IsCause used pool table Memory = ⊤
