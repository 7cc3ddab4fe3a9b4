-- The bytes of a pointer to a value out of line. PostgreSQL documentation, "Database Physical Storage", "TOAST".
use Rattle.std.specs.Prelude.{ℕ, ◌+◌, ◌^◌, ◌<◌, ◌≤◌, List, ◌∷◌, ◌++◌}
use Rattle.std.specs.Int.{w32, to_le_bytes}
use Rattle.external_pointer.specs.declared.external.Pointer.{Pointer}

-- the value has at most as many bytes as a datum with a header of four bytes, and the ids fit 32 bits
pub record IsInRange (p : Pointer) : Type 0 where
  pub size : p.size ≤ 1073741819
  pub value_id : p.value_id < 2 ^ 32
  pub toast_rel : p.toast_rel < 2 ^ 32

-- the header of an external datum and the tag of a pointer on disk; then, low byte first, the size with a
-- header of four bytes, the stored size with no mark of compression, the value's id and its relation's
unfoldable pub pointer_bytes : Pointer → List ℕ
pointer_bytes p = 1 ∷ 18 ∷ to_le_bytes w32 (p.size + 4) ++ to_le_bytes w32 p.size ++ to_le_bytes w32 p.value_id ++ to_le_bytes w32 p.toast_rel
