-- What a sink is given, where the bytes that it holds are told. Where they are not, nothing is said.
use Rattle.std.specs.Prelude.{ℕ, ◌<◌, List, length, take, Option}
use Rattle.std.specs.Io.KnownBytes.{Appends}

-- some first bytes of these are appended, and not all
pub record AppendsPart (old new : Option (List ℕ)) (bytes : List ℕ) : Type 0 where
  pub count : ℕ
  pub within : count < length bytes
  pub appends : Appends old new (take count bytes)
