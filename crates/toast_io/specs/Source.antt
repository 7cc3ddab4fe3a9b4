-- What is taken from a source, where the bytes that it has left are told. Where they are not, nothing is said.
use Rattle.std.specs.Prelude.{◌≡◌, ℕ, ◌≤◌, List, [], length, drop, Option, Some, IfSome, OnSome}

-- the first bytes of what was left are taken, exactly this many
pub record Takes (old new : Option (List ℕ)) (count : ℕ) : Type 0 where
  pub there : IfSome old (λ bytes. count ≤ length bytes)
  pub rest : IfSome old (λ bytes. new ≡ Some (drop count bytes))

-- the first bytes of what was left are taken, at most this many
pub record TakesUpTo (old new : Option (List ℕ)) (most : ℕ) : Type 0 where
  pub count : ℕ
  pub within : count ≤ most
  pub takes : Takes old new count

-- all that was left is these bytes, and nothing is left
pub record ReadsToEnd (old new : Option (List ℕ)) (bytes : List ℕ) : Type 0 where
  pub whole : IfSome old (λ left. bytes ≡ left)
  pub at_end : OnSome old (new ≡ Some [])
