-- A part of a value's bytes, cut to what the value has (PostgreSQL, detoast_attr_slice; "TOAST": sliced retrieval).
use Rattle.std.specs.Prelude.{ℕ, ◌+◌, ℤ, pos, negsuc, List, [], take, drop, nat_le, if◌then◌else◌}

-- the last place that an offset and a length may lead to
abbrev pub last_place : ℕ
last_place = 2147483647

-- the bytes from an offset on, so many, or up to the end where the length is negative or leads past the last place; nothing before the first byte
abbrev pub slice : List ℕ → ℤ → ℤ → List ℕ
slice bytes (pos offset) (pos len) = if nat_le (offset + len) last_place then take len (drop offset bytes) else drop offset bytes
slice bytes (pos offset) (negsuc n) = drop offset bytes
slice bytes (negsuc n) len = []
