-- How bytes are cut into lines, and a line into words.
use Rattle.std.specs.Prelude.{ℕ, ◌-◌, ◌==◌, ◌||◌, nat_lt, not, Bool, List, [], ◌∷◌, length, take, drop, if◌then◌else◌}
use Rattle.std.specs.List.{slice_split, filter, before_first}
use Rattle.std.specs.Str.{bytes_eq}

-- the pieces but for an empty one at the end
abbrev pub without_empty_end : List (List ℕ) → List (List ℕ)
without_empty_end [] = []
without_empty_end ([] ∷ []) = []
without_empty_end (piece ∷ pieces) = piece ∷ without_empty_end pieces

-- a line feed
abbrev pub is_line_feed : ℕ → Bool
is_line_feed b = b == 10

-- the lines: the pieces between the line feeds, where nothing behind the last line feed is no line
unfoldable pub lines : List ℕ → List (List ℕ)
lines bytes = without_empty_end (slice_split is_line_feed bytes)

-- a line without the one carriage return at its end, if one is there
abbrev pub without_return : List ℕ → List ℕ
without_return line = if bytes_eq (drop (length line - 1) line) (13 ∷ []) then take (length line - 1) line else line

-- what a line says: it ends before its carriage return, and before the first `#`, where a comment begins
unfoldable pub content : List ℕ → List ℕ
content line = before_first (λ b. b == 35) (without_return line)

-- a space or a tab
abbrev pub is_blank : ℕ → Bool
is_blank b = b == 32 || b == 9

-- any other byte
abbrev pub is_solid : ℕ → Bool
is_solid b = not (is_blank b)

-- the words: what stands between spaces and tabs, unless it is empty
unfoldable pub words : List ℕ → List (List ℕ)
words text = filter (λ piece. nat_lt 0 (length piece)) (slice_split is_blank text)
