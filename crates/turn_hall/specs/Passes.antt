-- What contracts see of a hall and of its passes, and what each call makes of a pass.
use Rattle.std.specs.Prelude.{◌≡◌, ◌⊎◌, ℕ, ◌%◌, ◌<◌, List, [], ◌∷◌, ◌++◌, length, Bool, true, false, Option, Some, if◌then◌else◌, nat_le, All, AllPairs, slice_get}
use mathlib.Core.List.{IsPrefix}
use Rattle.atomic_table.specs.Seated.{TableId}

-- an entry of a history, as three numbers
abbrev pub Entry : Type 0
Entry = ℕ × ℕ × ℕ

-- a history as a turn may leave it: as the turn found it, or with one entry more
abbrev pub Extends : List Entry → List Entry → Type 0
Extends taken history = (history ≡ taken) ⊎ ((e : Entry) × (history ≡ taken ++ e ∷ []))

-- positions in a history, each before all later ones
pub record ArePlaces (places : List ℕ) (history : List Entry) : Type 0 where
  pub ascending : AllPairs (λ p q. p < q) places
  pub below : All (λ p. p < length history) places

-- an ascending list with one position more
abbrev pub placed : ℕ → List ℕ → List ℕ
placed p [] = p ∷ []
placed p (q ∷ qs) = if nat_le p q then p ∷ q ∷ qs else q ∷ placed p qs

-- the positions of two ascending lists, ascending
abbrev pub merged : List ℕ → List ℕ → List ℕ
merged [] qs = qs
merged (p ∷ ps) qs = placed p (merged ps qs)

-- the positions of the pass's entries after a turn: the new entry, if there is one, is its own
abbrev pub mine_after : List ℕ → List Entry → List Entry → List ℕ
mine_after mine taken history = if nat_le (length history) (length taken) then mine else mine ++ length taken ∷ []

-- the longer of two histories
abbrev pub longer : List Entry → List Entry → List Entry
longer xs ys = if nat_le (length ys) (length xs) then xs else ys

-- the other of the two
abbrev pub shorter : List Entry → List Entry → List Entry
shorter xs ys = if nat_le (length ys) (length xs) then ys else xs

-- a hall: which it is, and what no turn changes of its value
pub record HallModel (F : Type 0) : Type 0 where
  pub table : TableId
  pub fixed : F

-- a pass: whose it is, whether it holds the value, the history that it has seen, the positions of its own entries, what no turn changes,
-- and what its tries found in the hall's word, which is odd exactly while the value is away
pub record PassModel (F : Type 0) : Type 0 where
  pub hall : TableId
  pub turn : Bool
  pub seen : List Entry
  pub mine : List ℕ
  pub fixed : Option F
  pub tries : List ℕ

module _ {F : Type 0} where
  -- the hall gave the pass, which knows what no turn changes
  abbrev pub IsPassOf : HallModel F → PassModel F → Type 0
  IsPassOf hall pass = (pass.hall ≡ hall.table) × (pass.fixed ≡ Some hall.fixed)

  -- the first pass of a hall has seen the whole history and has no entries
  abbrev pub first_pass : HallModel F → List Entry → PassModel F
  first_pass hall history = record { hall = hall.table; turn = false; seen = history; mine = []; fixed = Some hall.fixed; tries = [] }

  -- one try was made, which found the value away: a pass that holds the value stays as it is, and any other is so but for the try
  abbrev pub Missed : PassModel F → PassModel F → Type 0
  Missed old new = (word : ℕ) × (word % 2 ≡ 1) × (new ≡ (if old.turn then old else record old { tries = old.tries ++ word ∷ [] }))

  -- one try of a pass that does not hold the value was made, which found it at home: its history begins with all that the pass had seen, and has now been seen
  abbrev pub Won : PassModel F → List Entry → PassModel F → Type 0
  Won old history new =
      (old.turn ≡ false) × IsPrefix old.seen history
      × ((word : ℕ) × (word % 2 ≡ 0) × (new ≡ record old { turn = true; seen = history; tries = old.tries ++ word ∷ [] }))

  -- tries were made that found the value away, and then one that found it at home
  abbrev pub Took : PassModel F → List Entry → PassModel F → Type 0
  Took old history new =
      IsPrefix old.seen history
      × ((misses : List ℕ) × (word : ℕ) × All (λ n. n % 2 ≡ 1) misses × (word % 2 ≡ 0) × (new ≡ record old { turn = true; seen = history; tries = old.tries ++ misses ++ word ∷ [] }))

  -- the pass has given the value back with this history
  abbrev pub after_turn : PassModel F → List Entry → PassModel F
  after_turn pass history = record pass { turn = false; seen = history; mine = mine_after pass.mine pass.seen history }

  -- a new pass that has seen as much and has no entries
  abbrev pub split_off : PassModel F → PassModel F
  split_off pass = record pass { turn = false; mine = []; tries = [] }

  -- the pass has seen the longer history and has the entries of both
  abbrev pub joined_with : PassModel F → PassModel F → PassModel F
  joined_with pass other = record pass { seen = longer pass.seen other.seen; mine = merged pass.mine other.mine }

  -- the history begins with all that the pass has seen, and has the pass's own entries where the pass has seen them
  pub record Continues (pass : PassModel F) (history : List Entry) : Type 0 where
    pub begins : IsPrefix pass.seen history
    pub places : ArePlaces pass.mine pass.seen
    pub entries : All (λ p. slice_get history p ≡ slice_get pass.seen p) pass.mine
