-- The rule of a hall, and what each of its atomic steps tells the pass that makes it.
-- Word 0 is twice the length of the history, and one more while the value is away. Slot 0 has the value while it is at home.
use Rattle.std.specs.Prelude.{◌≡◌, ◌≢◌, ℕ, ◌+◌, ◌*◌, ◌%◌, ◌^◌, ◌<◌, ◌≤◌, List, [], ◌∷◌, ◌++◌, length, true, false, Option, Some, None, if◌then◌else◌, Contains}
use mathlib.Core.Option.{some, none}
use mathlib.Core.List.{IsPrefix}
use lib.ListN.{get_elem?}
use Rattle.atomic_table.specs.Table.{State, Me, Step}
use Rattle.atomic_table.specs.declared.shared.Seat.{Seat}
use Rattle.turn_hall.specs.declared.rule.View.{View}
use Rattle.turn_hall.specs.Passes.{Entry, ArePlaces, longer, shorter, merged, mine_after, PassModel}

-- the homes of the slots, each with its value or out with a seat
abbrev pub Homes : Type 0 → Type 0
Homes V = List (mathlib.Core.Option.Option (Option V))

-- word 0, by the length of the history and the seat that holds the value
abbrev pub turn_word : ℕ → Option ℕ → ℕ
turn_word n None = 2 * n
turn_word n (Some seat) = 2 * n + 1

module _ {F : Type 0} where
  -- the view of a seat that another has taken in
  abbrev pub spent : View F
  spent = record { turn = false; seen = []; mine = []; fixed = None; tries = []; heard = [] }

  -- the view of a pass that has seen a whole history and has no entries
  abbrev pub onlooker : List Entry → F → View F
  onlooker history fixed = record { turn = false; seen = history; mine = []; fixed = Some fixed; tries = []; heard = [] }

  -- after a try that found the value away; where the seat has it itself, nothing changes
  abbrev pub missed : View F → ℕ → View F
  missed v word = if v.turn then v else record v { tries = v.tries ++ word ∷ []; heard = [] }

  -- after a try that took the value
  abbrev pub won : View F → ℕ → List Entry → View F
  won v word history = record v { turn = true; seen = history; tries = v.tries ++ word ∷ []; heard = [] }

  -- after the value was released
  abbrev pub done : View F → List Entry → View F
  done v history = record v { turn = false; seen = history; mine = mine_after v.mine v.seen history; heard = [] }

  -- the view of a new seat
  abbrev pub told : View F → View F
  told v = record v { turn = false; mine = []; tries = []; heard = [] }

  -- two views made one: the shorter history is kept until a load has shown that it begins the longer one
  abbrev pub joined : View F → View F → View F
  joined v w = record v { seen = longer v.seen w.seen; mine = merged v.mine w.mine; heard = shorter v.seen w.seen }

  -- with nothing left to compare
  abbrev pub settled : View F → View F
  settled v = record v { heard = [] }

  -- what is true of the view of one seat. It has seen a beginning of the history, in which its entries stand; where it has the turn, it is the holder and has seen all
  pub record Fits (history : List Entry) (fixed : F) (holder : Option ℕ) (seat : ℕ) (v : View F) : Type 0 where
    pub seen : IsPrefix v.seen history
    pub heard : IsPrefix v.heard history
    pub shorter : length v.heard ≤ length v.seen
    pub places : ArePlaces v.mine v.seen
    pub same : (f : F) → v.fixed ≡ Some f → f ≡ fixed
    pub turn : v.turn ≡ true → (holder ≡ Some seat) × (v.seen ≡ history)

  -- two seats have no entry in common
  abbrev pub AreApart : List (View F) → Type 0
  AreApart views = (i j : ℕ) (v w : View F) → i ≢ j → get_elem? views i ≡ some v → get_elem? views j ≡ some w → (p : ℕ) → Contains v.mine p → Contains w.mine p → ⊥

module _ {V F : Type 0} where
  -- slot 0 is out, and the seat has the turn
  abbrev pub IsOut : Homes V → List (View F) → ℕ → Type 0
  IsOut homes views seat = (get_elem? homes 0 ≡ some none) × ((v : View F) × (get_elem? views seat ≡ some v) × (v.turn ≡ true))

  -- a seat with the turn has the slot, which is empty, and any other seat has none
  abbrev pub Holds : Me (Option V) (View F) → Type 0
  Holds me = (me.1 ≡ (if me.0.turn then (0, None) ∷ [] else [])) × ArePlaces me.0.mine me.0.seen

  -- what contracts see of a seat
  abbrev pub pass_model : Seat (Option V) (View F) → PassModel F
  pass_model s = record { hall = s.table_id; turn = s.me.0.turn; seen = s.me.0.seen; mine = s.me.0.mine; fixed = s.me.0.fixed; tries = s.me.0.tries }

  -- a release: the slot that the seat has goes home
  abbrev pub Releases : (V → List Entry) → Step (Option V) → Me (Option V) (View F) → ℕ → Me (Option V) (View F) → Type 0
  Releases entries st me word me' = (x : V) → me.1 ≡ (0, Some x) ∷ [] → (me'.0 ≡ done me.0 (entries x)) × (me'.1 ≡ [])

  -- a load after a join: what was taken in begins what was seen, and no position stands twice
  abbrev pub Settles : Step (Option V) → Me (Option V) (View F) → ℕ → Me (Option V) (View F) → Type 0
  Settles st me word me' = (me' ≡ (settled me.0, me.1)) × IsPrefix me.0.heard me.0.seen × ArePlaces me.0.mine me.0.seen

module _ {V F : Type 0} (entries : V → List Entry) (fixed : V → F) where
  -- slot 0 is at home, with a value that has this history
  abbrev pub IsHome : Homes V → List Entry → F → Type 0
  IsHome homes history f = (x : V) × (get_elem? homes 0 ≡ some (some (Some x))) × (entries x ≡ history) × (fixed x ≡ f)

  -- the rule of a hall that was made with the value `first`. The word tells the length of the history and whether a seat holds the value.
  -- While none does, the slot is at home with a value that has this history, and else it is out with the holder. Each view fits, and no two share an entry
  pub record Turns (first : V) (s : State (Option V) (View F)) : Type 0 where
    pub history : List Entry
    pub holder : Option ℕ
    pub words : s.words ≡ turn_word (length history) holder ∷ []
    pub short : length history < 2 ^ 62
    pub home : holder ≡ None → IsHome s.homes history (fixed first)
    pub out : (seat : ℕ) → holder ≡ Some seat → IsOut s.homes s.views seat
    pub fits : (seat : ℕ) (v : View F) → get_elem? s.views seat ≡ some v → Fits history (fixed first) holder seat v
    pub apart : AreApart s.views

  -- a try: an odd word is left as it was; at an even one the seat, which had no turn, takes the value, whose history begins with all that the seat had seen
  abbrev pub Tries : Step (Option V) → Me (Option V) (View F) → ℕ → Me (Option V) (View F) → Type 0
  Tries st me word me' =
      (word % 2 ≡ 1 → (me'.0 ≡ missed me.0 word) × (me'.1 ≡ me.1))
      × (word % 2 ≡ 0 → (me.0.turn ≡ false) × (x : V) × (me'.0 ≡ won me.0 word (entries x)) × (me'.1 ≡ (0, Some x) ∷ me.1)
      × IsPrefix me.0.seen (entries x) × ((f : F) → me.0.fixed ≡ Some f → f ≡ fixed x))
