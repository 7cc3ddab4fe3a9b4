-- The dead slots of a page, whatever its items (PostgreSQL, "Routine Vacuuming, Recovering Disk Space").
use Rattle.std.specs.Prelude.{ℕ, suc, Bool, true, false, if◌then◌else◌, List, [], ◌∷◌}
use Rattle.slot_page.specs.declared.line.Tid.{Tid}
use Rattle.slot_page.specs.declared.line.LinePointer.{LinePointer}
use Rattle.slot_page.specs.declared.line.LinePointer.TheVariants.{Normal, Dead, Unused}

-- whether a slot is dead
abbrev pub is_dead_line : {T : Type 0} → LinePointer T → Bool
is_dead_line (Normal size item) = false
is_dead_line Dead = true
is_dead_line Unused = false

-- the tids of the slots that pass a test, of these, which begin at the given page and slot
abbrev pub tids_where : {T : Type 0} → (LinePointer T → Bool) → ℕ → ℕ → List (LinePointer T) → List Tid
tids_where test page slot [] = []
tids_where test page slot (line ∷ lines) = if test line then record { page = page; slot = slot } ∷ tids_where test page (suc slot) lines else tids_where test page (suc slot) lines

-- the tids of a page's dead slots, in order
abbrev pub dead_tids : {T : Type 0} → ℕ → List (LinePointer T) → List Tid
dead_tids page slots = tids_where is_dead_line page 0 slots
