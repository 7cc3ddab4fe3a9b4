-- The items of a relation, page by page (PostgreSQL, "Database Page Layout").
use Rattle.std.specs.Prelude.{ℕ, List, [], ◌∷◌, ◌++◌, Option, length, nat_lt, if◌then◌else◌, slice_index_or, slice_set}
use Rattle.std.specs.List.{position_or_len}
use Rattle.slot_page.specs.declared.line.Tid.{Tid}
use Rattle.slot_page.specs.declared.line.LinePointer.{LinePointer}
use Rattle.slot_page.specs.Slots.{item_of, slot_at, first_unused, fits, with_put}

-- the slots of a page; a page past the end has none
abbrev pub page_at : {T : Type 0} → List (List (LinePointer T)) → ℕ → List (LinePointer T)
page_at pages page = slice_index_or pages page []

-- what stands at a tid; a place past the end is unused
abbrev pub slot_of : {T : Type 0} → List (List (LinePointer T)) → Tid → LinePointer T
slot_of pages t = slot_at (page_at pages t.page) t.slot

-- the item at a tid, if there is one
abbrev pub item_in : {T : Type 0} → List (List (LinePointer T)) → Tid → Option T
item_in pages t = item_of (slot_of pages t)

-- the pages with something else at a tid; past the end nothing changes
abbrev pub written : {T : Type 0} → List (List (LinePointer T)) → Tid → LinePointer T → List (List (LinePointer T))
written pages t line = slice_set pages t.page (slice_set (page_at pages t.page) t.slot line)

-- the lowest page where an item of this size fits, or the number of pages where it fits on none
abbrev pub fit_page : {T : Type 0} → ℕ → List (List (LinePointer T)) → ℕ
fit_page size pages = position_or_len (fits size) pages

-- the tid of the next item of this size
abbrev pub put_tid : {T : Type 0} → ℕ → List (List (LinePointer T)) → Tid
put_tid size pages = record { page = fit_page size pages; slot = first_unused (page_at pages (fit_page size pages)) }

-- the pages with one more item: on the lowest page where it fits, else on a new one
abbrev pub with_put_on : {T : Type 0} → ℕ → T → List (List (LinePointer T)) → List (List (LinePointer T))
with_put_on size item pages = if nat_lt (fit_page size pages) (length pages) then slice_set pages (fit_page size pages) (with_put size item (page_at pages (fit_page size pages))) else pages ++ with_put size item [] ∷ []
