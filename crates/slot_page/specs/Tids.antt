-- The order of tids: by page, then by slot (PostgreSQL's tuple identifiers).
use Rattle.std.specs.Prelude.{Bool, List}
use Rattle.std.specs.List.{list_any}
use Rattle.std.specs.declared.cmp.Ordering.{Ordering}
use Rattle.std.specs.Ordering.{nat_cmp, ordering_then, eq_by_cmp}
use Rattle.slot_page.specs.declared.line.Tid.{Tid}

-- by page, then by slot
abbrev pub tid_cmp : Tid → Tid → Ordering
tid_cmp t u = ordering_then (nat_cmp t.page u.page) (nat_cmp t.slot u.slot)

-- whether a list of tids has a tid
abbrev pub is_listed : List Tid → Tid → Bool
is_listed tids tid = list_any (λ t. eq_by_cmp tid_cmp t tid) tids
