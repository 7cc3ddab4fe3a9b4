-- A tree of rows as a finite map.
use Rattle.std.proofs.Common.{◌≡◌, ℕ, ℤ, Bool, true, cond, List, [], ◌∷◌, Option, Some, None, refl, sym, ap, ◌∙◌}
use Rattle.std.specs.Ordering.{nat_cmp, int_cmp, eq_by_cmp, is_eq}
use Rattle.std.specs.declared.cmp.Ordering.{Ordering}
use Rattle.std.specs.declared.cmp.Ordering.TheVariants.{Less}
use Rattle.std.specs.Cmp.{eq_by_cmp_equiv}
use Rattle.std.specs.FinMap as finite
use Rattle.std.specs.FinMap.Entries.{by_order}
use Rattle.std.specs.List.{AllByRecursion}
use Rattle.std.proofs.lemmas.List.{nil_from_length}
use Rattle.std.specs.Map.{lookup, keys_of}
use Rattle.std.specs.BTreeMap.{is_at}
use Rattle.std.specs.List.Sorted.{IsStrictlySortedBy}
use Rattle.std.proofs.lemmas.Map.Keys.{sorted_head, sorted_tail}
use Rattle.tuple_layout.specs.declared.Place.{Place}
use Rattle.tuple_layout.specs.Places.{Row, place_cmp, place_total, same_place}
use Rattle.tuple_layout.proofs.PlaceLemmas.{place_exact}
use Rattle.replica_map.specs.States.{rows_of}

abbrev pub Entries : Type 0
Entries = List (Place × Row)

-- the row at a place
abbrev pub row_in : Entries → Place → Option Row
row_in es q = lookup (is_at (place_cmp q)) es

find_lookup : (es : Entries) (q : Place) → finite.find place_cmp q es ≡ row_in es q
find_lookup [] q = refl
find_lookup (e ∷ es) q = ap (λ (rest : Option Row). cond (is_eq (place_cmp q e.0)) (Some e.1) rest) (find_lookup es q)

-- a tree's lookup is that of its map
pub get_is : (es : Entries) (q : Place) → finite.get (rows_of es) q ≡ row_in es q
get_is es q = finite.get-from_entries place_total es q ∙ find_lookup es q

-- the map of a tree that has a row more, or another row
pub put_is : (es new : Entries) (at : Place) (row : Row) → ((q : Place) → row_in new q ≡ cond (is_at (place_cmp at) q) (Some row) (row_in es q)) → rows_of new ≡ finite.insert (rows_of es) at row
put_is es new at row h =
    finite.same_map place_total place_exact (rows_of new) (finite.insert (rows_of es) at row) (λ q.
    get_is new q ∙ h q
    ∙ ap (λ (b : Bool). cond b (Some row) (row_in es q)) ((eq_by_cmp_equiv place_total).symm at q)
    ∙ ap (λ (rest : Option Row). cond (eq_by_cmp place_cmp q at) (Some row) rest) (sym (get_is es q))
    ∙ sym (finite.get-insert place_total (rows_of es) at row q))

-- the map of a tree that has a row less
pub gone_is : (es new : Entries) (at : Place) → ((q : Place) → row_in new q ≡ cond (is_at (place_cmp at) q) None (row_in es q)) → rows_of new ≡ finite.remove (rows_of es) at
gone_is es new at h =
    finite.same_map place_total place_exact (rows_of new) (finite.remove (rows_of es) at) (λ q.
    get_is new q ∙ h q
    ∙ ap (λ (b : Bool). cond b None (row_in es q)) ((eq_by_cmp_equiv place_total).symm at q)
    ∙ ap (λ (rest : Option Row). cond (eq_by_cmp place_cmp q at) None rest) (sym (get_is es q))
    ∙ sym (finite.get-remove place_total (rows_of es) at q))

-- an entry before all others is put in front
put_front : (e : Place × Row) (es : Entries) → AllByRecursion (λ q. place_cmp e.0 q ≡ Less) (keys_of es) → finite.put place_cmp e.0 e.1 es ≡ e ∷ es
put_front e [] h = refl
put_front e (d ∷ ds) h = ap (λ (r : Ordering). by_order r ((e.0, e.1) ∷ d ∷ ds) ((d.0, e.1) ∷ ds) (d ∷ finite.put place_cmp e.0 e.1 ds)) h.0

no_entries : finite.entries (finite.empty {X = Row} {R = place_cmp}) ≡ []
no_entries = nil_from_length _ (sym (finite.len-entries (finite.empty {X = Row} {R = place_cmp})) ∙ finite.len-empty place_cmp Row)

-- the entries of a tree, whose places ascend, are those of its map
pub entries_are : (es : Entries) → IsStrictlySortedBy place_cmp (keys_of es) → finite.entries (rows_of es) ≡ es
entries_are [] sorted = no_entries
entries_are (e ∷ es) sorted =
    finite.entries-insert place_total (rows_of es) e.0 e.1
    ∙ ap (finite.put place_cmp e.0 e.1) (entries_are es (sorted_tail place_cmp e.0 (keys_of es) sorted))
    ∙ put_front e es (sorted_head place_cmp e.0 (keys_of es) sorted)
