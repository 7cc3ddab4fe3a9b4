-- Leaves are only split: each bound stays through an insert, and through the sweep of another leaf.
use Rattle.std.proofs.Common.{◌≡◌, ◌≢◌, ◌⊎◌, inl, inr, Bool, true, false, not, nat_le, cond, Option, Some, None, List, [], ◌∷◌, length, slice_get, filter, Contains, refl, subst}
use Rattle.std.specs.Option.{option_map_or}
use Rattle.std.specs.List.{list_any}
use Rattle.std.specs.Ordering.{is_lt}
use Rattle.std.proofs.lemmas.Bool.{not_from_false, false_from_ne_true}
use Rattle.std.proofs.lemmas.Option.{slice_get_within, get_or_from_slice_get}
use Rattle.chunk_index.specs.declared.entry.Entry.{Entry}
use Rattle.chunk_index.specs.declared.entry.TheConstants.{LEAF_ENTRIES, LOWER_ENTRIES}
use Rattle.chunk_index.specs.Entries.{entry_cmp, with_entry}
use Rattle.chunk_index.specs.Leaves.{Leaf, in_leaf, same_leaf, leaf_from, leaf_of, bounds_left}
use Rattle.chunk_index.specs.Indexes.{IsLeaf, entries_of, bounds_with}
use Rattle.list_facts.proofs.Members.{first_in, later_in, filter_holds, held_by_filter}
use Rattle.chunk_index.proofs.Inserted.{in_inserted, inserted_holds}
use Rattle.chunk_index.proofs.PinFacts.{same_leaf_is}

-- each bound stays, and a new one is an entry
pub record AddsBounds (bounds new entries : List Entry) : Type 0 where
  pub kept : (bound : Entry) → Contains bounds bound → Contains new bound
  pub new_ones : (bound : Entry) → Contains new bound → Contains bounds bound ⊎ Contains entries bound

pub adds_bounds : (bounds entries : List Entry) (e : Entry) → AddsBounds bounds (bounds_with bounds entries e) (with_entry entries e)
adds_bounds bounds entries e = record {
  kept = λ bound held. by_room_kept bound held (nat_le (length own) LEAF_ENTRIES) (slice_get own LOWER_ENTRIES);
  new_ones = λ bound held. by_room_new bound (nat_le (length own) LEAF_ENTRIES) (slice_get own LOWER_ENTRIES) refl held;
}
  where
    own : List Entry
    own = entries_of bounds (leaf_of bounds e) (with_entry entries e)

    by_room_kept : (bound : Entry) → Contains bounds bound → (t : Bool) (o : Option Entry) → Contains (cond t bounds (option_map_or (with_entry bounds) o bounds)) bound
    by_room_kept bound held true o = held
    by_room_kept bound held false None = held
    by_room_kept bound held false (Some x) = in_inserted entry_cmp x bound bounds held

    by_room_new : (bound : Entry) → (t : Bool) (o : Option Entry) → slice_get own LOWER_ENTRIES ≡ o → Contains (cond t bounds (option_map_or (with_entry bounds) o bounds)) bound → Contains bounds bound ⊎ Contains (with_entry entries e) bound
    by_room_new bound true o is held = inl held
    by_room_new bound false None is held = inl held
    by_room_new bound false (Some x) is held = elim (inserted_holds entry_cmp x bound bounds held) [
      | inl there ↦ inl there
      | inr same ↦ inr (subst (λ b. Contains (with_entry entries e) b) same (filter_holds (in_leaf bounds (leaf_of bounds e)) (with_entry entries e) x (LOWER_ENTRIES, slice_get_within own LOWER_ENTRIES x is, get_or_from_slice_get own LOWER_ENTRIES x x is)).0)
    ]

-- so each leaf is a leaf after an insert
pub leaf_kept : (bounds entries : List Entry) (e : Entry) (leaf : Leaf) → IsLeaf bounds leaf → IsLeaf (bounds_with bounds entries e) leaf
leaf_kept bounds entries e None is = tt
leaf_kept bounds entries e (Some bound) is = (adds_bounds bounds entries e).kept bound is

-- and after a sweep of another one
pub leaf_left : (bounds entries : List Entry) (leaf swept : Leaf) → leaf ≢ swept → IsLeaf bounds leaf → IsLeaf (bounds_left bounds swept entries) leaf
leaf_left bounds entries None swept other is = tt
leaf_left bounds entries (Some bound) swept other is = by_any (list_any (in_leaf bounds swept) entries)
  where
    by_any : (t : Bool) → Contains (cond t bounds (filter (λ b. not (same_leaf (Some b) swept)) bounds)) bound
    by_any true = is
    by_any false = held_by_filter (λ b. not (same_leaf (Some b) swept)) bounds bound is (not_from_false (same_leaf (Some bound) swept) (false_from_ne_true (same_leaf (Some bound) swept) (λ same. other (same_leaf_is (Some bound) swept same))))

-- the leaf that an entry lies in is one
pub own_is_leaf : (bounds : List Entry) (e : Entry) → IsLeaf bounds (leaf_of bounds e)
own_is_leaf bounds e = from_one None bounds e tt (λ b held. held)
  where
    from_one : (leaf : Leaf) (bs : List Entry) (f : Entry) → IsLeaf bounds leaf → ((b : Entry) → Contains bs b → Contains bounds b) → IsLeaf bounds (leaf_from leaf bs f)
    from_one leaf [] f is all = is
    from_one leaf (b ∷ bs) f is all = by_test (is_lt (entry_cmp f b)) (from_one (Some b) bs f (all b (first_in b bs b refl)) (λ c held. all c (later_in b bs c held)))
      where
        by_test : (t : Bool) → IsLeaf bounds (leaf_from (Some b) bs f) → IsLeaf bounds (cond t leaf (leaf_from (Some b) bs f))
        by_test true rest = is
        by_test false rest = rest
