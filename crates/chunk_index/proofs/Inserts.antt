-- What the entries of an index are after one is added, for whoever looks at those of another tid, value or number.
use Rattle.std.proofs.Common.{◌≡◌, ◌≢◌, ◌⊎◌, ℕ, Bool, true, false, ◌==◌, List, [], ◌∷◌, ◌++◌, filter, Contains, arith}
use Rattle.std.specs.List.Sorted.{IsStrictlySortedBy}
use Rattle.std.specs.Ordering.{is_lt}
use Rattle.std.proofs.lemmas.Bool.Decides.{nat_tests}
use Rattle.chunk_index.specs.declared.entry.Entry.{Entry}
use Rattle.chunk_index.specs.Entries.{entry_cmp, of_id, with_entry}
use Rattle.chunk_index.proofs.Inserted.{in_inserted, new_in, inserted_holds, inserted_last, filter-inserted_no, filter-inserted_yes}
use Rattle.chunk_index.proofs.Ordered.{entry_total}
use Rattle.list_facts.proofs.Members.{filter_holds, held_by_filter}

-- each entry stays, the new one is there, and there is no other
pub entry_stays : (entries : List Entry) (e f : Entry) → Contains entries f → Contains (with_entry entries e) f
entry_stays entries e f held = in_inserted entry_cmp e f entries held

pub entry_added : (entries : List Entry) (e : Entry) → Contains (with_entry entries e) e
entry_added entries e = new_in entry_cmp e entries

pub entry_was : (entries : List Entry) (e f : Entry) → Contains (with_entry entries e) f → Contains entries f ⊎ (e ≡ f)
entry_was entries e f held = inserted_holds entry_cmp e f entries held

-- those that pass a test are as before, where the new one does not: so it is for those of another tid, value or number
pub others_stay : (p : Entry → Bool) (entries : List Entry) (e : Entry) → p e ≡ false → filter p (with_entry entries e) ≡ filter p entries
others_stay p entries e fails = filter-inserted_no entry_cmp p e entries fails

-- and else they are those before and the new one
pub one_more : (p : Entry → Bool) (entries : List Entry) (e : Entry) → IsStrictlySortedBy entry_cmp entries → p e ≡ true → filter p (with_entry entries e) ≡ with_entry (filter p entries) e
one_more p entries e sorted passes = filter-inserted_yes entry_total p e entries sorted passes

-- the entries of another value are as before
pub of_id-other : (value_id : ℕ) (entries : List Entry) (e : Entry) → e.value_id ≢ value_id → of_id value_id (with_entry entries e) ≡ of_id value_id entries
of_id-other value_id entries e other = others_stay (λ f. f.value_id == value_id) entries e (grind (arith, nat_tests))

-- those of its value are one more
pub of_id-same : (entries : List Entry) (e : Entry) → IsStrictlySortedBy entry_cmp entries → of_id e.value_id (with_entry entries e) ≡ with_entry (of_id e.value_id entries) e
of_id-same entries e sorted = one_more (λ f. f.value_id == e.value_id) entries e sorted (grind (arith, nat_tests))

-- an entry that is less than none comes last, as the next chunk of a value does among those of the value
pub comes_last : (entries : List Entry) (e : Entry) → ((f : Entry) → Contains entries f → is_lt (entry_cmp e f) ≡ false) → with_entry entries e ≡ entries ++ e ∷ []
comes_last entries e above = inserted_last entry_cmp e entries above

-- the entries of a value are found by its id alone
pub of_id_has : (value_id : ℕ) (entries : List Entry) (e : Entry) → Contains (of_id value_id entries) e → Contains entries e × (e.value_id ≡ value_id)
of_id_has value_id entries e held = let has = filter_holds (λ f. f.value_id == value_id) entries e held in (has.0, (let same = has.1 in grind (arith, nat_tests)))

pub has_of_id : (value_id : ℕ) (entries : List Entry) (e : Entry) → Contains entries e → e.value_id ≡ value_id → Contains (of_id value_id entries) e
has_of_id value_id entries e held same = held_by_filter (λ f. f.value_id == value_id) entries e held (grind (arith, nat_tests))
