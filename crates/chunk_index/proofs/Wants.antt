-- Where the entries that are asked for stand among all.
use Rattle.std.proofs.Common.{◌≡◌, inl, inr, ℕ, ◌<◌, ◌≤◌, ◌+◌, Bool, true, false, not, ◌&&◌, ◌||◌, ◌==◌, nat_lt, nat_le, if◌then◌else◌, Option, Some, None, List, length, get_or, slice_get, take, drop, ap, ◌∙◌, arith}
use Rattle.std.specs.Option.{option_and_then}
use Rattle.std.specs.List.Sorted.{IsStrictlySortedBy, IsPartitionPoint}
use Rattle.std.specs.declared.cmp.Ordering.TheVariants.{Less}
use Rattle.std.specs.Ordering.{is_gt}
use Rattle.std.proofs.lemmas.Bool.{cases_eq, or_cases, or_left, or_right, not_from_false, not-true}
use Rattle.std.proofs.lemmas.Bool.Decides.{nat_tests}
use Rattle.std.proofs.lemmas.Cmp.{upto}
use Rattle.std.proofs.lemmas.List.{get_or-drop, length-drop}
use Rattle.chunk_index.specs.declared.entry.Entry.{Entry}
use Rattle.chunk_index.specs.Entries.{entry_cmp, of_id, is_after, is_wanted, wanted_of, falls_short, comes_before, reaches}
use Rattle.chunk_index.proofs.Ordered.{entry_total}
use Rattle.chunk_index.proofs.Runs.{between_run, skip_run, nth_run}
use Rattle.chunk_index.proofs.Searches.{sorted_pairs, sorted_drop}

-- of two entries in order, the first has no greater value id, and of one value no greater number
pub less_id : (e f : Entry) → entry_cmp e f ≡ Less → e.value_id ≤ f.value_id
less_id e f less = grind (arith, nat_tests)

pub less_seq : (e f : Entry) → entry_cmp e f ≡ Less → e.value_id ≡ f.value_id → e.seq ≤ f.seq
less_seq e f less same = grind (arith, nat_tests)

-- what lies before an entry that comes before all that are wanted comes before them too
short_down : (value_id from : ℕ) (e f : Entry) → entry_cmp e f ≡ Less → falls_short value_id from f ≡ true → falls_short value_id from e ≡ true
short_down value_id from e f less short = of_numbers e.value_id f.value_id e.seq f.seq (less_id e f less) (less_seq e f less) short
  where
    of_numbers : (i j s t : ℕ) → i ≤ j → (i ≡ j → s ≤ t) → (nat_lt j value_id || (j == value_id) && nat_lt t from) ≡ true → (nat_lt i value_id || (i == value_id) && nat_lt s from) ≡ true
    of_numbers i j s t at_most same holds = grind (arith, nat_tests, cases_eq i j, same)

after_down : (after : Option Entry) (e f : Entry) → entry_cmp e f ≡ Less → not (is_after after f) ≡ true → not (is_after after e) ≡ true
after_down None e f less not_after = not_after
after_down (Some last) e f less not_after = not_from_false (is_gt (entry_cmp e last)) (upto entry_total e f last (ap is_gt less) (not-true (is_gt (entry_cmp f last)) not_after))

pub before_down : (value_id from : ℕ) (after : Option Entry) (e f : Entry) → entry_cmp e f ≡ Less → comes_before value_id from after f ≡ true → comes_before value_id from after e ≡ true
before_down value_id from after e f less before = elim (or_cases (falls_short value_id from f) (not (is_after after f)) before) [
  | inl short ↦ or_left (falls_short value_id from e) (not (is_after after e)) (short_down value_id from e f less short)
  | inr not_after ↦ or_right (falls_short value_id from e) (not (is_after after e)) (after_down after e f less not_after)
]

pub reaches_down : (value_id to : ℕ) (e f : Entry) → entry_cmp e f ≡ Less → reaches value_id to f ≡ true → reaches value_id to e ≡ true
reaches_down value_id to e f less within = of_numbers e.value_id f.value_id e.seq f.seq (less_id e f less) (less_seq e f less) within
  where
    of_numbers : (i j s t : ℕ) → i ≤ j → (i ≡ j → s ≤ t) → (nat_lt j value_id || (j == value_id) && nat_le t to) ≡ true → (nat_lt i value_id || (i == value_id) && nat_le s to) ≡ true
    of_numbers i j s t at_most same holds = grind (arith, nat_tests, cases_eq i j, same)

-- an entry is wanted where it neither comes before all that are wanted nor is beyond them
pub wanted_is : (value_id from to : ℕ) (after : Option Entry) (e : Entry) → is_wanted value_id from to after e ≡ (not (comes_before value_id from after e) && reaches value_id to e)
wanted_is value_id from to after e = of_numbers e.value_id e.seq (is_after after e)
  where
    of_numbers : (i s : ℕ) (b : Bool) → ((i == value_id) && nat_le from s && nat_le s to && b) ≡ (not ((nat_lt i value_id || (i == value_id) && nat_lt s from) || not b) && (nat_lt i value_id || (i == value_id) && nat_le s to))
    of_numbers i s true = grind (arith, nat_tests)
    of_numbers i s false = grind (arith, nat_tests)

-- so those that are wanted stand side by side
pub wanted_run : (value_id from to : ℕ) (after : Option Entry) (entries : List Entry) (i j : ℕ) → i ≤ length entries → IsPartitionPoint (λ e. comes_before value_id from after e ≡ true) (λ e. comes_before value_id from after e ≡ false) entries i
    → IsPartitionPoint (λ e. reaches value_id to e ≡ true) (λ e. reaches value_id to e ≡ false) (drop i entries) j → wanted_of value_id from to after entries ≡ take j (drop i entries)
wanted_run value_id from to after entries i j within ahead reached = between_run (comes_before value_id from after) (reaches value_id to) (is_wanted value_id from to after) entries i j (wanted_is value_id from to after) within ahead reached

-- the entries of a value stand side by side, so one is found by its place among them
pub nth_is : (value_id : ℕ) (entries : List Entry) (i n : ℕ) → IsStrictlySortedBy entry_cmp entries → i ≤ length entries → IsPartitionPoint (λ e. nat_lt e.value_id value_id ≡ true) (λ e. nat_lt e.value_id value_id ≡ false) entries i
    → slice_get (of_id value_id entries) n ≡ option_and_then (λ e. if e.value_id == value_id then Some e else None) (slice_get (drop i entries) n)
nth_is value_id entries i n sorted within parts =
    ap (λ es. slice_get es n) (skip_run (λ e. e.value_id == value_id) entries i within (λ k d below. let lower = parts.0 k d (omega arith) below in grind (arith, nat_tests)))
    ∙ nth_run (λ e. e.value_id == value_id) (drop i entries) closed n
  where
    from_value : (k : ℕ) (d : Entry) → k < length (drop i entries) → nat_lt (get_or (drop i entries) k d).value_id value_id ≡ false
    from_value k d inside = ap (λ e. nat_lt (Entry.value_id e) value_id) (get_or-drop i entries k d) ∙ parts.1 (i + k) d (omega arith) (omega (arith, inside, length-drop i entries))

    closed : (k j : ℕ) (d : Entry) → k ≤ j → j < length (drop i entries) → ((get_or (drop i entries) j d).value_id == value_id) ≡ true → ((get_or (drop i entries) k d).value_id == value_id) ≡ true
    closed k j d at_most inside same = elim (cases_eq k j) [
      | inl is ↦ ap (λ m. (get_or (drop i entries) m d).value_id == value_id) is ∙ same
      | inr differ ↦
          let lower = less_id (get_or (drop i entries) k d) (get_or (drop i entries) j d) (sorted_pairs entry_cmp (drop i entries) (sorted_drop entry_cmp entries i sorted) k j d (omega (arith, at_most, differ)) inside) in
          let upper = from_value k d (omega (arith, at_most, inside)) in
          grind (arith, nat_tests)
    ]
