-- An entry lies in its own leaf, so a batch is empty only where nothing is wanted.
use Rattle.std.proofs.Common.{◌≡◌, Bool, true, false, cond, Some, None, List, [], ◌∷◌, filter, refl, ap, ◌∙◌}
use Rattle.std.specs.Prelude.{⊤}
use Rattle.std.specs.List.{AllByRecursion}
use Rattle.std.specs.List.Sorted.{IsStrictlySortedBy}
use Rattle.std.specs.declared.cmp.Ordering.TheVariants.{Less}
use Rattle.std.specs.Ordering.{is_lt, ordering_reverse}
use Rattle.std.proofs.lemmas.Bool.{and_from}
use Rattle.std.proofs.lemmas.Cmp.{tied_itself}
use Rattle.chunk_index.specs.declared.entry.Entry.{Entry}
use Rattle.chunk_index.specs.Entries.{entry_cmp}
use Rattle.chunk_index.specs.Leaves.{Leaf, is_from, is_below, next_bound, in_leaf, leaf_from, leaf_of}
use Rattle.chunk_index.specs.Indexes.{batch_of}
use Rattle.chunk_index.proofs.Ordered.{entry_total}
use Rattle.chunk_index.proofs.Batches.{from_own_leaf}

-- each of some bounds is greater than that of a leaf
abbrev AllBeyond : Leaf → List Entry → Type 0
AllBeyond None bounds = ⊤
AllBeyond (Some low) bounds = AllByRecursion (λ b. entry_cmp low b ≡ Less) bounds

-- a bound that is not greater than a leaf is not the next one
passed_by : (b : Entry) (all bounds : List Entry) (low e : Entry) → is_lt (entry_cmp low b) ≡ false → AllByRecursion (λ c. entry_cmp b c ≡ Less) bounds → next_bound (b ∷ all) (leaf_from (Some low) bounds e) ≡ next_bound all (leaf_from (Some low) bounds e)
passed_by b all [] low e not_less beyond = ap (λ t. cond t (Some b) (next_bound all (Some low))) not_less
passed_by b all (c ∷ cs) low e not_less beyond = by_test (is_lt (entry_cmp e c)) (passed_by b all cs c e (ap is_lt (entry_total.antisymm c b ∙ ap ordering_reverse beyond.0)) beyond.1)
  where
    by_test : (t : Bool) → next_bound (b ∷ all) (leaf_from (Some c) cs e) ≡ next_bound all (leaf_from (Some c) cs e) → next_bound (b ∷ all) (cond t (Some low) (leaf_from (Some c) cs e)) ≡ next_bound all (cond t (Some low) (leaf_from (Some c) cs e))
    by_test true later = ap (λ t. cond t (Some b) (next_bound all (Some low))) not_less
    by_test false later = later

below_next : (low : Leaf) (b : Entry) (bs : List Entry) (e : Entry) → AllBeyond low (b ∷ bs) → is_lt (entry_cmp e b) ≡ true → is_below (next_bound (b ∷ bs) low) e ≡ true
below_next None b bs e beyond below = below
below_next (Some low) b bs e beyond below = ap (λ r. is_below (cond (is_lt r) (Some b) (next_bound bs (Some low))) e) beyond.0 ∙ below

own_below : (low : Leaf) (bounds : List Entry) (e : Entry) → IsStrictlySortedBy entry_cmp bounds → AllBeyond low bounds → is_below (next_bound bounds (leaf_from low bounds e)) e ≡ true
unfolding IsStrictlySortedBy
own_below low [] e sorted beyond = refl
own_below low (b ∷ bs) e sorted beyond = by_test (is_lt (entry_cmp e b)) refl (passed_by b bs bs b e (itself b) sorted.0) (own_below (Some b) bs e sorted.1 sorted.0)
  where
    itself : (x : Entry) → is_lt (entry_cmp x x) ≡ false
    itself x = ap is_lt (tied_itself entry_total x)

    by_test : (t : Bool) → is_lt (entry_cmp e b) ≡ t → next_bound (b ∷ bs) (leaf_from (Some b) bs e) ≡ next_bound bs (leaf_from (Some b) bs e) → is_below (next_bound bs (leaf_from (Some b) bs e)) e ≡ true → is_below (next_bound (b ∷ bs) (cond t low (leaf_from (Some b) bs e))) e ≡ true
    by_test true below same later = below_next low b bs e beyond below
    by_test false below same later = ap (λ next. is_below next e) same ∙ later

-- an entry lies in its own leaf
pub in_own_leaf : (bounds : List Entry) (e : Entry) → IsStrictlySortedBy entry_cmp bounds → in_leaf bounds (leaf_of bounds e) e ≡ true
in_own_leaf bounds e sorted = and_from (is_from (leaf_of bounds e) e) (is_below (next_bound bounds (leaf_of bounds e)) e) (from_own_leaf None bounds e refl) (own_below None bounds e sorted tt)

-- so a batch is empty only where nothing is wanted
pub empty_batch : (bounds wanted : List Entry) → IsStrictlySortedBy entry_cmp bounds → batch_of bounds wanted ≡ [] → wanted ≡ []
empty_batch bounds [] sorted none = refl
empty_batch bounds (first ∷ rest) sorted none =
    let lies = in_leaf bounds (leaf_of bounds first) in
    let has : batch_of bounds (first ∷ rest) ≡ first ∷ filter lies rest = ap (λ t. cond t (first ∷ filter lies rest) (filter lies rest)) (in_own_leaf bounds first sorted) in
    absurd (cc)
