-- What a sweep of a leaf takes and leaves.
use Rattle.std.proofs.Common.{◌≡◌, inl, inr, Bool, true, false, not, ◌&&◌, Option, Some, None, List, [], ◌∷◌, filter, Contains, cond, refl, sym, ap, ◌∙◌}
use Rattle.std.proofs.lemmas.Bool.{cases_Bool, and_parts, and_cases, not-true, not_from_false}
use Rattle.slot_page.specs.declared.line.Tid.{Tid}
use Rattle.chunk_index.specs.declared.entry.Entry.{Entry}
use Rattle.slot_page.specs.Tids.{is_listed}
use Rattle.chunk_index.specs.Entries.{entry_cmp, with_entry}
use Rattle.chunk_index.specs.Leaves.{Leaf, is_from, is_below, next_bound, in_leaf, leaf_of}
use Rattle.chunk_index.specs.Indexes.{is_swept, unswept}
use Rattle.std.specs.declared.cmp.Ordering.{Ordering}
use Rattle.std.specs.declared.cmp.Ordering.TheVariants.{Less, Equal, Greater}
use Rattle.std.specs.Ordering.{is_lt, ordering_reverse}
use Rattle.chunk_index.proofs.Ordered.{entry_total, entry_equal}
use Rattle.chunk_index.proofs.Batches.{from_own_leaf}
use Rattle.chunk_index.proofs.Inserts.{entry_was}
use Rattle.list_facts.proofs.Members.{filter_holds, held_by_filter, first_in, later_in}

-- an entry that is left was there and was not to go
pub left_was : (bounds : List Entry) (leaf : Leaf) (dead : List Tid) (entries : List Entry) (e : Entry) → Contains (unswept bounds leaf dead entries) e → Contains entries e × (is_swept bounds leaf dead e ≡ false)
left_was bounds leaf dead entries e held = let has = filter_holds (λ f. not (is_swept bounds leaf dead f)) entries e held in (has.0, not-true (is_swept bounds leaf dead e) has.1)

-- and each such entry is left
pub is_left : (bounds : List Entry) (leaf : Leaf) (dead : List Tid) (entries : List Entry) (e : Entry) → Contains entries e → is_swept bounds leaf dead e ≡ false → Contains (unswept bounds leaf dead entries) e
is_left bounds leaf dead entries e held stays = held_by_filter (λ f. not (is_swept bounds leaf dead f)) entries e held (not_from_false (is_swept bounds leaf dead e) stays)

-- so an entry stays whose tid is not listed, and one that is gone had its tid listed and lay in the leaf
pub unlisted_stays : (bounds : List Entry) (leaf : Leaf) (dead : List Tid) (entries : List Entry) (e : Entry) → Contains entries e → is_listed dead e.tid ≡ false → Contains (unswept bounds leaf dead entries) e
unlisted_stays bounds leaf dead entries e held unlisted = is_left bounds leaf dead entries e held (both_false (in_leaf bounds leaf e) (is_listed dead e.tid) unlisted)
  where
    both_false : (a b : Bool) → b ≡ false → (a && b) ≡ false
    both_false true b f = f
    both_false false b f = refl

pub gone_was_listed : (bounds : List Entry) (leaf : Leaf) (dead : List Tid) (entries : List Entry) (e : Entry) → Contains entries e → (Contains (unswept bounds leaf dead entries) e → ⊥) → (in_leaf bounds leaf e ≡ true) × (is_listed dead e.tid ≡ true)
gone_was_listed bounds leaf dead entries e held gone = elim (cases_Bool (is_swept bounds leaf dead e)) [
  | inl swept ↦ and_parts (in_leaf bounds leaf e) (is_listed dead e.tid) swept
  | inr stays ↦ absurd (gone (is_left bounds leaf dead entries e held stays))
]

-- entries that pass a test are as before, where each that is to go fails it
pub filter-unswept : (p : Entry → Bool) (bounds : List Entry) (leaf : Leaf) (dead : List Tid) (entries : List Entry) → ((e : Entry) → Contains entries e → p e ≡ true → is_swept bounds leaf dead e ≡ false) → filter p (unswept bounds leaf dead entries) ≡ filter p entries
filter-unswept p bounds leaf dead [] stays = refl
filter-unswept p bounds leaf dead (e ∷ es) stays = by_tests (is_swept bounds leaf dead e) (p e) refl refl (filter-unswept p bounds leaf dead es (λ f held passes. stays f (later_in e es f held) passes))
  where
    clash : true ≡ false → ⊥
    clash e = cc

    by_tests : (a b : Bool) → is_swept bounds leaf dead e ≡ a → p e ≡ b → filter p (unswept bounds leaf dead es) ≡ filter p es → filter p (cond (not a) (e ∷ unswept bounds leaf dead es) (unswept bounds leaf dead es)) ≡ cond b (e ∷ filter p es) (filter p es)
    by_tests true true goes passes rest = absurd (clash (sym goes ∙ stays e (first_in e es e refl) passes))
    by_tests true false goes fails rest = rest
    by_tests false true left passes rest = ap (λ b. cond b (e ∷ filter p (unswept bounds leaf dead es)) (filter p (unswept bounds leaf dead es))) passes ∙ ap (λ ys. e ∷ ys) rest
    by_tests false false left fails rest = ap (λ b. cond b (e ∷ filter p (unswept bounds leaf dead es)) (filter p (unswept bounds leaf dead es))) fails ∙ rest

-- no entry below a bound has its tid listed; with no bound, none at all has
pub record IsClean (dead : List Tid) (bound : Option Entry) (entries : List Entry) : Type 0 where
  pub none : (e : Entry) → Contains entries e → is_below bound e ≡ true → is_listed dead e.tid ≡ false

-- after a sweep of a leaf that had no listed tid before it, there is none before the leaf that follows
pub swept_clean : (bounds : List Entry) (leaf : Leaf) (dead : List Tid) (entries : List Entry) → ((e : Entry) → Contains entries e → is_from leaf e ≡ false → is_listed dead e.tid ≡ false) → IsClean dead (next_bound bounds leaf) (unswept bounds leaf dead entries)
swept_clean bounds leaf dead entries before = record {
  none = λ e held below.
      let was = left_was bounds leaf dead entries e held in
      elim (and_cases (in_leaf bounds leaf e) (is_listed dead e.tid) was.1) [
        | inl outside ↦ elim (and_cases (is_from leaf e) (is_below (next_bound bounds leaf) e) outside) [
          | inl earlier ↦ before e was.0 earlier
          | inr later ↦ absurd (clash (sym below ∙ later))
        ]
        | inr unlisted ↦ unlisted
      ];
}
  where
    clash : true ≡ false → ⊥
    clash e = cc

-- then none lies before the leaf of that bound either, whatever the leaves are by then: so a sweep of each leaf in turn leaves no listed tid
pub clean_before : (bounds : List Entry) (bound : Entry) (dead : List Tid) (entries : List Entry) → IsClean dead (Some bound) entries → (e : Entry) → Contains entries e → is_from (leaf_of bounds bound) e ≡ false → is_listed dead e.tid ≡ false
clean_before bounds bound dead entries clean e held before = clean.none e held (by_leaf (leaf_of bounds bound) (from_own_leaf None bounds bound refl) before)
  where
    flipped : (x y : Entry) (r : Ordering) → entry_cmp x y ≡ r → entry_cmp y x ≡ ordering_reverse r
    flipped x y r is = entry_total.antisymm y x ∙ ap ordering_reverse is

    by_orders : (leaf : Entry) (r s : Ordering) → entry_cmp bound leaf ≡ r → entry_cmp e leaf ≡ s → not (is_lt r) ≡ true → not (is_lt s) ≡ false → is_lt (entry_cmp e bound) ≡ true
    by_orders leaf Less s is lies from lower = absurd (cc)
    by_orders leaf Equal Less is lies from lower = ap is_lt (ap (λ f. entry_cmp e f) (entry_equal bound leaf is) ∙ lies)
    by_orders leaf Greater Less is lies from lower = ap is_lt (entry_total.trans e leaf bound lies (flipped bound leaf Greater is))
    by_orders leaf Equal Equal is lies from lower = absurd (cc)
    by_orders leaf Equal Greater is lies from lower = absurd (cc)
    by_orders leaf Greater Equal is lies from lower = absurd (cc)
    by_orders leaf Greater Greater is lies from lower = absurd (cc)

    by_leaf : (leaf : Leaf) → is_from leaf bound ≡ true → is_from leaf e ≡ false → is_lt (entry_cmp e bound) ≡ true
    by_leaf None from lower = absurd (cc)
    by_leaf (Some leaf) from lower = by_orders leaf (entry_cmp bound leaf) (entry_cmp e leaf) refl refl from lower

-- an entry that is added in between, with a tid that is not listed, changes nothing in that
pub clean_insert : (dead : List Tid) (bound : Option Entry) (entries : List Entry) (e : Entry) → IsClean dead bound entries → is_listed dead e.tid ≡ false → IsClean dead bound (with_entry entries e)
clean_insert dead bound entries e clean unlisted = record {
  none = λ f held below. elim (entry_was entries e f held) [
    | inl there ↦ clean.none f there below
    | inr is ↦ ap (λ (g : Entry). is_listed dead g.tid) (sym is) ∙ unlisted
  ];
}
