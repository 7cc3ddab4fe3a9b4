-- The claims of keys of a table: what their session holds after them, and what every other holds.
use Rattle.std.proofs.Common.{ap, arith, inl, inr, refl, subst, sym, ◌∙◌}
use Rattle.std.proofs.lemmas.Bool.Decides.{nat_tests}
use Rattle.std.proofs.lemmas.List.{length-set}
use Rattle.std.specs.Cmp.{tied_itself}
use Rattle.std.specs.FinMap.{int_cmp-IsAntisymmetric, nat_cmp-IsAntisymmetric}
use Rattle.std.specs.Ordering.{int_cmp, is_eq, match_ordering, nat_cmp, ordering_then}
use Rattle.std.specs.Prelude.{Bool, Contains, List, [], cond, false, length, nat_lt, slice_set, true, ℕ, ℤ, ◌<◌, ◌==◌, ◌||◌, ◌∷◌, ◌≡◌, ◌≢◌, ◌≤◌, ◌⊎◌}
use Rattle.std.specs.declared.cmp.Ordering.{Ordering}
use Rattle.std.specs.declared.cmp.Ordering.TheVariants.{Equal, Greater, Less}
use Rattle.list_facts.proofs.Members.{cases_in, first_in, later_in, none_in_nil}
use Rattle.tuple_layout.specs.Places.{place_total}
use Rattle.lock_table.proofs.Holders.{granted_other, granted_same}
use Rattle.lock_table.specs.Held.{holds_row, holds_table, row_cmp, with_lock, with_row}
use Rattle.lock_table.specs.Locks.{granted, held_by, row_lock}
use Rattle.lock_table.specs.declared.held.SessionLocks.{SessionLocks}
use Rattle.lock_table.specs.declared.lock.LockMode.TheVariants.{Use}
use Rattle.lock_table.specs.declared.lock.RowKey.{RowKey}
use Rattle.lock_table.specs.declared.lock.TableLock.{TableLock}
use Rattle.command_set.specs.Changes.{place}
use Rattle.core_state.proofs.Moved.{KeepsLocks}
use Rattle.core_state.specs.Facts.{AreApart}
use Rattle.core_state.specs.Lines.{once_claimed}
use Rattle.core_looks.specs.Due.{claim_of}

-- whether a row is at one of some keys of a table
abbrev pub is_at_keys : ℕ → List ℤ → RowKey → Bool
is_at_keys t [] row = false
is_at_keys t (key ∷ keys) row = is_eq (row_cmp row (claim_of t key)) || is_at_keys t keys row

-- ---- rows in order

row_is : (a b : RowKey) → row_cmp a b ≡ Equal → a ≡ b
row_is a b e = by (nat_cmp a.table b.table) refl e
  where
    by : (o : Ordering) → nat_cmp a.table b.table ≡ o → ordering_then o (int_cmp a.key b.key) ≡ Equal → a ≡ b
    by Less f g = absurd (cc)
    by Equal f g =
        let table : a.table ≡ b.table = nat_cmp-IsAntisymmetric a.table b.table f in
        let key : a.key ≡ b.key = int_cmp-IsAntisymmetric a.key b.key g in
        ap (λ (n : ℕ). claim_of n a.key) table ∙ ap (claim_of b.table) key
    by Greater f g = absurd (cc)

is_equal : (o : Ordering) → is_eq o ≡ true → o ≡ Equal
is_equal Less e = absurd (cc)
is_equal Equal e = refl
is_equal Greater e = absurd (cc)

pub same_row : (a b : RowKey) → is_eq (row_cmp a b) ≡ true → a ≡ b
same_row a b e = row_is a b (is_equal (row_cmp a b) e)

or_twice : (a b : Bool) → (a || b) ≡ (a || (a || b))
or_twice true b = refl
or_twice false b = refl

or_swap : (a b c : Bool) → (a || (b || c)) ≡ (b || (a || c))
or_swap true true c = refl
or_swap true false c = refl
or_swap false true c = refl
or_swap false false c = refl

or_move : (a b c : Bool) → (a || (b || c)) ≡ ((b || a) || c)
or_move true true c = refl
or_move true false c = refl
or_move false true c = refl
or_move false false c = refl

holds_with : (rows : List RowKey) (row q : RowKey) → holds_row (with_row rows row) q ≡ (is_eq (row_cmp q row) || holds_row rows q)
holds_with [] row q = refl
holds_with (x ∷ rows) row q = by (holds_with rows row q) (row_cmp row x) refl
  where
    by : holds_row (with_row rows row) q ≡ (is_eq (row_cmp q row) || holds_row rows q) → (o : Ordering) → row_cmp row x ≡ o → holds_row (match_ordering o (row ∷ x ∷ rows) (x ∷ rows) (x ∷ with_row rows row)) q ≡ (is_eq (row_cmp q row) || (is_eq (row_cmp q x) || holds_row rows q))
    by rest Less e = refl
    by rest Equal e = or_twice (is_eq (row_cmp q x)) (holds_row rows q) ∙ ap (λ (r : RowKey). is_eq (row_cmp q r) || (is_eq (row_cmp q x) || holds_row rows q)) (sym (row_is row x e))
    by rest Greater e = ap (λ (b : Bool). is_eq (row_cmp q x) || b) rest ∙ or_swap (is_eq (row_cmp q x)) (is_eq (row_cmp q row)) (holds_row rows q)

-- ---- what is held

pub rows_claimed : (locks : List SessionLocks) (s t : ℕ) (keys : List ℤ) (row : RowKey) → holds_row (held_by (once_claimed locks s t keys) s).rows row ≡ (is_at_keys t keys row || holds_row (held_by locks s).rows row)
rows_claimed locks s t [] row = refl
rows_claimed locks s t (key ∷ keys) row =
    let first : holds_row (held_by (granted locks s (row_lock t key)) s).rows row ≡ (is_eq (row_cmp row (claim_of t key)) || holds_row (held_by locks s).rows row) =
    ap (λ (held : SessionLocks). holds_row held.rows row) (granted_same locks s (row_lock t key)) ∙ holds_with (held_by locks s).rows (claim_of t key) row in
    rows_claimed (granted locks s (row_lock t key)) s t keys row
    ∙ ap (λ (b : Bool). is_at_keys t keys row || b) first
    ∙ or_move (is_at_keys t keys row) (is_eq (row_cmp row (claim_of t key))) (holds_row (held_by locks s).rows row)

pub tables_claimed : (locks : List SessionLocks) (s t : ℕ) (keys : List ℤ) → (held_by (once_claimed locks s t keys) s).tables ≡ (held_by locks s).tables
tables_claimed locks s t [] = refl
tables_claimed locks s t (key ∷ keys) = tables_claimed (granted locks s (row_lock t key)) s t keys ∙ ap (λ (held : SessionLocks). held.tables) (granted_same locks s (row_lock t key))

pub others_claimed : (locks : List SessionLocks) (s t : ℕ) (keys : List ℤ) (other : ℕ) → other ≢ s → held_by (once_claimed locks s t keys) other ≡ held_by locks other
others_claimed locks s t [] other differ = refl
others_claimed locks s t (key ∷ keys) other differ = others_claimed (granted locks s (row_lock t key)) s t keys other differ ∙ granted_other locks s other (row_lock t key) differ

length_granted : (locks : List SessionLocks) (s : ℕ) (held : SessionLocks) (rest : List SessionLocks) → s < length locks → length (cond (nat_lt s (length locks)) (slice_set locks s held) rest) ≡ length locks
length_granted locks s held rest low =
    let there : nat_lt s (length locks) ≡ true = grind (arith, nat_tests, low) in
    ap (λ (b : Bool). length (cond b (slice_set locks s held) rest)) there ∙ length-set locks s held

pub length_claimed : (locks : List SessionLocks) (s t : ℕ) (keys : List ℤ) → s < length locks → length (once_claimed locks s t keys) ≡ length locks
length_claimed locks s t [] low = refl
length_claimed locks s t (key ∷ keys) low =
    let first : length (granted locks s (row_lock t key)) ≡ length locks = length_granted locks s (with_lock (row_lock t key) (held_by locks s)) _ low in
    length_claimed (granted locks s (row_lock t key)) s t keys (omega (arith, first, low)) ∙ first

-- ---- keys

itself : (row : RowKey) → is_eq (row_cmp row row) ≡ true
itself row = ap is_eq (tied_itself place_total (place row.table row.key))

pub claim_there : (t : ℕ) (keys : List ℤ) (key : ℤ) → Contains keys key → is_at_keys t keys (claim_of t key) ≡ true
claim_there t [] key e = absurd (none_in_nil key e)
claim_there t (k ∷ keys) key e = elim (cases_in k keys key e) [
  | inl is ↦ ap (λ (n : ℤ). is_eq (row_cmp (claim_of t key) (claim_of t n)) || is_at_keys t keys (claim_of t key)) is ∙ ap (λ (b : Bool). b || is_at_keys t keys (claim_of t key)) (itself (claim_of t key))
  | inr later ↦ more (is_eq (row_cmp (claim_of t key) (claim_of t k))) (is_at_keys t keys (claim_of t key)) (claim_there t keys key later)
]
  where
    more : (a b : Bool) → b ≡ true → (a || b) ≡ true
    more true b e = refl
    more false b e = e

or_left : (a b : Bool) → (a || b) ≡ true → b ≡ false → a ≡ true
or_left true b e f = refl
or_left false b e f = absurd (cc)

-- a row at some keys is the claim of one of them
pub at_keys : (t : ℕ) (keys : List ℤ) (row : RowKey) → is_at_keys t keys row ≡ true → (key : ℤ) × Contains keys key × (row ≡ claim_of t key)
at_keys t [] row e = absurd (cc)
at_keys t (key ∷ keys) row e = by (at_keys t keys row) (is_eq (row_cmp row (claim_of t key))) refl e
  where
    by : (is_at_keys t keys row ≡ true → (k : ℤ) × Contains keys k × (row ≡ claim_of t k)) → (b : Bool) → is_eq (row_cmp row (claim_of t key)) ≡ b → (b || is_at_keys t keys row) ≡ true → (k : ℤ) × Contains (key ∷ keys) k × (row ≡ claim_of t k)
    by others true f g = (key, first_in key keys key refl, same_row row (claim_of t key) f)
    by others false f g =
        let rest = others g in
        (rest.0, later_in key keys rest.0 rest.1, rest.2)

-- no other session has claimed a key
abbrev pub IsFree : List SessionLocks → ℕ → ℕ → ℤ → Type 0
IsFree locks s t key = (other : ℕ) → other ≢ s → holds_row (held_by locks other).rows (claim_of t key) ≡ false

-- a session goes on to hold what it held
pub claims_keep : (locks : List SessionLocks) (s t : ℕ) (keys : List ℤ) → KeepsLocks locks (once_claimed locks s t keys) s
claims_keep locks s t keys = record {
  others = λ other differ. others_claimed locks s t keys other differ;
  rows = λ row e. rows_claimed locks s t keys row ∙ more (is_at_keys t keys row) (holds_row (held_by locks s).rows row) e;
  uses = λ n e. ap (λ (tables : List TableLock). holds_table tables (record { table = n; mode = Use })) (tables_claimed locks s t keys) ∙ e;
}
  where
    more : (a b : Bool) → b ≡ true → (a || b) ≡ true
    more true b e = refl
    more false b e = e

-- what it holds then it held before, or it is one of the keys
pub row_cases : (locks : List SessionLocks) (s t : ℕ) (keys : List ℤ) (row : RowKey) → holds_row (held_by (once_claimed locks s t keys) s).rows row ≡ true
    → (holds_row (held_by locks s).rows row ≡ true) ⊎ ((holds_row (held_by locks s).rows row ≡ false) × ((key : ℤ) × Contains keys key × (row ≡ claim_of t key)))
row_cases locks s t keys row e = by (holds_row (held_by locks s).rows row) refl
  where
    by : (b : Bool) → holds_row (held_by locks s).rows row ≡ b → (b ≡ true) ⊎ ((b ≡ false) × ((key : ℤ) × Contains keys key × (row ≡ claim_of t key)))
    by true f = inl refl
    by false f = inr (refl, at_keys t keys row (or_left (is_at_keys t keys row) (holds_row (held_by locks s).rows row) (sym (rows_claimed locks s t keys row) ∙ e) f))

-- claims stay apart where nobody else has claimed the keys
pub apart_claimed : (locks : List SessionLocks) (s t : ℕ) (keys : List ℤ) → 1 ≤ s → ((key : ℤ) → Contains keys key → IsFree locks s t key) → AreApart locks → AreApart (once_claimed locks s t keys)
apart_claimed locks s t keys low free old = record {
  nobody = others_claimed locks s t keys 0 (λ e. none e) ∙ old.nobody;
  claims = λ one other row differ e. by one other row differ (one == s) (other == s) refl refl e;
}
  where
    none : 0 ≡ s → ⊥
    none e = absurd (omega (arith, low, e))

    row_of : (n : ℕ) (row : RowKey) → n ≢ s → holds_row (held_by (once_claimed locks s t keys) n).rows row ≡ holds_row (held_by locks n).rows row
    row_of n row differ = ap (λ (held : SessionLocks). holds_row held.rows row) (others_claimed locks s t keys n differ)

    -- what this session holds then, no other holds
    own : (other : ℕ) (row : RowKey) → other ≢ s → holds_row (held_by (once_claimed locks s t keys) s).rows row ≡ true → holds_row (held_by locks other).rows row ≡ false
    own other row differ e = elim (row_cases locks s t keys row e) [
      | inl h ↦ old.claims s other row (λ is. differ (sym is)) h
      | inr h ↦ ap (λ (r : RowKey). holds_row (held_by locks other).rows r) h.1.2 ∙ free h.1.0 h.1.1 other differ
    ]

    off : (other : ℕ) (row : RowKey) → other ≢ s → holds_row (held_by locks other).rows row ≡ true → (b : Bool) → holds_row (held_by (once_claimed locks s t keys) s).rows row ≡ b → b ≡ false
    off other row differ e true f =
        let never = own other row differ f in
        absurd (cc)
    off other row differ e false f = refl

    by : (one other : ℕ) (row : RowKey) → one ≢ other → (a b : Bool) → (one == s) ≡ a → (other == s) ≡ b → holds_row (held_by (once_claimed locks s t keys) one).rows row ≡ true → holds_row (held_by (once_claimed locks s t keys) other).rows row ≡ false
    by one other row differ true b e f claimed =
        let one_is : one ≡ s = grind (arith, nat_tests, e) in
        let other_differs : other ≢ s = λ is. differ (one_is ∙ sym is) in
        row_of other row other_differs ∙ own other row other_differs (subst (λ (n : ℕ). holds_row (held_by (once_claimed locks s t keys) n).rows row ≡ true) one_is claimed)
    by one other row differ false true e f claimed =
        let one_differs : one ≢ s = grind (arith, nat_tests, e) in
        let other_is : other ≡ s = grind (arith, nat_tests, f) in
        subst (λ (n : ℕ). holds_row (held_by (once_claimed locks s t keys) n).rows row ≡ false) (sym other_is)
        (off one row one_differs (sym (row_of one row one_differs) ∙ claimed) (holds_row (held_by (once_claimed locks s t keys) s).rows row) refl)
    by one other row differ false false e f claimed =
        let one_differs : one ≢ s = grind (arith, nat_tests, e) in
        let other_differs : other ≢ s = grind (arith, nat_tests, f) in
        row_of other row other_differs ∙ old.claims one other row differ (sym (row_of one row one_differs) ∙ claimed)
