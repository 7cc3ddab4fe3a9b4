-- Entries of the key map: their order, and which tids they name.
use Rattle.std.proofs.Common.{◌≡◌, ◌≢◌, ℤ, true, false, not, ◌&&◌, List, filter, Contains, refl, sym, ap, ◌∙◌}
use Rattle.std.specs.Cmp.{IsTotalOrder}
use Rattle.std.specs.Ordering.{int_cmp, is_eq, is_le, is_lt, ordering_then}
use Rattle.std.specs.declared.cmp.Ordering.{Ordering}
use Rattle.std.specs.declared.cmp.Ordering.TheVariants.{Less, Equal, Greater}
use Rattle.std.proofs.lemmas.Cmp.{alike_right, int_cmp_total, on_total, then_total}
use Rattle.std.proofs.lemmas.Map.Lookups.{exact_pairs, exact_signed}
use Rattle.slot_page.specs.declared.line.Tid.{Tid}
use Rattle.slot_page.specs.Tids.{tid_cmp}
use Rattle.slot_page.proofs.Tids.{tid_equal, tid_total, among_listed}
use Rattle.row_versions.specs.declared.keys.KeyEntry.{KeyEntry}
use Rattle.row_versions.specs.Keys.{entry_cmp, names_one_of}
use Rattle.list_facts.proofs.Members.{filter_holds}

-- the order by key and tid is total
pub entry_total : IsTotalOrder entry_cmp
entry_total = then_total (on_total (λ (e : KeyEntry). e.key) int_cmp_total) (on_total (λ (e : KeyEntry). e.tid) tid_total)

-- only one entry ties with an entry
pub entry_exact : (e f : KeyEntry) → entry_cmp e f ≡ Equal → e ≡ f
entry_exact e f tie = let pairs = exact_pairs int_cmp tid_cmp exact_signed tid_equal (e.key, e.tid) (f.key, f.tid) tie in λ i. record { key = (pairs i).0; tid = (pairs i).1 }

-- an order of first parts goes before that of second ones
first_part : (r s : Ordering) → ordering_then r s ≡ Less → is_le r ≡ true
first_part Less s e = refl
first_part Equal s e = refl
first_part Greater s e = absurd (cc)

-- the keys of entries in order do not fall
pub key_le : (e f : KeyEntry) → entry_cmp e f ≡ Less → is_le (int_cmp e.key f.key) ≡ true
key_le e f less = first_part (int_cmp e.key f.key) (tid_cmp e.tid f.tid) less

-- what is at most another one that is below a third is below that
lt_through : {K : Type 0} {c : K → K → Ordering} (o : IsTotalOrder c) (x y z : K) (r : Ordering) → c x y ≡ r → is_le r ≡ true → c y z ≡ Less → c x z ≡ Less
lt_through o x y z Less is le less = o.trans x y z is less
lt_through o x y z Equal is le less = o.congr x y z is ∙ less
lt_through o x y z Greater is le less = absurd (cc)

le_through : {K : Type 0} {c : K → K → Ordering} (o : IsTotalOrder c) (x y z : K) (r : Ordering) → c y z ≡ r → is_le (c x y) ≡ true → is_le r ≡ true → is_le (c x z) ≡ true
le_through o x y z Less is le le' = ap is_le (lt_through o x y z _ refl le is)
le_through o x y z Equal is le le' = ap is_le (sym (alike_right o y z x is)) ∙ le
le_through o x y z Greater is le le' = absurd (cc)

less_is : (r : Ordering) → is_lt r ≡ true → r ≡ Less
less_is Less e = refl
less_is Equal e = absurd (cc)
less_is Greater e = absurd (cc)

-- what stands before an entry of a key up to another one is of a key up to it too
pub up_to_before : (key : ℤ) (e f : KeyEntry) → entry_cmp e f ≡ Less → is_le (int_cmp f.key key) ≡ true → is_le (int_cmp e.key key) ≡ true
up_to_before key e f less le = le_through int_cmp_total e.key f.key key (int_cmp f.key key) refl (key_le e f less) le

pub below_before : (key : ℤ) (e f : KeyEntry) → entry_cmp e f ≡ Less → is_lt (int_cmp f.key key) ≡ true → is_lt (int_cmp e.key key) ≡ true
below_before key e f less lt = ap is_lt (lt_through int_cmp_total e.key f.key key (int_cmp e.key f.key) refl (key_le e f less) (less_is (int_cmp f.key key) lt))

pub less_before : (g e f : KeyEntry) → entry_cmp e f ≡ Less → is_lt (entry_cmp f g) ≡ true → is_lt (entry_cmp e g) ≡ true
less_before g e f less lt = ap is_lt (entry_total.trans e f g less (less_is (entry_cmp f g) lt))

-- a key up to another one and not below it is that
pub same_key : (r : Ordering) → (is_le r && not (is_lt r)) ≡ is_eq r
same_key Less = refl
same_key Equal = refl
same_key Greater = refl

-- no entry that is left names a tid whose entries were taken away
pub unnamed_after : (tids : List Tid) (entries : List KeyEntry) (t : Tid) → Contains tids t → (e : KeyEntry) → Contains (filter (λ f. not (names_one_of tids f)) entries) e → e.tid ≢ t
unnamed_after tids entries t listed e held same = differ (sym (filter_holds (λ f. not (names_one_of tids f)) entries e held).1 ∙ ap not (among_listed tids e.tid (rw same listed)))
  where
    differ : true ≡ false → ⊥
    differ e = cc
