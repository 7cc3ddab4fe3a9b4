-- The versions of a key: which they are, their order, and which of them is seen.
use Rattle.std.proofs.Common.{◌≡◌, ℤ, IfNone, IfSome, inl, inr, find, Bool, true, false, ◌&&◌, Option, Some, None, is_some, List, [], ◌∷◌, map, filter, Contains, refl, sym, ap, ◌∙◌, subst}
use Rattle.std.specs.List.Sorted.{IsStrictlySortedBy}
use Rattle.std.specs.Option.{option_map_or}
use Rattle.std.specs.Ordering.{int_cmp, is_eq, ordering_then}
use Rattle.std.specs.declared.cmp.Ordering.{Ordering}
use Rattle.std.specs.declared.cmp.Ordering.TheVariants.{Less, Equal, Greater}
use Rattle.std.proofs.lemmas.Cmp.{int_cmp_total, tied_itself}
use Rattle.std.proofs.lemmas.List.Kept.{IsStrictlySortedBy-filter}
use Rattle.std.proofs.lemmas.Map.Keys.{sorted_head, sorted_tail}
use Rattle.std.proofs.lemmas.Map.Lookups.{exact_signed}
use Rattle.slot_page.specs.declared.line.Tid.{Tid}
use Rattle.slot_page.specs.declared.line.LinePointer.{LinePointer}
use Rattle.slot_page.specs.declared.line.LinePointer.TheVariants.{Normal, Dead, Unused}
use Rattle.slot_page.specs.Slots.{item_of}
use Rattle.slot_page.specs.Pages.{item_in, slot_of}
use Rattle.slot_page.specs.Tids.{tid_cmp}
use Rattle.row_versions.specs.declared.version.Version.{Version}
use Rattle.row_versions.specs.declared.keys.KeyEntry.{KeyEntry}
use Rattle.row_versions.specs.Keys.{entry, entry_cmp, has_key}
use Rattle.row_versions.specs.Relations.{IsKeyMap, Names, Pages, Relation, version_in, versions_of}
use Rattle.list_facts.proofs.Members.{first_in, later_in, map_in, from_map, filter_holds, held_by_filter, found_in, none_passes}
use Rattle.row_versions.proofs.Sorted.{each_of, sorted_cons, sorted_nil}

equal_is : (r : Ordering) → is_eq r ≡ true → r ≡ Equal
equal_is Less e = absurd (cc)
equal_is Equal e = refl
equal_is Greater e = absurd (cc)

-- an entry of a key
key_is : (key : ℤ) (e : KeyEntry) → has_key key e ≡ true → e.key ≡ key
key_is key e e' = exact_signed e.key key (equal_is (int_cmp e.key key) e')

own_key : (key : ℤ) (t : Tid) → has_key key (entry key t) ≡ true
own_key key t = ap is_eq (tied_itself int_cmp_total key)

-- a version at a tid that an entry names is of its key
names_version : (e : KeyEntry) (line : LinePointer Version) → Names e line → is_some (item_of line) ≡ true → (version : Version) × (item_of line ≡ Some version) × (version.key ≡ e.key)
names_version e (Normal size version) named some = (version, refl, named)
names_version e Dead named some = absurd (cc)
names_version e Unused named some = absurd (cc)

-- each tid of the versions of a key has a version of it
pub of_versions : (rel : Relation) (key : ℤ) (t : Tid) → IsKeyMap rel.pages rel.entries → Contains (versions_of rel key) t → (version : Version) × (version_in rel t ≡ Some version) × (version.key ≡ key)
of_versions rel key t keys held =
    let kept = filter_holds (λ u. is_some (version_in rel u)) (map (λ e. e.tid) (filter (has_key key) rel.entries)) t held in
    let from = from_map (λ (e : KeyEntry). e.tid) (filter (has_key key) rel.entries) t kept.0 in
    let own = filter_holds (has_key key) rel.entries from.0 from.1 in
    let named : Names from.0 (slot_of rel.pages t) = subst (λ u. Names from.0 (slot_of rel.pages u)) from.2 (keys.named from.0 own.0) in
    let found = names_version from.0 (slot_of rel.pages t) named kept.1 in
    (found.0, found.1, found.2 ∙ key_is key from.0 own.1)

-- and each version of a key is among them
pub among_versions : (rel : Relation) (key : ℤ) (t : Tid) (version : Version) → IsKeyMap rel.pages rel.entries → version_in rel t ≡ Some version → version.key ≡ key → Contains (versions_of rel key) t
among_versions rel key t version keys is of_key =
    let held : Contains rel.entries (entry key t) = subst (λ k. Contains rel.entries (entry k t)) of_key (keys.complete t version is) in
    let own = held_by_filter (has_key key) rel.entries (entry key t) held (own_key key t) in
    held_by_filter (λ u. is_some (version_in rel u)) (map (λ e. e.tid) (filter (has_key key) rel.entries)) t (map_in (λ (e : KeyEntry). e.tid) (filter (has_key key) rel.entries) (entry key t) own) (ap is_some is)

-- of two entries of one key the tids are in the order of the entries
second_part : (r s : Ordering) → r ≡ Equal → ordering_then r s ≡ Less → s ≡ Less
second_part Less s tie less = absurd (cc)
second_part Equal s tie less = less
second_part Greater s tie less = absurd (cc)

tids_in_order : (key : ℤ) (es : List KeyEntry) → IsStrictlySortedBy entry_cmp es → ((e : KeyEntry) → Contains es e → e.key ≡ key) → IsStrictlySortedBy tid_cmp (map (λ e. e.tid) es)
tids_in_order key [] sorted same = sorted_nil tid_cmp
tids_in_order key (e ∷ es) sorted same = sorted_cons tid_cmp e.tid (map (λ f. f.tid) es)
    (λ t held.
    let from = from_map (λ (f : KeyEntry). f.tid) es t held in
    let less : entry_cmp e from.0 ≡ Less = each_of (λ f. entry_cmp e f ≡ Less) es from.0 (sorted_head entry_cmp e es sorted) from.1 in
    let tie : int_cmp e.key from.0.key ≡ Equal = rw (same e (first_in e es e refl), same from.0 (later_in e es from.0 from.1)) (tied_itself int_cmp_total key) in
    rw (← from.2) (second_part (int_cmp e.key from.0.key) (tid_cmp e.tid from.0.tid) tie less))
    (tids_in_order key es (sorted_tail entry_cmp e es sorted) (λ f held. same f (later_in e es f held)))

-- the versions of a key stand in the order of their tids
pub versions_sorted : (rel : Relation) (key : ℤ) → IsKeyMap rel.pages rel.entries → IsStrictlySortedBy tid_cmp (versions_of rel key)
versions_sorted rel key keys = IsStrictlySortedBy-filter tid_cmp (λ t. is_some (version_in rel t)) (map (λ e. e.tid) (filter (has_key key) rel.entries))
    (tids_in_order key (filter (has_key key) rel.entries) (IsStrictlySortedBy-filter entry_cmp (has_key key) rel.entries keys.sorted) (λ e held. key_is key e (filter_holds (has_key key) rel.entries e held).1))

-- whether the version at a tid passes a test, and whether it is of the row at a key besides
abbrev pub passes_at : (Version → Bool) → Pages → Tid → Bool
passes_at test pages t = option_map_or test (item_in pages t) false

abbrev pub row_passes : (Version → Bool) → Relation → ℤ → Tid → Bool
row_passes test rel key t = option_map_or (λ v. is_eq (int_cmp v.key key)) (version_in rel t) false && passes_at test rel.pages t

-- the first tid, of those that the entries of a key name, at which the version passes
abbrev pub walk : (Version → Bool) → Relation → ℤ → Option Tid
walk test rel key = find (passes_at test rel.pages) (map (λ e. e.tid) (filter (has_key key) rel.entries))

-- what a walk over the entries of a key finds passes, and is a version of the key
has_version : (key : ℤ) (item : Option Version) (version : Version) → item ≡ Some version → version.key ≡ key → option_map_or (λ v. is_eq (int_cmp v.key key)) item false ≡ true
has_version key item version is of_key = rw (is, of_key) (ap is_eq (tied_itself int_cmp_total key))

passes_if_found : (test : Version → Bool) (rel : Relation) (key : ℤ) (t : Tid) → IsKeyMap rel.pages rel.entries → walk test rel key ≡ Some t → row_passes test rel key t ≡ true
passes_if_found test rel key t keys found =
    let passes = found_in (passes_at test rel.pages) (map (λ e. e.tid) (filter (has_key key) rel.entries)) t found in
    let from = from_map (λ (e : KeyEntry). e.tid) (filter (has_key key) rel.entries) t passes.0 in
    let own_entry = filter_holds (has_key key) rel.entries from.0 from.1 in
    let named : Names from.0 (slot_of rel.pages t) = subst (λ u. Names from.0 (slot_of rel.pages u)) from.2 (keys.named from.0 own_entry.0) in
    let version = names_version from.0 (slot_of rel.pages t) named (there (item_in rel.pages t) passes.1) in
    rw (has_version key (item_in rel.pages t) version.0 version.1 (version.2 ∙ key_is key from.0 own_entry.1), passes.1) refl
  where
    there : (item : Option Version) → option_map_or test item false ≡ true → is_some item ≡ true
    there None e = absurd (cc)
    there (Some v) e = refl

-- and where it finds none, none passes
fails_if_none : (test : Version → Bool) (rel : Relation) (key : ℤ) (t : Tid) → IsKeyMap rel.pages rel.entries → walk test rel key ≡ None → row_passes test rel key t ≡ false
fails_if_none test rel key t keys found = by_item (version_in rel t) refl
  where
    by_key : (version : Version) → version_in rel t ≡ Some version → (b : Bool) → is_eq (int_cmp version.key key) ≡ b → row_passes test rel key t ≡ false
    by_key version is true same =
        let of_key : version.key ≡ key = exact_signed version.key key (equal_is (int_cmp version.key key) same) in
        let held : Contains rel.entries (entry key t) = subst (λ k. Contains rel.entries (entry k t)) of_key (keys.complete t version is) in
        let listed = map_in (λ (e : KeyEntry). e.tid) (filter (has_key key) rel.entries) (entry key t) (held_by_filter (has_key key) rel.entries (entry key t) held (own_key key t)) in
        let fails = none_passes (passes_at test rel.pages) (map (λ e. e.tid) (filter (has_key key) rel.entries)) t found listed in
        rw (has_version key (item_in rel.pages t) version is of_key) fails
    by_key version is false other = rw (is, other) refl

    by_item : (item : Option Version) → version_in rel t ≡ item → row_passes test rel key t ≡ false
    by_item None is = rw is refl
    by_item (Some version) is = by_key version is (is_eq (int_cmp version.key key)) refl

-- the same of the answer of a walk
pub passes_if_some : (test : Version → Bool) (rel : Relation) (key : ℤ) (answer : Option Tid) → IsKeyMap rel.pages rel.entries → answer ≡ walk test rel key → IfSome answer (λ t. row_passes test rel key t ≡ true)
passes_if_some test rel key None keys is = tt
passes_if_some test rel key (Some t) keys is = passes_if_found test rel key t keys (sym is)

pub fails_if_nothing : (test : Version → Bool) (rel : Relation) (key : ℤ) (answer : Option Tid) → IsKeyMap rel.pages rel.entries → answer ≡ walk test rel key → IfNone answer ((t : Tid) → row_passes test rel key t ≡ false)
fails_if_nothing test rel key None keys is = λ t. fails_if_none test rel key t keys (sym is)
fails_if_nothing test rel key (Some u) keys is = tt
