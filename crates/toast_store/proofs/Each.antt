-- A whole value, entry by entry: each piece has exactly one entry that names its chunk, and no other entry of the id names one.
use Rattle.std.proofs.Common.{ℕ, ◌≡◌, ◌≢◌, inl, inr, ◌<◌, ◌≤◌, ◌+◌, zero, suc, Option, Some, None, List, [], ◌∷◌, length, map, Contains, refl, sym, ap, ◌∙◌, subst, arith}
use Rattle.std.specs.List.{filter_map, cons_option, range_with_len}
use Rattle.std.proofs.lemmas.Option.{same_Some, none-some}
use Rattle.std.proofs.lemmas.Bool.{cases_eq}
use Rattle.list_facts.proofs.Members.{none_in_nil, cases_in, first_in, later_in}
use Rattle.slot_page.specs.Pages.{item_in, slot_of}
use Rattle.slice_fetch.specs.Spans.{piece}
use Rattle.external_pointer.specs.declared.external.Pointer.{Pointer}
use Rattle.chunk_relation.specs.declared.chunk.Chunk.{Chunk}
use Rattle.chunk_index.specs.declared.entry.Entry.{Entry}
use Rattle.chunk_index.specs.Entries.{of_id}
use Rattle.chunk_index.proofs.Inserts.{of_id_has, has_of_id}
use Rattle.toast_store.specs.Stores.{Store, IsStore, chunks_of}
use Rattle.toast_store.specs.Values.{Whole, Piece, piece_count, piece_in}
use Rattle.toast_store.specs.Marks.{Marking, IsEnded, IsMarked}
use Rattle.toast_store.proofs.Chosen.{chosen_in}
use Rattle.toast_store.proofs.Pieces.{made_below, map-map}
use Rattle.toast_store.proofs.Laying.{seq_of}

-- what is made of an element is among what is made of all, and comes from one
map_in : {X Y : Type 0} (f : X → Y) (xs : List X) (x : X) → Contains xs x → Contains (map f xs) (f x)
map_in f [] x held = absurd (none_in_nil x held)
map_in f (y ∷ ys) x held = elim (cases_in y ys x held) [
  | inl is ↦ first_in (f y) (map f ys) (f x) (ap f is)
  | inr later ↦ later_in (f y) (map f ys) (f x) (map_in f ys x later)
]

from_map : {X Y : Type 0} (f : X → Y) (xs : List X) (y : Y) → Contains (map f xs) y → (x : X) × Contains xs x × (f x ≡ y)
from_map f [] y held = absurd (none_in_nil y held)
from_map f (x ∷ xs) y held = elim (cases_in (f x) (map f xs) y held) [
  | inl is ↦ (x, first_in x xs x refl, is)
  | inr later ↦ let rest = from_map f xs y later in (rest.0, later_in x xs rest.0 rest.1, rest.2)
]

from_chosen : {X Y : Type 0} (f : X → Option Y) (xs : List X) (y : Y) → Contains (filter_map f xs) y → (x : X) × Contains xs x × (f x ≡ Some y)
from_chosen f [] y held = absurd (none_in_nil y held)
from_chosen {X} {Y} f (x ∷ xs) y held = by_value (f x) refl held (λ later. from_chosen f xs y later)
  where
    by_value : (o : Option Y) → f x ≡ o → Contains (cons_option o (filter_map f xs)) y → (Contains (filter_map f xs) y → (z : X) × Contains xs z × (f z ≡ Some y)) → (z : X) × Contains (x ∷ xs) z × (f z ≡ Some y)
    by_value None is h rest = let found = rest h in (found.0, later_in x xs found.0 found.1, found.2)
    by_value (Some w) is h rest = elim (cases_in w (filter_map f xs) y h) [
      | inl same ↦ (x, first_in x xs x refl, is ∙ ap (λ v. Some v) same)
      | inr later ↦ let found = rest later in (found.0, later_in x xs found.0 found.1, found.2)
    ]

-- numbers that are each different from all later ones
Apart : List ℕ → Type 0
Apart [] = Unit {0}
Apart (k ∷ ks) = ((j : ℕ) → Contains ks j → j ≢ k) × Apart ks

range_in : (a n k : ℕ) → Contains (range_with_len a n) k → a ≤ k
range_in a zero k held = absurd (none_in_nil k held)
range_in a (suc n) k held = elim (cases_in a (range_with_len (a + 1) n) k held) [
  | inl is ↦ omega (arith, is)
  | inr later ↦ omega (arith, range_in (a + 1) n k later)
]

in_range : (a n k : ℕ) → a ≤ k → k < a + n → Contains (range_with_len a n) k
in_range a zero k from below = absurd (omega (arith, from, below))
in_range a (suc n) k from below = elim (cases_eq a k) [
  | inl is ↦ first_in a (range_with_len (a + 1) n) k is
  | inr differ ↦ later_in a (range_with_len (a + 1) n) k (in_range (a + 1) n k (omega (arith, from, differ)) (omega (arith, below)))
]

range_apart : (a n : ℕ) → Apart (range_with_len a n)
unfolding Apart
range_apart a zero = tt
range_apart a (suc n) = ((λ j held. let least = range_in (a + 1) n j held in λ is. omega (arith, least, is)), range_apart (a + 1) n)

-- elements whose keys are apart are the same where their keys are
same_key : {X Y : Type 0} (f : X → Option Y) (key : Y → ℕ) (xs : List X) → Apart (map key (filter_map f xs)) → (x z : X) (v w : Y) → Contains xs x → Contains xs z → f x ≡ Some v → f z ≡ Some w → key v ≡ key w → x ≡ z
unfolding Apart
same_key f key [] apart x z v w in_x in_z is_v is_w same = absurd (none_in_nil x in_x)
same_key {X} {Y} f key (y ∷ ys) apart x z v w in_x in_z is_v is_w same = by_value (f y) refl apart (λ rest in_x' in_z'. same_key f key ys rest x z v w in_x' in_z' is_v is_w same)
  where
    by_value : (o : Option Y) → f y ≡ o → Apart (map key (cons_option o (filter_map f ys))) → (Apart (map key (filter_map f ys)) → Contains ys x → Contains ys z → x ≡ z) → x ≡ z
    by_value None is apart' rest = elim (cases_in y ys x in_x) [
      | inl here ↦ absurd (none-some v (sym is ∙ ap f here ∙ is_v))
      | inr x_later ↦ elim (cases_in y ys z in_z) [
        | inl here ↦ absurd (none-some w (sym is ∙ ap f here ∙ is_w))
        | inr z_later ↦ rest apart' x_later z_later
      ]
    ]
    by_value (Some u) is apart' rest = elim (cases_in y ys x in_x) [
      | inl x_here ↦ elim (cases_in y ys z in_z) [
        | inl z_here ↦ sym x_here ∙ z_here
        | inr z_later ↦ absurd (apart'.0 (key w) (map_in key (filter_map f ys) w (chosen_in f ys z w z_later is_w)) (sym same ∙ ap key (sym (same_Some u v (sym is ∙ ap f x_here ∙ is_v)))))
      ]
      | inr x_later ↦ elim (cases_in y ys z in_z) [
        | inl z_here ↦ absurd (apart'.0 (key v) (map_in key (filter_map f ys) v (chosen_in f ys x v x_later is_v)) (same ∙ ap key (sym (same_Some u w (sym is ∙ ap f z_here ∙ is_w)))))
        | inr z_later ↦ rest apart'.1 x_later z_later
      ]
    ]

-- an entry of the id names the chunk of a piece
pub record NamesPiece (store : Store) (pointer : Pointer) (value : List ℕ) (seq : ℕ) (e : Entry) : Type 0 where
  pub there : Contains store.index.entries e
  pub of_value : e.value_id ≡ pointer.value_id
  pub number : e.seq ≡ seq
  pub chunk : Chunk
  pub names : item_in store.rel.pages e.tid ≡ Some chunk
  pub bytes : chunk.bytes ≡ piece value seq

-- a piece with its number
abbrev numbered : List ℕ → ℕ → Piece
numbered value seq = record { seq = seq; bytes = piece value seq }

map_id : (xs : List ℕ) → map (λ x. x) xs ≡ xs
map_id [] = refl
map_id (x ∷ xs) = ap (λ ys. x ∷ ys) (map_id xs)

seq_is : (store : Store) (e : Entry) (chunk : Chunk) → IsStore store → Contains store.index.entries e → item_in store.rel.pages e.tid ≡ Some chunk → chunk.seq ≡ e.seq
seq_is store e chunk is held there = seq_of e (slot_of store.rel.pages e.tid) chunk (is.names.named e held) there

-- an entry of the id that names a chunk names that of the piece with its number
pub whole_named : (store : Store) (pointer : Pointer) (value : List ℕ) (e : Entry) (chunk : Chunk) → IsStore store → Whole store pointer value → Contains store.index.entries e → e.value_id ≡ pointer.value_id → item_in store.rel.pages e.tid ≡ Some chunk → (e.seq < piece_count (length value)) × (chunk.bytes ≡ piece value e.seq)
whole_named store pointer value e chunk is whole held of_value there =
    let listed = chosen_in (λ (f : Entry). item_in store.rel.pages f.tid) (of_id pointer.value_id store.index.entries) e chunk (has_of_id pointer.value_id store.index.entries e held of_value) there in
    let made = made_below (numbered value) 0 (piece_count (length value)) (piece_in chunk) (subst (λ ps. Contains ps (piece_in chunk)) whole.chunks (map_in piece_in (chunks_of store pointer.value_id) chunk listed)) in
    let number : e.seq ≡ made.0 = sym (seq_is store e chunk is held there) ∙ ap (λ (p : Piece). p.seq) made.2 in
    (omega (arith, number, made.1), ap (λ (p : Piece). p.bytes) made.2 ∙ ap (piece value) (sym number))

-- each piece has such an entry
pub whole_there : (store : Store) (pointer : Pointer) (value : List ℕ) (seq : ℕ) → IsStore store → Whole store pointer value → seq < piece_count (length value) → (e : Entry) × NamesPiece store pointer value seq e
whole_there store pointer value seq is whole below =
    let listed = map_in (numbered value) (range_with_len 0 (piece_count (length value))) seq (in_range 0 (piece_count (length value)) seq (omega arith) (omega (arith, below))) in
    let chunk = from_map piece_in (chunks_of store pointer.value_id) (numbered value seq) (subst (λ ps. Contains ps (numbered value seq)) (sym whole.chunks) listed) in
    let found = from_chosen (λ (f : Entry). item_in store.rel.pages f.tid) (of_id pointer.value_id store.index.entries) chunk.0 chunk.1 in
    let has = of_id_has pointer.value_id store.index.entries found.0 found.1 in (
      found.0,
      record {
        there = has.0;
        of_value = has.1;
        number = sym (seq_is store found.0 chunk.0 is has.0 found.2) ∙ ap (λ (p : Piece). p.seq) chunk.2;
        chunk = chunk.0;
        names = found.2;
        bytes = ap (λ (p : Piece). p.bytes) chunk.2;
      },
    )

-- and only one
pub whole_once : (store : Store) (pointer : Pointer) (value : List ℕ) (seq : ℕ) (e f : Entry) → IsStore store → Whole store pointer value → NamesPiece store pointer value seq e → NamesPiece store pointer value seq f → e ≡ f
whole_once store pointer value seq e f is whole of_e of_f =
    same_key (λ (g : Entry). item_in store.rel.pages g.tid) (λ (c : Chunk). c.seq) (of_id pointer.value_id store.index.entries) apart e f of_e.chunk of_f.chunk
    (has_of_id pointer.value_id store.index.entries e of_e.there of_e.of_value) (has_of_id pointer.value_id store.index.entries f of_f.there of_f.of_value) of_e.names of_f.names
    (seq_is store e of_e.chunk is of_e.there of_e.names ∙ of_e.number ∙ sym (seq_is store f of_f.chunk is of_f.there of_f.names ∙ of_f.number))
  where
    keys : map (λ (c : Chunk). c.seq) (chunks_of store pointer.value_id) ≡ range_with_len 0 (piece_count (length value))
    keys =
        sym (map-map (λ (p : Piece). p.seq) piece_in (chunks_of store pointer.value_id))
        ∙ ap (map (λ (p : Piece). p.seq)) whole.chunks
        ∙ map-map (λ (p : Piece). p.seq) (numbered value) (range_with_len 0 (piece_count (length value)))
        ∙ map_id (range_with_len 0 (piece_count (length value)))

    apart : Apart (map (λ (c : Chunk). c.seq) (chunks_of store pointer.value_id))
    apart = subst Apart (sym keys) (range_apart 0 (piece_count (length value)))

-- once a mark over all of the value's pieces is done, each chunk of the value is ended by its transaction
pub marked_whole : (store : Store) (pointer : Pointer) (value : List ℕ) (mark : Marking) (chunk : Chunk) → IsStore store → Whole store pointer value → IsMarked store mark
    → mark.walk.value_id ≡ pointer.value_id → mark.walk.first ≡ 0 → mark.walk.end ≡ piece_count pointer.size → Contains (chunks_of store pointer.value_id) chunk → chunk.ender ≡ Some mark.xid
marked_whole store pointer value mark chunk is whole marked same first end listed =
    let found = from_chosen (λ (f : Entry). item_in store.rel.pages f.tid) (of_id pointer.value_id store.index.entries) chunk listed in
    let has = of_id_has pointer.value_id store.index.entries found.0 found.1 in
    let below = (whole_named store pointer value found.0 chunk is whole has.0 has.1 found.2).0 in
    let ended = marked.each found.0 has.0 (record { of_value = has.1 ∙ sym same; from_first = omega (arith, first); before_end = omega (arith, below, end, ap piece_count whole.size) }) in
    subst (IsEnded mark.xid) found.2 ended
