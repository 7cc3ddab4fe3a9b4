-- A fetch from a store in which a value is whole comes to the bytes of its span.
use Rattle.std.proofs.Common.{ℕ, ◌≡◌, ◌+◌, ◌-◌, ◌*◌, ◌/◌, ◌<◌, ◌≤◌, zero, suc, inl, inr, Bool, true, false, not, ◌&&◌, ◌==◌, nat_lt, nat_le, cond, Ok, Err, Option, Some, None, List, [], ◌∷◌, ◌++◌, length, map, filter, take, drop, min, Contains, refl, sym, ap, ◌∙◌, subst, arith}
use Rattle.std.specs.List.{flat_map, range_with_len, cons_option}
use Rattle.std.proofs.lemmas.Bool.{cases_lt, lt-ltb, le-ltb, le-leb, lt-leb, eq-eqb, cond-false}
use Rattle.std.proofs.lemmas.Option.{none-some, same_Some}
use Rattle.std.proofs.lemmas.List.{append-nil, append_assoc, length-take, length-drop}
use Rattle.list_facts.proofs.Members.{first_in, later_in}
use Rattle.slot_page.specs.declared.line.LinePointer.{LinePointer}
use Rattle.slot_page.specs.declared.line.LinePointer.TheVariants.{Normal, Dead, Unused}
use Rattle.slot_page.specs.Slots.{item_of}
use Rattle.slot_page.specs.Pages.{slot_of, item_in}
use Rattle.external_pointer.specs.declared.external.Pointer.{Pointer}
use Rattle.slice_fetch.specs.declared.Span.{Span}
use Rattle.slice_fetch.specs.Spans.{bytes_in, chunk_size, piece}
use Rattle.chunk_relation.specs.declared.chunk.Chunk.{Chunk}
use Rattle.chunk_relation.specs.Relations.{Pages}
use Rattle.chunk_index.specs.declared.entry.Entry.{Entry}
use Rattle.chunk_index.specs.Entries.{of_id, is_wanted, wanted_of}
use Rattle.toast_store.specs.declared.fault.FetchFault.TheVariants.{MissingChunk, UnexpectedChunk, ChunkSize}
use Rattle.toast_store.specs.Stores.{Store, Names, IsStore, named_by, chunks_of}
use Rattle.toast_store.specs.Values.{Piece, Whole, piece_count, piece_in, piece_size, pieces_of}
use Rattle.toast_store.specs.Walks.{Walking, new_walk, ahead_at}
use Rattle.toast_store.specs.declared.walk.WalkStage.TheVariants.{Empty, Asking}
use Rattle.toast_store.specs.Fetches.{compared, end_of, first_of, new_fetch, outcome, part_of}
use Rattle.toast_store.proofs.Spans.{end_is, span_joined}

-- whether a chunk's number lies within bounds, both included
abbrev in_range : ℕ → ℕ → Chunk → Bool
in_range from to chunk = nat_le from chunk.seq && nat_le chunk.seq to

-- an entry is wanted where it is of the value and its number lies within the bounds
wanted_in : (value_id from to : ℕ) (e : Entry) → is_wanted value_id from to None e ≡ ((e.value_id == value_id) && (nat_le from e.seq && nat_le e.seq to))
wanted_in value_id from to e = regroup (e.value_id == value_id) (nat_le from e.seq) (nat_le e.seq to)
  where
    regroup : (i a b : Bool) → (((i && a) && b) && true) ≡ (i && (a && b))
    regroup true true true = refl
    regroup true true false = refl
    regroup true false b = refl
    regroup false a b = refl

-- so the chunks that the wanted entries name are those of the value with such numbers
named_wanted : (pages : Pages) (value_id from to : ℕ) (entries : List Entry) → ((e : Entry) (chunk : Chunk) → Contains entries e → item_in pages e.tid ≡ Some chunk → chunk.seq ≡ e.seq)
    → named_by pages (wanted_of value_id from to None entries) ≡ filter (in_range from to) (named_by pages (of_id value_id entries))
named_wanted pages value_id from to [] numbered = refl
named_wanted pages value_id from to (e ∷ es) numbered =
    by_tests (e.value_id == value_id) (nat_le from e.seq && nat_le e.seq to) (item_in pages e.tid) refl refl refl (named_wanted pages value_id from to es (λ f chunk held. numbered f chunk (later_in e es f held)))
  where
    by_tests : (i w : Bool) (o : Option Chunk) → (e.value_id == value_id) ≡ i → (nat_le from e.seq && nat_le e.seq to) ≡ w → item_in pages e.tid ≡ o
        → named_by pages (wanted_of value_id from to None es) ≡ filter (in_range from to) (named_by pages (of_id value_id es))
        → named_by pages (cond (is_wanted value_id from to None e) (e ∷ wanted_of value_id from to None es) (wanted_of value_id from to None es)) ≡ filter (in_range from to) (named_by pages (cond i (e ∷ of_id value_id es) (of_id value_id es)))
    by_tests i w o is lies there rest = ap (λ b. named_by pages (cond b (e ∷ wanted_of value_id from to None es) (wanted_of value_id from to None es))) (wanted_in value_id from to e ∙ ap (λ b. b && (nat_le from e.seq && nat_le e.seq to)) is ∙ ap (λ b. i && b) lies) ∙ of_value i w o lies there
      where
        in_value : (v : Bool) (x : Option Chunk) → (nat_le from e.seq && nat_le e.seq to) ≡ v → item_in pages e.tid ≡ x → named_by pages (cond v (e ∷ wanted_of value_id from to None es) (wanted_of value_id from to None es)) ≡ filter (in_range from to) (cons_option x (named_by pages (of_id value_id es)))
        in_value true None l t = ap (λ y. cons_option y (named_by pages (wanted_of value_id from to None es))) t ∙ rest
        in_value false None l t = rest
        in_value true (Some chunk) l t =
            ap (λ y. cons_option y (named_by pages (wanted_of value_id from to None es))) t ∙ ap (λ ys. chunk ∷ ys) rest
            ∙ ap (λ b. cond b (chunk ∷ filter (in_range from to) (named_by pages (of_id value_id es))) (filter (in_range from to) (named_by pages (of_id value_id es)))) (sym (ap (λ n. nat_le from n && nat_le n to) (numbered e chunk (first_in e es e refl) t) ∙ l))
        in_value false (Some chunk) l t =
            rest
            ∙ ap (λ b. cond b (chunk ∷ filter (in_range from to) (named_by pages (of_id value_id es))) (filter (in_range from to) (named_by pages (of_id value_id es)))) (sym (ap (λ n. nat_le from n && nat_le n to) (numbered e chunk (first_in e es e refl) t) ∙ l))

        of_value : (j v : Bool) (x : Option Chunk) → (nat_le from e.seq && nat_le e.seq to) ≡ v → item_in pages e.tid ≡ x
            → named_by pages (cond (j && v) (e ∷ wanted_of value_id from to None es) (wanted_of value_id from to None es)) ≡ filter (in_range from to) (named_by pages (cond j (e ∷ of_id value_id es) (of_id value_id es)))
        of_value false v x l t = rest
        of_value true v x l t = in_value v x l t ∙ ap (λ y. filter (in_range from to) (cons_option y (named_by pages (of_id value_id es)))) (sym t)

-- the head and the tail of lists of pieces
head_piece : (value : List ℕ) (a m : ℕ) (chunk : Chunk) (chunks : List Chunk) → map piece_in (chunk ∷ chunks) ≡ pieces_of value a (suc m) → piece_in chunk ≡ record { seq = a; bytes = piece value a }
head_piece value a m chunk chunks is = cc

tail_pieces : (value : List ℕ) (a m : ℕ) (chunk : Chunk) (chunks : List Chunk) → map piece_in (chunk ∷ chunks) ≡ pieces_of value a (suc m) → map piece_in chunks ≡ pieces_of value (a + 1) m
tail_pieces value a m chunk chunks is = cc

-- beyond the end no piece lies in range
none_beyond : (value : List ℕ) (first end m a : ℕ) (chunks : List Chunk) → 1 ≤ end → end ≤ a → map piece_in chunks ≡ pieces_of value a m → filter (in_range first (end - 1)) chunks ≡ []
none_beyond value first end m a [] some beyond are = refl
none_beyond value first end zero a (c ∷ cs) some beyond are = absurd (cc)
none_beyond value first end (suc m) a (c ∷ cs) some beyond are =
    let number : c.seq ≡ a = ap (λ (p : Piece). p.seq) (head_piece value a m c cs are) in
    let out : nat_le c.seq (end - 1) ≡ false = lt-leb c.seq (end - 1) (omega (arith, number)) in
    ap (λ b. cond (nat_le first c.seq && b) (c ∷ filter (in_range first (end - 1)) cs) (filter (in_range first (end - 1)) cs)) out
    ∙ and_false (nat_le first c.seq) ∙ none_beyond value first end m (a + 1) cs some (omega arith) (tail_pieces value a m c cs are)
  where
    and_false : (b : Bool) → cond (b && false) (c ∷ filter (in_range first (end - 1)) cs) (filter (in_range first (end - 1)) cs) ≡ filter (in_range first (end - 1)) cs
    and_false true = refl
    and_false false = refl

-- a chunk that is the wanted piece is taken
compared_more : (size end : ℕ) (span : Span) (seq : ℕ) (got : List ℕ) (chunk : Chunk) (chunks : List Chunk) → chunk.seq ≡ seq → length chunk.bytes ≡ piece_size size seq
    → compared size end span seq got (chunk ∷ chunks) ≡ compared size end span (seq + 1) (got ++ part_of span seq chunk.bytes) chunks
compared_more size end span seq got chunk chunks number long =
    ap (λ b. cond (not b) (Err (UnexpectedChunk chunk.seq seq)) (cond (not (length chunk.bytes == piece_size size seq)) (Err (ChunkSize (length chunk.bytes) (piece_size size seq))) (compared size end span (seq + 1) (got ++ part_of span seq chunk.bytes) chunks))) (eq-eqb chunk.seq seq number)
    ∙ ap (λ b. cond (not b) (Err (ChunkSize (length chunk.bytes) (piece_size size seq))) (compared size end span (seq + 1) (got ++ part_of span seq chunk.bytes) chunks)) (eq-eqb (length chunk.bytes) (piece_size size seq) long)

-- at the end of the range the bytes are there
compared_end : (value : List ℕ) (span : Span) (first end m a : ℕ) (got : List ℕ) (chunks : List Chunk) → 1 ≤ end → end ≤ a → map piece_in chunks ≡ pieces_of value a m
    → compared (length value) end span a got (filter (in_range first (end - 1)) chunks) ≡ Ok (got ++ flat_map (λ k. part_of span k (piece value k)) (range_with_len a (end - a)))
compared_end value span first end m a got chunks some beyond are =
    let none : end - a ≡ 0 = omega (arith, beyond) in
    ap (compared (length value) end span a got) (none_beyond value first end m a chunks some beyond are)
    ∙ ap (λ b. cond b (Err (MissingChunk a)) (Ok got)) (le-ltb a end beyond)
    ∙ ap Ok (sym (append-nil got)) ∙ ap (λ n. Ok (got ++ flat_map (λ k. part_of span k (piece value k)) (range_with_len a n))) (sym none)

-- from the first piece of the range on, each is taken
compared_from : (value : List ℕ) (span : Span) (first end m a : ℕ) (got : List ℕ) (chunks : List Chunk) → 1 ≤ end → first ≤ a → end ≤ a + m → map piece_in chunks ≡ pieces_of value a m
    → compared (length value) end span a got (filter (in_range first (end - 1)) chunks) ≡ Ok (got ++ flat_map (λ k. part_of span k (piece value k)) (range_with_len a (end - a)))
compared_from value span first end zero a got chunks some from to are = compared_end value span first end zero a got chunks some (omega (arith, to)) are
compared_from value span first end (suc m) a got [] some from to are = absurd (cc)
compared_from value span first end (suc m) a got (c ∷ cs) some from to are = elim (cases_lt a end) [
  | inr beyond ↦ compared_end value span first end (suc m) a got (c ∷ cs) some beyond are
  | inl before ↦
      let is = head_piece value a m c cs are in
      let number : c.seq ≡ a = ap (λ (p : Piece). p.seq) is in
      let bytes : c.bytes ≡ piece value a = ap (λ (p : Piece). p.bytes) is in
      let long : length c.bytes ≡ piece_size (length value) a = ap length bytes ∙ length-take chunk_size (drop (chunk_size * a) value) ∙ ap (min chunk_size) (length-drop (chunk_size * a) value) in
      let low : nat_le first c.seq ≡ true = le-leb first c.seq (omega (arith, number, from)) in
      let high : nat_le c.seq (end - 1) ≡ true = le-leb c.seq (end - 1) (omega (arith, number, before)) in
      let left : suc (end - (a + 1)) ≡ end - a = omega (arith, before) in
      let rest = filter (in_range first (end - 1)) cs in
      ap (λ b. compared (length value) end span a got (cond (b && nat_le c.seq (end - 1)) (c ∷ rest) rest)) low
      ∙ ap (λ b. compared (length value) end span a got (cond b (c ∷ rest) rest)) high
      ∙ compared_more (length value) end span a got c rest number long
      ∙ ap (λ bs. compared (length value) end span (a + 1) (got ++ part_of span a bs) rest) bytes
      ∙ compared_from value span first end m (a + 1) (got ++ part_of span a (piece value a)) cs some (omega (arith, from)) (omega (arith, to)) (tail_pieces value a m c cs are)
      ∙ ap Ok (append_assoc got (part_of span a (piece value a)) (flat_map (λ k. part_of span k (piece value k)) (range_with_len (a + 1) (end - (a + 1)))))
      ∙ ap (λ n. Ok (got ++ flat_map (λ k. part_of span k (piece value k)) (range_with_len a n))) left
]

-- what lies before the range is passed over
compared_all : (value : List ℕ) (span : Span) (first end m a : ℕ) (chunks : List Chunk) → first < end → a ≤ first → end ≤ a + m → map piece_in chunks ≡ pieces_of value a m
    → compared (length value) end span first [] (filter (in_range first (end - 1)) chunks) ≡ Ok (flat_map (λ k. part_of span k (piece value k)) (range_with_len first (end - first)))
compared_all value span first end zero a chunks some from to are = absurd (omega (arith, some, from, to))
compared_all value span first end (suc m) a [] some from to are = absurd (cc)
compared_all value span first end (suc m) a (c ∷ cs) some from to are = elim (cases_lt a first) [
  | inl before ↦
      let number : c.seq ≡ a = ap (λ (p : Piece). p.seq) (head_piece value a m c cs are) in
      let low : nat_le first c.seq ≡ false = lt-leb first c.seq (omega (arith, number, before)) in
      let rest = filter (in_range first (end - 1)) cs in
      ap (λ b. compared (length value) end span first [] (cond (b && nat_le c.seq (end - 1)) (c ∷ rest) rest)) low
      ∙ compared_all value span first end m (a + 1) cs some (omega (arith, before)) (omega (arith, to)) (tail_pieces value a m c cs are)
  | inr at ↦
      let same : a ≡ first = omega (arith, from, at) in
      subst (λ (k : ℕ). compared (length value) end span k [] (filter (in_range first (end - 1)) (c ∷ cs)) ≡ Ok (flat_map (λ n. part_of span n (piece value n)) (range_with_len k (end - k)))) same
      (compared_from value span first end (suc m) a [] (c ∷ cs) (omega (arith, some)) at to are)
]

-- the chunk in the slot of an entry has the entry's number
pub numbered : (e : Entry) (line : LinePointer Chunk) (chunk : Chunk) → Names e line → item_of line ≡ Some chunk → chunk.seq ≡ e.seq
numbered e (Normal size item) chunk names is = ap (λ (c : Chunk). c.seq) (sym (same_Some item chunk is)) ∙ names.1
numbered e Dead chunk names is = absurd (none-some chunk is)
numbered e Unused chunk names is = absurd (none-some chunk is)

-- over a store in which a pointer is whole a fetch comes to the bytes of its span
pub outcome_whole : (store : Store) (pointer : Pointer) (span : Span) (session : ℕ) (value : List ℕ) → span.start ≤ span.end → span.end ≤ pointer.size → IsStore store → Whole store pointer value → outcome store (new_fetch pointer span session) ≡ Ok (bytes_in span value)
outcome_whole store pointer span session value ordered within is whole = elim (cases_lt span.start span.end) [
  | inl some ↦
      let end : end_of span ≡ (span.end - 1) / chunk_size + 1 = end_is span some in
      let walks : first_of span < end_of span = omega (arith, end, some) in
      let enough : end_of span ≤ 0 + piece_count (length value) = omega (arith, end, some, within, whole.size) in
      ap (λ b. compared pointer.size (end_of span) span (first_of span) [] (named_by store.rel.pages (ahead_at walk store.index.entries (cond b (Asking None) Empty)))) (lt-ltb (first_of span) (end_of span) walks)
      ∙ ap (compared pointer.size (end_of span) span (first_of span) []) (named_wanted store.rel.pages pointer.value_id (first_of span) (end_of span - 1) store.index.entries (λ e chunk held there. numbered e (slot_of store.rel.pages e.tid) chunk (is.names.named e held) there))
      ∙ ap (λ size. compared size (end_of span) span (first_of span) [] (filter (in_range (first_of span) (end_of span - 1)) (chunks_of store pointer.value_id))) whole.size
      ∙ compared_all value span (first_of span) (end_of span) (piece_count (length value)) 0 (chunks_of store pointer.value_id) walks (omega arith) enough whole.chunks
      ∙ ap Ok (span_joined value span some)
  | inr none ↦
      let end : end_of span ≡ first_of span = cond-false (nat_lt span.start span.end) ((span.end - 1) / chunk_size + 1) (first_of span) (le-ltb span.start span.end none) in
      let left : span.end - span.start ≡ 0 = omega (arith, none) in
      ap (λ b. compared pointer.size (end_of span) span (first_of span) [] (named_by store.rel.pages (ahead_at walk store.index.entries (cond b (Asking None) Empty)))) (le-ltb (first_of span) (end_of span) (omega (arith, end)))
      ∙ ap (λ b. cond b (Err (MissingChunk (first_of span))) (Ok [])) (le-ltb (first_of span) (end_of span) (omega (arith, end)))
      ∙ ap (λ n. Ok (take n (drop span.start value))) (sym left)
]
  where
    walk : Walking
    walk = new_walk pointer.value_id (first_of span) (end_of span) session
