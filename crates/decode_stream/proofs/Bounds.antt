-- A log of few entries and bytes, each entry within its ranges, can be decoded.
use Rattle.std.proofs.Common.{eqb, ◌≡◌, ◌≤◌, ◌<◌, ◌^◌, ℕ, ◌+◌, Bool, true, false, cond, not, List, [], ◌∷◌, ◌++◌, Option, Some, None, Result, Ok, Err, length, reverse, filter, filter_map, sum_by, is_none, refl, sym, ap, subst, ◌∙◌, arith, suc}
use Rattle.std.specs.List.{All, cons_option, take_while, prefix_len}
use Rattle.std.proofs.lemmas.List.{length-append, length-take, reverse-append}
use Rattle.std.proofs.lemmas.List.Sums.{sum_by-append, sum_by-cons, sum_by-take-le}
use Rattle.std.proofs.lemmas.List.Concat.{length-flat_map}
use Rattle.change_log.specs.declared.entry.LogEntry.{LogEntry}
use Rattle.change_log.specs.declared.entry.LogEntry.TheVariants.{Chunk, Insert, Update, Delete, Commit, Abort}
use Rattle.decode_stream.specs.declared.fault.DecodeFault.{DecodeFault}
use Rattle.decode_stream.specs.declared.fault.DecodeFault.TheVariants.{ChunkOrder, SizeOf, Memory}
use Rattle.decode_stream.specs.Decoding.{TransactionState, xid_of, is_end, is_change, is_chunk_of, chunk_bytes, fronts_after, with_fronts, behind_last, open_entries, value_of, gathered, fault_at, commit_at, commits}
use Rattle.std.proofs.lemmas.List.Elements.{All-cons, All-nil}
use Rattle.decode_stream.specs.Growing.{FitsFed}
use Rattle.decode_stream.specs.States.{DecoderState, Decodes, Feeds, Fits, HasRoom, IsDecodable, Stays}
use Rattle.decode_stream.proofs.Wholes.{fits_next, sent_nothing}

module _ {X : Type 0} (w : X → ℕ) where
  filtered_weight : (test : X → Bool) (xs : List X) → sum_by w (filter test xs) ≤ sum_by w xs
  filtered_weight test [] = omega arith
  filtered_weight test (x ∷ xs) = by (test x) (filtered_weight test xs)
    where
      by : (b : Bool) → sum_by w (filter test xs) ≤ sum_by w xs → sum_by w (cond b (x ∷ filter test xs) (filter test xs)) ≤ sum_by w (x ∷ xs)
      by true h = omega (arith, sum_by-cons w x xs, sum_by-cons w x (filter test xs))
      by false h = omega (arith, sum_by-cons w x xs)

  reversed_weight : (xs : List X) → sum_by w (reverse xs) ≡ sum_by w xs
  reversed_weight [] = refl
  reversed_weight (x ∷ xs) = ap (sum_by w) (reverse-append (x ∷ []) xs) ∙ last (reversed_weight xs)
    where
      last : sum_by w (reverse xs) ≡ sum_by w xs → sum_by w (reverse xs ++ x ∷ []) ≡ sum_by w (x ∷ xs)
      last h = omega (arith, sum_by-append w (reverse xs) (x ∷ []), sum_by-cons w x [], sum_by-cons w x xs, h)

  behind_weight : (test : X → Bool) (xs : List X) → sum_by w (behind_last test xs) ≤ sum_by w xs
  unfolding behind_last
  behind_weight test xs =
      omega (arith, reversed_weight (take_while (λ x. not (test x)) (reverse xs)), sum_by-take-le w (reverse xs) (prefix_len (λ x. not (test x)) (reverse xs)), reversed_weight xs)

ones : {X : Type 0} (xs : List X) → length xs ≡ sum_by (λ x. 1) xs
ones [] = refl
ones {X} (x ∷ xs) = omega (arith, ones xs, sum_by-cons (λ (y : X). 1) x xs)

-- the bytes of an entry that is a chunk
abbrev pub weight : LogEntry → ℕ
weight e = length (chunk_bytes e)

-- the chunks of a value weigh no more than the log
chunk_weight : (w : LogEntry → ℕ) (xid table value_id : ℕ) (log : List LogEntry) → sum_by w (filter (is_chunk_of table value_id) (behind_last is_change (open_entries xid log))) ≤ sum_by w log
unfolding open_entries
chunk_weight w xid table value_id log =
    omega (
      arith,
      filtered_weight w (is_chunk_of table value_id) (behind_last is_change (behind_last is_end (filter (λ entry. eqb (xid_of entry) xid) log))),
      behind_weight w is_change (behind_last is_end (filter (λ entry. eqb (xid_of entry) xid) log)),
      behind_weight w is_end (filter (λ entry. eqb (xid_of entry) xid) log),
      filtered_weight w (λ entry. eqb (xid_of entry) xid) log,
    )

room : (chunks : List LogEntry) (bytes : List ℕ) → length chunks + 1 < 2 ^ 32 → sum_by weight chunks + length bytes < 2 ^ 32 → HasRoom (value_of chunks) bytes
room [] bytes few short = omega arith
room (c ∷ cs) bytes few short = (few, omega (arith, length-flat_map chunk_bytes (c ∷ cs)))

-- an entry is within its ranges, whatever is gathered
abbrev pub IsRanged : LogEntry → Type 0
IsRanged e = Fits (λ table value_id. None) e

fits_ranged : (own : List LogEntry) (e : LogEntry) → IsRanged e → ((table value_id : ℕ) (bytes : List ℕ) → length bytes ≤ length (chunk_bytes e) → HasRoom (gathered own table value_id) bytes) → Fits (gathered own) e
fits_ranged own (Chunk xid table value_id seq bytes) h has = (h.0, has table value_id bytes (omega arith))
fits_ranged own (Insert xid table key cells) h has = h
fits_ranged own (Update xid table from to cells) h has = h
fits_ranged own (Delete xid table key) h has = h
fits_ranged own (Commit xid) h has = tt
fits_ranged own (Abort xid) h has = tt

fewer : {X Y : Type 0} (f : X → Option Y) (xs : List X) → length (filter_map f xs) ≤ length xs
fewer f [] = omega arith
fewer f (x ∷ xs) = by (f x) (fewer f xs)
  where
    by : (o : Option _) → length (filter_map f xs) ≤ length xs → length (cons_option o (filter_map f xs)) ≤ suc (length xs)
    by None h = omega arith
    by (Some y) h = omega arith

length-fronts : {X : Type 0} (before xs : List X) → length (fronts_after before xs) ≡ length xs
length-fronts before [] = refl
length-fronts before (x ∷ xs) = ap (λ n. suc n) (length-fronts (before ++ x ∷ []) xs)

pub few_commits : (log : List LogEntry) → length (commits log) ≤ length log
unfolding commits with_fronts
few_commits log =
    omega (arith, fewer commit_at (take_while (λ p. is_none (fault_at p)) (fronts_after [] log)), length-take (prefix_len (λ p. is_none (fault_at p)) (fronts_after [] log)) (fronts_after [] log), length-fronts [] log)

-- the item between two parts
all_middle : {X : Type 0} (P : X → Type 0) (xs : List X) (y : X) (ys : List X) → All P (xs ++ y ∷ ys) → P y
all_middle P [] y ys h = h 0 y (omega arith)
all_middle P (x ∷ xs) y ys h = all_middle P xs y ys (λ k d low. h (suc k) d (omega (arith, low)))

has_room : (log before : List LogEntry) (e : LogEntry) (rest : List LogEntry) → length log + 1 < 2 ^ 32 → sum_by weight log < 2 ^ 32 → log ≡ before ++ e ∷ rest
    → (table value_id : ℕ) (bytes : List ℕ) → length bytes ≤ length (chunk_bytes e) → HasRoom (gathered (open_entries (xid_of e) before) table value_id) bytes
unfolding gathered
has_room log before e rest few short is table value_id bytes within =
    let chunks : List LogEntry = filter (is_chunk_of table value_id) (behind_last is_change (open_entries (xid_of e) before)) in
    room chunks bytes
    (omega (arith, few, ones chunks, ones before, chunk_weight (λ x. 1) (xid_of e) table value_id before, ap length is, length-append before (e ∷ rest)))
    (omega (arith, short, within, chunk_weight weight (xid_of e) table value_id before, ap (sum_by weight) is, sum_by-append weight before (e ∷ rest), sum_by-cons weight e rest))

-- so a log can be decoded that has fewer than 2 ^ 32 - 1 entries, and chunks of fewer than 2 ^ 32 bytes in all
pub decodable : (log : List LogEntry) → length log + 1 < 2 ^ 32 → sum_by weight log < 2 ^ 32 → All IsRanged log → IsDecodable log
decodable log few short ranged = record {
  count = omega (arith, few_commits log);
  fits = λ before e rest is. fits_ranged (open_entries (xid_of e) before) e (all_middle IsRanged before e rest (subst (All IsRanged) is ranged)) (has_room log before e rest few short is);
}

-- a decoder's first entry
pub first_fits : (state : DecoderState) (e : LogEntry) → Decodes state [] → IsRanged e → weight e < 2 ^ 32 → FitsFed state e
first_fits state e is ranged short =
    fits_next (e ∷ []) [] [] e state [] (decodable (e ∷ []) (omega arith) (omega (arith, sum_by-cons weight e [], short)) (All-cons IsRanged e [] ranged (All-nil IsRanged))) refl (sent_nothing state [] is refl)

-- whatever a decoder that was fed a log answers, it was then fed one
stands_on : (log : List LogEntry) (e : LogEntry) (old new : DecoderState) (r : Result (Option TransactionState) DecodeFault) → Decodes old log → Feeds log e new r → Stays old new r → (now : List LogEntry) × Decodes new now
stands_on log e old new (Ok given) is fed stays = (log ++ e ∷ [], fed.2)
stands_on log e old new (Err (ChunkOrder got wanted)) is fed stays = (log ++ e ∷ [], fed.1)
stands_on log e old new (Err (SizeOf got wanted)) is fed stays = (log ++ e ∷ [], fed.1)
stands_on log e old new (Err Memory) is fed stays = (log, subst (λ (state : DecoderState). Decodes state log) (sym stays) is)

-- so the end of a transaction can be fed to it
pub commit_fits : (log : List LogEntry) (e : LogEntry) (old new : DecoderState) (r : Result (Option TransactionState) DecodeFault) (xid : ℕ) → Decodes old log → Feeds log e new r → Stays old new r → FitsFed new (Commit xid)
commit_fits log e old new r xid is fed stays = let now = stands_on log e old new r is fed stays in (now.0, now.1, tt)

pub abort_fits : (log : List LogEntry) (e : LogEntry) (old new : DecoderState) (r : Result (Option TransactionState) DecodeFault) (xid : ℕ) → Decodes old log → Feeds log e new r → Stays old new r → FitsFed new (Abort xid)
abort_fits log e old new r xid is fed stays = let now = stands_on log e old new r is fed stays in (now.0, now.1, tt)
