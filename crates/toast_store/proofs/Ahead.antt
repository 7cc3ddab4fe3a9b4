-- What others do to a store, seen from a walk through a value's entries: the chunks that it still comes to, and what a fetch comes to.
use Rattle.std.proofs.Common.{ℕ, ◌≡◌, ◌≢◌, inl, inr, Bool, true, false, cond, not, ◌&&◌, ◌==◌, Result, Err, Option, List, [], ◌∷◌, ◌++◌, length, map, drop, Contains, slice_get, refl, sym, ap, ◌∙◌, ◌+◌, ◌-◌, subst, arith}
use Rattle.std.specs.Option.{option_map}
use Rattle.std.proofs.lemmas.Bool.Decides.{nat_tests}
use Rattle.std.proofs.lemmas.List.Elements.{Contains-append_cases, filter_map-append}
use Rattle.list_facts.proofs.Members.{none_in_nil}
use Rattle.slot_page.specs.declared.line.Tid.{Tid}
use Rattle.slot_page.specs.Pages.{slot_of, item_in, with_put_on}
use Rattle.slot_page.proofs.Pages.{put_was_free}
use Rattle.slice_fetch.specs.declared.Span.{Span}
use Rattle.xact_status.specs.Xacts.{Xacts}
use Rattle.chunk_relation.specs.declared.chunk.Chunk.{Chunk}
use Rattle.chunk_relation.proofs.Events.{chunk_of-put, chunk_of-pruned, chunk_of-reaped}
use Rattle.chunk_index.specs.declared.entry.Entry.{Entry}
use Rattle.chunk_index.specs.Entries.{is_wanted}
use Rattle.chunk_index.specs.Leaves.{Leaf}
use Rattle.chunk_index.specs.Indexes.{is_swept}
use Rattle.chunk_index.proofs.Inserts.{others_stay}
use Rattle.chunk_index.proofs.Batches.{wanted_are}
use Rattle.toast_store.specs.declared.walk.WalkStage.{WalkStage}
use Rattle.toast_store.specs.declared.walk.WalkStage.TheVariants.{Empty, Asking, Reading, Over}
use Rattle.toast_store.specs.Stores.{Store, Names, IsStore, named_by}
use Rattle.toast_store.specs.Values.{Piece, piece_in, piece_size}
use Rattle.toast_store.specs.Walks.{Walking, ahead, ahead_at, batch_left, wanted_by}
use Rattle.toast_store.specs.declared.fault.FetchFault.{FetchFault}
use Rattle.toast_store.specs.declared.fault.FetchFault.TheVariants.{UnexpectedChunk, ChunkSize}
use Rattle.toast_store.specs.Fetches.{Fetching, compared, comparison, outcome, part_of}
use Rattle.toast_store.specs.Between.{LeavesAhead, IsBatchNamed, IsAheadSpared, Puts, Adds, Ends, Prunes, Sweeps, Reaps, Pins}
use Rattle.toast_store.proofs.Chosen.{chosen_agree, chosen_map, chosen_filters, chosen_in}
use Rattle.toast_store.proofs.Kept.{swept_listed, same_piece}

-- each entry ahead names a chunk of its id and number or a dead slot
ahead_named : (store : Store) (walk : Walking) (stage : WalkStage) → IsStore store → ((e : Entry) → Contains (batch_left stage) e → Names e (slot_of store.rel.pages e.tid)) → (e : Entry) → Contains (ahead_at walk store.index.entries stage) e → Names e (slot_of store.rel.pages e.tid)
ahead_named store walk Empty is batch e held = batch e held
ahead_named store walk (Asking after) is batch e held = is.names.named e (wanted_are walk.value_id walk.first _ after store.index.entries e held).there
ahead_named store walk (Reading b at) is batch e held = elim (Contains-append_cases (drop at b.entries) _ e held) [
  | inl here ↦ batch e here
  | inr later ↦ by_more b.more later
]
  where
    by_more : (more : Bool) → Contains (cond more (wanted_by walk (slice_get b.entries (length b.entries - 1)) store.index.entries) []) e → Names e (slot_of store.rel.pages e.tid)
    by_more true h = is.names.named e (wanted_are walk.value_id walk.first _ _ store.index.entries e h).there
    by_more false h = batch e (absurd (none_in_nil e h))
ahead_named store walk Over is batch e held = batch e held

-- with the same entries, the chunks ahead are as they were where their slots are
same_ahead : (old new : Store) (walk : Walking) → new.index.entries ≡ old.index.entries → ((e : Entry) → Contains (ahead old.index.entries walk) e → item_in new.rel.pages e.tid ≡ item_in old.rel.pages e.tid) → LeavesAhead walk old new
same_ahead old new walk entries same =
    ap (λ es. named_by new.rel.pages (ahead es walk)) entries
    ∙ chosen_agree (λ (e : Entry). item_in new.rel.pages e.tid) (λ (e : Entry). item_in old.rel.pages e.tid) (ahead old.index.entries walk) same

-- a put
pub put_leaves_ahead : (old new : Store) (size : ℕ) (chunk : Chunk) (walk : Walking) → IsStore old → IsBatchNamed old walk → Puts old new size chunk → LeavesAhead walk old new
put_leaves_ahead old new size chunk walk is batch puts = same_ahead old new walk puts.entries (λ e held. ap (λ pages. item_in pages e.tid) puts.pages ∙ unmoved e (ahead_named old walk walk.stage is batch.each e held))
  where
    unmoved : (e : Entry) → Names e (slot_of old.rel.pages e.tid) → item_in (with_put_on size chunk old.rel.pages) e.tid ≡ item_in old.rel.pages e.tid
    unmoved e names = elim (chunk_of-put size chunk old.rel.pages e.tid) [
      | inl same ↦ same
      | inr h ↦ absurd (subst (Names e) (ap (slot_of old.rel.pages) h.0 ∙ put_was_free size old.rel.pages) names)
    ]

-- a chunk that is ended leaves the pieces ahead
pub end_leaves_pieces : (old new : Store) (tid : Tid) (xid : ℕ) (walk : Walking) → Ends old new tid xid → map piece_in (named_by new.rel.pages (ahead new.index.entries walk)) ≡ map piece_in (named_by old.rel.pages (ahead old.index.entries walk))
end_leaves_pieces old new tid xid walk ends =
    ap (λ es. map piece_in (named_by new.rel.pages (ahead es walk))) ends.entries
    ∙ chosen_map piece_in (λ (e : Entry). item_in new.rel.pages e.tid) (ahead old.index.entries walk)
    ∙ chosen_agree (λ (e : Entry). option_map piece_in (item_in new.rel.pages e.tid)) (λ (e : Entry). option_map piece_in (item_in old.rel.pages e.tid)) (ahead old.index.entries walk) (λ e held. same_piece old new tid xid ends e.tid)
    ∙ sym (chosen_map piece_in (λ (e : Entry). item_in old.rel.pages e.tid) (ahead old.index.entries walk))

-- a prune under whose horizon none of the chunks ahead is dead
pub prune_leaves_ahead : (old new : Store) (xacts : Xacts) (horizon page : ℕ) (walk : Walking) → Prunes old new xacts horizon page → IsAheadSpared old walk xacts horizon → LeavesAhead walk old new
prune_leaves_ahead old new xacts horizon page walk prunes spared = same_ahead old new walk prunes.entries (λ e held. ap (λ pages. item_in pages e.tid) prunes.pages ∙ elim (chunk_of-pruned xacts horizon old.rel.pages page e.tid) [
  | inl same ↦ same
  | inr h ↦ absurd (clash (sym (spared.each h.0 (chosen_in (λ (f : Entry). item_in old.rel.pages f.tid) (ahead old.index.entries walk) e h.0 held h.1)) ∙ h.2))
])
  where
    clash : false ≡ true → ⊥
    clash e = cc

-- a slot that is freed, and pins
pub reap_leaves_ahead : (old new : Store) (tid : Tid) (walk : Walking) → Reaps old new tid → LeavesAhead walk old new
reap_leaves_ahead old new tid walk reaps = same_ahead old new walk reaps.entries (λ e held. ap (λ pages. item_in pages e.tid) reaps.pages ∙ chunk_of-reaped old.rel.pages tid e.tid reaps.dead)

pub pin_leaves_ahead : (old new : Store) (walk : Walking) → Pins old new → LeavesAhead walk old new
pin_leaves_ahead old new walk pins = same_ahead old new walk pins.entries (λ e held. ap (λ pages. item_in pages e.tid) pins.pages)

-- with other entries, where those that are still to be asked for give the same
other_entries : (old new : Store) (walk : Walking) (stage : WalkStage) → new.rel.pages ≡ old.rel.pages → ((after : Option Entry) → named_by old.rel.pages (wanted_by walk after new.index.entries) ≡ named_by old.rel.pages (wanted_by walk after old.index.entries))
    → named_by new.rel.pages (ahead_at walk new.index.entries stage) ≡ named_by old.rel.pages (ahead_at walk old.index.entries stage)
other_entries old new walk Empty pages same = refl
other_entries old new walk (Asking after) pages same = ap (λ ps. named_by ps (wanted_by walk after new.index.entries)) pages ∙ same after
other_entries old new walk (Reading b at) pages same =
    ap (λ ps. named_by ps (ahead_at walk new.index.entries (Reading b at))) pages
    ∙ filter_map-append item (drop at b.entries) (rest new b.more)
    ∙ ap (λ cs. named_by old.rel.pages (drop at b.entries) ++ cs) (by_more b.more)
    ∙ sym (filter_map-append item (drop at b.entries) (rest old b.more))
  where
    item : Entry → Option Chunk
    item e = item_in old.rel.pages e.tid

    rest : Store → Bool → List Entry
    rest store more = cond more (wanted_by walk (slice_get b.entries (length b.entries - 1)) store.index.entries) []

    by_more : (more : Bool) → named_by old.rel.pages (rest new more) ≡ named_by old.rel.pages (rest old more)
    by_more true = same (slice_get b.entries (length b.entries - 1))
    by_more false = refl
other_entries old new walk Over pages same = refl

-- an entry of another value
pub add_leaves_ahead : (old new : Store) (e : Entry) (walk : Walking) → Adds old new e → e.value_id ≢ walk.value_id → LeavesAhead walk old new
add_leaves_ahead old new e walk adds other = other_entries old new walk walk.stage adds.pages (λ after.
    ap (λ es. named_by old.rel.pages (wanted_by walk after es)) adds.entries
    ∙ ap (named_by old.rel.pages) (others_stay (is_wanted walk.value_id walk.first (walk.end - 1) after) old.index.entries e (unwanted (e.value_id == walk.value_id) _ _ _ (grind (arith, nat_tests, other)))))
  where
    unwanted : (a b c d : Bool) → a ≡ false → (a && b && c && d) ≡ false
    unwanted true b c d h = absurd (cc)
    unwanted false b c d h = refl

-- a sweep of entries whose slots have no chunk
pub sweep_leaves_ahead : (old new : Store) (leaf : Leaf) (dead : List Tid) (walk : Walking) → Sweeps old new leaf dead → LeavesAhead walk old new
sweep_leaves_ahead old new leaf dead walk sweeps = other_entries old new walk walk.stage sweeps.pages (λ after.
    ap (λ es. named_by old.rel.pages (wanted_by walk after es)) sweeps.entries
    ∙ chosen_filters (λ (e : Entry). item_in old.rel.pages e.tid) (is_wanted walk.value_id walk.first (walk.end - 1) after) (λ (e : Entry). not (is_swept old.index.bounds leaf dead e)) old.index.entries (λ e held taken. sweeps.gone e.tid (swept_listed old.index.bounds leaf dead e taken)))

-- a comparison looks at the pieces of chunks alone, so it is the same whoever has put and ended them
same_compared : (size end : ℕ) (span : Span) (seq : ℕ) (got : List ℕ) (xs ys : List Chunk) → map piece_in xs ≡ map piece_in ys → compared size end span seq got xs ≡ compared size end span seq got ys
same_compared size end span seq got [] [] same = refl
same_compared size end span seq got [] (y ∷ ys) same = absurd (cc)
same_compared size end span seq got (x ∷ xs) [] same = absurd (cc)
same_compared size end span seq got (x ∷ xs) (y ∷ ys) same =
    let first : piece_in x ≡ piece_in y = cc in
    ap (λ n. told n x.bytes (compared size end span (seq + 1) (got ++ part_of span seq x.bytes) xs)) (ap (λ (p : Piece). p.seq) first)
    ∙ ap (λ bytes. told y.seq bytes (compared size end span (seq + 1) (got ++ part_of span seq bytes) xs)) (ap (λ (p : Piece). p.bytes) first)
    ∙ ap (told y.seq y.bytes) (same_compared size end span (seq + 1) (got ++ part_of span seq y.bytes) xs ys (cc))
  where
    told : ℕ → List ℕ → Result (List ℕ) FetchFault → Result (List ℕ) FetchFault
    told number bytes rest = cond (not (number == seq)) (Err (UnexpectedChunk number seq)) (cond (not (length bytes == piece_size size seq)) (Err (ChunkSize (length bytes) (piece_size size seq))) rest)

pub same_comparison : (fetch : Fetching) (xs ys : List Chunk) → map piece_in xs ≡ map piece_in ys → comparison fetch xs ≡ comparison fetch ys
same_comparison fetch xs ys same = same_compared fetch.size fetch.walk.end fetch.span fetch.next fetch.got xs ys same

-- who leaves the chunks ahead leaves what a fetch comes to
pub outcome_left : (old new : Store) (fetch : Fetching) → LeavesAhead fetch.walk old new → outcome new fetch ≡ outcome old fetch
outcome_left old new fetch left = ap (comparison fetch) left

-- and so does who ends a chunk, of the fetched value too
pub end_keeps_outcome : (old new : Store) (tid : Tid) (xid : ℕ) (fetch : Fetching) → Ends old new tid xid → outcome new fetch ≡ outcome old fetch
end_keeps_outcome old new tid xid fetch ends = same_comparison fetch (named_by new.rel.pages (ahead new.index.entries fetch.walk)) (named_by old.rel.pages (ahead old.index.entries fetch.walk)) (end_leaves_pieces old new tid xid fetch.walk ends)
