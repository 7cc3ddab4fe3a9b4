-- What the steps of a fetch do to what it comes to.
use Rattle.std.proofs.Common.{◌≡◌, ℕ, true, Option, Some, None, List, refl, sym, ap, ◌∙◌, subst}
use Rattle.std.specs.Option.{option_and_then}
use Rattle.std.specs.List.{cons_option}
use Rattle.slot_page.specs.Pages.{item_in}
use Rattle.chunk_relation.specs.declared.chunk.Chunk.{Chunk}
use Rattle.chunk_index.specs.declared.entry.Entry.{Entry}
use Rattle.chunk_index.specs.Pinned.{without_pin}
use Rattle.chunk_index.specs.Indexes.{Index, IsIndex}
use Rattle.toast_store.specs.Stores.{Store, named_by}
use Rattle.toast_store.specs.Walks.{Walking, IsAsking, ahead, entry_at, is_over, walk_after, index_walked}
use Rattle.toast_store.specs.declared.fault.FetchFault.{FetchFault}
use Rattle.toast_store.specs.Fetches.{Fetching, IsFetchCause, answer_by, answer_due, comparison, fetch_after, outcome, refusal, with_chunk}
use Rattle.toast_store.proofs.Walked.{ahead_asked, ahead_taken, ended_unpinned}

-- a step that takes an entry compares the chunk that it names, if any, and goes on with the rest
outcome_taken : (store : Store) (fetch : Fetching) (e : Entry) → entry_at fetch.walk.stage ≡ Some e
    → outcome store fetch ≡ comparison fetch (cons_option (item_in store.rel.pages e.tid) (named_by store.rel.pages (ahead (Index.entries (index_walked store.index fetch.walk)) (walk_after store.index fetch.walk))))
outcome_taken store fetch e is = ap (λ es. comparison fetch (named_by store.rel.pages es)) (ahead_taken store.index fetch.walk e is)

-- so what is wrong with that chunk is what the fetch comes to
pub cause_taken : (store : Store) (opened fetch : Fetching) (e : Entry) (fault : FetchFault) → opened ≡ fetch → entry_at opened.walk.stage ≡ Some e
    → ((chunks : List Chunk) → IsFetchCause (comparison fetch (cons_option (item_in store.rel.pages e.tid) chunks)) fault) → IsFetchCause (outcome store fetch) fault
cause_taken store opened fetch e fault same is cause = rw (outcome_taken store fetch e (ap (λ (f : Fetching). entry_at f.walk.stage) (sym same) ∙ is)) (cause _)

-- and it is what this step tells, whatever else it would leave
pub due_taken : (store : Store) (opened fetch : Fetching) (e : Entry) (fault : FetchFault) → opened ≡ fetch → entry_at opened.walk.stage ≡ Some e
    → ((after : Fetching) → IsFetchCause (answer_by after (option_and_then (refusal fetch.size fetch.next) (item_in store.rel.pages e.tid))) fault) → IsFetchCause (answer_due store fetch) fault
due_taken store opened fetch e fault same is cause =
    let taken : entry_at fetch.walk.stage ≡ Some e = ap (λ (f : Fetching). entry_at f.walk.stage) (sym same) ∙ is in
    subst (λ (o : Option Entry). IsFetchCause (answer_by (fetch_after store fetch) (option_and_then (refusal fetch.size fetch.next) (option_and_then (λ f. item_in store.rel.pages f.tid) o))) fault) (sym taken) (cause (fetch_after store fetch))

pub with_chunk_walk : (fetch : Fetching) (o : Option Chunk) → Fetching.walk (with_chunk fetch o) ≡ fetch.walk
with_chunk_walk fetch None = refl
with_chunk_walk fetch (Some chunk) = refl

-- and where nothing is wrong, the fetch comes to the same with the chunk read
pub same_taken : (store later : Store) (opened fetch read : Fetching) (e : Entry) (walk : Walking) → opened ≡ fetch → entry_at opened.walk.stage ≡ Some e → read ≡ with_chunk fetch (item_in store.rel.pages e.tid)
    → ((chunks : List Chunk) → comparison (with_chunk fetch (item_in store.rel.pages e.tid)) chunks ≡ comparison fetch (cons_option (item_in store.rel.pages e.tid) chunks))
    → walk ≡ walk_after store.index read.walk → later ≡ record store { index = index_walked store.index read.walk } → outcome later (record read { walk = walk }) ≡ outcome store fetch
same_taken store later opened fetch read e walk same is reads goes walks stores =
    let walk_is : read.walk ≡ fetch.walk = ap (λ (f : Fetching). f.walk) reads ∙ with_chunk_walk fetch (item_in store.rel.pages e.tid) in
    let walked : walk ≡ walk_after store.index fetch.walk = walks ∙ ap (walk_after store.index) walk_is in
    let stored : later ≡ record store { index = index_walked store.index fetch.walk } = stores ∙ ap (λ w. record store { index = index_walked store.index w }) walk_is in
    ap (λ s. outcome s (record read { walk = walk })) stored
    ∙ ap (λ w. outcome (record store { index = index_walked store.index fetch.walk }) (record read { walk = w })) walked
    ∙ ap (λ (f : Fetching). outcome (record store { index = index_walked store.index fetch.walk }) (record f { walk = walk_after store.index fetch.walk })) reads
    ∙ ap (λ (end : ℕ). comparison (record (with_chunk fetch (item_in store.rel.pages e.tid)) { walk = record (Fetching.walk (with_chunk fetch (item_in store.rel.pages e.tid))) { end = end } }) (named_by store.rel.pages (ahead (Index.entries (index_walked store.index fetch.walk)) (walk_after store.index fetch.walk)))) (ap (λ (w : Walking). w.end) (sym (with_chunk_walk fetch (item_in store.rel.pages e.tid))))
    ∙ goes (named_by store.rel.pages (ahead (Index.entries (index_walked store.index fetch.walk)) (walk_after store.index fetch.walk)))
    ∙ sym (outcome_taken store fetch e (ap (λ (f : Fetching). entry_at f.walk.stage) (sym same) ∙ is))

-- a step that takes none changes nothing in that
pub same_asked : (store later : Store) (opened fetch : Fetching) (walk : Walking) → opened ≡ fetch → IsIndex store.index → IsAsking opened.walk.stage
    → walk ≡ walk_after store.index opened.walk → later ≡ record store { index = index_walked store.index opened.walk } → outcome later (record opened { walk = walk }) ≡ outcome store fetch
same_asked store later opened fetch walk same is asking walks stores =
    ap (λ s. outcome s (record opened { walk = walk })) stores
    ∙ ap (λ w. outcome (record store { index = index_walked store.index opened.walk }) (record opened { walk = w })) walks
    ∙ ap (λ es. comparison opened (named_by store.rel.pages es)) (ahead_asked store.index opened.walk is asking)
    ∙ ap (outcome store) same

-- with the pin dropped, the store is as before the step that has ended a walk, but for that pin
pub ended_store : (store later : Store) (fetch after : Fetching) → IsIndex store.index → after ≡ fetch_after store fetch → later ≡ record store { index = index_walked store.index fetch.walk } → is_over after.walk.stage ≡ true
    → record later { index = record later.index { pins = without_pin later.index.pins after.walk.session } } ≡ record store { index = record store.index { pins = without_pin store.index.pins fetch.walk.session } }
ended_store store later fetch after is afters stores over =
    ap (λ (s : Store). record s { index = record s.index { pins = without_pin s.index.pins after.walk.session } }) stores
    ∙ ap (λ (f : Fetching). record store { index = record (index_walked store.index fetch.walk) { pins = without_pin (Index.pins (index_walked store.index fetch.walk)) f.walk.session } }) afters
    ∙ ap (λ i. record store { index = i }) (ended_unpinned store.index fetch.walk is (ap (λ (f : Fetching). is_over f.walk.stage) (sym afters) ∙ over))
