-- What a step of a walk leaves to be taken, and that the steps left fall.
use Rattle.std.proofs.Common.{◌≡◌, ◌≢◌, ℕ, ◌<◌, ◌≤◌, ◌+◌, ◌-◌, ◌*◌, Bool, true, false, not, ◌==◌, cond, filter, nat_lt, max, Option, Some, None, List, [], ◌∷◌, ◌++◌, length, get_or, drop, refl, sym, ap, ◌∙◌, subst, arith}
use Rattle.std.specs.Prelude.{slice_get}
use Rattle.std.proofs.lemmas.Bool.{ltb-true, ltb-false, false≢true}
use Rattle.std.proofs.lemmas.Bool.Decides.{nat_tests}
use Rattle.std.proofs.lemmas.List.{drop_more, drop_all, length-append, nil_from_length}
use Rattle.std.proofs.lemmas.Option.{slice_get_within, get_or_from_slice_get, slice_get-get_or, none-some}
use Rattle.chunk_index.specs.declared.entry.Entry.{Entry}
use Rattle.chunk_index.specs.declared.entry.Batch.{Batch}
use Rattle.chunk_index.specs.declared.entry.Pin.{Pin}
use Rattle.chunk_index.specs.Pinned.{pin_of, without_pin}
use Rattle.chunk_index.specs.Indexes.{Index, IsIndex, batch_of, after_batch}
use Rattle.chunk_index.proofs.Batches.{none_left_out, entries-batch}
use Rattle.chunk_index.proofs.PinFacts.{pin_dropped, pin_of-batch, pin_of-without}
use Rattle.toast_store.specs.declared.walk.WalkStage.{WalkStage}
use Rattle.toast_store.specs.declared.walk.WalkStage.TheVariants.{Empty, Asking, Reading, Over}
use Rattle.toast_store.specs.Walks.{Walking, new_walk, IsStage, IsUnderWay, IsAsking, MayAsk, CanStep, is_over, wanted_by, ahead_at, ahead, entry_at, stage_of_batch, stage_after, walk_after, index_after, index_walked, asks_left, steps_at, steps_left}
use Rattle.toast_store.proofs.OwnLeaf.{empty_batch}

-- what a walk wants does not depend on how far it is
pub ahead_at-stage : (walk : Walking) (stage : WalkStage) (entries : List Entry) (s : WalkStage) → ahead_at (record walk { stage = stage }) entries s ≡ ahead_at walk entries s
ahead_at-stage walk stage entries Empty = refl
ahead_at-stage walk stage entries (Asking after) = refl
ahead_at-stage walk stage entries (Reading batch at) = refl
ahead_at-stage walk stage entries Over = refl

pub steps_at-stage : (walk : Walking) (stage : WalkStage) (entries : List Entry) (s : WalkStage) → steps_at (record walk { stage = stage }) entries s ≡ steps_at walk entries s
steps_at-stage walk stage entries Empty = refl
steps_at-stage walk stage entries (Asking after) = refl
steps_at-stage walk stage entries (Reading batch at) = refl
steps_at-stage walk stage entries Over = refl

-- a step of a walk leaves the entries of the index
entries_after : (index : Index) (walk : Walking) (s : WalkStage) → Index.entries (index_after index walk s) ≡ index.entries
entries_after index walk Empty = refl
entries_after index walk (Asking after) = entries-batch index walk.session (wanted_by walk after index.entries)
entries_after index walk (Reading batch at) = by_test (nat_lt (at + 1) (length batch.entries))
  where
    by_test : (b : Bool) → Index.entries (cond b index (record index { pins = without_pin index.pins walk.session })) ≡ index.entries
    by_test true = refl
    by_test false = refl
entries_after index walk Over = refl

pub entries_walked : (index : Index) (walk : Walking) → Index.entries (index_walked index walk) ≡ index.entries
entries_walked index walk = entries_after index walk walk.stage

-- a batch and what is wanted beyond it, if there is more, are what was wanted
batch_and_rest : (index : Index) (walk : Walking) (after : Option Entry) (e : Entry) (es : List Entry) → IsIndex index → batch_of index.bounds (wanted_by walk after index.entries) ≡ e ∷ es
    → wanted_by walk after index.entries ≡ (e ∷ es) ++ wanted_by walk (slice_get (e ∷ es) (length (e ∷ es) - 1)) index.entries
batch_and_rest index walk after e es is some =
    let place : length (e ∷ es) - 1 ≡ length es = omega arith in
    let last : slice_get (e ∷ es) (length (e ∷ es) - 1) ≡ Some (get_or (e ∷ es) (length es) e) = ap (slice_get (e ∷ es)) place ∙ slice_get-get_or (e ∷ es) (length es) e (omega arith) in
    let count : length (batch_of index.bounds (wanted_by walk after index.entries)) ≡ length es + 1 = ap length some ∙ omega arith in
    subst (λ (ys : List Entry). wanted_by walk after index.entries ≡ ys ++ wanted_by walk (Some (get_or ys (length es) e)) index.entries) some
    (none_left_out walk.value_id walk.first (walk.end - 1) after index.entries index.bounds (length es) e is.entries_sorted count)
    ∙ ap (λ l. (e ∷ es) ++ wanted_by walk l index.entries) (sym last)

-- with no more than the batch there is nothing beyond it
no_rest : (xs ys zs : List Entry) → zs ≡ xs ++ ys → length zs ≤ length xs → ys ≡ []
no_rest xs ys zs is at_most = nil_from_length ys (omega (arith, ap length is, length-append xs ys, at_most))

-- asking for a batch leaves what is to be taken
ahead_batch : (index : Index) (walk : Walking) (after : Option Entry) → IsIndex index → ahead_at walk index.entries (stage_after index walk (Asking after)) ≡ wanted_by walk after index.entries
ahead_batch index walk after is = by_batch (batch_of index.bounds wanted) refl
  where
    wanted : List Entry
    wanted = wanted_by walk after index.entries

    by_batch : (batch : List Entry) → batch_of index.bounds (wanted_by walk after index.entries) ≡ batch → ahead_at walk index.entries (stage_of_batch (wanted_by walk after index.entries) batch) ≡ wanted_by walk after index.entries
    by_batch [] none = sym (empty_batch index.bounds (wanted_by walk after index.entries) is.bounds_sorted none)
    by_batch (e ∷ es) some = by_more (nat_lt (length (e ∷ es)) (length (wanted_by walk after index.entries))) refl
      where
        rest : List Entry
        rest = wanted_by walk (slice_get (e ∷ es) (length (e ∷ es) - 1)) index.entries

        whole : wanted_by walk after index.entries ≡ (e ∷ es) ++ wanted_by walk (slice_get (e ∷ es) (length (e ∷ es) - 1)) index.entries
        whole = batch_and_rest index walk after e es is some

        by_more : (b : Bool) → nat_lt (length (e ∷ es)) (length (wanted_by walk after index.entries)) ≡ b → (e ∷ es) ++ cond b (wanted_by walk (slice_get (e ∷ es) (length (e ∷ es) - 1)) index.entries) [] ≡ wanted_by walk after index.entries
        by_more true more = sym whole
        by_more false no_more = ap (λ ys. (e ∷ es) ++ ys) (sym (no_rest (e ∷ es) rest (wanted_by walk after index.entries) whole (ltb-false (length (e ∷ es)) (length (wanted_by walk after index.entries)) no_more))) ∙ sym whole

-- going on after an entry leaves all but that
ahead_pass : (index : Index) (walk : Walking) (entries : List Entry) (batch : Batch) (at : ℕ) (e : Entry) → slice_get batch.entries at ≡ Some e → ahead_at walk entries (Reading batch at) ≡ e ∷ ahead_at walk entries (stage_after index walk (Reading batch at))
ahead_pass index walk entries batch at e is =
    ap (λ ys. ys ++ rest batch.more) (drop_more batch.entries at e (slice_get_within batch.entries at e is) ∙ ap (λ x. x ∷ drop (at + 1) batch.entries) (get_or_from_slice_get batch.entries at e e is))
    ∙ by_test (nat_lt (at + 1) (length batch.entries)) refl
  where
    rest : Bool → List Entry
    rest b = cond b (wanted_by walk (slice_get batch.entries (length batch.entries - 1)) entries) []

    by_more : (b : Bool) → length batch.entries - 1 ≡ at → cond b (wanted_by walk (slice_get batch.entries (length batch.entries - 1)) entries) [] ≡ ahead_at walk entries (cond b (Asking (slice_get batch.entries at)) Over)
    by_more true last = ap (λ i. wanted_by walk (slice_get batch.entries i) entries) last
    by_more false last = refl

    by_test : (b : Bool) → nat_lt (at + 1) (length batch.entries) ≡ b → (e ∷ drop (at + 1) batch.entries) ++ rest batch.more ≡ e ∷ ahead_at walk entries (cond b (Reading batch (at + 1)) (cond batch.more (Asking (slice_get batch.entries at)) Over))
    by_test true more = refl
    by_test false last =
        let at_end : length batch.entries ≤ at + 1 = ltb-false (at + 1) (length batch.entries) last in
        let place : length batch.entries - 1 ≡ at = omega (arith, at_end, slice_get_within batch.entries at e is) in
        ap (λ ys. (e ∷ ys) ++ rest batch.more) (drop_all (at + 1) batch.entries at_end) ∙ ap (λ ys. e ∷ ys) (by_more batch.more place)

-- so a step that takes no entry leaves what is to be taken
pub ahead_asked : (index : Index) (walk : Walking) → IsIndex index → IsAsking walk.stage → ahead (Index.entries (index_walked index walk)) (walk_after index walk) ≡ ahead index.entries walk
ahead_asked index walk is asking =
    ap (λ entries. ahead entries (walk_after index walk)) (entries_walked index walk)
    ∙ ahead_at-stage walk (stage_after index walk walk.stage) index.entries (stage_after index walk walk.stage)
    ∙ by_stage walk.stage asking
  where
    by_stage : (s : WalkStage) → IsAsking s → ahead_at walk index.entries (stage_after index walk s) ≡ ahead_at walk index.entries s
    by_stage Empty a = refl
    by_stage (Asking after) a = ahead_batch index walk after is
    by_stage (Reading batch at) a = absurd a
    by_stage Over a = absurd a

-- and one that takes an entry leaves all but that
pub ahead_taken : (index : Index) (walk : Walking) (e : Entry) → entry_at walk.stage ≡ Some e → ahead index.entries walk ≡ e ∷ ahead (Index.entries (index_walked index walk)) (walk_after index walk)
ahead_taken index walk e is =
    by_stage walk.stage is
    ∙ ap (λ ys. e ∷ ys) (sym (ap (λ entries. ahead entries (walk_after index walk)) (entries_walked index walk) ∙ ahead_at-stage walk (stage_after index walk walk.stage) index.entries (stage_after index walk walk.stage)))
  where
    by_stage : (s : WalkStage) → entry_at s ≡ Some e → ahead_at walk index.entries s ≡ e ∷ ahead_at walk index.entries (stage_after index walk s)
    by_stage Empty none = absurd (none-some e none)
    by_stage (Asking after) none = absurd (none-some e none)
    by_stage (Reading batch at) some = ahead_pass index walk index.entries batch at e some
    by_stage Over none = absurd (none-some e none)

-- with a batch the steps left fall
falls_batch : (index : Index) (walk : Walking) (after : Option Entry) → IsIndex index → steps_at walk index.entries (stage_after index walk (Asking after)) < steps_at walk index.entries (Asking after)
falls_batch index walk after is = by_batch (batch_of index.bounds (wanted_by walk after index.entries)) refl
  where
    by_batch : (batch : List Entry) → batch_of index.bounds (wanted_by walk after index.entries) ≡ batch → steps_at walk index.entries (stage_of_batch (wanted_by walk after index.entries) batch) < max 1 (2 * length (wanted_by walk after index.entries))
    by_batch [] none = omega arith
    by_batch (e ∷ es) some = by_more (nat_lt (length (e ∷ es)) (length (wanted_by walk after index.entries))) refl
      where
        count : length (wanted_by walk after index.entries) ≡ length (e ∷ es) + length (wanted_by walk (slice_get (e ∷ es) (length (e ∷ es) - 1)) index.entries)
        count = ap length (batch_and_rest index walk after e es is some) ∙ length-append (e ∷ es) (wanted_by walk (slice_get (e ∷ es) (length (e ∷ es) - 1)) index.entries)

        by_more : (b : Bool) → nat_lt (length (e ∷ es)) (length (wanted_by walk after index.entries)) ≡ b
            → length (e ∷ es) - 0 + cond b (asks_left (wanted_by walk (slice_get (e ∷ es) (length (e ∷ es) - 1)) index.entries)) 0 < max 1 (2 * length (wanted_by walk after index.entries))
        by_more true more = omega (arith, count, ltb-true (length (e ∷ es)) (length (wanted_by walk after index.entries)) more)
        by_more false no_more = omega (arith, count)

-- and with an entry taken
falls_pass : (index : Index) (walk : Walking) (entries : List Entry) (batch : Batch) (at : ℕ) → at < length batch.entries → steps_at walk entries (stage_after index walk (Reading batch at)) < steps_at walk entries (Reading batch at)
falls_pass index walk entries batch at within = by_test (nat_lt (at + 1) (length batch.entries)) refl
  where
    rest : Bool → ℕ
    rest b = cond b (asks_left (wanted_by walk (slice_get batch.entries (length batch.entries - 1)) entries)) 0

    by_more : (b : Bool) → length batch.entries - 1 ≡ at → steps_at walk entries (cond b (Asking (slice_get batch.entries at)) Over) ≡ cond b (asks_left (wanted_by walk (slice_get batch.entries (length batch.entries - 1)) entries)) 0
    by_more true last = ap (λ i. asks_left (wanted_by walk (slice_get batch.entries i) entries)) (sym last)
    by_more false last = refl

    by_test : (b : Bool) → nat_lt (at + 1) (length batch.entries) ≡ b → steps_at walk entries (cond b (Reading batch (at + 1)) (cond batch.more (Asking (slice_get batch.entries at)) Over)) < length batch.entries - at + rest batch.more
    by_test true more = omega (arith, ltb-true (at + 1) (length batch.entries) more)
    by_test false last =
        let at_end : length batch.entries ≤ at + 1 = ltb-false (at + 1) (length batch.entries) last in
        omega (arith, at_end, by_more batch.more (omega arith))

-- a step takes one of the steps that are left, at least
pub steps_fall : (index : Index) (walk : Walking) → IsIndex index → IsStage walk.first walk.end walk.stage → IsUnderWay walk.stage → steps_left (Index.entries (index_walked index walk)) (walk_after index walk) < steps_left index.entries walk
steps_fall index walk is stage under_way =
    subst (λ (n : ℕ). n < steps_left index.entries walk) (sym (ap (λ entries. steps_left entries (walk_after index walk)) (entries_walked index walk) ∙ steps_at-stage walk (stage_after index walk walk.stage) index.entries (stage_after index walk walk.stage)))
    (by_stage walk.stage stage under_way)
  where
    by_stage : (s : WalkStage) → IsStage walk.first walk.end s → IsUnderWay s → steps_at walk index.entries (stage_after index walk s) < steps_at walk index.entries s
    by_stage Empty of_walk u = omega arith
    by_stage (Asking after) of_walk u = falls_batch index walk after is
    by_stage (Reading batch at) of_walk u = falls_pass index walk index.entries batch at of_walk.1
    by_stage Over of_walk u = absurd u

-- and where a walk has not ended, some are left
pub steps_remain : (walk : Walking) (entries : List Entry) → IsStage walk.first walk.end walk.stage → is_over walk.stage ≡ false → 0 < steps_left entries walk
steps_remain walk entries stage not_over = by_stage walk.stage stage not_over
  where
    by_stage : (s : WalkStage) → IsStage walk.first walk.end s → is_over s ≡ false → 0 < steps_at walk entries s
    by_stage Empty of_walk n = omega arith
    by_stage (Asking after) of_walk n = omega arith
    by_stage (Reading batch at) of_walk n = omega (arith, of_walk.1)
    by_stage Over of_walk n = absurd (false≢true (sym n))

-- a walk that is over stands at its end
pub over_is : (s : WalkStage) → is_over s ≡ true → s ≡ Over
over_is Empty h = absurd (false≢true h)
over_is (Asking after) h = absurd (false≢true h)
over_is (Reading batch at) h = absurd (false≢true h)
over_is Over h = refl

-- a walk that has not ended may make its next step: it asks again only after it has dropped its pin
pub can_step : (index : Index) (walk : Walking) → is_over (stage_after index walk walk.stage) ≡ false → CanStep (index_walked index walk) (walk_after index walk)
can_step index walk not_over = by_stage walk.stage not_over
  where
    Ready : WalkStage → WalkStage → Type 0
    Ready s next = IsUnderWay next × MayAsk (index_after index walk s) walk.session next

    clash : {X : Type 0} → true ≡ false → X
    clash e = absurd (false≢true (sym e))

    by_batch : (after : Option Entry) (wanted batch : List Entry) → is_over (stage_of_batch wanted batch) ≡ false → Ready (Asking after) (stage_of_batch wanted batch)
    by_batch after wanted [] n = clash n
    by_batch after wanted (e ∷ es) n = (tt, tt)

    by_more : (batch : Batch) (at : ℕ) (b : Bool) → is_over (cond b (Asking (slice_get batch.entries at)) Over) ≡ false
        → IsUnderWay (cond b (Asking (slice_get batch.entries at)) Over) × MayAsk (record index { pins = without_pin index.pins walk.session }) walk.session (cond b (Asking (slice_get batch.entries at)) Over)
    by_more batch at true n = (tt, pin_dropped index.pins walk.session)
    by_more batch at false n = clash n

    by_test : (batch : Batch) (at : ℕ) (b : Bool) → is_over (cond b (Reading batch (at + 1)) (cond batch.more (Asking (slice_get batch.entries at)) Over)) ≡ false
        → IsUnderWay (cond b (Reading batch (at + 1)) (cond batch.more (Asking (slice_get batch.entries at)) Over)) × MayAsk (cond b index (record index { pins = without_pin index.pins walk.session })) walk.session (cond b (Reading batch (at + 1)) (cond batch.more (Asking (slice_get batch.entries at)) Over))
    by_test batch at true n = (tt, tt)
    by_test batch at false n = by_more batch at batch.more n

    by_stage : (s : WalkStage) → is_over (stage_after index walk s) ≡ false → Ready s (stage_after index walk s)
    by_stage Empty n = clash n
    by_stage (Asking after) n = by_batch after (wanted_by walk after index.entries) (batch_of index.bounds (wanted_by walk after index.entries)) n
    by_stage (Reading batch at) n = by_test batch at (nat_lt (at + 1) (length batch.entries)) n
    by_stage Over n = clash n

-- the same of a walk and an index under other names
pub steps_taken : (index later : Index) (before opened passed walk : Walking) → opened ≡ before → passed ≡ before → IsIndex index → IsStage opened.first opened.end opened.stage → IsUnderWay before.stage
    → walk ≡ walk_after index passed → later ≡ index_walked index passed → steps_left later.entries walk < steps_left index.entries before
steps_taken index later before opened passed walk same read is stage under_way walks stores =
    let fall = steps_fall index before is (subst (λ (w : Walking). IsStage w.first w.end w.stage) same stage) under_way in
    rw (walks, stores, read) fall

pub stepped_ready : (index later : Index) (before walk : Walking) → walk ≡ walk_after index before → later ≡ index_walked index before → is_over walk.stage ≡ false → CanStep later walk
stepped_ready index later before walk walks stores not_over = rw (stores, walks) (can_step index before (rw walks at not_over))

-- a pin that is dropped twice is dropped
kept_twice : {X : Type 0} (p : X → Bool) (xs : List X) → filter p (filter p xs) ≡ filter p xs
kept_twice p [] = refl
kept_twice p (x ∷ xs) = by_test (p x) refl (kept_twice p xs)
  where
    by_test : (b : Bool) → p x ≡ b → filter p (filter p xs) ≡ filter p xs → filter p (cond b (x ∷ filter p xs) (filter p xs)) ≡ cond b (x ∷ filter p xs) (filter p xs)
    by_test true passes rest = ap (λ b. cond b (x ∷ filter p (filter p xs)) (filter p (filter p xs))) passes ∙ ap (λ ys. x ∷ ys) rest
    by_test false fails rest = rest

without_twice : (pins : List Pin) (session : ℕ) → without_pin (without_pin pins session) session ≡ without_pin pins session
without_twice pins session = kept_twice (λ p. not (p.session == session)) pins

-- a walk that has just ended leaves no pin but those of others
pub ended_unpinned : (index : Index) (walk : Walking) → IsIndex index → is_over (stage_after index walk walk.stage) ≡ true
    → record (index_walked index walk) { pins = without_pin (Index.pins (index_walked index walk)) walk.session } ≡ record index { pins = without_pin index.pins walk.session }
ended_unpinned index walk is over = by_stage walk.stage over
  where
    dropped : Index → Index
    dropped i = record i { pins = without_pin i.pins walk.session }

    clash : {X : Type 0} → false ≡ true → X
    clash e = absurd (false≢true e)

    by_batch : (wanted batch : List Entry) → (batch ≡ [] → wanted ≡ []) → is_over (stage_of_batch wanted batch) ≡ true → dropped (after_batch index walk.session wanted) ≡ dropped index
    by_batch wanted [] none o = ap (λ (es : List Entry). dropped (after_batch index walk.session es)) (none refl)
    by_batch wanted (e ∷ es) none o = clash o

    by_test : (batch : Batch) (at : ℕ) (b : Bool) → is_over (cond b (Reading batch (at + 1)) (cond batch.more (Asking (slice_get batch.entries at)) Over)) ≡ true → dropped (cond b index (dropped index)) ≡ dropped index
    by_test batch at true o = clash o
    by_test batch at false o = ap (λ pins. record index { pins = pins }) (without_twice index.pins walk.session)

    by_stage : (s : WalkStage) → is_over (stage_after index walk s) ≡ true → dropped (index_after index walk s) ≡ dropped index
    by_stage Empty o = refl
    by_stage (Asking after) o = by_batch (wanted_by walk after index.entries) (batch_of index.bounds (wanted_by walk after index.entries)) (empty_batch index.bounds (wanted_by walk after index.entries) is.bounds_sorted) o
    by_stage (Reading batch at) o = by_test batch at (nat_lt (at + 1) (length batch.entries)) o
    by_stage Over o = refl

-- a walk that has not begun may make its first step, where its session has no pin
pub begun : (index : Index) (walk : Walking) (value_id first end session : ℕ) → walk ≡ new_walk value_id first end session → pin_of index.pins session ≡ None → CanStep index walk
begun index walk value_id first end session is free = subst (CanStep index) (sym is) (by_test (nat_lt first end))
  where
    by_test : (b : Bool) → IsUnderWay (cond b (Asking None) Empty) × MayAsk index session (cond b (Asking None) Empty)
    by_test true = (tt, free)
    by_test false = (tt, tt)

-- whether a walk may go on is told by the pin of its session
pub can_still : (old new : Index) (walk : Walking) → pin_of new.pins walk.session ≡ pin_of old.pins walk.session → CanStep old walk → CanStep new walk
can_still old new walk same can = (can.0, by_stage walk.stage can.1)
  where
    by_stage : (s : WalkStage) → MayAsk old walk.session s → MayAsk new walk.session s
    by_stage Empty may = tt
    by_stage (Asking after) may = same ∙ may
    by_stage (Reading batch at) may = tt
    by_stage Over may = tt

-- so it may where another session asks for a batch
pub batch_leaves_step : (index : Index) (session : ℕ) (wanted : List Entry) (walk : Walking) → pin_of index.pins session ≡ None → walk.session ≢ session → CanStep index walk → CanStep (after_batch index session wanted) walk
batch_leaves_step index session wanted walk free other can = can_still index (after_batch index session wanted) walk (pin_of-batch index session wanted walk.session free other) can

-- and where another drops its pin
pub unpin_leaves_step : (index : Index) (session : ℕ) (walk : Walking) → walk.session ≢ session → CanStep index walk → CanStep (record index { pins = without_pin index.pins session }) walk
unpin_leaves_step index session walk other can = can_still index (record index { pins = without_pin index.pins session }) walk (pin_of-without index.pins session walk.session ∙ grind (arith, nat_tests, other)) can
