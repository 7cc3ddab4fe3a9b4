use Rattle.std.proofs.Common.{None, Contains, refl, ap, ◌∙◌, subst}
use Rattle.chunk_index.specs.Entries.{wanted_of}
use Rattle.chunk_index.specs.Indexes.{Index}
use Rattle.chunk_index.proofs.PinFacts.{pin_dropped}
use Rattle.chunk_index.proofs.Batches.{unwanted_absent, nothing_wanted, entries-batch}
use Rattle.store_trials.proofs.indexes.add.Goals as goal

pub batch-requires : goal.batch-requires
batch-requires c = rw c.unpin.ensures.dropped (pin_dropped c.args.index.now.pins 0)

pub insert-requires : goal.insert-requires
insert-requires c =
    let entry = c.args.entry in
    let before = c.unpin.new.self in
    let wanted = wanted_of entry.value_id entry.seq entry.seq None before.entries in
    let none = nothing_wanted c.in_ok-batch.batch.entries wanted c.in_ok-batch.batch.more (c.if-not-is_empty.ensures.0 refl) c.in_ok-batch.ensures.more c.if-batch.false in
    λ held. unwanted_absent before.entries entry none (subst (λ es. Contains es entry) (ap (λ (index : Index). index.entries) c.in_ok-batch.ensures.pinned ∙ entries-batch before 0 wanted) held)
