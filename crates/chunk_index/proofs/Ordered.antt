-- Entries: when two are the same, and their order.
use Rattle.std.proofs.Common.{◌≡◌, arith}
use Rattle.std.proofs.lemmas.Bool.Decides.{nat_tests}
use Rattle.std.proofs.lemmas.Cmp.{nat_cmp_total, on_total, then_total}
use Rattle.std.specs.Cmp.{IsTotalOrder}
use Rattle.std.specs.declared.cmp.Ordering.TheVariants.{Equal}
use Rattle.slot_page.proofs.Tids.{tid_same, tid_total}
use Rattle.chunk_index.specs.declared.entry.Entry.{Entry}
use Rattle.chunk_index.specs.Entries.{entry_cmp}

-- two entries with the same fields are the same
pub entry_same : (e f : Entry) → e.value_id ≡ f.value_id → e.seq ≡ f.seq → e.tid ≡ f.tid → e ≡ f
entry_same e f p q r = λ i. record { value_id = p i; seq = q i; tid = r i }

-- two entries of which neither is less are the same
pub entry_equal : (e f : Entry) → entry_cmp e f ≡ Equal → e ≡ f
entry_equal e f equal = entry_same e f (grind (arith, nat_tests)) (grind (arith, nat_tests)) (tid_same e.tid f.tid (grind (arith, nat_tests)) (grind (arith, nat_tests)))

-- the order of entries is total
pub entry_total : IsTotalOrder entry_cmp
entry_total = then_total (on_total (λ (e : Entry). e.value_id) nat_cmp_total) (then_total (on_total (λ (e : Entry). e.seq) nat_cmp_total) (on_total (λ (e : Entry). e.tid) tid_total))
