-- Both targets keep what the machine needs of them.
use Rattle.std.proofs.Common.{ℕ, ◌≡◌, ◌≤◌, inl, inr, Bool, true, false, cond, suc, Option, Some, None, List, [], ◌∷◌, length, map, slice_set, count_by, refl, sym, ap, ◌∙◌, subst, arith}
use Rattle.std.specs.Option.{option_map_or}
use Rattle.std.proofs.lemmas.Bool.{cases_lt}
use Rattle.std.proofs.lemmas.List.{get_or-set_same, get_or_past}
use Rattle.std.proofs.lemmas.List.Sums.{sum_by-cons}
use Rattle.slot_page.specs.declared.line.Tid.{Tid}
use Rattle.slot_page.specs.declared.line.LinePointer.{LinePointer}
use Rattle.slot_page.specs.declared.line.LinePointer.TheVariants.{Dead, Unused}
use Rattle.slot_page.specs.Slots.{IsDead}
use Rattle.slot_page.specs.Pages.{page_at}
use Rattle.slot_page.specs.DeadSlots.{dead_tids, is_dead_line, tids_where}
use Rattle.slot_page.proofs.Pages.{written_elsewhere}
use Rattle.chunk_relation.specs.Chunks.{is_newly_dead}
use Rattle.chunk_index.specs.declared.entry.Entry.{Entry}
use Rattle.chunk_index.specs.declared.entry.Swept.TheVariants.{Next, End, Pinned}
use Rattle.chunk_index.specs.Leaves.{Leaf, leaf_at, next_bound}
use Rattle.chunk_index.specs.Pinned.{holder_of}
use Rattle.chunk_index.specs.Indexes.{after_sweep, is_swept, sweep_answer, swept_index}
use Rattle.toast_store.specs.Stores.{Store}
use Rattle.row_versions.specs.Versions as versions
use Rattle.toast_vacuum.specs.Ops.{AreLawful}
use Rattle.toast_vacuum.specs.Targets.{row_ops, toast_ops}

-- of slots that begin at a place, as many as pass a test are dead once each that passes is made so
module _ {T : Type 0} (newly : LinePointer T → Bool) (page : ℕ) where
  newly_listed : (slot : ℕ) (lines : List (LinePointer T)) → count_by newly lines ≤ length (tids_where is_dead_line page slot (map (λ line. cond (newly line) Dead line) lines))
  newly_listed slot [] = omega arith
  newly_listed slot (line ∷ lines) = by_tests (newly line) (is_dead_line line) refl refl (newly_listed (suc slot) lines)
    where
      rest : List Tid
      rest = tids_where is_dead_line page (suc slot) (map (λ l. cond (newly l) Dead l) lines)

      counted : (b : Bool) → newly line ≡ b → length (cond (is_dead_line (cond (newly line) Dead line)) (record { page = page; slot = slot } ∷ rest) rest) ≡ length (cond (is_dead_line (cond b Dead line)) (record { page = page; slot = slot } ∷ rest) rest)
      counted b is = ap (λ a. length (cond (is_dead_line (cond a Dead line)) (record { page = page; slot = slot } ∷ rest) rest)) is

      by_tests : (b d : Bool) → newly line ≡ b → is_dead_line line ≡ d → count_by newly lines ≤ length rest → count_by newly (line ∷ lines) ≤ length (cond (is_dead_line (cond (newly line) Dead line)) (record { page = page; slot = slot } ∷ rest) rest)
      by_tests true d passes dead more = omega (arith, more, sum_by-cons (λ l. cond (newly l) 1 0) line lines, ap {B = ℕ} (λ b. cond b 1 0) passes, counted true passes)
      by_tests false true fails dead more = omega (arith, more, sum_by-cons (λ l. cond (newly l) 1 0) line lines, ap {B = ℕ} (λ b. cond b 1 0) fails, counted false fails, ap (λ b. length (cond b (record { page = page; slot = slot } ∷ rest) rest)) dead)
      by_tests false false fails alive more = omega (arith, more, sum_by-cons (λ l. cond (newly l) 1 0) line lines, ap {B = ℕ} (λ b. cond b 1 0) fails, counted false fails, ap (λ b. length (cond b (record { page = page; slot = slot } ∷ rest) rest)) alive)

  newly_in : (pages : List (List (LinePointer T))) → count_by newly (page_at pages page) ≤ length (dead_tids page (page_at (slice_set pages page (map (λ line. cond (newly line) Dead line) (page_at pages page))) page))
  newly_in pages = elim (cases_lt page (length pages)) [
    | inl there ↦ rw (get_or-set_same pages page (map (λ line. cond (newly line) Dead line) (page_at pages page)) [] there) (newly_listed 0 (page_at pages page))
    | inr past ↦ rw (get_or_past pages page [] past) (omega arith)
  ]

-- a leaf that is pinned stays
pinned_leaf : (s : Store) (leaf : Leaf) (dead : List Tid) (holder : ℕ) (o : Option ℕ) → holder_of s.index.pins leaf ≡ o → sweep_answer s.index leaf dead ≡ Pinned holder → record s { index = after_sweep s.index leaf dead } ≡ s
pinned_leaf s leaf dead holder (Some other) is answer = ap (λ o. record s { index = option_map_or (λ h. s.index) o (swept_index s.index leaf dead) }) is
pinned_leaf s leaf dead holder None is answer = absurd (unpinned (next_bound s.index.bounds leaf) (sym (ap (λ o. option_map_or (λ h. Pinned h) o (option_map_or (λ from. Next from (count_by (is_swept s.index.bounds leaf dead) s.index.entries)) (next_bound s.index.bounds leaf) (End (count_by (is_swept s.index.bounds leaf dead) s.index.entries)))) is) ∙ answer))
  where
    unpinned : (next : Option Entry) → option_map_or (λ from. Next from (count_by (is_swept s.index.bounds leaf dead) s.index.entries)) next (End (count_by (is_swept s.index.bounds leaf dead) s.index.entries)) ≡ Pinned holder → ⊥
    unpinned None e = cc
    unpinned (Some next) e = cc

pub toast_lawful : AreLawful toast_ops
toast_lawful = record {
  dead_stays = λ s t u other dead. subst IsDead (sym (written_elsewhere s.rel.pages t u Unused other)) dead;
  free_stays = λ s t u free. free;
  pinned_stays = λ s from dead holder is. pinned_leaf s (leaf_at s.index.bounds from) dead holder (holder_of s.index.pins (leaf_at s.index.bounds from)) refl is;
  newly_gathered = λ xacts horizon s page. newly_in (is_newly_dead xacts horizon) page s.rel.pages;
}

pub rows_lawful : AreLawful row_ops
rows_lawful = record {
  dead_stays = λ s t u other dead. subst IsDead (sym (written_elsewhere s.pages t u Unused other)) dead;
  free_stays = λ s t u free. free;
  pinned_stays = λ s from dead holder is. absurd (cc);
  newly_gathered = λ xacts horizon s page. newly_in (versions.is_newly_dead xacts horizon) page s.pages;
}
