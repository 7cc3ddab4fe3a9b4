-- A sweep, place by place.
use Rattle.std.proofs.Common.{◌≡◌, ◌≢◌, ◌⊎◌, inl, inr, ℕ, ◌+◌, ◌-◌, ◌/◌, ◌<◌, ◌≤◌, List, [], length, set, replicate, Some, None, refl, sym, ap, ◌∙◌, subst, arith, length-set}
use mathlib.Core.Option.{some}
use mathlib.Core.Logic.{dite}
use native.Mathlib.Decide.{ℕ_discrete}
use lib.ListN.{get_elem?}
use Rattle.cell_arena.specs.Cells.{IsGivenBack, busy_blocks, used}
use Rattle.cell_arena.specs.Entries.{HasBlocks, IsOpen, blocks_here, cells_here, cells_of, free_here, total}
use Rattle.cell_arena.specs.Sweeps.{AreBusy, AreSwept}
use Rattle.cell_arena.specs.declared.entry.Entry.{Entry}
use Rattle.cell_arena.specs.declared.entry.Swept.{Swept}
use Rattle.cell_arena.proofs.Lists.{get_below, same_at, set_else, set_here, set_there}
use Rattle.cell_arena.proofs.UsedCells.{used_length, used_none}
use Rattle.cell_arena.proofs.Entries.{Cells, busy_all, cells_same, total_set}
use Rattle.cell_arena.proofs.Links.{link, skip}
use Rattle.cell_arena.proofs.Sums.{whole_set}

-- before the first place
pub sweep_none : (old : List Entry) (keep : ℕ) (s : Swept) → HasBlocks old → s.spare ≡ total free_here old → AreSwept old keep 0 s old
sweep_none old keep s w is = record {
  size = refl;
  whole = w;
  linked = record {
    places = [];
    follows = tt;
    apart = tt;
    below = λ k i q. absurd (none_there i k q);
    all = λ i e q b o. absurd (omega (arith, b));
  };
  cells = refl;
  spare_is = is;
  fewer = omega arith;
  gone = refl;
  kept = inl is;
  until = inr (λ i e q b. absurd (omega (arith, b)));
}
  where
    none_there : (i k : ℕ) → get_elem? [] k ≡ some i → ⊥
    none_there i k q = absurd (omega (arith, get_below [] k i q))

busy_set : (old : List Entry) (n : ℕ) (e d : Entry) → get_elem? old n ≡ some e → AreBusy old n → (blocks_here d.block ≡ 1 → 0 < used (cells_here d.block)) → AreBusy (set old n d) (n + 1)
busy_set old n e d there busy here i c q b one =
    dite (ℕ_discrete i n)
    (λ (same : i ≡ n).
    let is : d ≡ c = set_there old n d c (ap (get_elem? (set old n d)) (sym same) ∙ q) in
    subst (λ (x : Entry). 0 < used (cells_here x.block)) is (here (ap (λ (x : Entry). blocks_here x.block) is ∙ one)))
    (λ ne. busy i c (sym (set_else old n i d ne) ∙ q) (omega (arith, b, ne)) one)

-- a block with 64 free cells holds nothing
all_free : (b : Cells) → length (cells_here b) ≡ 64 → free_here b ≡ 64 → (cells_here b ≡ replicate 64 []) × (blocks_here b ≡ 1)
all_free None size f = absurd (omega (arith, f))
all_free (Some c) size f = let l = used_length c in (used_none c (omega (arith, f, l, size)) ∙ ap (λ (n : ℕ). replicate n []) size, refl)

-- one with fewer holds bytes
some_used : (b : Cells) → length (cells_here b) ≡ 64 → free_here b ≢ 64 → blocks_here b ≡ 1 → 0 < used (cells_here b)
some_used None size f one = absurd (omega (arith, one))
some_used (Some c) size f one = dite (ℕ_discrete (used c) 0) (λ z. absurd (f (let e : used c ≡ 0 = z in omega (arith, e)))) (λ ne. omega (arith, ne))

pub sweep_given : (old : List Entry) (keep n : ℕ) (s : Swept) (entries : List Entry) (e d : Entry) → AreSwept old keep n s entries → get_elem? entries n ≡ some e → d.block ≡ None
    → free_here e.block ≡ 64 → 64 ≤ s.spare → keep ≤ s.spare - 64
    → AreSwept old keep (n + 1) (record { first = s.first; spare = s.spare - 64 }) (set entries n d)
sweep_given old keep n s entries e d a there gone all enough left =
    let size = a.whole n e there in
    let none = all_free e.block size all in
    let frees = total_set free_here entries n e d there in
    let blocks = total_set blocks_here entries n e d there in
    let free_d = ap free_here gone in
    let blocks_d = ap blocks_here gone in
    let one = none.1 in
    let is = a.spare_is in
    let fewer = a.fewer in
    let was = a.gone in
    record {
      size = length-set entries n d ∙ a.size;
      whole = whole_set entries a.whole n d (ap (λ (x : Cells). length (cells_here x)) gone);
      linked = skip entries (set entries n d) n s.first a.linked (λ j ne. set_else entries n j d ne)
          (λ c q o. let z = ap (λ (x : Entry). free_here x.block) (set_there entries n d c q) in omega (arith, o, z, free_d));
      cells = cells_same entries n e d there (ap cells_here gone ∙ sym none.0) ∙ a.cells;
      spare_is = omega (arith, frees, free_d, all, is, enough);
      fewer = omega (arith, blocks, blocks_d, one, fewer);
      gone = omega (arith, frees, blocks, free_d, blocks_d, all, one, was);
      kept = inr left;
      until = busy a.until;
    }
  where
    busy : ((s.spare < keep + 64) ⊎ AreBusy entries n) → (s.spare - 64 < keep + 64) ⊎ AreBusy (set entries n d) (n + 1)
    busy (inl l) = inl (omega (arith, l))
    busy (inr b) = inr (busy_set entries n e d there b (λ one. let z = ap blocks_here gone in absurd (omega (arith, one, z))))

until_more : (keep n : ℕ) (s : Swept) (entries : List Entry) (e d : Entry) → HasBlocks entries → get_elem? entries n ≡ some e → d.block ≡ e.block
    → ((free_here e.block ≢ 64) ⊎ (s.spare < keep + 64))
    → ((s.spare < keep + 64) ⊎ AreBusy entries n) → (s.spare < keep + 64) ⊎ AreBusy (set entries n d) (n + 1)
until_more keep n s entries e d w there same (inr l) u = inl l
until_more keep n s entries e d w there same (inl f) (inl l) = inl l
until_more keep n s entries e d w there same (inl f) (inr b) =
    inr (busy_set entries n e d there b (λ one. subst (λ (x : Cells). 0 < used (cells_here x)) (sym same) (some_used e.block (w n e there) f (sym (ap blocks_here same) ∙ one))))

pub sweep_linked : (old : List Entry) (keep n : ℕ) (s : Swept) (entries : List Entry) (e d : Entry) → AreSwept old keep n s entries → get_elem? entries n ≡ some e → d.block ≡ e.block → d.next ≡ s.first
    → IsOpen e.block → ((free_here e.block ≢ 64) ⊎ (s.spare < keep + 64))
    → AreSwept old keep (n + 1) (record { first = n; spare = s.spare }) (set entries n d)
sweep_linked old keep n s entries e d a there same next opened stays =
    let size = a.whole n e there in
    let frees = total_set free_here entries n e d there in
    let blocks = total_set blocks_here entries n e d there in
    let free_d = ap free_here same in
    let blocks_d = ap blocks_here same in
    let is = a.spare_is in
    let fewer = a.fewer in
    let was = a.gone in
    record {
      size = length-set entries n d ∙ a.size;
      whole = whole_set entries a.whole n d (ap (λ (x : Cells). length (cells_here x)) same ∙ size);
      linked = link entries (set entries n d) n (n + 1) s.first n a.linked d
          (λ m. let b = a.linked.below m.0 n m.1 in omega (arith, b))
          (λ j ne. set_else entries n j d ne)
          (set_here entries n d (get_below entries n e there)) next (subst (λ (x : Cells). IsOpen x) (sym same) opened) (omega arith) (omega arith) (λ j b ne. omega (arith, b, ne));
      cells = cells_same entries n e d there (ap cells_here same) ∙ a.cells;
      spare_is = omega (arith, frees, free_d, is);
      fewer = omega (arith, blocks, blocks_d, fewer);
      gone = omega (arith, frees, blocks, free_d, blocks_d, was);
      kept = a.kept;
      until = until_more keep n s entries e d a.whole there same stays a.until;
    }

pub sweep_kept : (old : List Entry) (keep n : ℕ) (s : Swept) (entries : List Entry) (e : Entry) → AreSwept old keep n s entries → get_elem? entries n ≡ some e → free_here e.block ≡ 0
    → AreSwept old keep (n + 1) s entries
sweep_kept old keep n s entries e a there none = record {
  size = a.size;
  whole = a.whole;
  linked = skip entries entries n s.first a.linked (λ j ne. refl) (λ c q o. let z = ap (λ (x : Entry). free_here x.block) (same_at entries n c e q there) in omega (arith, o, z, none));
  cells = a.cells;
  spare_is = a.spare_is;
  fewer = a.fewer;
  gone = a.gone;
  kept = a.kept;
  until = more a.until;
}
  where
    more : ((s.spare < keep + 64) ⊎ AreBusy entries n) → (s.spare < keep + 64) ⊎ AreBusy entries (n + 1)
    more (inl l) = inl l
    more (inr b) = inr (λ i c q under one. dite (ℕ_discrete i n)
        (λ (same : i ≡ n). let is : c ≡ e = same_at entries n c e (ap (get_elem? entries) (sym same) ∙ q) there in
        some_used c.block (a.whole i c q) (λ z. let y = ap (λ (x : Entry). free_here x.block) is in omega (arith, z, y, none)) one)
        (λ ne. b i c q (omega (arith, under, ne)) one))

-- the whole sweep, as the arena's callers see it
pub given_back : (old new : List Entry) (keep spare blocks : ℕ) (s : Swept) → spare ≡ total free_here old → blocks ≡ total blocks_here old → AreSwept old keep (length old) s new
    → IsGivenBack (record { cells = cells_of old; spare = spare; blocks = blocks }) keep ((spare - s.spare) / 64) (record { cells = cells_of new; spare = s.spare; blocks = blocks - (spare - s.spare) / 64 })
given_back old new keep spare blocks s spare_is blocks_is a =
    let gone = a.gone in
    let fewer = a.fewer in
    let left = a.spare_is in
    let given : (spare - s.spare) / 64 + total blocks_here new ≡ total blocks_here old = omega (arith, gone, fewer, left, spare_is) in
    record {
      map = a.cells;
      blocks = omega (arith, given, blocks_is);
      spare = omega (arith, given, gone, left, spare_is);
      kept = kept a.kept;
      until = until (omega (arith, given, blocks_is)) a.until;
    }
  where
    kept : (s.spare ≡ total free_here old) ⊎ (keep ≤ s.spare) → ((spare - s.spare) / 64 ≡ 0) ⊎ (keep ≤ s.spare)
    kept (inl e) = inl (omega (arith, e, spare_is))
    kept (inr l) = inr l

    until : blocks - (spare - s.spare) / 64 ≡ total blocks_here new → (s.spare < keep + 64) ⊎ AreBusy new (length old) → (s.spare < keep + 64) ⊎ (blocks - (spare - s.spare) / 64 ≡ busy_blocks (cells_of new))
    until same (inl l) = inl l
    until same (inr busy) = inr (same ∙ busy_all new a.whole (λ i e q. busy i e q (subst (λ (n : ℕ). i < n) a.size (get_below new i e q))))
