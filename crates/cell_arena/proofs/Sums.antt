-- What a changed cell does to the sums and the links of all blocks.
use Rattle.std.proofs.Common.{◌≡◌, ◌≢◌, ◌⊎◌, inl, inr, ℕ, ◌+◌, ◌*◌, ◌<◌, List, [], ◌∷◌, length, set, Some, None, refl, sym, ap, ◌∙◌, subst, arith, length-set}
use mathlib.Core.Option.{some, some-ne-none}
use mathlib.Core.Logic.{dite}
use native.Mathlib.Decide.{ℕ_discrete}
use lib.ListN.{get_elem?}
use Rattle.cell_arena.specs.Cells.{cell_at}
use Rattle.cell_arena.specs.Entries.{AreLinked, Follows, HasBlocks, IsFilled, IsOpen, IsReleased, IsTable, blocks_here, cells_here, free_here, total, with_cell}
use Rattle.cell_arena.specs.declared.entry.Entry.{Entry}
use Rattle.cell_arena.proofs.Lists.{get_below, get_some, get_is, set_else, set_here, set_there}
use Rattle.cell_arena.proofs.UsedCells.{one_full, one_held, one_empty, used_length, used_set}
use Rattle.cell_arena.proofs.Entries.{Cells, cell_is, cells_set, no_cell, open_somewhere, total_set}
use Rattle.cell_arena.proofs.Links.{closed_out, link, relink, unlink}

-- the first block has a free cell where there is one
pub first_open : (entries : List Entry) (first : ℕ) → IsTable entries first → 0 < total free_here entries → (e : Entry) × (get_elem? entries first ≡ some e) × IsOpen e.block
first_open entries first t room =
    let w = open_somewhere entries room in
    head entries first w.0 t.linked.places t.linked.follows (t.linked.all w.0 w.1 w.2 (get_below entries w.0 w.1 w.2) w.3)
  where
    head : (entries : List Entry) (first i : ℕ) (list : List ℕ) → Follows entries first list → (k : ℕ) × (get_elem? list k ≡ some i) → (e : Entry) × (get_elem? entries first ≡ some e) × IsOpen e.block
    head entries first i [] f m = absurd (some-ne-none i (sym m.1))
    head entries first i (j ∷ js) f m = (f.0, ap (get_elem? entries) f.2 ∙ f.1, f.3)

-- a place keeps 64 cells when one of them changes
pub whole_set : (entries : List Entry) → HasBlocks entries → (i : ℕ) (d : Entry) → length (cells_here d.block) ≡ 64 → HasBlocks (set entries i d)
whole_set entries w i d size j c q =
    dite (ℕ_discrete j i)
    (λ (same : j ≡ i). ap (λ (x : Entry). length (cells_here x.block)) (sym (set_there entries i d c (ap (get_elem? (set entries i d)) (sym same) ∙ q))) ∙ size)
    (λ ne. w j c (sym (set_else entries i j d ne) ∙ q))

-- bytes in a free cell take one free cell of a block
filled_free : (b : Cells) (i : ℕ) (bytes : List ℕ) → length (cells_here b) ≡ 64 → IsOpen b → i < 64 → cell_at (cells_here b) i ≡ [] → 0 < length bytes
    → (free_here (Some (set (cells_here b) i bytes)) + 1 ≡ free_here b) × (blocks_here b ≡ 1)
filled_free None i bytes size o below was held = absurd (omega (arith, o))
filled_free (Some cells) i bytes size o below was held =
    let x = get_some cells i (omega (arith, size, below)) in
    let is_free : x.0 ≡ [] = sym (get_is cells i x.0 [] x.1) ∙ was in
    let m = used_set cells i x.0 bytes x.1 in
    let old = one_empty x.0 is_free in
    let new = one_full bytes held in
    (omega (arith, m, old, new, o), refl)

-- an emptied cell gives its block one
emptied_free : (b : Cells) (i : ℕ) → length (cells_here b) ≡ 64 → i < 64 → cell_at (cells_here b) i ≢ []
    → (free_here (Some (set (cells_here b) i [])) ≡ free_here b + 1) × (blocks_here b ≡ 1)
emptied_free None i size below held = absurd (held (no_cell 64 i))
emptied_free (Some cells) i size below held =
    let x = get_some cells i (omega (arith, size, below)) in
    let is_held : x.0 ≢ [] = λ z. held (get_is cells i x.0 [] x.1 ∙ z) in
    let m = used_set cells i x.0 [] x.1 in
    let old = one_held x.0 is_held in
    let new = one_empty [] refl in
    let small = used_length (set cells i []) in
    let small_old = used_length cells in
    let s = length-set cells i [] in
    (omega (arith, m, old, new, small, small_old, s, size), refl)

pub filled_by : (old : List Entry) (first : ℕ) (bytes : List ℕ) (cell : ℕ) (e d : Entry) (next : ℕ) → IsTable old first → get_elem? old first ≡ some e → IsOpen e.block
    → cell < 64 → cell_at (cells_here e.block) cell ≡ [] → 0 < length bytes → d ≡ with_cell e cell bytes
    → ((IsOpen d.block × (next ≡ first)) ⊎ (¬ IsOpen d.block × (next ≡ d.next)))
    → IsFilled old first bytes cell (set old first d) next
filled_by old first bytes cell e d next t there opened below was held is kept =
    let size = t.whole first e there in
    let f = filled_free e.block cell bytes size opened below was held in
    let same_block : d.block ≡ Some (set (cells_here e.block) cell bytes) = ap (λ (x : Entry). x.block) is in
    let same_next : d.next ≡ e.next = ap (λ (x : Entry). x.next) is in
    let frees = total_set free_here old first e d there in
    let blocks = total_set blocks_here old first e d there in
    let free_is = ap free_here same_block in
    let blocks_is = ap blocks_here same_block in
    let f0 = f.0 in
    let f1 = f.1 in
    record {
      table = record {
        whole = whole_set old t.whole first d (ap (λ (x : Cells). length (cells_here x)) same_block ∙ length-set (cells_here e.block) cell bytes ∙ size);
        linked = subst (λ (n : ℕ). AreLinked (set old first d) n next) (sym (length-set old first d)) (links kept same_next);
      };
      there = (get_below old first e there, below);
      was_free = cell_is old t.whole first cell e there below ∙ was;
      cells = cells_set old t.whole first cell e d bytes there below (ap cells_here same_block);
      free = omega (arith, frees, free_is, f0);
      blocks = omega (arith, blocks, blocks_is, f1);
    }
  where
    links : ((IsOpen d.block × (next ≡ first)) ⊎ (¬ IsOpen d.block × (next ≡ d.next))) → d.next ≡ e.next → AreLinked (set old first d) (length old) next
    links (inl k) same = subst (AreLinked (set old first d) (length old)) (sym k.1) (relink old (length old) first t.linked first e d there same opened k.0)
    links (inr k) same = subst (AreLinked (set old first d) (length old)) (sym k.1) (unlink old (length old) first t.linked e d there opened (get_below old first e there) same k.0)

pub released_by : (old : List Entry) (first place cell : ℕ) (e d : Entry) (next : ℕ) → IsTable old first → get_elem? old place ≡ some e → cell < 64
    → cell_at (cells_here e.block) cell ≢ [] → d.block ≡ Some (set (cells_here e.block) cell [])
    → (((free_here e.block ≡ 0) × (d.next ≡ first) × (next ≡ place)) ⊎ (IsOpen e.block × (d.next ≡ e.next) × (next ≡ first)))
    → IsReleased old (place * 64 + cell) (set old place d) next
released_by old first place cell e d next t there below held same_block kept =
    let size = t.whole place e there in
    let f = emptied_free e.block cell size below held in
    let frees = total_set free_here old place e d there in
    let blocks = total_set blocks_here old place e d there in
    let free_is = ap free_here same_block in
    let blocks_is = ap blocks_here same_block in
    let f0 = f.0 in
    let f1 = f.1 in
    record {
      table = record {
        whole = whole_set old t.whole place d (ap (λ (x : Cells). length (cells_here x)) same_block ∙ length-set (cells_here e.block) cell [] ∙ size);
        linked = subst (λ (n : ℕ). AreLinked (set old place d) n next) (sym (length-set old place d)) (links kept (omega (arith, free_is, f0)));
      };
      size = length-set old place d;
      cells = cells_set old t.whole place cell e d [] there below (ap cells_here same_block);
      free = omega (arith, frees, free_is, f0);
      blocks = omega (arith, blocks, blocks_is, f1);
    }
  where
    links : (((free_here e.block ≡ 0) × (d.next ≡ first) × (next ≡ place)) ⊎ (IsOpen e.block × (d.next ≡ e.next) × (next ≡ first))) → IsOpen d.block → AreLinked (set old place d) (length old) next
    links (inl k) o =
        let under = get_below old place e there in
        let z = k.0 in
        subst (AreLinked (set old place d) (length old)) (sym k.2)
        (link old (set old place d) (length old) (length old) first place t.linked d
        (closed_out old (length old) first t.linked place e there (λ p. omega (arith, p, z)))
        (λ j ne. set_else old place j d ne)
        (set_here old place d under) k.1 o (omega arith) under (λ j b ne. b))
    links (inr k) o = subst (AreLinked (set old place d) (length old)) (sym k.2) (relink old (length old) first t.linked place e d there k.1 k.0 o)
