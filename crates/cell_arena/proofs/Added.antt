-- Blocks with all cells free, added one by one.
use Rattle.std.proofs.Common.{◌≡◌, ◌⊎◌, inl, inr, ℕ, ◌+◌, ◌≤◌, List, [], ◌∷◌, ◌++◌, length, set, get_or, replicate, Some, refl, sym, ap, ◌∙◌, subst, arith, length-set}
use mathlib.Core.Option.{some}
use lib.ListN.{get_elem?}
use Rattle.cell_arena.specs.Entries.{AreAdded, AreFree, AreLinked, IsAdded, IsTable, blocks_here, cells_here, free_here}
use Rattle.cell_arena.specs.declared.entry.Entry.{Entry}
use Rattle.cell_arena.proofs.Lists.{at_snoc, get_below, length_snoc, set_else, set_here, snoc_else, snoc_here, snoc_same}
use Rattle.cell_arena.proofs.Entries.{Cells, cells_same, map_snoc, total_set, total_snoc}
use Rattle.cell_arena.proofs.Links.{closed_out, link}
use Rattle.cell_arena.proofs.Sums.{whole_set}

-- none was added
pub added_none : (old : List Entry) (first : ℕ) → IsTable old first → AreAdded old 0 old first
added_none old first t = record { table = t; free = omega arith; blocks = omega arith; map = λ n. refl }

abbrev fresh : Cells
fresh = Some (replicate 64 [])

-- one more was
pub added_one : (old : List Entry) (count : ℕ) (mid : List Entry) (first at : ℕ) (d : Entry) (new : List Entry) → AreAdded old count mid first → IsAdded mid at d new → d.next ≡ first → d.block ≡ fresh
    → AreAdded old (count + 1) new at × (length new ≤ length mid + 1)
added_one old count mid first at d new a (inl (vacant, is)) next block =
    let e = vacant.0 in
    let there = vacant.1 in
    let none = vacant.2 in
    let frees = total_set free_here mid at e d there in
    let blocks = total_set blocks_here mid at e d there in
    let free_d = ap free_here block in
    let blocks_d = ap blocks_here block in
    let free_e = ap free_here none in
    let blocks_e = ap blocks_here none in
    let free = a.free in
    let number = a.blocks in
    let below = get_below mid at e there in
    let size = length-set mid at d in
    subst (λ (x : List Entry). AreAdded old (count + 1) x at × (length x ≤ length mid + 1)) (sym is) (
      record {
        table = record {
          whole = whole_set mid a.table.whole at d (ap (λ (x : Cells). length (cells_here x)) block);
          linked = subst (λ (n : ℕ). AreLinked (set mid at d) n at) (sym size)
              (link mid (set mid at d) (length mid) (length mid) first at a.table.linked d
              (closed_out mid (length mid) first a.table.linked at e there (λ o. omega (arith, o, free_e)))
              (λ j ne. set_else mid at j d ne)
              (set_here mid at d below) next (omega (arith, free_d)) (omega arith) below (λ j b ne. b));
        };
        free = omega (arith, frees, free_d, free_e, free);
        blocks = omega (arith, blocks, blocks_d, blocks_e, number);
        map = λ n. ap (λ (l : List (List ℕ)). get_or l n []) (cells_same mid at e d there (ap cells_here block ∙ sym (ap cells_here none))) ∙ a.map n;
      },
      omega (arith, size),
    )
added_one old count mid first at d new a (inr (last, is)) next block =
    let frees = total_snoc free_here mid d in
    let blocks = total_snoc blocks_here mid d in
    let free_d = ap free_here block in
    let blocks_d = ap blocks_here block in
    let free = a.free in
    let number = a.blocks in
    let size = length_snoc mid d in
    subst (λ (x : List Entry). AreAdded old (count + 1) x at × (length x ≤ length mid + 1)) (sym is) (
      record {
        table = record {
          whole = λ j c q. whole_snoc j c (at_snoc mid d c j q);
          linked = subst (λ (n : ℕ). AreLinked (mid ++ d ∷ []) n at) (sym size)
              (link mid (mid ++ d ∷ []) (length mid) (length mid + 1) first at a.table.linked d
              (λ m. let b = a.table.linked.below m.0 at m.1 in omega (arith, b, last))
              (λ j ne. snoc_same mid d j (λ same. ne (same ∙ sym last)))
              (ap (get_elem? (mid ++ d ∷ [])) last ∙ snoc_here mid d) next (omega (arith, free_d)) (omega arith) (omega (arith, last)) (λ j b ne. omega (arith, b, ne, last)));
        };
        free = omega (arith, frees, free_d, free);
        blocks = omega (arith, blocks, blocks_d, number);
        map = λ n. map_snoc mid d (ap cells_here block) n ∙ a.map n;
      },
      omega (arith, size),
    )
  where
    whole_snoc : (j : ℕ) (c : Entry) → (get_elem? mid j ≡ some c) ⊎ ((j ≡ length mid) × (d ≡ c)) → length (cells_here c.block) ≡ 64
    whole_snoc j c (inl t) = a.table.whole j c t
    whole_snoc j c (inr t) = ap (λ (x : Entry). length (cells_here x.block)) (sym t.1) ∙ ap (λ (x : Cells). length (cells_here x)) block

-- one block fewer is left to add
pub free_front : (blocks : List (List (List ℕ))) (b : List (List ℕ)) → AreFree (blocks ++ b ∷ []) → AreFree blocks × (b ≡ replicate 64 [])
free_front blocks b f = ((λ i c q. f i c (snoc_else blocks b c i q)), f (length blocks) b (snoc_here blocks b))

pub free_more : (blocks : List (List (List ℕ))) (b : List (List ℕ)) → AreFree blocks → b ≡ replicate 64 [] → AreFree (blocks ++ b ∷ [])
free_more blocks b f is i c q = by (at_snoc blocks b c i q)
  where
    by : (get_elem? blocks i ≡ some c) ⊎ ((i ≡ length blocks) × (b ≡ c)) → c ≡ replicate 64 []
    by (inl t) = f i c t
    by (inr t) = sym t.1 ∙ is

pub free_none : AreFree []
free_none i c q = absurd (omega (arith, get_below [] i c q))
