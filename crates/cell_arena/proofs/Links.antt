-- How the blocks with a free cell are linked, after one place has changed.
use Rattle.std.proofs.Common.{◌≡◌, ◌≢◌, ℕ, zero, suc, ◌+◌, ◌<◌, ◌≤◌, List, [], ◌∷◌, set, refl, sym, ap, ◌∙◌, subst, arith}
use mathlib.Core.Option.{some, some-ne-none, some-injective}
use mathlib.Core.Logic.{dite}
use native.Mathlib.Decide.{ℕ_discrete}
use lib.ListN.{get_elem?}
use Rattle.cell_arena.specs.FreeCells.{Apart}
use Rattle.cell_arena.specs.Entries.{AreLinked, Follows, IsOpen}
use Rattle.cell_arena.specs.declared.entry.Entry.{Entry}
use Rattle.cell_arena.proofs.Lists.{same_at, set_else, set_here, set_there, get_below}

-- a number stands in a list
abbrev pub In : List ℕ → ℕ → Type 0
In list i = (k : ℕ) × (get_elem? list k ≡ some i)

pub follows_kept : (old new : List Entry) (first : ℕ) (list : List ℕ) → ((k i : ℕ) → get_elem? list k ≡ some i → get_elem? new i ≡ get_elem? old i) → Follows old first list → Follows new first list
follows_kept old new first [] kept f = tt
follows_kept old new first (i ∷ is) kept f = (f.0, kept 0 i refl ∙ f.1, f.2, f.3, follows_kept old new f.0.next is (λ k j q. kept (suc k) j q) f.4)

-- a block that is linked has a free cell
pub follows_open : (entries : List Entry) (first : ℕ) (list : List ℕ) → Follows entries first list → (k i : ℕ) → get_elem? list k ≡ some i → (e : Entry) × (get_elem? entries i ≡ some e) × IsOpen e.block
follows_open entries first [] f k i q = absurd (some-ne-none i (sym q))
follows_open entries first (j ∷ js) f zero i q = (f.0, ap (get_elem? entries) (sym (some-injective j i q)) ∙ f.1, f.3)
follows_open entries first (j ∷ js) f (suc k) i q = follows_open entries f.0.next js f.4 k i q

-- one that has none is not linked
pub closed_out : (entries : List Entry) (n first : ℕ) (l : AreLinked entries n first) (i : ℕ) (e : Entry) → get_elem? entries i ≡ some e → ¬ IsOpen e.block → ¬ In l.places i
closed_out entries n first l i e there closed m =
    let o = follows_open entries first l.places l.follows m.0 i m.1 in
    closed (subst (λ (d : Entry). IsOpen d.block) (same_at entries i o.0 e o.1 there) o.2)

-- a block at a place that was not linked comes first
pub link : (old new : List Entry) (n m first i : ℕ) (l : AreLinked old n first) (e : Entry)
    → ¬ In l.places i
    → ((j : ℕ) → j ≢ i → get_elem? new j ≡ get_elem? old j)
    → get_elem? new i ≡ some e → e.next ≡ first → IsOpen e.block
    → n ≤ m → i < m → ((j : ℕ) → j < m → j ≢ i → j < n)
    → AreLinked new m i
link old new n m first i l e out others here next opened up below only = record {
  places = i ∷ l.places;
  follows = (e, here, refl, opened, subst (λ (p : ℕ). Follows new p l.places) (sym next) (follows_kept old new first l.places (λ k j q. others j (λ same. out (k, q ∙ ap some same))) l.follows));
  apart = ((λ j k q same. out (k, q ∙ ap some same)), l.apart);
  below = all_below;
  all = all_in;
}
  where
    all_below : (k j : ℕ) → get_elem? (i ∷ l.places) k ≡ some j → j < m
    all_below zero j q = subst (λ (x : ℕ). x < m) (some-injective i j q) below
    all_below (suc k) j q = let b = l.below k j q in omega (arith, b, up)

    all_in : (j : ℕ) (d : Entry) → get_elem? new j ≡ some d → j < m → IsOpen d.block → In (i ∷ l.places) j
    all_in j d q under o =
        dite (ℕ_discrete j i)
        (λ (same : j ≡ i). (0, ap some (sym same)))
        (λ ne. let w = l.all j d (sym (others j ne) ∙ q) (only j under ne) o in (suc w.0, w.1))

-- the place behind those that are linked has no free cell
pub skip : (old new : List Entry) (n first : ℕ) → AreLinked old n first
    → ((j : ℕ) → j ≢ n → get_elem? new j ≡ get_elem? old j)
    → ((d : Entry) → get_elem? new n ≡ some d → ¬ IsOpen d.block)
    → AreLinked new (n + 1) first
skip old new n first l others closed = record {
  places = l.places;
  follows = follows_kept old new first l.places (λ k j q. others j (λ same. let b = l.below k j q in omega (arith, b, same))) l.follows;
  apart = l.apart;
  below = λ k j q. let b = l.below k j q in omega (arith, b);
  all = all_in;
}
  where
    all_in : (j : ℕ) (d : Entry) → get_elem? new j ≡ some d → j < n + 1 → IsOpen d.block → In l.places j
    all_in j d q under o =
        dite (ℕ_discrete j n)
        (λ (same : j ≡ n). absurd (closed d (ap (get_elem? new) (sym same) ∙ q) o))
        (λ ne. l.all j d (sym (others j ne) ∙ q) (omega (arith, under, ne)) o)

-- a block that keeps a free cell, and its link
pub relink : (entries : List Entry) (n first : ℕ) (l : AreLinked entries n first) (i : ℕ) (e d : Entry) → get_elem? entries i ≡ some e → d.next ≡ e.next → IsOpen e.block → IsOpen d.block
    → AreLinked (set entries i d) n first
relink entries n first l i e d there next was opened = record {
  places = l.places;
  follows = follows_set first l.places l.follows;
  apart = l.apart;
  below = l.below;
  all = all_in;
}
  where
    follows_set : (p : ℕ) (list : List ℕ) → Follows entries p list → Follows (set entries i d) p list
    follows_set p [] f = tt
    follows_set p (j ∷ js) f =
        let rest = follows_set f.0.next js f.4 in
        dite (ℕ_discrete j i)
        (λ (same : j ≡ i).
        let is_e : f.0 ≡ e = same_at entries i f.0 e (ap (get_elem? entries) (sym same) ∙ f.1) there in
        (d, ap (get_elem? (set entries i d)) same ∙ set_here entries i d (get_below entries i e there), f.2, opened, subst (λ (q : ℕ). Follows (set entries i d) q js) (ap (λ (x : Entry). x.next) is_e ∙ sym next) rest))
        (λ ne. (f.0, set_else entries i j d ne ∙ f.1, f.2, f.3, rest))

    all_in : (j : ℕ) (c : Entry) → get_elem? (set entries i d) j ≡ some c → j < n → IsOpen c.block → In l.places j
    all_in j c q under o =
        dite (ℕ_discrete j i)
        (λ (same : j ≡ i). l.all j e (ap (get_elem? entries) same ∙ there) under was)
        (λ ne. l.all j c (sym (set_else entries i j d ne) ∙ q) under o)

-- the first block has its last free cell taken
pub unlink : (entries : List Entry) (n first : ℕ) (l : AreLinked entries n first) (e d : Entry) → get_elem? entries first ≡ some e → IsOpen e.block → first < n → d.next ≡ e.next → ¬ IsOpen d.block
    → AreLinked (set entries first d) n d.next
unlink entries n first l e d there opened below next closed = by l.places l.follows l.apart l.below l.all
  where
    by : (list : List ℕ) → Follows entries first list → Apart list → ((k i : ℕ) → get_elem? list k ≡ some i → i < n)
        → ((i : ℕ) (c : Entry) → get_elem? entries i ≡ some c → i < n → IsOpen c.block → In list i)
        → AreLinked (set entries first d) n d.next
    by [] f a b all = let w = all first e there below opened in absurd (some-ne-none first (sym w.1))
    by (i ∷ is) f a b all =
        let is_e : f.0 ≡ e = same_at entries i f.0 e f.1 (ap (get_elem? entries) (sym f.2) ∙ there) in
        let links : f.0.next ≡ d.next = ap (λ (x : Entry). x.next) is_e ∙ sym next in
        record {
          places = is;
          follows = subst (λ (p : ℕ). Follows (set entries first d) p is) links (follows_kept entries (set entries first d) f.0.next is (λ k j q. set_else entries first j d (λ same. a.0 j k q (same ∙ f.2))) f.4);
          apart = a.1;
          below = λ k j q. b (suc k) j q;
          all = λ j c q under o. dite (ℕ_discrete j first)
              (λ (same : j ≡ first). absurd (closed (subst (λ (x : Entry). IsOpen x.block) (sym (set_there entries first d c (ap (get_elem? (set entries first d)) (sym same) ∙ q))) o)))
              (λ ne. tail j ne (all j c (sym (set_else entries first j d ne) ∙ q) under o));
        }
      where
        tail : (j : ℕ) → j ≢ first → In (i ∷ is) j → In is j
        tail j ne (zero, q) = absurd (ne (sym (some-injective i j q) ∙ sym f.2))
        tail j ne (suc k, q) = (k, q)
