-- The free cells of a block, as one is taken, given back, or the block is made.
use Rattle.std.proofs.Common.{◌≡◌, ◌≢◌, ⊎_elim, ℕ, zero, suc, ◌+◌, ◌-◌, ◌*◌, ◌/◌, ◌<◌, ◌≤◌, List, [], ◌∷◌, ◌++◌, length, map, take, set, get_or, replicate, refl, sym, ap, ◌∙◌, subst, arith, length-set, length-append}
use mathlib.Core.Option.{some, some-ne-none, some-injective}
use mathlib.Core.Logic.{dite}
use native.Mathlib.Decide.{ℕ_discrete}
use lib.ListN.{get_elem?}
use lib.Seq.{map-set}
use Rattle.std.proofs.Math.Seq.{take-append_seam}
use denote.RattleType.{RattleType}
use denote.RawPtr.{Ptr, InBlock, block_ptr, null_ptr}
use Rattle.core.specs.Ptr.{array_size}
use Rattle.cell_arena.specs.declared.cell.Cell.{Cell}
use Rattle.cell_arena.specs.Cells.{used}
use Rattle.cell_arena.specs.Places.{number_at, place_at, IsPlaceOf}
use Rattle.cell_arena.specs.FreeCells.{IsBegun, content, place_of, Linked, Apart, IsBlock}
use Rattle.cell_arena.proofs.Lists.{get_below, get_some, get_is, set_else, set_here, set_there, at_snoc}
use Rattle.cell_arena.proofs.UsedCells.{one, one_empty, one_full, one_held, used_set, used_replicate}

at_content : (cells : List Cell) (i : ℕ) (c : Cell) → get_elem? cells i ≡ some c → get_elem? (map content cells) i ≡ some (content c)
at_content [] i c e = absurd (some-ne-none c (sym e))
at_content (x ∷ xs) zero c e = ap (λ (y : Cell). some (content y)) (some-injective x c e)
at_content (x ∷ xs) (suc i) c e = at_content xs i c e

free_content : (c : Cell) → c.len ≡ 0 → content c ≡ []
free_content c e = ap (λ (k : ℕ). take k c.bytes) e

-- how the number of cells that hold bytes changes with one cell
used_set_at : (cells : List Cell) (i : ℕ) (c d : Cell) → get_elem? cells i ≡ some c → used (map content (set cells i d)) + one (content c) ≡ used (map content cells) + one (content d)
used_set_at cells i c d e =
    let m = used_set (map content cells) i (content c) (content d) (at_content cells i c e) in
    let s = ap used (map-set content cells i d) in
    omega (arith, m, s)

each_set : (cells : List Cell) (at : ℕ) (c : Cell) → ((i : ℕ) (d : Cell) → get_elem? cells i ≡ some d → (d.number ≡ i) × (d.len ≤ 1996)) → c.number ≡ at → c.len ≤ 1996
    → (i : ℕ) (d : Cell) → get_elem? (set cells at c) i ≡ some d → (d.number ≡ i) × (d.len ≤ 1996)
each_set cells at c old number fits i d e =
    dite (ℕ_discrete i at)
    (λ (same : i ≡ at). let there = set_there cells at c d (ap (get_elem? (set cells at c)) (sym same) ∙ e) in subst (λ (x : Cell). (x.number ≡ i) × (x.len ≤ 1996)) there (number ∙ sym same, fits))
    (λ ne. old i d (sym (set_else cells at i c ne) ∙ e))

-- each place of a chain has a free cell
on_chain : (base : Ptr) (cells : List Cell) (p : Ptr) (list : List ℕ) → Linked base cells p list → (k j : ℕ) → get_elem? list k ≡ some j → (c : Cell) × (get_elem? cells j ≡ some c) × (c.len ≡ 0)
on_chain base cells p [] ch k j e = absurd (some-ne-none j (sym e))
on_chain base cells p (i ∷ is) ch zero j e = (ch.0, ap (get_elem? cells) (sym (some-injective i j e)) ∙ ch.1, ch.4)
on_chain base cells p (i ∷ is) ch (suc k) j e = on_chain base cells ch.0.next is ch.5 k j e

module _ (R : RattleType) (big : array_size R 1 ≡ 2024) where
  same_place : (base : Ptr) (i : ℕ) → place_at R i base ≡ place_of i base
  unfolding place_at
  same_place (block_ptr b o) i = ap (λ (k : ℕ). block_ptr b (k + o)) (size_is i)
    where
      size_is : (i : ℕ) → array_size R i ≡ i * 2024
      size_is i = ap (λ (k : ℕ). i * k) (omega (arith, big))
  same_place null_ptr i = refl

  index_is : (base : Ptr) (i : ℕ) → InBlock base → number_at R base (place_of i base) ≡ i
  unfolding number_at
  index_is (block_ptr b o) i lies = ap (λ (k : ℕ). ((i * 2024 + o) - o) / k) big ∙ omega arith
  index_is null_ptr i lies = absurd lies

  -- the first free cell
  pub record First (base : Ptr) (cells : List Cell) (free : Ptr) (u : ℕ) : Type 0 where
    pub at : ℕ
    pub rest : List ℕ
    pub cell : Cell
    pub is_there : get_elem? cells at ≡ some cell
    pub index : number_at R base free ≡ at
    pub place : free ≡ place_at R at base
    pub number : cell.number ≡ at
    pub empty : cell.len ≡ 0
    pub chain : Linked base cells cell.next rest
    pub apart : Apart (at ∷ rest)
    pub count : length rest + u + 1 ≡ 64

  pub first : (base : Ptr) (cells : List Cell) (free : Ptr) (u : ℕ) → IsBlock base cells free u → u < 64 → First base cells free u
  first base cells free u b room = by b.numbers b.linked b.apart b.count
    where
      by : (list : List ℕ) → Linked base cells free list → Apart list → length list + u ≡ 64 → First base cells free u
      by [] c a n = absurd (omega arith)
      by (i ∷ is) c a n = record {
        at = i;
        rest = is;
        cell = c.0;
        is_there = c.1;
        index = ap (number_at R base) c.2 ∙ index_is base i b.lies;
        place = c.2 ∙ sym (same_place base i);
        number = c.3;
        empty = c.4;
        chain = c.5;
        apart = a;
        count = omega arith;
      }

  pub lies : (base : Ptr) (cells : List Cell) (free : Ptr) (u n : ℕ) → n ≡ length cells → IsBlock base cells free u → u < 64 → IsPlaceOf R base n free
  lies base cells free u n len b room =
      let f = first base cells free u b room in
      let l = get_below cells f.at f.cell f.is_there in
      record { below = subst (λ (i : ℕ). i < n) (sym f.index) (omega (arith, len)); place = subst (λ (i : ℕ). free ≡ place_at R i base) (sym f.index) f.place }

  kept : (base : Ptr) (cells : List Cell) (p : Ptr) (at : ℕ) (c : Cell) (list : List ℕ) → ((k j : ℕ) → get_elem? list k ≡ some j → j ≢ at) → Linked base cells p list → Linked base (set cells at c) p list
  kept base cells p at c [] far ch = ch
  kept base cells p at c (i ∷ is) far ch =
      (ch.0, set_else cells at i c (far 0 i refl) ∙ ch.1, ch.2, ch.3, ch.4, kept base cells ch.0.next at c is (λ k j e. far (suc k) j e) ch.5)

  pub taken : (base : Ptr) (cells : List Cell) (free : Ptr) (u : ℕ) (b : IsBlock base cells free u) (room : u < 64) (c d : Cell) → d ≡ get_or cells (number_at R base free) d → c.number ≡ d.number → 0 < length (content c) → c.len ≤ 1996
      → IsBlock base (set cells (number_at R base free) c) d.next (u + 1)
  taken base cells free u b room c d is number some_bytes fits =
      let f = first base cells free u b room in
      let e : d ≡ f.cell = is ∙ ap (λ (i : ℕ). get_or cells i d) f.index ∙ get_is cells f.at f.cell d f.is_there in
      let size = b.size in
      let count = f.count in
      let counts = used_set_at cells f.at f.cell c f.is_there in
      let old = one_empty (content f.cell) (free_content f.cell f.empty) in
      let new = one_full (content c) some_bytes in
      let used_is = b.used_is in
      subst (λ (i : ℕ). IsBlock base (set cells i c) d.next (u + 1)) (sym f.index)
      record {
        numbers = f.rest;
        lies = b.lies;
        size = length-set cells f.at c ∙ size;
        count = omega (arith, count);
        linked = subst (λ (x : Cell). Linked base (set cells f.at c) x.next f.rest) (sym e) (kept base cells f.cell.next f.at c f.rest (λ k j q. f.apart.0 j k q) f.chain);
        apart = f.apart.1;
        used_is = omega (arith, counts, old, new, used_is);
        each = each_set cells f.at c b.each (number ∙ ap (λ (x : Cell). x.number) e ∙ f.number) fits;
      }

  pub first_is : (base : Ptr) (cells : List Cell) (free : Ptr) (u : ℕ) (b : IsBlock base cells free u) (room : u < 64) (d : Cell) → d ≡ get_or cells (number_at R base free) d
      → (number_at R base free ≡ d.number) × (d.number < 64) × (get_or (map content cells) d.number [] ≡ [])
  first_is base cells free u b room d is =
      let f = first base cells free u b room in
      let e : d ≡ f.cell = is ∙ ap (λ (i : ℕ). get_or cells i d) f.index ∙ get_is cells f.at f.cell d f.is_there in
      let n : d.number ≡ f.at = ap (λ (x : Cell). x.number) e ∙ f.number in
      let l = get_below cells f.at f.cell f.is_there in
      let size = b.size in
      (f.index ∙ sym n, omega (arith, n, l, size), ap (λ (i : ℕ). get_or (map content cells) i []) n ∙ get_is (map content cells) f.at (content f.cell) [] (at_content cells f.at f.cell f.is_there) ∙ free_content f.cell f.empty)

  pub here_is : (base : Ptr) (i : ℕ) → InBlock base → (p : Ptr) → p ≡ place_at R i base → number_at R base p ≡ i
  here_is base i lies p e = ap (number_at R base) (e ∙ same_place base i) ∙ index_is base i lies

  pub index_here : (base : Ptr) (i : ℕ) → InBlock base → (p q : Ptr) → p ≡ place_at R i q → q ≡ base → number_at R base p ≡ i
  index_here base i in_block p q e₀ same = here_is base i in_block p (e₀ ∙ ap (place_at R i) same)

  pub lies_here : (base : Ptr) (i n : ℕ) → InBlock base → i < n → (p q : Ptr) → p ≡ place_at R i q → q ≡ base → IsPlaceOf R base n p
  lies_here base i n in_block below p q e₀ same =
      let e : p ≡ place_at R i base = e₀ ∙ ap (place_at R i) same in
      let at = here_is base i in_block p e in
      record { below = subst (λ (k : ℕ). k < n) (sym at) below; place = subst (λ (k : ℕ). p ≡ place_at R k base) (sym at) e }

  pub freed : (base : Ptr) (cells : List Cell) (free : Ptr) (u : ℕ) (b : IsBlock base cells free u) (n : ℕ) (p q : Ptr) → p ≡ place_at R n q → q ≡ base → n < 64 → get_or (map content cells) n [] ≢ []
      → (c d : Cell) → d ≡ get_or cells (number_at R base p) d → c.number ≡ d.number → c.next ≡ free → c.len ≡ 0
      → (number_at R base p ≡ n) × (0 < u) × IsBlock base (set cells (number_at R base p) c) p (u - 1)
  freed base cells free u b n p q e₀ same_base below holds c d is number next empty =
      let e : p ≡ place_at R n base = e₀ ∙ ap (place_at R n) same_base in
      let size = b.size in
      let at = here_is base n b.lies p e in
      let x = get_some cells n (omega (arith, size)) in
      let same : d ≡ x.0 = is ∙ ap (λ (i : ℕ). get_or cells i d) at ∙ get_is cells n x.0 d x.1 in
      let is_held : content x.0 ≢ [] = λ z. holds (get_is (map content cells) n (content x.0) [] (at_content cells n x.0 x.1) ∙ z) in
      let counts = used_set_at cells n x.0 c x.1 in
      let old = one_held (content x.0) is_held in
      let new = one_empty (content c) (free_content c empty) in
      let used_is = b.used_is in
      let count = b.count in
      let far : (k j : ℕ) → get_elem? b.numbers k ≡ some j → j ≢ n = λ k j q same_j.
      let y = on_chain base cells free b.numbers b.linked k j q in
      let z : y.0 ≡ x.0 = some-injective y.0 x.0 (sym y.1 ∙ ap (get_elem? cells) same_j ∙ x.1) in
      absurd (is_held (free_content x.0 (ap (λ (w : Cell). w.len) (sym z) ∙ y.2))) in (
        at,
        omega (arith, counts, old, new, used_is),
        subst (λ (i : ℕ). IsBlock base (set cells i c) p (u - 1)) (sym at)
            record {
              numbers = n ∷ b.numbers;
              lies = b.lies;
              size = length-set cells n c ∙ size;
              count = omega (arith, counts, old, new, used_is, count);
              linked = (
                c,
                set_here cells n c (omega (arith, size)),
                e ∙ same_place base n,
                number ∙ ap (λ (w : Cell). w.number) same ∙ (b.each n x.0 x.1).0,
                empty,
                subst (λ (q : Ptr). Linked base (set cells n c) q b.numbers) (sym next) (kept base cells free n c b.numbers far b.linked),
              );
              apart = ((λ j k q. far k j q), b.apart);
              used_is = omega (arith, counts, old, new, used_is);
              each = each_set cells n c b.each (number ∙ ap (λ (w : Cell). w.number) same ∙ (b.each n x.0 x.1).0) (omega (arith, empty));
            },
      )

pub filled : (cells : List Cell) (i n : ℕ) (c : Cell) (bytes : List ℕ) → i ≡ n → content c ≡ bytes → map content (set cells i c) ≡ set (map content cells) n bytes
filled cells i n c bytes is holds = map-set content cells i c ∙ (λ j. set (map content cells) (is j) (holds j))

pub written : (bytes new rest : List ℕ) → new ≡ bytes → take (length bytes) (new ++ rest) ≡ bytes
written bytes new rest is = ap (λ l. take (length bytes) (l ++ rest)) is ∙ take-append_seam bytes rest

pub fits_of : (base : Ptr) (cells : List Cell) (free : Ptr) (u n : ℕ) → IsBlock base cells free u → n < 64 → (d : Cell) → d ≡ get_or cells n d → d.len ≤ 1996
fits_of base cells free u n b below d is =
    let size = b.size in
    let x = get_some cells n (omega (arith, size)) in
    let same : d ≡ x.0 = is ∙ get_is cells n x.0 d x.1 in
    subst (λ (w : Cell). w.len ≤ 1996) (sym same) (b.each n x.0 x.1).1

pub part_none : (base : Ptr) → IsBegun base [] 0
part_none base = record { size = refl; each = λ i c e. absurd (some-ne-none c (sym e)) }

pub part_more : (R : RattleType) → array_size R 1 ≡ 2024 → (base : Ptr) (cells : List Cell) (n : ℕ) (c : Cell) → IsBegun base cells n → c.number ≡ n → c.len ≡ 0 → c.next ≡ place_at R (n + 1) base → IsBegun base (cells ++ c ∷ []) (n + 1)
part_more R big base cells n c part number empty next =
    let size = part.size in
    record {
      size = omega (arith, length-append cells (c ∷ []), size);
      each = λ i d e. ⊎_elim (λ t. part.each i d t)
          (λ (t : (i ≡ length cells) × (c ≡ d)). subst (λ (x : ℕ × Cell). (x.1.number ≡ x.0) × (x.1.len ≡ 0) × (x.1.next ≡ place_of (x.0 + 1) base)) (λ j. ((sym size ∙ sym t.0) j, t.1 j)) (number, empty, next ∙ same_place R big base (n + 1)))
          (at_snoc cells c d i e);
    }

upto : ℕ → ℕ → List ℕ
upto i zero = []
upto i (suc n) = i ∷ upto (suc i) n

upto_high : (i n k j : ℕ) → get_elem? (upto i n) k ≡ some j → i ≤ j
unfolding upto
upto_high i zero k j e = absurd (some-ne-none j (sym e))
upto_high i (suc n) zero j e = let same = some-injective i j e in omega arith
upto_high i (suc n) (suc k) j e = let l = upto_high (suc i) n k j e in omega arith

upto_apart : (i n : ℕ) → Apart (upto i n)
unfolding upto
upto_apart i zero = tt
upto_apart i (suc n) = ((λ j k e same. let l = upto_high (suc i) n k j e in omega arith), upto_apart (suc i) n)

upto_length : (i n : ℕ) → length (upto i n) ≡ n
unfolding upto
upto_length i zero = refl
upto_length i (suc n) = ap suc (upto_length (suc i) n)

upto_chain : (base : Ptr) (cells : List Cell) (m : ℕ) → IsBegun base cells m → (i n : ℕ) → i + n ≤ m → (p : Ptr) → p ≡ place_of i base → Linked base cells p (upto i n)
unfolding upto
upto_chain base cells m part i zero below p at = tt
upto_chain base cells m part i (suc n) below p at =
    let size = part.size in
    let x = get_some cells i (omega arith) in
    let e = part.each i x.0 x.1 in
    let step : i + 1 ≡ suc i = omega arith in
    (x.0, x.1, at, e.0, e.1, upto_chain base cells m part (suc i) n (omega arith) x.0.next (e.2 ∙ ap (λ (k : ℕ). place_of k base) step))

place_zero : (base : Ptr) → base ≡ place_of 0 base
place_zero (block_ptr b o) = ap (λ (k : ℕ). block_ptr b k) (omega arith)
place_zero null_ptr = refl

none_held : (cells : List Cell) → ((i : ℕ) (c : Cell) → get_elem? cells i ≡ some c → c.len ≡ 0) → map content cells ≡ replicate (length cells) []
none_held [] free = refl
none_held (c ∷ cs) free = λ i. free_content c (free 0 c refl) i ∷ none_held cs (λ i d e. free (suc i) d e) i

pub part_whole : (base : Ptr) (cells : List Cell) → InBlock base → IsBegun base cells 64 → IsBlock base cells base 0 × (map content cells ≡ replicate 64 [])
part_whole base cells in_block part =
    let all : map content cells ≡ replicate 64 [] = none_held cells (λ i c e. (part.each i c e).1) ∙ ap (λ (k : ℕ). replicate k []) part.size in (
      record {
        numbers = upto 0 64;
        lies = in_block;
        size = part.size;
        count = ap (λ (k : ℕ). k + 0) (upto_length 0 64);
        linked = upto_chain base cells 64 part 0 64 (omega arith) base (place_zero base);
        apart = upto_apart 0 64;
        used_is = sym (ap used all ∙ used_replicate 64);
        each = λ i c e. let x = part.each i c e in (x.0, let z = x.1 in omega (arith, z));
      },
      all,
    )
