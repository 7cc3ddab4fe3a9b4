-- The blocks of an arena by place: sums over them, and their cells in order.
use Rattle.std.proofs.Common.{◌≡◌, ◌≢◌, ℕ, zero, suc, ◌+◌, ◌-◌, ◌*◌, ◌/◌, ◌%◌, ◌<◌, ◌≤◌, List, [], ◌∷◌, ◌++◌, length, min, take, drop, set, get_or, replicate, Option, Some, None, refl, sym, ap, ◌∙◌, arith, length-append}
use mathlib.Core.Option.{some, some-ne-none, some-injective}
use lib.ListN.{get_elem?}
use Rattle.std.proofs.lemmas.List.{set-append_left, set-append_right, get_or_append_left, get_or-append_right}
use Rattle.cell_arena.specs.Cells.{IsSameMap, busy_among, busy_blocks, used}
use Rattle.cell_arena.specs.Entries.{HasBlocks, IsOpen, blocks_here, cells_here, cells_of, free_here, total}
use Rattle.cell_arena.specs.declared.entry.Entry.{Entry}
use Rattle.cell_arena.proofs.UsedCells.{used_append, used_length}

abbrev pub Cells : Type 0
Cells = Option (List (List ℕ))

pub total_set : (f : Cells → ℕ) (entries : List Entry) (i : ℕ) (e d : Entry) → get_elem? entries i ≡ some e → total f (set entries i d) + f e.block ≡ total f entries + f d.block
total_set f [] i e d q = absurd (some-ne-none e (sym q))
total_set f (x ∷ xs) zero e d q = let same : f x.block ≡ f e.block = ap (λ (y : Entry). f y.block) (some-injective x e q) in omega (arith, same)
total_set f (x ∷ xs) (suc i) e d q = let m = total_set f xs i e d q in omega (arith, m)

pub total_snoc : (f : Cells → ℕ) (entries : List Entry) (d : Entry) → total f (entries ++ d ∷ []) ≡ total f entries + f d.block
total_snoc f [] d = omega arith
total_snoc f (x ∷ xs) d = let m = total_snoc f xs d in omega (arith, m)

pub total_at : (f : Cells → ℕ) (entries : List Entry) (i : ℕ) (e : Entry) → get_elem? entries i ≡ some e → f e.block ≤ total f entries
total_at f [] i e q = absurd (some-ne-none e (sym q))
total_at f (x ∷ xs) zero e q = let same : f x.block ≡ f e.block = ap (λ (y : Entry). f y.block) (some-injective x e q) in omega (arith, same)
total_at f (x ∷ xs) (suc i) e q = let m = total_at f xs i e q in omega (arith, m)

-- where a cell is free, some block has it
pub open_somewhere : (entries : List Entry) → 0 < total free_here entries → (i : ℕ) × (e : Entry) × (get_elem? entries i ≡ some e) × IsOpen e.block
open_somewhere [] l = absurd (omega (arith, l))
open_somewhere (x ∷ xs) l = by (free_here x.block) refl (open_somewhere xs)
  where
    by : (n : ℕ) → free_here x.block ≡ n → (0 < total free_here xs → (i : ℕ) × (e : Entry) × (get_elem? xs i ≡ some e) × IsOpen e.block) → (i : ℕ) × (e : Entry) × (get_elem? (x ∷ xs) i ≡ some e) × IsOpen e.block
    by zero q rest = let w = rest (omega (arith, l, q)) in (suc w.0, w.1, w.2, w.3)
    by (suc n) q rest = (0, x, refl, omega (arith, q))

one_block : (b : Cells) → blocks_here b ≤ 1
one_block (Some c) = omega arith
one_block None = omega arith

pub blocks_length : (entries : List Entry) → total blocks_here entries ≤ length entries
blocks_length [] = omega arith
blocks_length (x ∷ xs) = let m = blocks_length xs in let o = one_block x.block in omega (arith, m, o)

pub tail_whole : (x : Entry) (xs : List Entry) → HasBlocks (x ∷ xs) → HasBlocks xs
tail_whole x xs w = λ i e q. w (suc i) e q

used_and_free : (b : Cells) → length (cells_here b) ≡ 64 → used (cells_here b) + free_here b ≡ 64 * blocks_here b
used_and_free (Some c) l = let u = used_length c in omega (arith, u, l)
used_and_free None l = refl

pub counted : (entries : List Entry) → HasBlocks entries → used (cells_of entries) + total free_here entries ≡ 64 * total blocks_here entries
counted [] w = refl
counted (x ∷ xs) w =
    let m = counted xs (tail_whole x xs w) in
    let h = used_and_free x.block (w 0 x refl) in
    let a = used_append (cells_here x.block) (cells_of xs) in
    omega (arith, m, h, a)

pub length_cells : (entries : List Entry) → HasBlocks entries → length (cells_of entries) ≡ 64 * length entries
length_cells [] w = refl
length_cells (x ∷ xs) w =
    let m = length_cells xs (tail_whole x xs w) in
    let h = w 0 x refl in
    let a = length-append (cells_here x.block) (cells_of xs) in
    omega (arith, m, h, a)

pub cell_is : (entries : List Entry) → HasBlocks entries → (i j : ℕ) (e : Entry) → get_elem? entries i ≡ some e → j < 64 → get_or (cells_of entries) (i * 64 + j) [] ≡ get_or (cells_here e.block) j []
cell_is [] w i j e q l = absurd (some-ne-none e (sym q))
cell_is (x ∷ xs) w zero j e q l =
    let h = w 0 x refl in
    let first : 0 * 64 + j ≡ j = omega arith in
    ap (λ (k : ℕ). get_or (cells_of (x ∷ xs)) k []) first ∙ get_or_append_left (cells_here x.block) (cells_of xs) [] j (omega (arith, h, l)) ∙ ap (λ (y : Entry). get_or (cells_here y.block) j []) (some-injective x e q)
cell_is (x ∷ xs) w (suc i) j e q l =
    let less : suc i * 64 + j - 64 ≡ i * 64 + j = omega arith in
    get_or-append_right (cells_here x.block) (cells_of xs) 64 (suc i * 64 + j) [] (w 0 x refl) (omega arith) ∙ ap (λ (k : ℕ). get_or (cells_of xs) k []) less ∙ cell_is xs (tail_whole x xs w) i j e q l

pub cells_set : (entries : List Entry) → HasBlocks entries → (i j : ℕ) (e d : Entry) (bytes : List ℕ) → get_elem? entries i ≡ some e → j < 64 → cells_here d.block ≡ set (cells_here e.block) j bytes
    → cells_of (set entries i d) ≡ set (cells_of entries) (i * 64 + j) bytes
cells_set [] w i j e d bytes q l s = absurd (some-ne-none e (sym q))
cells_set (x ∷ xs) w zero j e d bytes q l s =
    let h = w 0 x refl in
    let first : 0 * 64 + j ≡ j = omega arith in
    ap (λ (b : List (List ℕ)). b ++ cells_of xs) (s ∙ ap (λ (y : Entry). set (cells_here y.block) j bytes) (sym (some-injective x e q))) ∙ sym (set-append_left (cells_here x.block) (cells_of xs) j bytes (omega (arith, h, l))) ∙ ap (λ (k : ℕ). set (cells_of (x ∷ xs)) k bytes) (sym first)
cells_set (x ∷ xs) w (suc i) j e d bytes q l s =
    let less : suc i * 64 + j - 64 ≡ i * 64 + j = omega arith in
    ap (λ (b : List (List ℕ)). cells_here x.block ++ b) (cells_set xs (tail_whole x xs w) i j e d bytes q l s ∙ ap (λ (k : ℕ). set (cells_of xs) k bytes) (sym less))
    ∙ sym (set-append_right (cells_here x.block) (cells_of xs) 64 (suc i * 64 + j) bytes (w 0 x refl) (omega arith))

pub cells_same : (entries : List Entry) (i : ℕ) (e d : Entry) → get_elem? entries i ≡ some e → cells_here d.block ≡ cells_here e.block → cells_of (set entries i d) ≡ cells_of entries
cells_same [] i e d q s = absurd (some-ne-none e (sym q))
cells_same (x ∷ xs) zero e d q s = ap (λ (b : List (List ℕ)). b ++ cells_of xs) (s ∙ ap (λ (y : Entry). cells_here y.block) (sym (some-injective x e q)))
cells_same (x ∷ xs) (suc i) e d q s = ap (λ (b : List (List ℕ)). cells_here x.block ++ b) (cells_same xs i e d q s)

abbrev nothing : List ℕ
nothing = []

free_cell : (k n : ℕ) → get_or (replicate k nothing ++ []) n nothing ≡ nothing
free_cell zero n = refl
free_cell (suc k) zero = refl
free_cell (suc k) (suc n) = free_cell k n

behind : (xs ys zs : List (List ℕ)) → ((n : ℕ) → get_or zs n [] ≡ get_or ys n []) → (n : ℕ) → get_or (xs ++ zs) n [] ≡ get_or (xs ++ ys) n []
behind [] ys zs same n = same n
behind (x ∷ xs) ys zs same zero = refl
behind (x ∷ xs) ys zs same (suc n) = behind xs ys zs same n

-- a block with all cells free, behind the last, changes nothing in the map
pub map_snoc : (entries : List Entry) (d : Entry) → cells_here d.block ≡ replicate 64 [] → IsSameMap (cells_of entries) (cells_of (entries ++ d ∷ []))
map_snoc [] d s n = ap (λ (b : List (List ℕ)). get_or (b ++ []) n []) s ∙ free_cell 64 n
map_snoc (x ∷ xs) d s n = behind (cells_here x.block) (cells_of xs) (cells_of (xs ++ d ∷ [])) (map_snoc xs d s) n

-- where each block holds bytes, all are busy
pub busy_all : (entries : List Entry) → HasBlocks entries → ((i : ℕ) (e : Entry) → get_elem? entries i ≡ some e → blocks_here e.block ≡ 1 → 0 < used (cells_here e.block))
    → total blocks_here entries ≡ busy_blocks (cells_of entries)
busy_all entries w busy = sym (among entries w busy) ∙ ap (λ (n : ℕ). busy_among n (cells_of entries)) (let l = length_cells entries w in omega (arith, l))
  where
    one_busy : (b : Cells) → (blocks_here b ≡ 1 → 0 < used (cells_here b)) → min 1 (used (cells_here b)) ≡ blocks_here b
    one_busy (Some c) h = let u = h refl in omega (arith, u)
    one_busy None h = refl

    front : (xs ys : List (List ℕ)) → take (length xs) (xs ++ ys) ≡ xs
    front [] ys = refl
    front (x ∷ xs) ys = ap (λ (l : List (List ℕ)). x ∷ l) (front xs ys)

    back : (xs ys : List (List ℕ)) → drop (length xs) (xs ++ ys) ≡ ys
    back [] ys = refl
    back (x ∷ xs) ys = back xs ys

    among : (entries : List Entry) → HasBlocks entries → ((i : ℕ) (e : Entry) → get_elem? entries i ≡ some e → blocks_here e.block ≡ 1 → 0 < used (cells_here e.block))
        → busy_among (length entries) (cells_of entries) ≡ total blocks_here entries
    among [] w busy = refl
    among (x ∷ xs) w busy =
        let h = w 0 x refl in
        let c = cells_here x.block in
        let f : min 1 (used (take 64 (c ++ cells_of xs))) ≡ blocks_here x.block = ap (λ (k : ℕ). min 1 (used (take k (c ++ cells_of xs)))) (sym h) ∙ ap (λ (b : List (List ℕ)). min 1 (used b)) (front c (cells_of xs)) ∙ one_busy x.block (busy 0 x refl) in
        let b : busy_among (length xs) (drop 64 (c ++ cells_of xs)) ≡ total blocks_here xs = ap (λ (k : ℕ). busy_among (length xs) (drop k (c ++ cells_of xs))) (sym h) ∙ ap (busy_among (length xs)) (back c (cells_of xs)) ∙ among xs (tail_whole x xs w) (λ i e q. busy (suc i) e q) in
        λ i. f i + b i

pub no_cell : (k n : ℕ) → get_or (replicate k nothing) n nothing ≡ nothing
no_cell zero n = refl
no_cell (suc k) zero = refl
no_cell (suc k) (suc n) = no_cell k n

pub vacant_cell : (b : Cells) (j : ℕ) → b ≡ None → get_or (cells_here b) j [] ≡ []
vacant_cell b j e = ap (λ (x : Cells). get_or (cells_here x) j []) e ∙ no_cell 64 j

held_below : (cells : List (List ℕ)) (n : ℕ) → get_or cells n [] ≢ [] → n < length cells
held_below [] n h = absurd (h refl)
held_below (x ∷ xs) zero h = omega arith
held_below (x ∷ xs) (suc n) h = let b = held_below xs n h in omega (arith, b)

-- a cell that holds bytes lies in some block
pub place_below : (entries : List Entry) → HasBlocks entries → (n : ℕ) → get_or (cells_of entries) n [] ≢ [] → n / 64 < length entries
place_below entries w n h =
    let b = held_below (cells_of entries) n h in
    let l = length_cells entries w in
    omega (arith, b, l)

-- the same cell, by its place and by its number
pub cell_at_place : (entries : List Entry) → HasBlocks entries → (n : ℕ) (e : Entry) → get_elem? entries (n / 64) ≡ some e → get_or (cells_of entries) n [] ≡ get_or (cells_here e.block) (n % 64) []
cell_at_place entries w n e q =
    let parts : n ≡ n / 64 * 64 + n % 64 = omega arith in
    ap (λ (k : ℕ). get_or (cells_of entries) k []) parts ∙ cell_is entries w (n / 64) (n % 64) e q (omega arith)
