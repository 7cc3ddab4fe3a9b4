-- Each step keeps the rule of a hall.
use Rattle.std.proofs.Common.{◌≡◌, ◌≢◌, ℕ, zero, suc, ◌+◌, ◌*◌, ◌/◌, ◌%◌, ◌^◌, ◌<◌, ◌≤◌, List, [], ◌∷◌, ◌++◌, map, length, set, Option, Some, None, Bool, true, false, refl, sym, ap, ◌∙◌, subst, ⊎_elim, arith, if◌then◌else◌}
use Rattle.std.specs.Prelude.{slice_index, slice_set, bit_or, Contains}
use mathlib.Core.Option.{some, none, some-ne-none, some-injective}
use mathlib.Core.Logic.{dite}
use mathlib.Core.List.{IsPrefix}
use native.Mathlib.Decide.{ℕ_discrete}
use lib.ListN.{get_elem?}
use lib.Bits.{or_shifted, or_add_and, and_mask}
use native.Mathlib.Nat.{eq-zero-or-pos}
use Rattle.atomic_table.specs.Table.{State, Me, Act, keeps, takes, gives, rest, step, Valid, homes_after, carried_after, Allows, Splits, Joins, opening}
use Rattle.atomic_table.proofs.Lists.{at_set, set_here, set_again, set_else, at_longer, at_snoc}
use Rattle.turn_hall.specs.declared.rule.View.{View}
use Rattle.turn_hall.specs.Passes.{Entry, Extends, merged}
use Rattle.turn_hall.specs.Turns.{Homes, turn_word, spent, onlooker, missed, won, done, told, joined, settled, Fits, IsOut, Holds, Releases, Settles, IsHome, Turns, Tries}
use Rattle.turn_hall.proofs.Prefixes.{prefix_refl, prefix_same, prefix_trans, prefix_length, prefix_extends, prefix_shorter, longer_case, shorter_case, shorter_length}
use Rattle.turn_hall.proofs.Positions.{contains_nil, contains_merged, contains_after, places_nil, places_longer, places_below, places_after, places_merged}

-- setting the lowest bit of a number
pub bit_or-one : (a : ℕ) → bit_or a 1 ≡ a / 2 * 2 + 1
bit_or-one a =
    ⊎_elim
    (λ (even : a % 2 ≡ 0). let e : a ≡ a / 2 * 2 ^ 1 = omega arith in ap (λ (k : ℕ). bit_or k 1) e ∙ or_shifted (a / 2) 1 1 (omega arith))
    (λ (odd : 0 < a % 2). omega (arith, or_add_and a 1, and_mask a 1))
    (eq-zero-or-pos (a % 2))

get_below : {A : Type 0} (l : List A) (i : ℕ) (a : A) → get_elem? l i ≡ some a → i < length l
get_below [] i a e = absurd (some-ne-none a (sym e))
get_below (x ∷ xs) zero a e = omega arith
get_below (x ∷ xs) (suc i) a e = let l = get_below xs i a e in omega arith

-- two writes at different places
set-set_else : {A : Type 0} (l : List A) (i j : ℕ) (a b : A) → i ≢ j → set (set l i a) j b ≡ set (set l j b) i a
set-set_else [] i j a b ne = refl
set-set_else (x ∷ xs) zero zero a b ne = absurd (ne refl)
set-set_else (x ∷ xs) zero (suc j) a b ne = refl
set-set_else (x ∷ xs) (suc i) zero a b ne = refl
set-set_else (x ∷ xs) (suc i) (suc j) a b ne = ap (λ t. x ∷ t) (set-set_else xs i j a b (λ e. ne (ap suc e)))

-- the slots of a pass that does not hold the value, and of one that does
pub no_slot : {V F : Type 0} (me : Me (Option V) (View F)) → Holds me → me.0.turn ≡ false → me.1 ≡ []
no_slot {V} {F} me holds idle = holds.0 ∙ ap (λ (b : Bool). if b then (0, None) ∷ [] else []) idle

pub one_slot : {V F : Type 0} (me : Me (Option V) (View F)) → Holds me → me.0.turn ≡ true → me.1 ≡ (0, None) ∷ []
one_slot {V} {F} me holds turn = holds.0 ∙ ap (λ (b : Bool). if b then (0, None) ∷ [] else []) turn

pub front : {A : Type 0} (l m : List (ℕ × A)) (x : ℕ × A) → l ≡ x ∷ m → l ≡ x ∷ rest l
front l m x e = e ∙ ap (λ r. x ∷ r) (sym (ap rest e))

abbrev value_or : {A : Type 0} → A → List (ℕ × A) → A
value_or a [] = a
value_or a (x ∷ xs) = x.1

off : {A : Type 0} → false ≡ true → A
off e = absurd (cc)

not_true : (b : Bool) → (b ≡ true → ⊥) → b ≡ false
not_true true h = absurd (h refl)
not_true false h = refl

by_turn : {A : Type 0} (P : A → Type 0) (a c : A) (b : Bool) → (b ≡ true → P a) → (b ≡ false → P c) → P (if b then a else c)
by_turn P a c true h k = h refl
by_turn P a c false h k = k refl

module _ {V F : Type 0} (entries : V → List Entry) (fixed : V → F) (first : V) where
  abbrev Rule : State (Option V) (View F) → Type 0
  Rule = Turns entries fixed first

  abbrev AtSeat : Type 0
  AtSeat = Me (Option V) (View F)

  -- the rule after a step of the seat `me`, from what is true of it and of the others
  step_keeps : (s : State (Option V) (View F)) (r : Rule s) (me : ℕ) (w : View F) (homes : Homes V) (history : List Entry) (holder : Option ℕ)
      → length history < 2 ^ 62
      → (holder ≡ None → IsHome entries fixed homes history (fixed first))
      → ((seat : ℕ) → holder ≡ Some seat → IsOut homes (set s.views me w) seat)
      → Fits history (fixed first) holder me w
      → ((j : ℕ) (u : View F) → j ≢ me → get_elem? s.views j ≡ some u → Fits history (fixed first) holder j u)
      → ((j : ℕ) (u : View F) → j ≢ me → get_elem? s.views j ≡ some u → (p : ℕ) → Contains w.mine p → Contains u.mine p → ⊥)
      → Rule record { words = turn_word (length history) holder ∷ []; homes = homes; views = set s.views me w }
  step_keeps s r me w homes history holder short home out mine others apart = record {
    history = history;
    holder = holder;
    words = refl;
    short = short;
    home = home;
    out = out;
    fits = λ j u e. ⊎_elim
        (λ (t : (j ≡ me) × (w ≡ u)). subst (λ (x : ℕ × View F). Fits history (fixed first) holder x.0 x.1) (λ i. (sym t.0 i, t.1 i)) mine)
        (λ (t : (j ≢ me) × (get_elem? s.views j ≡ some u)). others j u t.0 t.1)
        (at_set s.views me j w u e);
    apart = λ i j v u ne e e' p. ⊎_elim
        (λ (t : (i ≡ me) × (w ≡ v)). ⊎_elim
        (λ (t' : (j ≡ me) × (w ≡ u)). absurd (ne (t.0 ∙ sym t'.0)))
        (λ (t' : (j ≢ me) × (get_elem? s.views j ≡ some u)). λ a b. apart j u t'.0 t'.1 p (subst (λ (x : View F). Contains x.mine p) (sym t.1) a) b)
        (at_set s.views me j w u e'))
        (λ (t : (i ≢ me) × (get_elem? s.views i ≡ some v)). ⊎_elim
        (λ (t' : (j ≡ me) × (w ≡ u)). λ a b. apart i v t.0 t.1 p (subst (λ (x : View F). Contains x.mine p) (sym t'.1) b) a)
        (λ (t' : (j ≢ me) × (get_elem? s.views j ≡ some u)). r.apart i j v u ne t.1 t'.1 p)
        (at_set s.views me j w u e'))
        (at_set s.views me i w v e);
  }

  -- where a seat changes its view and not its turn, what was out is out
  out_stays : (s : State (Option V) (View F)) (r : Rule s) (me : ℕ) (v w : View F) → get_elem? s.views me ≡ some v → (v.turn ≡ true → w.turn ≡ true)
      → (seat : ℕ) → r.holder ≡ Some seat → IsOut s.homes (set s.views me w) seat
  out_stays s r me v w at more seat is =
      let o = r.out seat is in (
        o.0,
        dite (ℕ_discrete seat me)
            (λ e. let same : o.1.0 ≡ v = some-injective _ _ (sym o.1.1 ∙ ap (get_elem? s.views) e ∙ at) in
            (w, ap (get_elem? (set s.views me w)) e ∙ set_here s.views me w (get_below s.views me v at), more (ap (λ (x : View F). x.turn) (sym same) ∙ o.1.2)))
            (λ ne. (o.1.0, set_else s.views me seat w ne ∙ o.1.1, o.1.2)),
      )

  -- at the start
  pub begins : (n : ℕ) (slots : List (Option V)) (x : V) → n ≡ length (entries x) → n < 2 ^ 62 → slots ≡ Some x ∷ [] → first ≡ x
      → Rule (opening (2 * n ∷ []) slots (onlooker (entries first) (fixed first)))
  begins n slots x is short has same = record {
    history = entries first;
    holder = None;
    words = ap (λ (k : ℕ). 2 * k ∷ []) (is ∙ ap (λ (y : V). length (entries y)) (sym same));
    short = subst (λ (k : ℕ). k < 2 ^ 62) (is ∙ ap (λ (y : V). length (entries y)) (sym same)) short;
    home = λ _. (first, ap (λ l. get_elem? (map some l) 0) (has ∙ ap (λ (y : V). Some y ∷ []) (sym same)), refl, refl);
    out = λ seat e. absurd (cc);
    fits = one_fits;
    apart = one_apart;
  }
    where
      v0 : View F
      v0 = onlooker (entries first) (fixed first)

      one_fits : (j : ℕ) (v : View F) → get_elem? (v0 ∷ []) j ≡ some v → Fits (entries first) (fixed first) None j v
      one_fits zero v e = subst (Fits (entries first) (fixed first) None 0) (some-injective _ _ e) record {
        seen = prefix_refl (entries first);
        heard = (entries first, refl);
        shorter = omega arith;
        places = places_nil (entries first);
        same = λ f e. cc;
        turn = λ t. off t;
      }
      one_fits (suc j) v e = absurd (some-ne-none v (sym e))

      one_apart : (i j : ℕ) (v w : View F) → i ≢ j → get_elem? (v0 ∷ []) i ≡ some v → get_elem? (v0 ∷ []) j ≡ some w → (p : ℕ) → Contains v.mine p → Contains w.mine p → ⊥
      one_apart zero zero v w ne e e' p a b = ne refl
      one_apart zero (suc j) v w ne e e' p a b = some-ne-none w (sym e')
      one_apart (suc i) j v w ne e e' p a b = some-ne-none v (sym e)

  -- what a try at the words ws comes to, by a seat that carries c
  abbrev TryAt : State (Option V) (View F) → ℕ → View F → List (ℕ × Option V) → List ℕ → Type 0
  TryAt s me v c ws = (w : View F) × (a : Act (Option V)) × Valid s.homes c a
      × Rule record { words = slice_set ws 0 (bit_or (slice_index ws 0) 1); homes = homes_after s.homes c a; views = set s.views me w }
      × Tries entries fixed (step 1 0 1 0 none) (v, c) (slice_index ws 0) (w, carried_after c a)

  try_by : (s : State (Option V) (View F)) (r : Rule s) (me : ℕ) (v : View F) (c : List (ℕ × Option V)) → get_elem? s.views me ≡ some v
      → (holder : Option ℕ) → r.holder ≡ holder → TryAt s me v c (turn_word (length r.history) holder ∷ [])
  try_by s r me v c at (Some seat) is =
      let n : ℕ = length r.history in
      let w : View F = missed v (2 * n + 1) in
      let k = r.fits me v at in
      let mine : (p : ℕ) → Contains w.mine p → Contains v.mine p = λ p. by_turn (λ (x : View F). Contains x.mine p → Contains v.mine p) v (record v { tries = v.tries ++ (2 * n + 1) ∷ []; heard = [] }) v.turn (λ turn a. a) (λ idle a. a) in
      let same_word : 2 * n + 1 ≡ bit_or (2 * n + 1) 1 = omega (arith, bit_or-one (2 * n + 1)) in (
        w,
        keeps,
        tt,
        subst (λ (ws : List ℕ). Rule record { words = ws; homes = s.homes; views = set s.views me w }) (ap (λ h. turn_word n h ∷ []) is ∙ ap (λ (x : ℕ). x ∷ []) same_word)
            (step_keeps s r me w s.homes r.history r.holder r.short r.home
            (out_stays s r me v w at (λ held. ap (λ (b : Bool). (if b then v else record v { tries = v.tries ++ (2 * n + 1) ∷ []; heard = [] }).turn) held ∙ held))
            (by_turn (Fits r.history (fixed first) r.holder me) v (record v { tries = v.tries ++ (2 * n + 1) ∷ []; heard = [] }) v.turn
            (λ held. k)
            (λ idle. record { seen = k.seen; heard = (r.history, refl); shorter = omega arith; places = k.places; same = k.same; turn = k.turn }))
            (λ j u _ e. r.fits j u e)
            (λ j u ne e p a b. r.apart me j v u (λ q. ne (sym q)) at e p (mine p a) b)),
        ((λ odd. (refl, refl)), (λ even. absurd (omega arith))),
      )
  try_by s r me v c at None is =
      let home = r.home is in
      let x : V = home.0 in
      let n : ℕ = length r.history in
      let w : View F = won v (2 * n) (entries x) in
      let k = r.fits me v at in
      let idle : v.turn ≡ false = not_true v.turn (λ held. let h = (k.turn held).0 in absurd (cc)) in
      let begun : IsPrefix v.seen (entries x) = (k.seen.0, k.seen.1 ∙ sym home.2) in
      let odd_word : 2 * n + 1 ≡ bit_or (2 * n) 1 = omega (arith, bit_or-one (2 * n)) in
      let taken : Homes V = set s.homes 0 none in (
        w,
        takes 0 (Some x),
        home.1,
        subst (λ (y : ℕ). Rule record { words = y ∷ []; homes = taken; views = set s.views me w }) odd_word
            (step_keeps s r me w taken r.history (Some me) r.short (λ e. absurd (cc))
            (λ seat e. let here : me ≡ seat = cc in
            (set_here s.homes 0 none (get_below s.homes 0 (some (Some x)) home.1), (w, subst (λ (j : ℕ). get_elem? (set s.views me w) j ≡ some w) here (set_here s.views me w (get_below s.views me v at)), refl)))
            record {
              seen = prefix_same (entries x) r.history home.2;
              heard = (r.history, refl);
              shorter = omega arith;
              places = places_longer v.mine v.seen (entries x) (prefix_length v.seen (entries x) begun) k.places;
              same = k.same;
              turn = λ t. (refl, home.2);
            }
            (λ j u _ e. let o = r.fits j u e in record { seen = o.seen; heard = o.heard; shorter = o.shorter; places = o.places; same = o.same; turn = λ t. let h = (o.turn t).0 in absurd (cc) })
            (λ j u ne e p a b. r.apart me j v u (λ q. ne (sym q)) at e p a b)),
        ((λ odd. absurd (omega arith)), (λ even. (idle, x, refl, refl, begun, (λ f e. k.same f e ∙ sym home.3)))),
      )

  tries : (id : ℕ) (v : View F) (c : List (ℕ × Option V)) → Allows Rule 1 id (v, c) 0 (λ n. bit_or n 1) (Tries entries fixed (step 1 0 1 0 none) (v, c))
  tries id v c s r one at small = subst (TryAt s id v c) (sym r.words) (try_by s r id v c at r.holder refl)

  -- what a release of the value x comes to
  abbrev ReleaseAt : State (Option V) (View F) → ℕ → View F → V → ℕ → List ℕ → Type 0
  ReleaseAt s me v x word ws = (w : View F) × (a : Act (Option V)) × Valid s.homes ((0, Some x) ∷ []) a
      × Rule record { words = slice_set ws 0 word; homes = homes_after s.homes ((0, Some x) ∷ []) a; views = set s.views me w }
      × Releases entries (step 1 0 word 0 none) (v, (0, Some x) ∷ []) word (w, carried_after ((0, Some x) ∷ []) a)

  release_by : (s : State (Option V) (View F)) (r : Rule s) (me : ℕ) (v : View F) (x : V) → v.turn ≡ true → v.fixed ≡ Some (fixed x) → Extends v.seen (entries x)
      → length (entries x) < 2 ^ 62 → get_elem? s.views me ≡ some v → (ws : List ℕ) → ws ≡ turn_word (length r.history) r.holder ∷ [] → 0 < length s.homes
      → ReleaseAt s me v x (2 * length (entries x)) ws
  release_by s r me v x turn knows extends short at ws is room =
      let k = r.fits me v at in
      let t = k.turn turn in
      let history : List Entry = entries x in
      let w : View F = done v history in
      let homes : Homes V = set s.homes 0 (some (Some x)) in
      let begun : IsPrefix v.seen history = prefix_extends v.seen history extends in
      let more : length v.seen ≤ length history = prefix_length v.seen history begun in
      let old : IsPrefix r.history history = subst (λ l. IsPrefix l history) t.1 begun in (
        w,
        gives,
        tt,
        subst (λ (l : List ℕ). Rule record { words = slice_set l 0 (2 * length history); homes = homes; views = set s.views me w }) (sym is)
            (step_keeps s r me w homes history None short
            (λ _. (x, set_here s.homes 0 (some (Some x)) room, refl, k.same (fixed x) knows))
            (λ seat e. absurd (cc))
            record {
              seen = prefix_refl history;
              heard = (history, refl);
              shorter = omega arith;
              places = places_after v.mine v.seen history more k.places;
              same = k.same;
              turn = λ e. off e;
            }
            (λ j u ne e. let o = r.fits j u e in record {
              seen = prefix_trans u.seen r.history history o.seen old;
              heard = prefix_trans u.heard r.history history o.heard old;
              shorter = o.shorter;
              places = o.places;
              same = o.same;
              turn = λ tu. let h = (o.turn tu).0 in let h' = t.0 in let clash : j ≡ me = cc in absurd (ne clash);
            })
            (λ j u ne e p a b. ⊎_elim
            (λ c. r.apart me j v u (λ q. ne (sym q)) at e p c b)
            (λ (here : length v.seen ≡ p). let o = r.fits j u e in
            let less = places_below u.mine u.seen p o.places b in
            let within = prefix_length u.seen r.history o.seen in
            let all = ap length t.1 in
            omega arith)
            (contains_after p v.mine v.seen history a))),
        (λ y same. let both : Some x ≡ Some y = ap (value_or (Some x)) same in let e : x ≡ y = cc in (ap (λ (z : V). done v (entries z)) e, refl)),
      )

  releases : (id : ℕ) (v : View F) (x : V) (word : ℕ) → word ≡ 2 * length (entries x) → v.turn ≡ true → v.fixed ≡ Some (fixed x) → Extends v.seen (entries x) → length (entries x) < 2 ^ 62
      → Allows Rule 1 id (v, (0, Some x) ∷ []) 0 (λ _. word) (λ _. Releases entries (step 1 0 word 0 none) (v, (0, Some x) ∷ []) word)
  releases id v x word is turn knows extends short s r one at small =
      subst (λ (k : ℕ). ReleaseAt s id v x k s.words) (sym is) (release_by s r id v x turn knows extends short at s.words r.words (omega (arith, one)))

  -- the steps, at a seat as a call finds it
  pub tries_at : (slots id : ℕ) (me : AtSeat) → slots ≡ 1 → Allows Rule slots id me 0 (λ n. bit_or n 1) (Tries entries fixed (step slots 0 1 0 none) me)
  tries_at slots id me one = subst (λ (n : ℕ). Allows Rule n id me 0 (λ n. bit_or n 1) (Tries entries fixed (step n 0 1 0 none) me)) (sym one) (tries id me.0 me.1)

  pub releases_at : (slots id : ℕ) (old me : AtSeat) (y : Option V) (x : V) (n : ℕ) → slots ≡ 1 → old.1 ≡ (0, y) ∷ [] → me ≡ (old.0, (0, Some x) ∷ rest old.1) → n ≡ length (entries x) → n < 2 ^ 62
      → old.0.turn ≡ true → old.0.fixed ≡ Some (fixed x) → Extends old.0.seen (entries x)
      → Allows Rule slots id me 0 (λ _. 2 * n) (λ _. Releases entries (step slots 0 (2 * n) 0 none) me (2 * n))
  releases_at slots id old me y x n one has now is short turn knows extends =
      let me' : me ≡ (old.0, (0, Some x) ∷ []) = now ∙ ap (λ l. (old.0, (0, Some x) ∷ rest l)) has in
      subst (λ (z : ℕ × AtSeat). Allows Rule z.0 id z.1 0 (λ _. 2 * n) (λ _. Releases entries (step z.0 0 (2 * n) 0 none) z.1 (2 * n)))
      (λ i. (sym one i, sym me' i))
      (releases id old.0 x (2 * n) (ap (λ k. 2 * k) is) turn knows extends (subst (λ k. k < 2 ^ 62) is short))

  pub settles : (slots id : ℕ) (me : AtSeat) → Allows Rule slots id me 0 (λ n. n) (Settles (step slots 0 0 0 none) me)
  settles slots id me s r one at small =
      let v : View F = me.0 in
      let k = r.fits id v at in
      let w : View F = settled v in (
        w,
        keeps,
        tt,
        subst (λ (l : List ℕ). Rule record { words = slice_set l 0 (slice_index l 0); homes = s.homes; views = set s.views id w }) (sym r.words)
            (step_keeps s r id w s.homes r.history r.holder r.short r.home (out_stays s r id v w at (λ t. t))
            record { seen = k.seen; heard = (r.history, refl); shorter = omega arith; places = k.places; same = k.same; turn = k.turn }
            (λ j u _ e. r.fits j u e)
            (λ j u ne e p a b. r.apart id j v u (λ q. ne (sym q)) at e p a b)),
        (refl, prefix_shorter v.heard v.seen r.history k.heard k.seen k.shorter, k.places),
      )

  pub splits : (id : ℕ) (v : View F) → Splits Rule id v v (told v)
  splits id v s r at = subst (λ l. Rule record { words = s.words; homes = s.homes; views = l ++ told v ∷ [] }) (sym (set_again s.views id v at)) record {
    history = r.history;
    holder = r.holder;
    words = r.words;
    short = r.short;
    home = r.home;
    out = λ seat e. let o = r.out seat e in (o.0, (o.1.0, at_longer s.views (told v ∷ []) seat o.1.0 o.1.1, o.1.2));
    fits = λ j u e. ⊎_elim
        (λ was. r.fits j u was)
        (λ (is : told v ≡ u). subst (Fits r.history (fixed first) r.holder j) is (new j))
        (at_snoc s.views (told v) u j e);
    apart = λ i j a b ne e e' p. ⊎_elim
        (λ was. ⊎_elim
        (λ was'. r.apart i j a b ne was was' p)
        (λ (is : told v ≡ b). λ x y. contains_nil p (subst (λ (z : View F). Contains z.mine p) (sym is) y))
        (at_snoc s.views (told v) b j e'))
        (λ (is : told v ≡ a). λ x y. contains_nil p (subst (λ (z : View F). Contains z.mine p) (sym is) x))
        (at_snoc s.views (told v) a i e);
  }
    where
      new : (j : ℕ) → Fits r.history (fixed first) r.holder j (told v)
      new j = let k = r.fits id v at in record { seen = k.seen; heard = (r.history, refl); shorter = omega arith; places = places_nil v.seen; same = k.same; turn = λ t. off t }

  -- with the other seat spent first, and then its view taken in
  pub joins : (id : ℕ) (v : View F) (other : ℕ) (w : View F) → v.turn ≡ false → w.turn ≡ false → Joins Rule id v other w (joined v w) spent
  unfolding step_keeps
  joins id v other w idle idle' s r at ne there =
      let at' : get_elem? s.views other ≡ some w = ⊎_elim
      (λ (t : (other ≡ id) × (joined v w ≡ w)). absurd (ne t.0))
      (λ (t : (other ≢ id) × (get_elem? s.views other ≡ some w)). t.1)
      (at_set s.views id other (joined v w) w there) in
      let k = r.fits id v at in
      let k' = r.fits other w at' in
      let s1 : State (Option V) (View F) = record { words = turn_word (length r.history) r.holder ∷ []; homes = s.homes; views = set s.views other spent } in
      let r1 : Rule s1 = step_keeps s r other spent s.homes r.history r.holder r.short r.home (out_stays s r other w spent at' (λ t. off (sym idle' ∙ t)))
      record { seen = (r.history, refl); heard = (r.history, refl); shorter = omega arith; places = places_nil []; same = λ f e. absurd (cc); turn = λ t. off t }
      (λ j u _ e. r.fits j u e)
      (λ j u _ e p a b. contains_nil p a) in
      let apart : (p : ℕ) → Contains v.mine p → Contains w.mine p → ⊥ = λ p a b. r.apart id other v w (λ q. ne (sym q)) at at' p a b in
      let far : (j : ℕ) (u : View F) → j ≢ id → get_elem? s1.views j ≡ some u → (p : ℕ) → Contains (merged v.mine w.mine) p → Contains u.mine p → ⊥ = λ j u far e p a b.
      ⊎_elim
      (λ (t : (j ≡ other) × (spent ≡ u)). contains_nil p (subst (λ (z : View F). Contains z.mine p) (sym t.1) b))
      (λ (t : (j ≢ other) × (get_elem? s.views j ≡ some u)). ⊎_elim
      (λ a'. r.apart id j v u (λ q. far (sym q)) at t.1 p a' b)
      (λ a'. r.apart other j w u (λ q. t.0 (sym q)) at' t.1 p a' b)
      (contains_merged p v.mine w.mine a))
      (at_set s.views other j spent u e) in
      subst (λ (z : List ℕ × List (View F)). Rule record { words = z.0; homes = s.homes; views = z.1 }) (λ i. (sym r.words i, set-set_else s.views other id spent (joined v w) ne i))
      (step_keeps s1 r1 id (joined v w) s.homes r.history r.holder r.short r.home
      (out_stays s1 r1 id v (joined v w) (set_else s.views other id spent (λ q. ne (sym q)) ∙ at) (λ t. t))
      record {
        seen = longer_case (λ l. IsPrefix l r.history) v.seen w.seen k.seen k'.seen;
        heard = shorter_case (λ l. IsPrefix l r.history) v.seen w.seen k.seen k'.seen;
        shorter = shorter_length v.seen w.seen;
        places = places_merged v.mine w.mine v.seen w.seen apart k.places k'.places;
        same = k.same;
        turn = λ t. off (sym idle ∙ t);
      }
      (λ j u _ e. r1.fits j u e)
      far)
