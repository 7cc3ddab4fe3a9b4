-- What changes leave at a place, and lists of changes one after another.
use Rattle.std.proofs.Common.{◌≡◌, List, [], ◌∷◌, ◌++◌, Option, Some, None, Bool, true, false, cond, refl, sym, ap, ◌∙◌}
use Rattle.std.specs.Prelude.{◌||◌}
use Rattle.std.specs.Option.{option_or, unwrap_or}
use Rattle.std.specs.FinMap as map
use Rattle.tuple_layout.specs.declared.Place.{Place}
use Rattle.tuple_layout.specs.Places.{Row, Rows, same_place, get-put, get-gone}
use Rattle.command_set.specs.declared.state.Change.{Change}
use Rattle.command_set.specs.declared.state.Change.TheVariants.{Insert, Update, Move, Remove}
use Rattle.command_set.specs.Changes.{fold_changes, is_named, keys_of, made, outcome, place, places_of, said}
use Rattle.command_set.proofs.Named.{named_append}

-- what is said, or else what was
said_cond : (b : Bool) (o was : Option Row) → cond b o was ≡ unwrap_or (cond b (Some o) None) was
said_cond true o was = refl
said_cond false o was = refl

-- the same of two tests
said_twice : (a b : Bool) (row was : Option Row) → cond a row (cond b None was) ≡ unwrap_or (cond a (Some row) (cond b (Some None) None)) was
said_twice true b row was = refl
said_twice false true row was = refl
said_twice false false row was = refl

-- a change leaves at each place what it says of it
pub get_made : (change : Change) (rows : Rows) (p : Place) → map.get (made change rows) p ≡ unwrap_or (said change p) (map.get rows p)
get_made (Insert t k row) rows p = get-put rows (place t k) row p ∙ said_cond (same_place p (place t k)) (Some row) (map.get rows p)
get_made (Update t k row) rows p = get-put rows (place t k) row p ∙ said_cond (same_place p (place t k)) (Some row) (map.get rows p)
get_made (Move t from to row) rows p =
    get-put (map.remove rows (place t from)) (place t to) row p
    ∙ ap (cond (same_place p (place t to)) (Some row)) (get-gone rows (place t from) p)
    ∙ said_twice (same_place p (place t to)) (same_place p (place t from)) (Some row) (map.get rows p)
get_made (Remove t k) rows p = get-gone rows (place t k) p ∙ said_cond (same_place p (place t k)) None (map.get rows p)

-- what is said later counts
later : (o first : Option (Option Row)) (was : Option Row) → unwrap_or o (unwrap_or first was) ≡ unwrap_or (option_or o first) was
later None first was = refl
later (Some row) first was = refl

-- changes leave at each place their outcome
pub get_fold : (changes : List Change) (rows : Rows) (p : Place) → map.get (fold_changes changes rows) p ≡ unwrap_or (outcome changes p) (map.get rows p)
get_fold [] rows p = refl
get_fold (change ∷ changes) rows p =
    get_fold changes (made change rows) p
    ∙ ap (unwrap_or (outcome changes p)) (get_made change rows p)
    ∙ later (outcome changes p) (said change p) (map.get rows p)

-- changes after others
pub fold_append : (changes more : List Change) (rows : Rows) → fold_changes (changes ++ more) rows ≡ fold_changes more (fold_changes changes rows)
fold_append [] more rows = refl
fold_append (change ∷ changes) more rows = fold_append changes more (made change rows)

-- one change more
pub fold_push : (changes : List Change) (change : Change) (rows : Rows) → fold_changes (changes ++ change ∷ []) rows ≡ made change (fold_changes changes rows)
fold_push changes change rows = fold_append changes (change ∷ []) rows

-- of three, the first that is there
or_or : (a b c : Option (Option Row)) → option_or (option_or a b) c ≡ option_or a (option_or b c)
or_or None b c = refl
or_or (Some row) b c = refl

-- what one change more leaves
pub outcome_push : (changes : List Change) (change : Change) (p : Place) → outcome (changes ++ change ∷ []) p ≡ option_or (said change p) (outcome changes p)
outcome_push [] change p = or_none (said change p)
  where
    or_none : (o : Option (Option Row)) → option_or None o ≡ option_or o None
    or_none None = refl
    or_none (Some row) = refl
outcome_push (first ∷ changes) change p =
    ap (λ o. option_or o (said first p)) (outcome_push changes change p)
    ∙ or_or (said change p) (outcome changes p) (said first p)

neither_left : (a b : Bool) → (a || b) ≡ false → a ≡ false
neither_left true b none = none
neither_left false b none = refl

neither_right : (a b : Bool) → (a || b) ≡ false → b ≡ false
neither_right true b none = absurd (cc)
neither_right false b none = none

-- a change says nothing of a place that it does not name
pub said_other : (change : Change) (p : Place) → is_named (places_of change) p ≡ false → said change p ≡ None
said_other (Insert t k row) p other = ap (λ b. cond b (Some (Some row)) None) (neither_left (same_place p (place t k)) false other)
said_other (Update t k row) p other = ap (λ b. cond b (Some (Some row)) None) (neither_left (same_place p (place t k)) false other)
said_other (Move t from to row) p other =
    let at_old = same_place p (place t from) in
    let at_new = same_place p (place t to) in
    let away = neither_right at_old (at_new || false) other in
    ap (λ b. cond b (Some (Some row)) (cond at_old (Some None) None)) (neither_left at_new false away)
    ∙ ap (λ b. cond b (Some None) None) (neither_left at_old (at_new || false) other)
said_other (Remove t k) p other = ap (λ b. cond b (Some None) None) (neither_left (same_place p (place t k)) false other)

-- and changes leave nothing at a place that none of them names
pub outcome_other : (changes : List Change) (p : Place) → is_named (keys_of changes) p ≡ false → outcome changes p ≡ None
outcome_other [] p other = refl
outcome_other (change ∷ changes) p other =
    let both = sym (named_append (places_of change) (keys_of changes) p) ∙ other in
    let here = is_named (places_of change) p in
    let after = is_named (keys_of changes) p in
    ap (λ o. option_or o (said change p)) (outcome_other changes p (neither_right here after both))
    ∙ ap (option_or None) (said_other change p (neither_left here after both))

-- changes leave the rows at other places
pub fold_other : (changes : List Change) (rows : Rows) (p : Place) → is_named (keys_of changes) p ≡ false → map.get (fold_changes changes rows) p ≡ map.get rows p
fold_other changes rows p other = get_fold changes rows p ∙ ap (λ o. unwrap_or o (map.get rows p)) (outcome_other changes p other)
