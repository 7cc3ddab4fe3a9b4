-- What changes leave at a place that they name, whatever was there.
use Rattle.std.proofs.Common.{refl, sym, ◌∙◌}
use Rattle.std.specs.FinMap as map
use Rattle.std.specs.Option.{option_or, unwrap_or}
use Rattle.std.specs.Prelude.{Bool, List, None, Option, Some, [], cond, false, is_some, true, ◌||◌, ◌∷◌, ◌≡◌}
use Rattle.tuple_layout.specs.Places.{Row, Rows, same_place}
use Rattle.tuple_layout.specs.declared.Place.{Place}
use Rattle.command_set.proofs.Named.{named_append}
use Rattle.command_set.proofs.Outcomes.{get_fold}
use Rattle.command_set.specs.Changes.{fold_changes, is_named, keys_of, outcome, place, places_of, said}
use Rattle.command_set.specs.declared.state.Change.{Change}
use Rattle.command_set.specs.declared.state.Change.TheVariants.{Insert, Move, Remove, Update}

one_said : (b : Bool) (o : Option Row) → (b || false) ≡ true → is_some (cond b (Some o) None) ≡ true
one_said true o e = refl
one_said false o e = absurd (cc)

two_said : (a b : Bool) (row : Row) → (a || (b || false)) ≡ true → is_some (cond b (Some (Some row)) (cond a (Some None) None)) ≡ true
two_said true true row e = refl
two_said true false row e = refl
two_said false true row e = refl
two_said false false row e = absurd (cc)

-- a change says something of a place that it names
said_named : (change : Change) (p : Place) → is_named (places_of change) p ≡ true → is_some (said change p) ≡ true
said_named (Insert t k row) p e = one_said (same_place p (place t k)) (Some row) e
said_named (Update t k row) p e = one_said (same_place p (place t k)) (Some row) e
said_named (Move t from to row) p e = two_said (same_place p (place t from)) (same_place p (place t to)) row e
said_named (Remove t k) p e = one_said (same_place p (place t k)) None e

either_some : (a b : Bool) (o first : Option (Option Row)) → (a || b) ≡ true → (a ≡ true → is_some first ≡ true) → (b ≡ true → is_some o ≡ true) → is_some (option_or o first) ≡ true
either_some a b (Some row) first e here after = refl
either_some true b None first e here after = here refl
either_some false true None first e here after =
    let none = after refl in
    absurd (cc)
either_some false false None first e here after = absurd (cc)

pub outcome_named : (changes : List Change) (p : Place) → is_named (keys_of changes) p ≡ true → is_some (outcome changes p) ≡ true
outcome_named [] p e = absurd (cc)
outcome_named (change ∷ changes) p e =
    either_some (is_named (places_of change) p) (is_named (keys_of changes) p) (outcome changes p) (said change p) (sym (named_append (places_of change) (keys_of changes) p) ∙ e) (said_named change p) (outcome_named changes p)

-- so what they leave there is the same on all rows
pub fold_named : (changes : List Change) (rows other : Rows) (p : Place) → is_named (keys_of changes) p ≡ true → map.get (fold_changes changes rows) p ≡ map.get (fold_changes changes other) p
fold_named changes rows other p named = get_fold changes rows p ∙ by (outcome changes p) (outcome_named changes p named) ∙ sym (get_fold changes other p)
  where
    by : (o : Option (Option Row)) → is_some o ≡ true → unwrap_or o (map.get rows p) ≡ unwrap_or o (map.get other p)
    by None e = absurd (cc)
    by (Some row) e = refl
