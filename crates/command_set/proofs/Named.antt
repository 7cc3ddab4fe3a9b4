-- Which places a list of changes names.
use Rattle.std.proofs.Common.{◌≡◌, List, [], ◌∷◌, ◌++◌, Bool, true, false, refl, ap, ◌∙◌}
use Rattle.std.specs.Prelude.{◌||◌}
use Rattle.std.specs.List.{list_any}
use Rattle.tuple_layout.specs.declared.Place.{Place}
use Rattle.tuple_layout.specs.Places.{same_place}
use Rattle.command_set.specs.declared.state.Change.{Change}
use Rattle.command_set.specs.Changes.{is_named, keys_of, places_of}

-- of three tests one holds
or_or : (a b c : Bool) → (a || (b || c)) ≡ ((a || b) || c)
or_or true b c = refl
or_or false b c = refl

-- a place that is one of two lists is one of the first or of the second
pub named_append : (ps qs : List Place) (p : Place) → is_named (ps ++ qs) p ≡ is_named ps p || is_named qs p
named_append [] qs p = refl
named_append (q ∷ ps) qs p = ap (λ b. same_place p q || b) (named_append ps qs p) ∙ or_or (same_place p q) (is_named ps p) (is_named qs p)

-- a place is named by changes where one of them names it
pub named_by_any : (changes : List Change) (p : Place) → is_named (keys_of changes) p ≡ list_any (λ change. is_named (places_of change) p) changes
named_by_any [] p = refl
named_by_any (change ∷ changes) p = named_append (places_of change) (keys_of changes) p ∙ ap (λ b. is_named (places_of change) p || b) (named_by_any changes p)
