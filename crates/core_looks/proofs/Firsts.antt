-- First replies of two lists, and what is found in a list or in what it maps to.
use Rattle.std.proofs.Common.{ap, refl, ◌∙◌}
use Rattle.std.specs.Option.{option_map}
use Rattle.std.specs.Prelude.{Bool, List, None, Option, Some, false, is_none, is_some, true, ◌∷◌, ◌≡◌}
use Rattle.command_set.specs.Replies.{answers_if, first_of}
use Rattle.command_set.specs.declared.Reply.{Reply}

-- where a first test answers the same in two lists, and the rest does where it passes, so do the lists
pub first_same : (a b : Option Reply) (xs ys : List (Option Reply)) (g h : Reply) → a ≡ b → (b ≡ None → first_of xs g ≡ first_of ys h) → first_of (a ∷ xs) g ≡ first_of (b ∷ ys) h
first_same a None xs ys g h same rest = ap (λ (o : Option Reply). first_of (o ∷ xs) g) same ∙ rest refl
first_same a (Some reply) xs ys g h same rest = ap (λ (o : Option Reply). first_of (o ∷ xs) g) same

-- a test that passes is none
pub first_passes : (a : Option Reply) (xs : List (Option Reply)) (g : Reply) → a ≡ None → first_of (a ∷ xs) g ≡ first_of xs g
first_passes a xs g e = ap (λ (o : Option Reply). first_of (o ∷ xs) g) e

pub first_stops : (a : Option Reply) (xs : List (Option Reply)) (g reply : Reply) → a ≡ Some reply → first_of (a ∷ xs) g ≡ reply
first_stops a xs g reply e = ap (λ (o : Option Reply). first_of (o ∷ xs) g) e

pub test_fails : (b : Bool) (reply : Reply) → answers_if b reply ≡ None → b ≡ false
test_fails true reply e = absurd (cc)
test_fails false reply e = refl

pub none_mapped : {X Y : Type 0} (f : X → Y) (o : Option X) → is_none (option_map f o) ≡ is_none o
none_mapped f None = refl
none_mapped f (Some x) = refl

pub some_mapped : {X Y : Type 0} (f : X → Y) (o : Option X) → is_some (option_map f o) ≡ is_some o
some_mapped f None = refl
some_mapped f (Some x) = refl

pub some_there : {X : Type 0} (o : Option X) → is_none o ≡ false → (x : X) × (o ≡ Some x)
some_there None e = absurd (cc)
some_there (Some x) e = (x, refl)
