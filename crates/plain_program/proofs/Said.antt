-- The first of a list of refusals, as a chain of choices gives it.
use Rattle.std.proofs.Common.{◌≡◌, List, [], ◌∷◌, ◌++◌, Option, Some, None, refl, ap, ◌∙◌}
use Rattle.std.proofs.lemmas.List.{append-nil}
use Rattle.std.specs.Option.{option_or, unwrap_or}
use Rattle.command_set.specs.declared.Reply.{Reply}
use Rattle.command_set.specs.Replies.{first_of}
use Rattle.plain_program.specs.Words.{first_refusal}

-- a choice, and then these choices, one after another
abbrev pub or_each : Option Reply → List (Option Reply) → Option Reply
or_each refusal [] = refusal
or_each refusal (next ∷ rest) = or_each (option_or refusal next) rest

or_some : (reply : Reply) (rest : List (Option Reply)) → or_each (Some reply) rest ≡ Some reply
or_some reply [] = refl
or_some reply (next ∷ rest) = or_some reply rest

pub said_after : (refusal : Option Reply) (rest : List (Option Reply)) (granted : Reply) → unwrap_or (or_each refusal rest) granted ≡ first_of (refusal ∷ rest) granted
said_after (Some reply) rest granted = ap (λ r. unwrap_or r granted) (or_some reply rest)
said_after None [] granted = refl
said_after None (next ∷ rest) granted = said_after next rest granted

said_joined : (refusals rest : List (Option Reply)) (granted : Reply) → first_of (first_refusal refusals ∷ rest) granted ≡ first_of (refusals ++ rest) granted
said_joined [] rest granted = refl
said_joined (Some reply ∷ refusals) rest granted = refl
said_joined (None ∷ refusals) rest granted = said_joined refusals rest granted

-- the chain of the first of some refusals, and of these after it, gives the first of them all
pub said : (refusals rest : List (Option Reply)) (granted : Reply) → unwrap_or (or_each (first_refusal refusals) rest) granted ≡ first_of (refusals ++ rest) granted
said refusals rest granted = said_after (first_refusal refusals) rest granted ∙ said_joined refusals rest granted

-- the first of some refusals at the end of a list stands for them
pub said_last : (refusals last : List (Option Reply)) (granted : Reply) → first_of (refusals ++ first_refusal last ∷ []) granted ≡ first_of (refusals ++ last) granted
said_last [] last granted = said_joined last [] granted ∙ ap (λ all. first_of all granted) (append-nil last)
said_last (Some reply ∷ refusals) last granted = refl
said_last (None ∷ refusals) last granted = said_last refusals last granted

or_first : (refusal : Option Reply) (rest : List (Option Reply)) → or_each refusal rest ≡ option_or refusal (first_refusal rest)
or_first (Some reply) rest = or_some reply rest
or_first None [] = refl
or_first None (next ∷ rest) = or_first next rest

first_append : (refusals rest : List (Option Reply)) → option_or (first_refusal refusals) (first_refusal rest) ≡ first_refusal (refusals ++ rest)
first_append [] rest = refl
first_append (Some reply ∷ refusals) rest = refl
first_append (None ∷ refusals) rest = first_append refusals rest

-- the chain of the first of some refusals, and of these after it, is the first of them all
pub first_joined : (refusals rest : List (Option Reply)) → or_each (first_refusal refusals) rest ≡ first_refusal (refusals ++ rest)
first_joined refusals rest = or_first (first_refusal refusals) rest ∙ first_append refusals rest

-- the first of some refusals, else the granted reply
pub unwrapped : (refusals : List (Option Reply)) (granted : Reply) → unwrap_or (first_refusal refusals) granted ≡ first_of refusals granted
unwrapped [] granted = refl
unwrapped (Some reply ∷ refusals) granted = refl
unwrapped (None ∷ refusals) granted = unwrapped refusals granted
