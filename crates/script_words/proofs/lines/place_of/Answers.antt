use Rattle.std.proofs.Common.{◌≡◌, ℕ, ◌==◌, ◌≤◌, length, sym, subst, ap, ◌∙◌}
use Rattle.std.specs.Prelude.{unwrap_or}
use Rattle.std.specs.List.{position_or_len}
use Rattle.script_words.proofs.Cuts.{place_from, place_within}
use Rattle.script_words.proofs.lines.place_of.Goals as goal

pub returns-clause-place : goal.returns-clause-place
returns-clause-place c = c.unwrap_or.ensures ∙ ap (λ o. unwrap_or o (length c.args.bytes.now)) c.find_byte.ensures ∙ place_from (λ b. b == c.args.byte) c.args.bytes.now

pub returns-clause-within : goal.returns-clause-within
returns-clause-within c =
    let at_place : c.unwrap_or.result ≡ position_or_len (λ b. b == c.args.byte) c.args.bytes.now = c.unwrap_or.ensures ∙ ap (λ o. unwrap_or o (length c.args.bytes.now)) c.find_byte.ensures ∙ place_from (λ b. b == c.args.byte) c.args.bytes.now in
    subst (λ (n : ℕ). n ≤ length c.args.bytes.now) (sym at_place) (place_within (λ b. b == c.args.byte) c.args.bytes.now)
