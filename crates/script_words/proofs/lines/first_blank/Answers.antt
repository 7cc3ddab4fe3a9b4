use Rattle.std.proofs.Common.{◌≡◌, ℕ, ◌≤◌, length, sym, subst, ap, ◌∙◌}
use Rattle.std.specs.Prelude.{unwrap_or}
use Rattle.std.specs.List.{position_or_len}
use Rattle.script_words.specs.Lines.{is_blank}
use Rattle.script_words.proofs.Cuts.{place_from, place_within}
use Rattle.script_words.proofs.lines.first_blank.Goals as goal

pub returns-clause-place : goal.returns-clause-place
returns-clause-place c = c.unwrap_or.ensures ∙ ap (λ o. unwrap_or o (length c.args.text.now)) c.find_blank.ensures ∙ place_from is_blank c.args.text.now

pub returns-clause-within : goal.returns-clause-within
returns-clause-within c =
    let at_place : c.unwrap_or.result ≡ position_or_len is_blank c.args.text.now = c.unwrap_or.ensures ∙ ap (λ o. unwrap_or o (length c.args.text.now)) c.find_blank.ensures ∙ place_from is_blank c.args.text.now in
    subst (λ (n : ℕ). n ≤ length c.args.text.now) (sym at_place) (place_within is_blank c.args.text.now)
