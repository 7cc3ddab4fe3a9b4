use Rattle.std.proofs.Common.{◌≡◌, ◌-◌, ◌∷◌, ◌++◌, [], set, arith, ap, ◌∙◌}
use Rattle.script_text.proofs.Counts.{set_last, on_ok}
use Rattle.script_text.proofs.draft.push_last.Goals as goal

pub returns : goal.returns
returns c = on_ok c.push.result
    (λ (grown : c.push.new.self ≡ c.index_mut.result.now ++ c.args.command ∷ []).
    ap (λ s. set c.args.sessions.now.items (c.len-last.result - 1) s) grown
    ∙ set_last c.args.command c.args.sessions.now.items (c.len-last.result - 1) c.index_mut.result.now (omega (arith, c.args.sessions.now.ok.0)) c.index_mut.ensures.value)
    c.push.ensures.ok
