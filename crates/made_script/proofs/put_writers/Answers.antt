use Rattle.std.proofs.Common.{◌++◌, List, ℕ, sym, ap, ◌∙◌, append-nil}
use Rattle.made_script.proofs.Texts.{no_sessions, session_added}
use Rattle.made_script.proofs.put_writers.Goals as goal

pub loop-done-init : goal.loop-done-init
loop-done-init c = sym (append-nil c.args.out.now) ∙ ap (λ (xs : List ℕ). c.args.out.now ++ xs) (sym (no_sessions c.args.n))

pub loop-done-preserved : goal.loop-done-preserved
loop-done-preserved c =
    session_added c.args.n c.loop-done.done c.args.out.now _ _ _ c.loop-done.invariant c.in_ok-put_text.ensures c.in_ok-put_keys.ensures
