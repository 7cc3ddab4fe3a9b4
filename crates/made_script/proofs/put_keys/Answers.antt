use Rattle.std.proofs.Common.{◌≡◌, ◌++◌, ◌+◌, ◌%◌, ◌==◌, List, ℕ, true, false, sym, ap, ◌∙◌, append-nil, eq-eqb, arith}
use Rattle.std.proofs.lemmas.Bool.Decides.{nat_tests}
use Rattle.made_script.proofs.Texts.{no_keys, key_added, key_passed}
use Rattle.made_script.proofs.put_keys.Goals as goal
use Rattle.made_script.proofs.put_keys.Goals.{then-key-session+in_ok-put_key, else-key-session}

pub loop-done-init : goal.loop-done-init
loop-done-init c = sym (append-nil c.args.out.now) ∙ ap (λ (xs : List ℕ). c.args.out.now ++ xs) (sym (no_keys c.args.session))

pub loop-done-preserved : goal.loop-done-preserved
loop-done-preserved c =
    elim c.if-key-session.branch [
      | then-key-session+in_ok-put_key w ↦
          key_added c.args.session c.loop-done.done c.args.out.now c.loop-done.out _ (eq-eqb _ _ w.if-key-session.true) c.loop-done.invariant (w.out-is ∙ w.in_ok-put_key.ensures)
      | else-key-session w ↦
          let is : ((c.loop-done.done + 1) % 8 == c.args.session % 8) ≡ false = grind (arith, nat_tests, w.if-key-session.false) in
          w.out-is ∙ key_passed c.args.session c.loop-done.done c.args.out.now c.loop-done.out is c.loop-done.invariant
    ]
