use Rattle.std.proofs.Common.{Some, sym, ap, ◌∙◌}
use Rattle.toast_program.proofs.Commands.{make_from, make_to, part_is, replay_is, replayed, text_is, wanting_is}
use Rattle.toast_program.proofs.top.toast_main.Goals as goal

pub toast_make-requires-clause-at_least : goal.toast_make-requires-clause-at_least
toast_make-requires-clause-at_least g c = make_from c.args.words.now _ (sym c.read_words.ensures ∙ c.in-Some-Make.is ∙ ap Some c.in-Some-Make.field-0-is)

pub toast_make-requires-clause-at_most : goal.toast_make-requires-clause-at_most
toast_make-requires-clause-at_most g c = make_to c.args.words.now _ (sym c.read_words.ensures ∙ c.in-Some-Make.is ∙ ap Some c.in-Some-Make.field-0-is)

-- the clauses of `toast_replay`
pub returns-in-Some-Replay-clause-outcome : goal.returns-in-Some-Replay-clause-outcome
returns-in-Some-Replay-clause-outcome g c =
    let is = sym c.read_words.ensures ∙ c.in-Some-Replay.is ∙ ap Some c.in-Some-Replay.field-0-is in
    let words = replay_is c.args.words.now is in
    let says = c.toast_replay.ensures in
    replayed c.args.words.now _ _ is (record {
      command = λ used. says.usage.0 used words;
      done = λ e. text_is _ (says.done e);
      write_fault = λ e. part_is _ (says.write_fault e);
      memory = λ e. wanting_is _ (says.memory e);
      unwritten = says.unwritten;
      read_cause = says.read_cause;
      write_cause = says.write_cause;
      too_long = says.too_long;
      taken = says.taken;
      bad_script = says.bad_script;
      refuses = λ bytes line cause tells bad. says.refuses bytes line cause words tells bad;
      answers = λ bytes script tells sound good. says.answers bytes script words tells sound good;
    })
