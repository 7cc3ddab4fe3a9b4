use Rattle.std.proofs.Common.{sym}
use Rattle.std.proofs.lemmas.Result.{err_from_is_err_and}
use Rattle.script_words.specs.Lines.{words}
use Rattle.script_words.specs.Items.{item_in}
use Rattle.script_words.proofs.Steps.{each_on, each_end, each_bad}
use Rattle.script_words.proofs.items.items.Goals as goal

pub returns-in_err-found : goal.returns-in_err-found
returns-in_err-found c =
    let p = err_from_is_err_and c.from_residual.result c.from_residual.ensures.1 in
    rw (p.1, p.2) (each_bad (item_in c.args.sessions) c.in_err-found.field-0.0 c.words.items (words c.words.rest.now) _ c.in-Some.word.now _ c.in-Some.ensures.found (sym c.in_err-found.ensures) c.words.invariant)

pub words-preserved : goal.words-preserved
words-preserved c = each_on (item_in c.args.sessions) c.words.items c.push.new.self (words c.words.rest.now) _ c.in-Some.word.now c.in_ok-found.found _ c.in-Some.ensures.found (sym c.in_ok-found.ensures) c.in_ok-push.ensures.ok c.words.invariant

pub returns : goal.returns
returns c = each_end (item_in c.args.sessions) c.words.items (words c.words.rest.now) _ c.in_default.ensures.found c.words.invariant
