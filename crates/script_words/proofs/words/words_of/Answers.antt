use Rattle.std.proofs.lemmas.Result.{err_from_is_err_and}
use Rattle.script_words.specs.Lines.{words}
use Rattle.script_words.proofs.Counted.{all_there, not_counted, too_many}
use Rattle.script_words.proofs.words.words_of.Goals as goal

pub returns-in_err-found : goal.returns-in_err-found
returns-in_err-found c =
    let p = err_from_is_err_and c.from_residual.result c.from_residual.ensures.1 in
    rw (p.1, p.2) (not_counted c.args.count (words c.args.text.now) _ c.in_err-found.ensures)

pub returns-in_err-no_words : goal.returns-in_err-no_words
returns-in_err-no_words c =
    let p = err_from_is_err_and c.from_residual-in_err-no_words.result c.from_residual-in_err-no_words.ensures.1 in
    rw (p.1, p.2) (too_many c.args.count (words c.args.text.now) _ (words c.in_ok-found.rest.now) _ c.in_ok-found.ensures c.in_err-no_words.ensures)

pub returns : goal.returns
returns c = all_there c.args.count (words c.args.text.now) _ (words c.in_ok-found.rest.now) _ c.in_ok-found.ensures c.in_ok-no_words.ensures
