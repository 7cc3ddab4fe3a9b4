use Rattle.std.proofs.Common.{◌≡◌, arith}
use Rattle.std.proofs.Math.ListN.{length-set}
use Rattle.std.proofs.lemmas.Result.{err_from_is_err_and}
use Rattle.script_words.specs.Lines.{words}
use Rattle.script_words.proofs.Counted.{first_cut, word_more, too_few, enough}
use Rattle.script_words.proofs.words.leading_words.Goals as goal

pub loop-i-preserved : goal.loop-i-preserved
loop-i-preserved c = record {
  so_far = word_more (λ w. w.now) c.loop-i.places c.loop-i.i c.in_ok-word.word (words c.loop-i.rest.now) (words c.in_ok-word.others.now) _ (omega (arith, c.loop-i.invariant.five)) (first_cut _ _ _ c.in_ok-word.ensures) c.loop-i.invariant.so_far;
  five = simp length-set c.loop-i.invariant.five;
}

pub returns-in_err-word : goal.returns-in_err-word
returns-in_err-word c =
    let p = err_from_is_err_and c.from_residual.result c.from_residual.ensures.1 in
    rw (p.1, p.2) (too_few (λ w. w.now) c.loop-i.places c.loop-i.i c.args.count (words c.loop-i.rest.now) _ _ (omega arith) (omega (arith, c.loop-i.invariant.five)) c.loop-i.invariant.so_far c.in_err-word.ensures)

pub returns : goal.returns
returns c =
    let all : c.loop-i.i ≡ c.args.count = omega arith in
    enough (λ w. w.now) c.loop-i.places c.args.count (words c.loop-i.rest.now) _ (omega (arith, c.loop-i.invariant.five)) (rw all at c.loop-i.invariant.so_far)
