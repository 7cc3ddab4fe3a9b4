use Rattle.std.proofs.Common.{◌≡◌, ◌<◌, ℕ, Some, None, cond, leb, arith}
use Rattle.std.specs.Str.Parse.{digits_value}
use Rattle.std.proofs.lemmas.Bool.Decides.{nat_tests}
use Rattle.script_words.proofs.Digits.{too_much, digit_more, digit_there}
use Rattle.script_words.proofs.numbers.value_up_to.Goals as goal

none_above : (v high : ℕ) → high < v → None ≡ cond (leb v high) (Some v) None
none_above v high h = grind (arith, nat_tests)

pub returns-then-number-high-clause-value : goal.returns-then-number-high-clause-value
returns-then-number-high-clause-value c =
    none_above (digits_value 10 c.args.digits.now) c.args.high (too_much c.args.digits.now c.loop-digit.digit-index c.loop-digit.number _ c.args.high c.loop-digit-test.true c.loop-digit.invariant.whole c.if-number-high.true)

pub loop-digit-preserved : goal.loop-digit-preserved
loop-digit-preserved c = record {
  whole = rw c.from.ensures (digit_more c.args.digits.now c.loop-digit.digit-index c.loop-digit.number _ c.loop-digit-test.true c.requires.digits c.loop-digit.invariant.whole);
  small = omega (arith, digit_there c.args.digits.now c.loop-digit.digit-index c.loop-digit-test.true c.requires.digits);
}
