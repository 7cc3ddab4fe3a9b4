use Rattle.std.proofs.Common.{◌≡◌, ◌++◌, take, map, length}
use Rattle.script_words.specs.Lines.{words}
use Rattle.script_words.proofs.words.leading_words.Given as goal

abbrev pub invariant-loop-i : goal.invariant-loop-i
invariant-loop-i l = record {
  so_far : take l.i (map (λ w. w.now) l.places) ++ words l.rest ≡ words l.fn.text;
  five : length l.places ≡ 5;
}
