use Rattle.session_shell.proofs.Outcomes.{answered, none_taken, refused_at, too_long_taken}
use Rattle.session_shell.proofs.replay.toast_replay.Goals as goal

pub returns-then-is_replay-clause-taken : goal.returns-then-is_replay-clause-taken
returns-then-is_replay-clause-taken g c = λ bytes told more. too_long_taken _ _ bytes c.replay.ensures.outcome told more

pub returns-else-is_replay-clause-taken : goal.returns-else-is_replay-clause-taken
returns-else-is_replay-clause-taken g c = λ bytes told more. absurd (none_taken _ bytes told more)

pub returns-then-is_replay-clause-refuses : goal.returns-then-is_replay-clause-refuses
returns-then-is_replay-clause-refuses g c = λ bytes line cause words tells bad. refused_at _ _ bytes line cause c.replay.ensures.outcome tells bad

pub returns-then-is_replay-clause-answers : goal.returns-then-is_replay-clause-answers
returns-then-is_replay-clause-answers g c = λ bytes script words tells sound good. answered _ _ bytes script c.replay.ensures.outcome tells sound good
