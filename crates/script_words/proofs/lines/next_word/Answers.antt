use Rattle.script_words.proofs.Cuts.{no_word, word_found, word_shorter}
use Rattle.script_words.proofs.lines.next_word.Goals as goal

pub returns-then-start-text-clause-found : goal.returns-then-start-text-clause-found
returns-then-start-text-clause-found c = no_word c.args.text.now c.first_solid-start.result c.first_solid-start.ensures.place c.if-start-text.true

pub returns-clause-found : goal.returns-clause-found
returns-clause-found c = word_found _ _ _ _ _ _ c.first_solid-start.ensures.place c.first_solid-start.ensures.within c.if-start-text.false c.split_at.ensures.back c.first_blank.ensures.place c.first_blank.ensures.within c.split_at-2.ensures.front c.split_at-2.ensures.back

pub returns-clause-shorter : goal.returns-clause-shorter
returns-clause-shorter c = word_shorter _ _ _ _ _ c.first_solid-start.ensures.place c.first_solid-start.ensures.within c.if-start-text.false c.split_at.ensures.back c.first_blank.ensures.place c.first_blank.ensures.within c.split_at-2.ensures.back
