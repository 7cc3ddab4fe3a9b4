use Rattle.std.proofs.Common.{◌≡◌, ◌≤◌, Err, length, ap, ◌∙◌, arith}
use Rattle.script_words.specs.Lines.{words}
use Rattle.script_words.specs.Names.{storage_in}
use Rattle.script_words.proofs.Spelled.{each_length}
use Rattle.script_text.proofs.forms.table_of.Goals as goal

pub returns-in-Err-Count : goal.returns-in-Err-Count
returns-in-Err-Count c =
    let refused = c.in-Err-Count.ensures.count c.in-Err-Count.field-0-0 (ap Err c.in-Err-Count.field-0-is) in
    let same : c.in-Err-Count.field-0-0 ≡ length (words c.args.text.now) = refused.0 ∙ ap length c.as_slice.ensures ∙ each_length storage_in (words c.args.text.now) _ c.in_ok-storages.ensures in
    let some : 1 ≤ c.in-Err-Count.field-0-0 = omega (arith, same, c.word_count-columns.ensures, c.if-columns-lt1.false) in
    let few : c.in-Err-Count.field-0-0 ≤ 8 = omega (arith, same, c.word_count-columns.ensures, c.if-columns-gt8.false) in
    absurd (refused.1 (some, few))
