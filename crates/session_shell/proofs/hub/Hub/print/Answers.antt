-- The text of the kept lines is the journal's, and all of it is written, or a part.
use Rattle.std.proofs.Common.{ap, arith, subst, sym, ◌∙◌}
use Rattle.std.specs.List.{flat_map}
use Rattle.std.specs.Io.KnownBytes.{Appends}
use Rattle.std.proofs.lemmas.Result.{err_from_is_err_and}
use Rattle.toast_io.specs.Sink.{AppendsPart}
use Rattle.line_printer.proofs.Carries.{all_printed, count_printed, fault_printed, part_printed}
use Rattle.session_shell.specs.Hubs.{HubState}
use Rattle.session_shell.specs.Follows.{IsIdle}
use Rattle.session_shell.specs.Text.{AreSaid, said_text, text_of}
use Rattle.session_shell.specs.contracts.hub.Hub.{the_view}
use Rattle.session_shell.proofs.Texts.{all_said, text_is}
use Rattle.session_shell.proofs.hub.Hub.print.Goals as goal

pub print_lines-requires : goal.print_lines-requires
print_lines-requires g c = subst AreSaid (sym c.deref.ensures.value) (all_said (the_view c.self.inside) c.self.inside.progress.items c.self.invariant.0 (subst IsIdle (sym c.self.view_is) c.requires.idle))

-- ---- what is written

pub returns-clause-ok : goal.returns-clause-ok
returns-clause-ok g c =
    let same = ap (flat_map said_text) c.deref.ensures.value ∙ text_is (the_view c.self.inside) c.self.inside.progress.items c.self.invariant.0 (subst IsIdle (sym c.self.view_is) c.requires.idle) ∙ ap (λ (hub : HubState). text_of hub.script hub.journal) c.self.view_is in
    subst (Appends _ _) same (all_printed _ _ _ _ _ _ c.requires.first c.print_lines.ensures c.in_ok-finish.ensures.ok)

pub returns-clause-count : goal.returns-clause-count
returns-clause-count g c = omega (arith, count_printed _ _ _ _ _ c.requires.first c.print_lines.ensures, c.finish.ensures.count)

pub returns-in_err-finish-clause-failed : goal.returns-in_err-finish-clause-failed
returns-in_err-finish-clause-failed g c =
    let p = err_from_is_err_and c.from_residual.result c.from_residual.ensures.1 in
    let same = ap (flat_map said_text) c.deref.ensures.value ∙ text_is (the_view c.self.inside) c.self.inside.progress.items c.self.invariant.0 (subst IsIdle (sym c.self.view_is) c.requires.idle) ∙ ap (λ (hub : HubState). text_of hub.script hub.journal) c.self.view_is in
    rw p.1 (subst (AppendsPart _ _) same (part_printed _ _ _ _ _ _ c.requires.first c.print_lines.ensures c.in_err-finish.ensures.err))

pub returns-in_err-finish-clause-count : goal.returns-in_err-finish-clause-count
returns-in_err-finish-clause-count g c = omega (arith, count_printed _ _ _ _ _ c.requires.first c.print_lines.ensures, c.finish.ensures.count)

pub returns-in_err-finish-clause-cause : goal.returns-in_err-finish-clause-cause
returns-in_err-finish-clause-cause g c =
    let p = err_from_is_err_and c.from_residual.result c.from_residual.ensures.1 in
    rw p.1 (fault_printed _ _ _ _ _ _ c.requires.first c.print_lines.ensures c.in_err-finish.ensures.err)
