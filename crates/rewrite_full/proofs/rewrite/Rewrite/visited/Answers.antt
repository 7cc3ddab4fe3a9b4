use Rattle.std.proofs.Common.{sym, ap, ◌∙◌, subst}
use Rattle.tuple_layout.specs.Schemas.{TableSchema}
use Rattle.table_state.specs.Tables.{IsStored}
use Rattle.rewrite_facts.specs.Holds.{RewriteHolds}
use Rattle.rewrite_full.specs.Moves.{HasNoMore, copy_of}
use Rattle.rewrite_facts.specs.Rewrites.{Rewriting, at_stage, table_of}
use Rattle.rewrite_facts.specs.declared.stage.RewriteStage.TheVariants.{Filling}
use Rattle.rewrite_full.proofs.Lefts.{more_visited}
use Rattle.rewrite_full.proofs.Settles.{stop_copyable, visited_end, visited_version}
use Rattle.rewrite_full.proofs.rewrite.Rewrite.visited.Goals as goal

pub copy_of-requires : goal.copy_of-requires
copy_of-requires c =
    let old = table_of c.args.old.now.rows.now c.args.old.now.toast.now in
    let can = stop_copyable c.args.old.now.xacts.now c.args.old.now.snaps.now old c.next_chosen-place.result c.in-Some.version.now c.requires.can c.next_chosen-place.ensures.stop (sym c.in-Some.ensures.version) in
    subst (λ (s : TableSchema). IsStored s.storages c.in-Some.version.now.key c.in-Some.version.now.tuple) (sym c.schema.ensures.schema) can.stored

pub returns-in_default-version_at-clause-holds : goal.returns-in_default-version_at-clause-holds
returns-in_default-version_at-clause-holds c =
    let old = table_of c.args.old.now.rows.now c.args.old.now.toast.now in
    let view : Rewriting = record { table = c.self.inside.table; session = c.self.inside.session; xid = c.self.inside.xid; rows = c.self.inside.rows; toast = c.self.inside.toast; place = c.self.inside.place; stage = c.self.inside.stage } in
    let holds = subst (λ (r : Rewriting). RewriteHolds c.args.old.now.xacts.now c.args.old.now.snaps.now old (at_stage r c.args.stage)) (sym c.self.view_is) c.requires.holds in
    visited_end c.args.old.now.xacts.now c.args.old.now.snaps.now old (at_stage view c.args.stage) c.next_chosen-place.result c.in-Visiting.is c.next_chosen-place.ensures.passed c.next_chosen-place.ensures.stop (sym c.in_default-version_at.ensures.version) holds

pub returns-in_ok-copy-in-Visiting-clause-holds : goal.returns-in_ok-copy-in-Visiting-clause-holds
returns-in_ok-copy-in-Visiting-clause-holds c =
    let old = table_of c.args.old.now.rows.now c.args.old.now.toast.now in
    let view : Rewriting = record { table = c.self.inside.table; session = c.self.inside.session; xid = c.self.inside.xid; rows = c.self.inside.rows; toast = c.self.inside.toast; place = c.self.inside.place; stage = c.self.inside.stage } in
    let holds = subst (λ (r : Rewriting). RewriteHolds c.args.old.now.xacts.now c.args.old.now.snaps.now old (at_stage r c.args.stage)) (sym c.self.view_is) c.requires.holds in
    let there = sym c.in-Some.ensures.version in
    let can = stop_copyable c.args.old.now.xacts.now c.args.old.now.snaps.now old c.next_chosen-place.result c.in-Some.version.now c.requires.can c.next_chosen-place.ensures.stop there in
    visited_version c.args.old.now.xacts.now c.args.old.now.snaps.now old (at_stage view c.args.stage) c.next_chosen-place.result c.in-Some.version.now c.in_ok-copy-in-Visiting.copy c.in-Visiting.is c.next_chosen-place.ensures.passed c.next_chosen-place.ensures.stop there can (c.in_ok-copy-in-Visiting.ensures ∙ ap (λ (s : TableSchema). copy_of s.storages c.in-Some.version.now) c.schema.ensures.schema) holds

pub returns-in_ok-copy-in-Visiting-clause-left : goal.returns-in_ok-copy-in-Visiting-clause-left
returns-in_ok-copy-in-Visiting-clause-left c =
    let old = table_of c.args.old.now.rows.now c.args.old.now.toast.now in
    let view : Rewriting = record { table = c.self.inside.table; session = c.self.inside.session; xid = c.self.inside.xid; rows = c.self.inside.rows; toast = c.self.inside.toast; place = c.self.inside.place; stage = c.self.inside.stage } in
    let more = more_visited c.args.old.now.xacts.now c.args.old.now.snaps.now old view c.next_chosen-place.result c.args.stage c.in-Some.version.now c.in_ok-copy-in-Visiting.copy c.in-Visiting.is c.next_chosen-place.ensures.passed (sym c.in-Some.ensures.version)
    (c.in_ok-copy-in-Visiting.ensures ∙ ap (λ (s : TableSchema). copy_of s.storages c.in-Some.version.now) c.schema.ensures.schema) in
    subst (λ (r : Rewriting). HasNoMore old r c.args.stage (record view { place = c.next_chosen-place.result }) (Filling c.in_ok-copy-in-Visiting.copy)) c.self.view_is more
