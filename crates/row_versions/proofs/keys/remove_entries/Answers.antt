-- What stays are the entries that name no listed tid, and the others went.
use Rattle.std.proofs.Common.{◌≡◌, not, filter, length, refl, ap, arith, rules}
use Rattle.std.proofs.lemmas.Fn.{filter_same}
use Rattle.std.proofs.lemmas.List.Filters.{length-filter_both}
use Rattle.std.proofs.lemmas.List.Sums.{length-filter}
use Rattle.row_versions.specs.Keys.{names_one_of}
use Rattle.row_versions.proofs.keys.remove_entries.Goals as goal

pub returns-clause-kept : goal.returns-clause-kept
returns-clause-kept c = filter_same _ (λ e. not (names_one_of c.args.dead.now e)) _ (λ x b f' k. search (rules, c.requires)) _ _ c.retain.ensures.filtered

pub returns-clause-count : goal.returns-clause-count
returns-clause-count c =
    let kept : c.retain.new.self.items ≡ filter (λ e. not (names_one_of c.args.dead.now e)) c.args.entries.now.items = filter_same _ (λ e. not (names_one_of c.args.dead.now e)) _ (λ x b f' k. search (rules, c.requires)) _ _ c.retain.ensures.filtered in
    omega (
      arith,
      c.len-before.ensures,
      c.len.ensures,
      c.args.entries.now.ok.0,
      c.retain.new.self.ok.0,
      ap length kept,
      length-filter_both (names_one_of c.args.dead.now) (λ e. not (names_one_of c.args.dead.now e)) (λ e. refl) c.args.entries.now.items,
      length-filter (names_one_of c.args.dead.now) c.args.entries.now.items,
    )
