-- Of the entries of keys up to a key, those of keys from it on are its own.
use Rattle.std.proofs.Common.{not, filter, ap, ◌∙◌}
use Rattle.std.specs.Ordering.{int_cmp, is_le, is_lt}
use Rattle.std.proofs.lemmas.List.Kept.{IsStrictlySortedBy-filter}
use Rattle.list_facts.proofs.Members.{filter-filter}
use Rattle.row_versions.specs.Keys.{entry_cmp, has_key}
use Rattle.row_versions.proofs.Entries.{same_key}
use Rattle.row_versions.proofs.keys.entries_of.Goals as goal

pub entries_from-requires : goal.entries_from-requires
entries_from-requires c = rw c.entries_up_to.ensures (IsStrictlySortedBy-filter entry_cmp (λ e. is_le (int_cmp e.key c.args.key.now)) c.args.entries.now c.requires)

pub returns : goal.returns
returns c =
    c.entries_from.ensures
    ∙ ap (filter (λ e. not (is_lt (int_cmp e.key c.args.key.now)))) c.entries_up_to.ensures
    ∙ filter-filter (λ e. not (is_lt (int_cmp e.key c.args.key.now))) (λ e. is_le (int_cmp e.key c.args.key.now)) (has_key c.args.key.now) c.args.entries.now (λ e. same_key (int_cmp e.key c.args.key.now))
