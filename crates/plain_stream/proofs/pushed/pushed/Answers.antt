use Rattle.std.proofs.Common.{List, ℕ, sym, ap, ◌∙◌, drop}
use Rattle.std.specs.Prelude.{map as mapped, nat_le}
use Rattle.tuple_layout.specs.Sizes.{widths}
use Rattle.tuple_toaster.specs.Pushed.{is_among, size_with, tuple_target}
use Rattle.plain_stream.proofs.Widths.{prefix_ends}
use Rattle.plain_stream.proofs.pushed.pushed.Goals as goal

pub returns-then-fits : goal.returns-then-fits
returns-then-fits c =
    let fits = λ (out : List ℕ). nat_le (size_with c.args.schema.now (widths c.args.row.now (is_among c.args.kept.now)) out) tuple_target in
    prefix_ends fits c.loop-candidate.out (mapped (λ (x : ℕ × ℕ). x.0) (drop c.loop-candidate.candidate-index c.deref-candidate-items.result.now)) _ (ap fits (sym c.as_slice.ensures) ∙ sym c.fits.ensures ∙ c.if-fits.true) c.loop-candidate.invariant
