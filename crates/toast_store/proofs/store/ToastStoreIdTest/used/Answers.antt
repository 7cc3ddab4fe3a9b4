use Rattle.std.proofs.Common.{◌≡◌, Option, Some, None, is_some, refl, sym, ap, ◌∙◌, arith}
use Rattle.std.specs.Option.{option_map}
use Rattle.std.proofs.lemmas.Option.{slice_get_within}
use Rattle.slot_page.specs.Pages.{item_in}
use Rattle.chunk_index.specs.declared.entry.Entry.{Entry}
use Rattle.chunk_index.specs.Entries.{of_id}
use Rattle.toast_store.proofs.Used.{any_found, none_yet, none_at_all}
use Rattle.toast_store.proofs.store.ToastStoreIdTest.used.Goals as goal

-- what is made of an optional value is there where the value is
some_of : {X Y : Type 0} (f : X → Y) (o : Option X) → is_some (option_map f o) ≡ is_some o
some_of f None = refl
some_of f (Some x) = refl

pub returns-then-is_some : goal.returns-then-is_some
returns-then-is_some c =
    rw (← c.self.view_is)
    (sym (any_found (λ (e : Entry). is_some (item_in c.self.inside.rel.pages e.tid)) (of_id c.args.id c.self.inside.index.entries) c.loop-entry.n c.in-Some.entry (sym c.in-Some.ensures.entry)
    (ap is_some (sym c.chunk_at.ensures) ∙ some_of _ c.chunk_at.result ∙ sym c.is_some.ensures ∙ c.if-is_some.true)))

pub loop-entry-smaller : goal.loop-entry-smaller
loop-entry-smaller c = omega (arith, slice_get_within (of_id c.args.id c.self.inside.index.entries) c.loop-entry.n c.in-Some.entry (sym c.in-Some.ensures.entry))

pub loop-entry-preserved : goal.loop-entry-preserved
loop-entry-preserved c =
    none_yet (λ (e : Entry). is_some (item_in c.self.inside.rel.pages e.tid)) (of_id c.args.id c.self.inside.index.entries) c.loop-entry.n c.in-Some.entry (sym c.in-Some.ensures.entry)
    (ap is_some (sym c.chunk_at.ensures) ∙ some_of _ c.chunk_at.result ∙ sym c.is_some.ensures ∙ c.if-is_some.false) c.loop-entry.invariant

pub returns : goal.returns
returns c =
    rw (← c.self.view_is)
    (sym (none_at_all (λ (e : Entry). is_some (item_in c.self.inside.rel.pages e.tid)) (of_id c.args.id c.self.inside.index.entries) c.loop-entry.n (sym c.in_default.ensures.entry) c.loop-entry.invariant))
