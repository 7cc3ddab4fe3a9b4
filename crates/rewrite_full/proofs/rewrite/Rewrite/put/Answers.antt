use Rattle.std.proofs.Common.{ap, ◌∙◌, w64}
use Rattle.std.proofs.lemmas.Int.{to_z-of_z}
use Rattle.rewrite_full.proofs.Acts.{put_is}
use Rattle.rewrite_full.proofs.rewrite.Rewrite.put.Goals as goal

pub returns-clause-put : goal.returns-clause-put
returns-clause-put c =
    put_is c.args.rows.now.schema c.schema-2.result.now c.args.copy _ _ c.in_ok-tuple.tuple c.put_copy.new.self c.next_place-self-inside.result _ c.args.self.now c.self.view_is c.schema-2.ensures.schema
    (to_z-of_z w64 c.args.copy.key c.requires.key) (ap (λ k. mir.Val.to_z w64 (mir.Val.of_z w64 k)) (to_z-of_z w64 c.args.copy.key c.requires.key) ∙ to_z-of_z w64 c.args.copy.key c.requires.key)
    c.in_ok-tuple.ensures.tuple c.in_ok-_tid.ensures.put c.next_place-self-inside.ensures.place
