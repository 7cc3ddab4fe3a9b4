-- What the table answers of the entry is what the log with it decodes to.
use Rattle.std.proofs.Common.{◌+◌, ◌<◌, ◌^◌, ◌≡◌, Option, None, List, ◌++◌, ◌∷◌, [], refl, sym, ap, subst, ◌∙◌}
use Rattle.stream_wire.specs.declared.message.Message.{Message}
use Rattle.decode_stream.specs.Decoding.{first_fault, xid_of}
use Rattle.decode_stream.specs.States.{DecoderState, OpenList, AreOpen, Fits, found_of, open_at, next_of}
use Rattle.decode_stream.specs.Steps.{given_after}
use Rattle.decode_stream.proofs.Firsts.{fed, feeds_again, feeds_refused}
use Rattle.decode_stream.proofs.Growing.{fits_fed}
use Rattle.decode_stream.proofs.decoder.Decoder.feed.Goals as goal

pub take-requires : goal.take-requires
take-requires c =
    let none = ap (λ (state : DecoderState). state.fault) (sym c.self.view_is) ∙ c.in_default.is in
    subst (λ (state : DecoderState). Fits (found_of (open_at state.table (xid_of c.args.e.now))) c.args.e.now) (sym c.self.view_is) (fits_fed c.args.self.now c.args.e.now none (c.requires.fits none))

pub give-requires-clause-given : goal.give-requires-clause-given
give-requires-clause-given c =
    subst (λ (state : DecoderState). state.given + 1 < 2 ^ 32) (sym c.self.view_is) (c.requires.given (ap (λ (state : DecoderState). state.fault) (sym c.self.view_is) ∙ c.in_default.is))

pub returns-in-Some-clause-fed : goal.returns-in-Some-clause-fed
returns-in-Some-clause-fed c =
    λ log is. feeds_again log c.args.e.now c.args.self.now c.in-Some.fault (ap (λ (state : DecoderState). state.fault) (sym c.self.view_is) ∙ c.in-Some.is) is

pub returns-in-Ok-clause-fed : goal.returns-in-Ok-clause-fed
returns-in-Ok-clause-fed c =
    rw (← c.self.view_is) (λ log is.
    let before : first_fault log ≡ None = sym is.fault ∙ c.in_default.is in
    let are = is.table before in
    let commit = c.in-Ok.ensures.commit log are in
    let new = c.give.ensures.given in
    fed log c.args.e.now _ c.give.new.self c.give.result is c.in_default.is (c.in-Ok.ensures.fault log are)
    ((λ i. (new i).fault) ∙ c.in_default.is)
    ((λ i. (new i).given) ∙ ap (given_after c.self.inside.given) commit)
    (subst (λ (t : OpenList). AreOpen t (log ++ c.args.e.now ∷ [])) (sym (λ i. (new i).table)) (c.in-Ok.ensures.ok log are))
    (c.give.ensures.next ∙ ap (next_of c.self.inside.given) commit))

pub returns-in-Err-clause-fed : goal.returns-in-Err-clause-fed
returns-in-Err-clause-fed c =
    rw (← c.self.view_is) (λ log is.
    let before : first_fault log ≡ None = sym is.fault ∙ c.in_default.is in
    feeds_refused log c.args.e.now (Option (List Message)) _ _ c.in-Err.fault is c.in_default.is (c.in-Err.ensures.fault log (is.table before)) c.lasting_fault-self-inside.ensures refl)
