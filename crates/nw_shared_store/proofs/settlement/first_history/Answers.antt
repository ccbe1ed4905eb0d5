use Rattle.nw_shared_store.proofs.Words.{◌≡◌, ◌∙◌, ap, sym, subst, refl, arith, Journal, origin_of}
use Rattle.nw_shared_store.specs.Session.{IsPresent}
use Rattle.nw_shared_store.proofs.Parts.{part}
use Rattle.nw_shared_store.proofs.settlement.first_history.Goals as goal

pub returns-else-id-ne0-clause-part : goal.returns-else-id-ne0-clause-part
returns-else-id-ne0-clause-part g c =
    let id : c.args.session.now.journal.id ≡ 0 = sym (ap (λ (j : Journal). j.id) c.in-Ok.ensures.knows) ∙ (sym c.id.ensures ∙ c.if-id-ne0.false) in
    part g.S.Scheme.accepts 0 c.in-Ok.history c.in-Ok.history c.in-Ok.made c.args.session.now c.history.new.self c.in-Ok.ensures.present c.in-Ok.ensures.knows c.history.ensures.same id refl

pub returns-then-from-given-clause-refused : goal.returns-then-from-given-clause-refused
returns-then-from-given-clause-refused g c =
    (refl, (c.in-Ok.history, c.in-Ok.made, (c.in-Ok.ensures.present, c.in-Ok.ensures.knows), (λ is. c.if-from-given.true (omega arith))))

pub returns-then-id-ne0-clause-refused : goal.returns-then-id-ne0-clause-refused
returns-then-id-ne0-clause-refused g c =
    let all : c.in-Ok.made ≡ c.args.given = omega arith in
    (refl, (c.in-Ok.history, (subst (IsPresent g.S.Scheme.accepts (origin_of c.args.session.now.first) c.args.session.now.journal c.in-Ok.history) all c.in-Ok.ensures.present, c.in-Ok.ensures.knows), (λ zero. c.if-id-ne0.true (c.id.ensures ∙ (ap (λ (j : Journal). j.id) c.in-Ok.ensures.knows ∙ zero)))))
