use Rattle.nw_rounds.proofs.Words.{◌≡◌, ◌∙◌, sym, ap, subst, arith, Some}
use Rattle.std.specs.Prelude.{◌<◌, length}
use Rattle.std.specs.Option.{unwrap_or}
use Rattle.nw_digest.proofs.Found.{not_there}
use Rattle.nw_rounds.specs.Slots.{IsNewest}
use Rattle.nw_rounds.specs.Places.{tables_of}
use Rattle.nw_rounds.proofs.Newest.{made_of, newer, none_newer, not_newer, round_of}
use Rattle.nw_rounds.proofs.rounds.Rounds.newest.Goals as goal

pub returns : goal.returns
returns g c =
    let entries = c.self.inside.digests.entries in
    let place = c.in-Some.field-0-0.now in
    let made : c.new.result ≡ Some place.0.0 = made_of c.new.result place.0.0 c.new.ensures (round_of entries place c.in-Some._digest.now c.self.invariant c.in-Some.ensures.value) in
    let is : place.0.0 ≡ c.unwrap_or.result = sym (c.unwrap_or.ensures ∙ ap (λ found. unwrap_or found c.args.floor) made) in
    let above = newer entries place c.in-Some._digest.now c.in-Some.ensures.all_up_to c.in-Some.ensures.value c.args.floor (omega (arith, c.get.ensures.number, c.if-slot-get.false)) in
    subst (λ t. IsNewest t c.args.floor c.unwrap_or.result) c.self.view_is (subst (IsNewest (tables_of entries) c.args.floor) is above)

pub returns-then-slot-get : goal.returns-then-slot-get
returns-then-slot-get g c =
    let entries = c.self.inside.digests.entries in
    subst (λ t. IsNewest t c.args.floor c.args.floor) c.self.view_is
    (not_newer entries c.in-Some.field-0-0.now c.in-Some._digest.now c.in-Some.ensures.all_up_to c.in-Some.ensures.value c.args.floor (omega (arith, c.get.ensures.number, c.if-slot-get.true)))

pub returns-in_default : goal.returns-in_default
returns-in_default g c =
    let empty : 0 < length c.self.inside.digests.entries → ⊥ = λ some. not_there c.last_key_value.result c.in_default.is (c.last_key_value.ensures.variant.1 some) in
    subst (λ t. IsNewest t c.args.floor c.args.floor) c.self.view_is (none_newer c.self.inside.digests.entries c.args.floor empty)
