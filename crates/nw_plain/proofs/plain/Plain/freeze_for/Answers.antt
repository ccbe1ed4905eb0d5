use Rattle.nw_plain.proofs.Words.{◌≡◌, true, Some, None, IsSome, ap, sym, ◌∙◌, from_entries, digest_cmp, State, IsSound, Frozen, get_lookup, digests_total}
use Rattle.std.proofs.Common.{Bor, Option, is_some}
use Rattle.std.specs.Option.{option_copied}
use Rattle.nw_model.proofs.Complete.{closed, shown, complete_there, complete_not_there}
use Rattle.nw_plain.proofs.plain.Plain.freeze_for.Goals as goal

-- a lookup that found a reference found a value
held : {X : Type 0} (lent : Option (Bor X)) (found : Option X) → option_copied lent ≡ found → is_some lent ≡ true → IsSome found
held (Some b) found same is = ap is_some (sym same)
held None found same is = absurd cc

pub returns-then-not-contains_key : goal.returns-then-not-contains_key
returns-then-not-contains_key c = (
  held c.block.result _ c.block.ensures c.if-is_none.ensures,
  held c.certificate.result _ c.certificate.ensures c.if-is_none-2.ensures,
  complete_not_there c.args.self.now.state (from_entries {R = digest_cmp} c.in_ok-complete.complete.entries) c.args.digest c.in_ok-complete.ensures
      (ap is_some (get_lookup digests_total c.in_ok-complete.complete.entries c.args.digest) ∙ sym c.if-not-contains_key.ensures),
)

pub new-requires : goal.new-requires
new-requires c =
    let s : State = c.args.self.now.state in
    let sound : IsSound s = rw (← c.self.view_is) c.self.invariant.sound in
    let v : Frozen = record { blocks = from_entries {R = digest_cmp} c.in_ok-complete.complete.entries; floor = c.self.inside.floor } in
    closed s v sound (ap (λ t. t.state.floor) c.self.view_is) c.in_ok-complete.ensures

pub returns : goal.returns
returns c =
    let s : State = c.args.self.now.state in
    let v : Frozen = record { blocks = from_entries {R = digest_cmp} c.in_ok-complete.complete.entries; floor = c.self.inside.floor } in (
      complete_there s v.blocks c.args.digest c.in_ok-complete.ensures
          (ap is_some (get_lookup digests_total c.in_ok-complete.complete.entries c.args.digest) ∙ sym c.if-not-contains_key.ensures),
      rw c.new.ensures (shown s v (ap (λ t. t.state.floor) c.self.view_is) c.in_ok-complete.ensures),
    )
