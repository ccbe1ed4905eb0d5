use Rattle.nw_state.proofs.Words.{◌≡◌, None, cond, refl, ap, sym, ◌∙◌, insert, lookup, remove_entry, is_at, Block, digest_cmp, block_slot, get_lookup, digests_total, absent}
use Rattle.nw_state.proofs.Puts.{taken_back, block_held, same_held}
use Rattle.nw_state.proofs.tables.StateTables.put_block.Goals as goal

pub invariant_of-self-in-Err : goal.invariant_of-self-in-Err
invariant_of-self-in-Err c =
    let none : lookup (is_at (digest_cmp c.args.digest)) c.self.inside.blocks ≡ None = sym (get_lookup digests_total c.self.inside.blocks c.args.digest) ∙ absent _ (rw (← c.self.view_is) at c.requires.absent) in
    let back : c.remove-block.new.self ≡ c.self.inside.blocks =
    c.remove-block.ensures.entries ∙ ap (remove_entry (is_at (digest_cmp c.args.digest))) c.in_ok-put.ensures.put ∙ taken_back c.self.inside.blocks c.args.digest c.args.block none in
    rw (back, c.in-Err.ensures.unchanged) c.self.invariant

pub returns-in-Err-clause-unchanged : goal.returns-in-Err-clause-unchanged
returns-in-Err-clause-unchanged c =
    let none : lookup (is_at (digest_cmp c.args.digest)) c.self.inside.blocks ≡ None = sym (get_lookup digests_total c.self.inside.blocks c.args.digest) ∙ absent _ (rw (← c.self.view_is) at c.requires.absent) in
    let back : c.remove-block.new.self ≡ c.self.inside.blocks =
    c.remove-block.ensures.entries ∙ ap (remove_entry (is_at (digest_cmp c.args.digest))) c.in_ok-put.ensures.put ∙ taken_back c.self.inside.blocks c.args.digest c.args.block none in
    rw (back, c.in-Err.ensures.unchanged) c.self.view_is

pub invariant_of-self-in_default : goal.invariant_of-self-in_default
invariant_of-self-in_default c =
    block_held c.self.inside.blocks c.put.new.self c.self.inside.certificates c.self.inside.slots c.put_first.new.self c.self.inside.floor c.args.digest c.args.block c.args.vote c.in_ok-put.ensures.put
    (c.in_default.ensures.firsts
    ∙ ap (λ (x : Block). insert c.self.inside.slots.firsts (block_slot x) c.args.digest) c.get-held.ensures
    ∙ ap (λ v. cond v (insert c.self.inside.slots.firsts (block_slot c.args.block) c.args.digest) c.self.inside.slots.firsts) (sym c.if-vote.true))
    c.self.invariant (absent _ (rw (← c.self.view_is) at c.requires.absent)) (rw (← c.self.view_is) at c.requires.misfit) (rw (← c.self.view_is) at c.requires.kept) c.put_first.ensures.certified
    (rw (← c.self.view_is) at c.requires.first) (rw (← c.self.view_is) at c.requires.alone)

pub invariant_of-self-else-vote : goal.invariant_of-self-else-vote
invariant_of-self-else-vote c =
    block_held c.self.inside.blocks c.put.new.self c.self.inside.certificates c.self.inside.slots c.self.inside.slots c.self.inside.floor c.args.digest c.args.block c.args.vote c.in_ok-put.ensures.put
    (ap (λ v. cond v (insert c.self.inside.slots.firsts (block_slot c.args.block) c.args.digest) c.self.inside.slots.firsts) (sym c.if-vote.false))
    c.self.invariant (absent _ (rw (← c.self.view_is) at c.requires.absent)) (rw (← c.self.view_is) at c.requires.misfit) (rw (← c.self.view_is) at c.requires.kept) refl
    (rw (← c.self.view_is) at c.requires.first) (rw (← c.self.view_is) at c.requires.alone)

pub returns-in_default-clause-state : goal.returns-in_default-clause-state
returns-in_default-clause-state c =
    rw (← c.self.view_is)
    (same_held c.self.inside.blocks c.put.new.self c.self.inside.certificates c.self.inside.slots c.put_first.new.self c.self.inside.floor c.args.digest c.args.block c.args.vote c.in_ok-put.ensures.put
    (c.in_default.ensures.firsts
    ∙ ap (λ (x : Block). insert c.self.inside.slots.firsts (block_slot x) c.args.digest) c.get-held.ensures
    ∙ ap (λ v. cond v (insert c.self.inside.slots.firsts (block_slot c.args.block) c.args.digest) c.self.inside.slots.firsts) (sym c.if-vote.true)))

pub returns-else-vote-clause-state : goal.returns-else-vote-clause-state
returns-else-vote-clause-state c =
    rw (← c.self.view_is)
    (same_held c.self.inside.blocks c.put.new.self c.self.inside.certificates c.self.inside.slots c.self.inside.slots c.self.inside.floor c.args.digest c.args.block c.args.vote c.in_ok-put.ensures.put
    (ap (λ v. cond v (insert c.self.inside.slots.firsts (block_slot c.args.block) c.args.digest) c.self.inside.slots.firsts) (sym c.if-vote.false)))
