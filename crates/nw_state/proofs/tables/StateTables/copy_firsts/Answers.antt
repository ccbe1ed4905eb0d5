use Rattle.nw_state.proofs.Words.{◌≡◌, ◌+◌, true, false, List, [], ◌∷◌, ◌++◌, Some, get_or, take, sym, ap, ◌∙◌, subst, take_all, take_more, same_Some, insert_entry, from_entries, get, same_map, Digest, slot_cmp, Wanted, State, slots_apart, slots_total}
use Rattle.nw_state.proofs.Slotted.{named_decides}
use Rattle.nw_state.proofs.Gathered.{gathered, gathers_none, same_values}
use Rattle.nw_state.proofs.Copied.{AreVoted, GathersSlots, IsFirstAt, first_put, first_skip, named, no_some, not_named}
use Rattle.nw_state.proofs.tables.StateTables.copy_firsts.Goals as goal
use Rattle.nw_state.proofs.tables.StateTables.copy_firsts.Goals.{in-Some+then-eq+in_ok-insert, in-Some+else-eq, in_default}

pub loop-digest-init : goal.loop-digest-init
loop-digest-init c = rw c.new-firsts.ensures.empty (gathers_none (λ slot d. d) (IsFirstAt c.args.self.now.state) slots_total)

pub loop-digest-preserved : goal.loop-digest-preserved
loop-digest-preserved c =
    let none : Digest = record { 0 = [] } in
    let s : State = c.args.self.now.state in
    let seen : List Digest = take c.loop-digest.digest-index c.args.digests.now in
    let d : Digest = get_or c.args.digests.now c.loop-digest.digest-index none in
    let more : take (c.loop-digest.digest-index + 1) c.args.digests.now ≡ seen ++ d ∷ [] = take_more c.args.digests.now c.loop-digest.digest-index none c.loop-digest-test.true in
    let voted : AreVoted s = rw (← c.self.view_is) c.self.invariant.voted in
    subst (λ xs. GathersSlots s (IsFirstAt s) xs (from_entries c.match-name.firsts.entries)) (sym more)
    (elim c.match-name.branch [
      | in-Some+then-eq+in_ok-insert w ↦
          let (b, there, is) = named d (get s.blocks d) w.in-Some.name (sym c.name.ensures ∙ w.in-Some.is) in
          let found : w.first.result ≡ Some d = (named_decides w.first.result d).0 (sym w.eq.ensures ∙ w.if-eq.true) in
          let first : get s.firsts (w.in-Some.name.round, w.in-Some.name.author) ≡ Some d = rw (← c.self.view_is) (sym w.first.ensures ∙ found) in
          first_put s voted seen d b c.loop-digest.firsts.entries c.match-name.firsts.entries c.loop-digest.invariant there
          (ap (λ (name : Wanted). get s.firsts (name.round, name.author)) is ∙ first)
          (rw w.firsts-is (w.in_ok-insert.ensures.entries ∙ ap (λ (name : Wanted). insert_entry slot_cmp c.loop-digest.firsts.entries (name.round, name.author) d) (sym is)))
      | in-Some+else-eq w ↦
          let (b, there, is) = named d (get s.blocks d) w.in-Some.name (sym c.name.ensures ∙ w.in-Some.is) in
          rw w.firsts-is
          (first_skip s voted seen d (from_entries c.loop-digest.firsts.entries) c.loop-digest.invariant (λ x held first.
          let slots : get s.firsts (w.in-Some.name.round, w.in-Some.name.author) ≡ Some d =
          ap (λ (name : Wanted). get s.firsts (name.round, name.author)) (sym is) ∙ ap (λ y. get s.firsts (y.round, y.author)) (same_Some b x (sym there ∙ held)) ∙ first in
          let found : w.first.result ≡ Some d = w.first.ensures ∙ (rw (← c.self.view_is) at slots) in
          let no : true ≡ false = sym (w.eq.ensures ∙ (named_decides w.first.result d).1 found) ∙ w.if-eq.false in
          absurd cc))
      | in_default w ↦
          rw w.firsts-is
          (first_skip s voted seen d (from_entries c.loop-digest.firsts.entries) c.loop-digest.invariant (λ x held first.
          no_some (get s.blocks d) x (not_named d (get s.blocks d) (sym c.name.ensures ∙ w.in_default.is)) held))
    ])

pub returns : goal.returns
returns c =
    let s : State = c.args.self.now.state in
    let voted : AreVoted s = rw (← c.self.view_is) c.self.invariant.voted in
    let whole : GathersSlots s (IsFirstAt s) c.args.digests.now (from_entries c.loop-digest.firsts.entries) =
    subst (λ xs. GathersSlots s (IsFirstAt s) xs (from_entries c.loop-digest.firsts.entries)) (take_all c.loop-digest.digest-index c.args.digests.now c.loop-digest-test.false) c.loop-digest.invariant in
    same_map slots_total slots_apart _ _ (λ slot. same_values _ _ (λ d. gathered (λ slot d. d) (IsFirstAt s) c.args.digests.now _ whole (λ slot d is. let (b, there, at) = voted slot d is in c.requires d b there) slot d))
