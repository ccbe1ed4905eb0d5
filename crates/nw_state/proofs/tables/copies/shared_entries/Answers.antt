use Rattle.nw_state.proofs.Words.{◌≡◌, ◌+◌, List, [], ◌∷◌, ◌++◌, Some, get_or, take, sym, ap, ◌∙◌, subst, take_all, take_more, same_Some, option_copied, lookup, insert_entry, is_at, from_entries, same_map, Digest, digest_cmp, digests_apart, digests_total, get_lookup}
use Rattle.nw_state.proofs.Copied.{no_some}
use Rattle.nw_state.proofs.Gathered.{Gathers, gathered, gathers_entry, gathers_none, gathers_skip, same_values}
use Rattle.nw_state.proofs.tables.copies.shared_entries.Goals as goal
use Rattle.nw_state.proofs.tables.copies.shared_entries.Goals.{in-Some+in_ok-try_clone+in_ok-insert+in-Some-1, in-Some+in_ok-try_clone+in_ok-insert+in-None-1, in_default}

-- one more digest was read, which has this value
shared_put : {V : Type 0} (entries : List (Digest × V)) (seen : List Digest) (d : Digest) (old new : List (Digest × V)) (v x : V)
    → Gathers {R = digest_cmp} (λ d v. d) (λ d v. lookup (is_at (digest_cmp d)) entries ≡ Some v) seen (from_entries old)
    → lookup (is_at (digest_cmp d)) entries ≡ Some v → x ≡ v → new ≡ insert_entry digest_cmp old d x
    → Gathers {R = digest_cmp} (λ d v. d) (λ d v. lookup (is_at (digest_cmp d)) entries ≡ Some v) (seen ++ d ∷ []) (from_entries new)
shared_put entries seen d old new v x gathers there same put =
    gathers_entry (λ d v. d) (λ d v. lookup (is_at (digest_cmp d)) entries ≡ Some v) digests_total digests_apart seen d old new d v gathers there
    (λ j y is at. at) (λ j y z is also. same_Some y z (sym is ∙ also)) (put ∙ ap (insert_entry digest_cmp old d) same)

pub loop-digest-init : goal.loop-digest-init
loop-digest-init g c = rw c.new-shared.ensures.empty (gathers_none (λ d v. d) (λ d v. lookup (is_at (digest_cmp d)) c.args.entries.now ≡ Some v) digests_total)

pub loop-digest-preserved : goal.loop-digest-preserved
loop-digest-preserved g c =
    let none : Digest = record { 0 = [] } in
    let seen : List Digest = take c.loop-digest.digest-index c.args.digests.now in
    let d : Digest = get_or c.args.digests.now c.loop-digest.digest-index none in
    let more : take (c.loop-digest.digest-index + 1) c.args.digests.now ≡ seen ++ d ∷ [] = take_more c.args.digests.now c.loop-digest.digest-index none c.loop-digest-test.true in
    subst
    (λ xs. Gathers {R = digest_cmp} (λ d v. d) (λ d v. lookup (is_at (digest_cmp d)) c.args.entries.now ≡ Some v) xs (from_entries c.match-get.shared.entries)) (sym more)
    (elim c.match-get.branch [
      | in-Some+in_ok-try_clone+in_ok-insert+in-Some-1 w ↦
          shared_put c.args.entries.now seen d c.loop-digest.shared.entries c.match-get.shared.entries w.in-Some.value.now _ c.loop-digest.invariant
          (sym c.get.ensures.value ∙ ap option_copied w.in-Some.is) w.in_ok-try_clone.ensures (rw w.shared-is w.in_ok-insert.ensures.entries)
      | in-Some+in_ok-try_clone+in_ok-insert+in-None-1 w ↦
          shared_put c.args.entries.now seen d c.loop-digest.shared.entries c.match-get.shared.entries w.in-Some.value.now _ c.loop-digest.invariant
          (sym c.get.ensures.value ∙ ap option_copied w.in-Some.is) w.in_ok-try_clone.ensures (rw w.shared-is w.in_ok-insert.ensures.entries)
      | in_default w ↦
          rw w.shared-is
          (gathers_skip (λ d v. d) (λ d v. lookup (is_at (digest_cmp d)) c.args.entries.now ≡ Some v) seen d (from_entries c.loop-digest.shared.entries) c.loop-digest.invariant
          (λ j y is same. no_some _ y (sym c.get.ensures.value ∙ ap option_copied w.in_default.is) (ap (λ (q : Digest). lookup (is_at (digest_cmp q)) c.args.entries.now) same ∙ is)))
    ])

pub returns : goal.returns
returns g c =
    let whole : Gathers {R = digest_cmp} (λ d v. d) (λ d v. lookup (is_at (digest_cmp d)) c.args.entries.now ≡ Some v) c.args.digests.now (from_entries c.loop-digest.shared.entries) =
    subst (λ xs. Gathers {R = digest_cmp} (λ d v. d) (λ d v. lookup (is_at (digest_cmp d)) c.args.entries.now ≡ Some v) xs (from_entries c.loop-digest.shared.entries))
    (take_all c.loop-digest.digest-index c.args.digests.now c.loop-digest-test.false) c.loop-digest.invariant in
    same_map digests_total digests_apart _ _ (λ q.
    same_values _ _ (λ v. gathered (λ d v. d) (λ d v. lookup (is_at (digest_cmp d)) c.args.entries.now ≡ Some v) c.args.digests.now _ whole c.requires q v)
    ∙ sym (get_lookup digests_total c.args.entries.now q))
