use Rattle.std.proofs.Common.{◌≡◌, ◌<◌, ◌+◌, ◌%◌, ◌++◌, ◌∷◌, [], length, drop, add-one, append_assoc, append-nil, subst, sym, ap, ◌∙◌, arith}
use Rattle.std.proofs.lemmas.List.{length-set}
use Rattle.std.proofs.lemmas.Nat.{mod_below}
use Rattle.std.proofs.Math.ListN.{drop_of_length-le}
use Rattle.nw_intake.specs.Answers.{IsDealtFrom, turns_of}
use Rattle.nw_intake.proofs.Dealt.{left_of, next_dealt, rest_dealt}
use Rattle.nw_intake.proofs.order.put_in_order.Goals as goal
use Rattle.nw_intake.proofs.order.put_in_order.Goals.{in-Some+in_ok-push, in_default}

pub loop-place-init : goal.loop-place-init
loop-place-init g c = (
  (let n = c.len-workers.ensures in let ok = c.args.shares.ok.0 in omega arith),
  (let n = c.len-workers.ensures in let some = c.requires in omega arith),
  λ whole dealt. (dealt.1, ap (λ all. all ++ whole) c.in_ok-all.ensures.items),
)

pub loop-place-preserved : goal.loop-place-preserved
loop-place-preserved g c =
    let shares = c.loop-place.shares.items in
    let place = c.loop-place.place in
    let inv = c.loop-place.invariant in
    let k = place % c.len-workers.result in
    let q = c.index_mut.result.now in
    let same = length-set shares k c.pop_front.new.self in
    let within : k < length shares = subst (λ n. k < n) (sym inv.0) (mod_below place c.len-workers.result inv.1) in
    let turn : k ≡ place % length shares = ap (λ n. place % n) (sym inv.0) in (
      same ∙ inv.0,
      inv.1,
      λ whole dealt.
          let was = inv.2 whole dealt in
          let low : place < length whole = let n = dealt.0 in let t = c.loop-place-test.true in omega arith in
          let first = left_of whole place low in
          let x = first.0 in
          let xs = drop (place + 1) whole in
          let left : drop place whole ≡ x ∷ xs = first.1 ∙ ap (λ n. x ∷ drop n whole) (sym (add-one place)) in
          let from = subst (λ ls. IsDealtFrom place ls shares) left was.0 in
          let next = next_dealt place x xs shares k q turn within c.index_mut.ensures.value from in
          let all = c.loop-place.all.items in
          elim c.match-pop_front.branch [
            | in-Some+in_ok-push w ↦
                let item = w.in-Some.item in
                let both : item ∷ c.pop_front.new.self.items ≡ x ∷ turns_of k (length shares) (place + 1) xs = sym w.in-Some.ensures.items ∙ next in
                let head : item ≡ x = cc in
                let tail : c.pop_front.new.self.items ≡ turns_of k (length shares) (place + 1) xs = cc in (
                  rest_dealt place x xs shares k c.pop_front.new.self turn within from tail,
                  ap (λ items. items ++ xs) (ap (λ v. v.items) w.all-is ∙ w.in_ok-push.ensures.items)
                      ∙ (append_assoc all (item ∷ []) xs ∙ (ap (λ y. all ++ (y ∷ xs)) head ∙ (ap (λ items. all ++ items) (sym left) ∙ was.1))),
                )
            | in_default w ↦ absurd (let none = w.in_default.ensures.cases.0 in let ok = q.ok.0 in let some = ap length next in omega arith)
          ],
    )

pub returns : goal.returns
returns g c whole dealt =
    let was = c.loop-place.invariant.2 whole dealt in
    let past = c.loop-place-test.false in
    let all = c.loop-place.all.items in
    sym (append-nil all) ∙ (ap (λ ls. all ++ ls) (sym (drop_of_length-le whole (let n = dealt.0 in omega arith))) ∙ was.1)
