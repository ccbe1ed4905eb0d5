use Rattle.nw_ed25519.proofs.Words.{◌≡◌, ◌+◌, ◌-◌, arith}
use Rattle.nw_ed25519.proofs.Combs.{pushed_none, pushed_next, repeated_next}
use Rattle.nw_ed25519.proofs.comb.+push_down.Goals as goal

pub returns-then-count-eq0-clause-pushed : goal.returns-then-count-eq0-clause-pushed
returns-then-count-eq0-clause-pushed t c n p proper has em ea =
    let none : c.args.count ≡ 0 = omega arith in
    rw none (pushed_none n p c.args.multiple c.args.product.now c.inverse.result c.args.entries.now.items has em c.inverse.ensures)

pub returns-clause-pushed : goal.returns-clause-pushed
returns-clause-pushed t c n p proper has em ea =
    let some : c.args.count ≡ c.args.count - 1 + 1 = omega arith in
    let next = repeated_next n p c.args.multiple c.plus.result em (c.plus.ensures p ea) in
    pushed_next n c.args.count (c.args.count - 1) p c.args.multiple c.in_ok-pushed.pushed.next c.normalized_by-own.result c.args.product.now c.times-more.result c.in_ok-pushed.pushed.inverse c.times-2.result c.times.result c.of.result
    c.args.entries.now.items c.push_down.new.entries.items c.push.new.self.items proper has em some c.times-more.ensures
    (λ more. c.in_ok-pushed.ensures.pushed (n + 1) p proper more next ea)
    c.times.ensures c.normalized_by-own.ensures c.of.ensures c.in_ok-push.ensures.items c.times-2.ensures
