use Rattle.nw_plain.proofs.Words.{◌≡◌, ◌∙◌, ap, sym, arith, len, State}
use Rattle.nw_model.proofs.Sames.{nothing, no_blocks, no_certificates, no_firsts, not_opening, zero_decides}
use Rattle.nw_plain.proofs.plain.Plain.is_opening.Goals as goal
use Rattle.nw_plain.proofs.plain.Plain.is_opening.Goals.{then-block_count-gt0-via-then-block_count-gt0, then-block_count-gt0-via-else-block_count-gt0+then-certificate_count-gt0}

pub returns-then-block_count-gt0 : goal.returns-then-block_count-gt0
returns-then-block_count-gt0 c = not_opening c.args.self.now.state (λ e.
    let blocks = no_blocks c.args.self.now.state e in
    let certificates = no_certificates c.args.self.now.state e in
    elim c.then-block_count-gt0.branch [
      | then-block_count-gt0-via-then-block_count-gt0 w ↦ omega (arith, c.block_count.ensures, w.if-block_count-gt0.true, blocks)
      | then-block_count-gt0-via-else-block_count-gt0+then-certificate_count-gt0 w ↦ omega (arith, w.certificate_count.ensures, w.if-certificate_count-gt0.true, certificates)
    ])

pub returns-then-first_count-eq0 : goal.returns-then-first_count-eq0
returns-then-first_count-eq0 c =
    let s : State = c.args.self.now.state in
    let blocks : len s.blocks ≡ 0 = omega (arith, c.block_count.ensures, c.if-block_count-gt0.false) in
    let certificates : len s.certificates ≡ 0 = omega (arith, c.certificate_count.ensures, c.if-certificate_count-gt0.false) in
    let firsts : len s.firsts ≡ 0 = omega (arith, c.first_count.ensures, c.if-first_count-eq0.true) in
    let floor = ap (λ t. t.state.floor) c.self.view_is in
    zero_decides c.get.result
    (λ zero. nothing s (sym floor ∙ sym c.get.ensures.number ∙ zero) blocks certificates firsts)
    (λ e. c.get.ensures.number ∙ floor ∙ ap (λ (x : State). x.floor) e)

pub returns-else-first_count-eq0 : goal.returns-else-first_count-eq0
returns-else-first_count-eq0 c = zero_decides c.first_count.result (λ zero. absurd (c.if-first_count-eq0.false zero)) (λ e. c.first_count.ensures ∙ no_firsts c.args.self.now.state e)
