use Rattle.std.proofs.Common.{◌≡◌, ◌∙◌, List, ◌++◌, length, take, drop, ap, sym, subst, arith, rules, All, IfOk}
use Rattle.std.proofs.Math.Seq.{take-append_seam}
use Rattle.std.specs.List.{Contains}
use Rattle.nw_shared_store.specs.Session.{SessionView}
use Rattle.nw_c.proofs.given.Given.settle.Goals as goal

pub returns-clause-know : goal.returns-clause-know
returns-clause-know c =
    let after : List SessionView = c.settle.new.sessions in
    let rest : List SessionView = drop (length after) c.self.inside.sessions.items in
    let size : length after ≡ c.self.inside.sessions.len = first_of (search rules, omega arith) in
    let whole : take c.self.inside.sessions.len (after ++ rest) ≡ after = ap (λ n. take n (after ++ rest)) (sym size) ∙ take-append_seam after rest in
    subst (λ (ss : List SessionView). IfOk c.settle.result (λ history. All (λ s. Contains s.journal.known history) ss)) (sym whole) c.settle.ensures.know
