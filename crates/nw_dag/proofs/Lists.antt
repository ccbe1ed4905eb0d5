-- Lists that begin with others.
use Rattle.nw_dag.proofs.Words.{ℕ, List, [], ◌++◌, take, drop, sym, ap, ◌∙◌, subst, append_assoc, append-nil, Contains, Contains-append_left, Digest}
use Rattle.std.proofs.lemmas.List.{take-append-drop}
use Rattle.nw_dag.specs.Frozen.{Begins}

pub begins_same : (xs : List Digest) → Begins xs xs
begins_same xs = ([], sym (append-nil xs))

pub begins_more : (xs ys zs : List Digest) → Begins xs ys → Begins ys zs → Begins xs zs
begins_more xs ys zs (one, is) (two, are) = (one ++ two, are ∙ ap (λ q. q ++ two) is ∙ append_assoc xs one two)

pub among_front : (n : ℕ) (xs : List Digest) (x : Digest) → Contains (take n xs) x → Contains xs x
among_front n xs x among = subst (λ q. Contains q x) (take-append-drop n xs) (Contains-append_left (take n xs) (drop n xs) x among)
