use Rattle.nw_trie.proofs.Words.{Bor, ◌≡◌, ◌∙◌, Bool, true, false, sym, ap, Some, None, cond, option_copied, lookup, is_at, Digest, digest_cmp}
use Rattle.std.specs.Bool.{then_some}
use Rattle.std.specs.Str.{bytes_eq}
use Rattle.std.proofs.lemmas.Slice.Eq.{bytes_eq-Decides}
use mathlib.Core.Bool.{true≢false}
use Rattle.nw_trie.proofs.DigestBits.{digest_of_bytes, one_digest}
use Rattle.nw_trie.proofs.Sides.{at_Fork, at_Leaf, lookup_left, lookup_right, unlike}
use Rattle.nw_trie.proofs.After.{here}
use Rattle.nw_trie.proofs.tree.Tree.get.Goals as goal

found : {V : Type 0} (k x : Digest) (v : Bor V) (same : Bool) → same ≡ bytes_eq k.0 x.0 → option_copied (then_some same v) ≡ cond (is_at (digest_cmp k) x) (Some v.now) None
found k x v true is = sym (ap (λ b. cond b (Some v.now) None) (here k x (sym (digest_of_bytes k x ((bytes_eq-Decides k.0 x.0).0 (sym is))))))
found k x v false apart = sym (ap (λ b. cond b (Some v.now) None) (unlike (digest_cmp k x) (λ e. true≢false (sym (apart ∙ (bytes_eq-Decides k.0 x.0).1 (ap (λ (d : Digest). d.0) (one_digest k x e)))))))

pub returns : goal.returns
returns g c =
    let leaf = at_Leaf c.tree.view_is c.in-Leaf.is c.deref-2.ensures in
    ap option_copied c.then_some.ensures ∙ found c.args.digest.now c.deref-2.result.now.digest _ c.eq.result c.eq.ensures ∙ ap (lookup (is_at (digest_cmp c.args.digest.now))) (sym leaf) ∙ c.loop-tree.invariant

pub loop-tree-preserved-then-is_set : goal.loop-tree-preserved-then-is_set
loop-tree-preserved-then-is_set g c =
    let fork = at_Fork c.tree.view_is c.tree.invariant c.in-Fork.is c.deref.ensures in
    lookup_right fork c.args.digest.now (sym c.is_set.ensures.bit ∙ c.if-is_set.true) ∙ c.loop-tree.invariant

pub loop-tree-preserved : goal.loop-tree-preserved
loop-tree-preserved g c =
    let fork = at_Fork c.tree.view_is c.tree.invariant c.in-Fork.is c.deref.ensures in
    lookup_left fork c.args.digest.now (sym c.is_set.ensures.bit ∙ c.if-is_set.false) ∙ c.loop-tree.invariant
