use Rattle.nw_generation.proofs.Words.{◌≡◌, ◌++◌, ◌∷◌, [], List, ap, sym, ◌∙◌, filter, nat_le, FinMap, from_entries, Block, digest_cmp}
use Rattle.nw_generation.specs.Seen.{Joined, union}
use Rattle.nw_generation.proofs.Searches.{Entries, filtered_all, filtered_ascend}
use Rattle.nw_generation.proofs.Unions.{union_joined}
use Rattle.nw_generation.proofs.generations.Generations.joined_from.Goals as goal

pub of-requires : goal.of-requires
of-requires c = rw (c.in_ok-entries.ensures, c.deref.ensures.value) (filtered_ascend _ c.in_ok-lent.lent.items c.in_ok-lent.ensures.ascend)

pub returns-clause-blocks : goal.returns-clause-blocks
returns-clause-blocks c =
    let older : List (FinMap digest_cmp Block) = c.split_at.result.0.now in
    let later : List (FinMap digest_cmp Block) = c.split_at.result.1.now in
    let all : c.in_ok-entries.entries.items ≡ c.in_ok-lent.lent.items = c.in_ok-entries.ensures ∙ ap (λ (es : Entries). filter (λ e. nat_le 0 e.1.round) es) c.deref.ensures.value ∙ filtered_all c.in_ok-lent.lent.items in
    let is : c.in_ok-of.field-0 ≡ union later = c.in_ok-of.ensures ∙ ap from_entries all ∙ c.in_ok-lent.ensures.union in
    ap union (c.in_ok-push.ensures.items ∙ ap (λ (gs : List (FinMap digest_cmp Block)). gs ++ c.in_ok-of.field-0 ∷ []) c.in_ok-list.ensures)
    ∙ union_joined older later c.in_ok-of.field-0 is
    ∙ ap union (sym c.split_at.ensures.by_index.0 ∙ c.as_slice.ensures.value)
    ∙ ap (λ (j : Joined). j.blocks) c.self.view_is
