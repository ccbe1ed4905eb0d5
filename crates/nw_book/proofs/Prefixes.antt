-- Prefixes of histories.
use Rattle.nw_book.proofs.Words.{◌≡◌, ◌≤◌, List, [], ◌∷◌, ◌++◌, length, refl, sym, ap, ◌∙◌, subst, arith, Event, Story, with_event, IsPrefixOf}
use Rattle.std.proofs.Common.{append_assoc, ⊎_elim, inl, inr}
use mathlib.Core.List.{IsPrefix}
use mathlib.Core.Logic.{◌⊎◌}
use Rattle.nw_book.specs.Answer.{AnswerView}
use Rattle.nw_book.specs.Journal.{ArePrefixesOf, AreComparable}

begins_itself : (xs : List Event) → IsPrefix xs xs
begins_itself [] = ([], refl)
begins_itself (x ∷ xs) = let r = begins_itself xs in (r.0, ap (λ l. x ∷ l) r.1)

begins_trans : (xs ys zs : List Event) → IsPrefix xs ys → IsPrefix ys zs → IsPrefix xs zs
begins_trans xs ys zs p q = (p.0 ++ q.0, sym (append_assoc xs p.0 q.0) ∙ (ap (λ w. w ++ q.0) p.1 ∙ q.1))

pub prefix_itself : (s : Story) → IsPrefixOf s s
prefix_itself s = record { committee = refl; limits = refl; base = refl; events = begins_itself s.events }

pub prefix_trans : (s t u : Story) → IsPrefixOf s t → IsPrefixOf t u → IsPrefixOf s u
prefix_trans s t u p q = record {
  committee = p.committee ∙ q.committee;
  limits = p.limits ∙ q.limits;
  base = p.base ∙ q.base;
  events = begins_trans s.events t.events u.events p.events q.events;
}

pub prefix_next : (s t : Story) (e : Event) → t ≡ with_event s e → IsPrefixOf s t
prefix_next s t e is = subst (λ u. IsPrefixOf s u) (sym is) (record { committee = refl; limits = refl; base = refl; events = (e ∷ [], refl) })

-- a prefix that is as long is the whole
pub prefix_whole : (xs ys : List Event) → IsPrefix xs ys → length ys ≤ length xs → xs ≡ ys
prefix_whole [] [] p le = refl
prefix_whole [] (y ∷ ys) p le = absurd (omega arith)
prefix_whole (x ∷ xs) [] p le = absurd (cc (p.1))
prefix_whole (x ∷ xs) (y ∷ ys) p le = let rest = prefix_whole xs ys (p.0, cc (p.1)) (omega arith) in cc (p.1, rest)

either_begins : (xs ys zs : List Event) → IsPrefix xs zs → IsPrefix ys zs → IsPrefix xs ys ⊎ IsPrefix ys xs
either_begins [] ys zs p q = inl (ys, refl)
either_begins (x ∷ xs) [] zs p q = inr (x ∷ xs, refl)
either_begins (x ∷ xs) (y ∷ ys) [] p q = absurd (cc (p.1))
either_begins (x ∷ xs) (y ∷ ys) (z ∷ zs) p q =
    let mine : x ≡ z = cc (p.1) in
    let theirs : y ≡ z = cc (q.1) in
    ⊎_elim
    (λ (t : IsPrefix xs ys). inl (t.0, cc (mine, theirs, t.1)))
    (λ (t : IsPrefix ys xs). inr (t.0, cc (mine, theirs, t.1)))
    (either_begins xs ys zs (p.0, cc (p.1)) (q.0, cc (q.1)))

-- of two prefixes of one history, one is a prefix of the other
either_prefix : (s t u : Story) → IsPrefixOf s u → IsPrefixOf t u → IsPrefixOf s t ⊎ IsPrefixOf t s
either_prefix s t u p q =
    ⊎_elim
    (λ (e : IsPrefix s.events t.events). inl (record { committee = p.committee ∙ sym q.committee; limits = p.limits ∙ sym q.limits; base = p.base ∙ sym q.base; events = e }))
    (λ (e : IsPrefix t.events s.events). inr (record { committee = q.committee ∙ sym p.committee; limits = q.limits ∙ sym p.limits; base = q.base ∙ sym p.base; events = e }))
    (either_begins s.events t.events u.events p.events q.events)

pub comparable : (h : Story) (answers others : List AnswerView) → ArePrefixesOf h answers → ArePrefixesOf h others → AreComparable answers others
comparable h answers others begun also = λ k a l m b n. either_prefix _ _ h (begun k a l) (also m b n)
