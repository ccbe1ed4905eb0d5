-- Sessions that are settled, from what each step says.
use Rattle.nw_shared_store.proofs.Words.{◌≡◌, ℕ, zero, suc, ◌+◌, ◌<◌, List, [], ◌∷◌, Some, length, map, refl, sym, ◌∙◌, subst, arith, All, Contains, All-nil, All-cons, Contains-push, Contains-append_left, Meaning, Event, Story, IsPrefixOf, Journal, IsHistoryOf, origin_of, IsJournalOf}
use Rattle.std.specs.Prelude.{slice_get}
use Rattle.nw_book.specs.Journal.{KnowsAll}
use Rattle.nw_book.specs.Settled.{AreSettled}
use Rattle.nw_book.proofs.Prefixes.{prefix_whole}
use Rattle.nw_shared_store.specs.Rule.{knowing}
use Rattle.nw_shared_store.specs.Session.{IsPresent, IsSameSession, SessionView}
use Rattle.nw_shared_store.specs.Settlement.{AreParts, IsPart, StillKnow}

pub same_story : (s t : Story) → IsPrefixOf s t → length s.events ≡ length t.events → s ≡ t
same_story s t p same = λ i. record { committee = p.committee i; limits = p.limits i; base = p.base i; events = prefix_whole s.events t.events p.events (omega (arith, same)) i }

pub part : (accepts : Meaning) (id : ℕ) (h now : Story) (made : ℕ) (old new : SessionView) → IsPresent accepts (origin_of old.first) old.journal now made
    → new.journal ≡ knowing old.journal now → IsSameSession old new → old.journal.id ≡ id → now ≡ h → IsPart accepts id h new
part accepts id h now made old new present knows same id_is is = record {
  of_store = subst (λ (x : Story). IsHistoryOf accepts (origin_of new.first) x) is (subst (λ (s : Story). IsHistoryOf accepts (origin_of s) now) (sym same.first) present.of_store);
  knows = subst (λ (x : Story × Journal). Contains x.1.known x.0) (λ i. (is i, sym knows i)) (Contains-push old.journal.known now);
  journal = subst (λ (j : Journal). IsJournalOf h id j) (sym knows) (subst (λ (x : ℕ × Story). IsJournalOf x.1 x.0 (knowing old.journal now)) (λ i. (id_is i, is i)) (record { id_is = refl; events = present.own.events; begun = present.own.begun }));
}

-- the part at each place
at_place : (accepts : Meaning) (n : ℕ) (h : Story) (ss : List SessionView) → AreParts accepts n h ss → (k : ℕ) (j : Journal) → slice_get (map (λ (s : SessionView). s.journal) ss) k ≡ Some j → IsJournalOf h (n + k) j
at_place accepts n h [] parts k j at = absurd (cc (at))
at_place accepts n h (s ∷ ss) parts zero j at =
    let same : s.journal ≡ j = cc (at) in
    subst (λ (x : ℕ × Journal). IsJournalOf h x.0 x.1) (λ i. (number i, same i)) parts.0.journal
  where
    number : n ≡ n + 0
    number = omega arith
at_place accepts n h (s ∷ ss) parts (suc k) j at =
    let number : n + 1 + k ≡ n + suc k = omega arith in
    subst (λ m. IsJournalOf h m j) number (at_place accepts (n + 1) h ss parts.1 k j at)

journals_length : (ss : List SessionView) → length (map (λ (s : SessionView). s.journal) ss) ≡ length ss
journals_length [] = refl
journals_length (s ∷ ss) = let r = journals_length ss in omega (arith, r)

pub settled : (accepts : Meaning) (h : Story) (made : ℕ) (ss : List SessionView) → AreParts accepts 0 h ss → All (λ (e : Event). e.session < made) h.events → made ≡ length ss
    → AreSettled h (map (λ (s : SessionView). s.journal) ss)
settled accepts h made ss parts below count = record {
  each = λ k j at. let zero_plus : 0 + k ≡ k = omega arith in subst (λ m. IsJournalOf h m j) zero_plus (at_place accepts 0 h ss parts k j at);
  others = subst (λ m. All (λ (e : Event). e.session < m) h.events) (count ∙ sym (journals_length ss)) below;
}

pub of_stores : (accepts : Meaning) (n : ℕ) (h : Story) (ss : List SessionView) → AreParts accepts n h ss → All (λ (s : SessionView). IsHistoryOf accepts (origin_of s.first) h) ss
of_stores accepts n h [] parts = All-nil (λ (s : SessionView). IsHistoryOf accepts (origin_of s.first) h)
of_stores accepts n h (s ∷ ss) parts = All-cons (λ (x : SessionView). IsHistoryOf accepts (origin_of x.first) h) s ss parts.0.of_store (of_stores accepts (n + 1) h ss parts.1)

pub know_it : (accepts : Meaning) (n : ℕ) (h : Story) (ss : List SessionView) → AreParts accepts n h ss → All (λ (s : SessionView). Contains s.journal.known h) ss
know_it accepts n h [] parts = All-nil (λ (s : SessionView). Contains s.journal.known h)
know_it accepts n h (s ∷ ss) parts = All-cons (λ (x : SessionView). Contains x.journal.known h) s ss parts.0.knows (know_it accepts (n + 1) h ss parts.1)

-- a session that also knows of this history knows of each one that it knew of
pub knew_more : (j k : Journal) (h : Story) → k ≡ knowing j h → KnowsAll k.known j.known
knew_more j k h is = λ s c. subst (λ (x : Journal). Contains x.known s) (sym is) (Contains-append_left j.known (h ∷ []) s c)

pub knew_view : (old new : SessionView) → new ≡ old → KnowsAll new.journal.known old.journal.known
knew_view old new is = λ s c. subst (λ (x : SessionView). Contains x.journal.known s) (sym is) c

pub still_same : (ss : List SessionView) → StillKnow ss ss
still_same [] = tt
still_same (s ∷ ss) = ((λ h c. c), still_same ss)
