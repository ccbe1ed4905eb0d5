-- Gathered votes make a valid certificate.
use Rattle.nw_check.proofs.Words.{◌≡◌, ◌∙◌, ℕ, ◌<◌, ◌≤◌, List, ◌∷◌, ◌++◌, length, map, take, drop, get_or, refl, sym, ap, subst, arith, insert, All, take-append-drop, signers, Seal, Vote, ReachesQuorum, Meaning, IsMember, IsSealOf, IsValid}
use Rattle.std.proofs.lemmas.List.{length-map, get_or-map, map-append, take-map, drop-map}
use Rattle.std.proofs.lemmas.List.Elements.{All-map, All-append, All-cons, All-take, All-drop, All-weaker}
use Rattle.std.proofs.lemmas.Option.{slice_get_within}
use Rattle.nw_codec.specs.Grammar.{seal}
use Rattle.nw_codec.specs.Subject.{certificate_subject, vote_subject}
use Rattle.nw_sig.specs.Signed.{text_of_vote}
use Rattle.nw_model.specs.Checks.{IsSignedBy}
use Rattle.nw_check.specs.Gathering.{Gathering, IsGathering, IsPlace, CanCount, CountsVote, certificate_of}
use Rattle.nw_check.proofs.Places.{few_below, place-rises}

-- the number at a place is that of the seal at the place
pub signer_at : (seals : List Seal) (i : ℕ) (d : Seal) → i < length seals → get_or (signers seals) i 0 ≡ (get_or seals i d).signer
signer_at seals i d h = get_or-map (λ (s : Seal). s.signer) seals i d 0 h

pub length-signers : (seals : List Seal) → length (signers seals) ≡ length seals
length-signers seals = length-map seals (λ (s : Seal). s.signer)

module _ (accepts : Meaning) (g : Gathering) (ok : IsGathering accepts g) where
  signer_numbers : All (IsMember g.committee) (signers g.seals)
  signer_numbers =
      All-map (IsMember g.committee) (λ (s : Seal). s.signer) g.seals
      (All-weaker (IsSealOf accepts g.committee (certificate_of g)) (λ s. IsMember g.committee s.signer) (λ s own. slice_get_within g.committee s.signer own.1 own.2) g.seals ok.sealed)

  -- there are at most as many votes as members, so at most 100
  gathering-few : length g.seals ≤ 100
  gathering-few =
      let few = few_below (signers g.seals) (length g.committee) ok.in_order signer_numbers in
      let len = length-map g.seals (λ (s : Seal). s.signer) in
      let size : length g.committee ≤ 100 = ok.committee.size.1 in
      omega (arith, few, len, size)

  -- if the signers reach the quorum, the certificate is valid
  pub gathering-valid : ReachesQuorum g.committee (signers g.seals) → IsValid accepts g.committee (certificate_of g)
  gathering-valid reached = record {
    fits = record { few_votes = gathering-few; votes_in_order = ok.in_order };
    author = ok.author;
    signer_numbers = signer_numbers;
    votes = reached;
    sealed = ok.sealed;
  }

  signers-insert : (p : ℕ) (s : Seal) → signers (insert g.seals p s) ≡ insert (signers g.seals) p s.signer
  signers-insert p s =
      let number : Seal → ℕ = λ q. q.signer in
      map-append number (take p g.seals) (s ∷ drop p g.seals)
      ∙ ap (λ (front : List ℕ). front ++ number s ∷ map number (drop p g.seals)) (sym (take-map number p g.seals))
      ∙ ap (λ (back : List ℕ). take p (signers g.seals) ++ number s ∷ back) (sym (drop-map number p g.seals))

  -- after a member's seal is inserted at its place, `IsGathering` still holds
  pub gathering-insert : (p : ℕ) (s : Seal) → IsPlace (signers g.seals) s.signer p → IsSealOf accepts g.committee (certificate_of g) s → IsGathering accepts (record g { seals = insert g.seals p s })
  gathering-insert p s place own =
      let is_own : Seal → Type 0 = IsSealOf accepts g.committee (certificate_of g) in
      record {
        committee = ok.committee;
        author = ok.author;
        in_order = rw (signers-insert p s) (place-rises (signers g.seals) s.signer p ok.in_order place);
        sealed = All-append is_own (take p g.seals) (s ∷ drop p g.seals) (All-take is_own p g.seals ok.sealed) (All-cons is_own s (drop p g.seals) own (All-drop is_own p g.seals ok.sealed));
      }

-- after the seal of a vote that may count is inserted at its place, `IsGathering` still holds
pub counted-gathering : (accepts : Meaning) (g : Gathering) (v : Vote) (p : ℕ) → IsGathering accepts g → CanCount accepts g v → IsPlace (signers g.seals) v.signer p
    → IsGathering accepts (record g { seals = insert g.seals p (seal v) })
counted-gathering accepts g v p ok may place =
    let digest : v.digest ≡ g.digest = may.0.0.0 in
    let round : v.round ≡ g.round = may.0.0.1 in
    let author : v.author ≡ g.author = may.0.0.2 in
    let text : text_of_vote (vote_subject v) ≡ text_of_vote (certificate_subject (certificate_of g)) = ap text_of_vote (λ i. record { digest = digest i; round = round i; author = author i }) in
    gathering-insert accepts g ok p (seal v) place (subst (λ t. IsSignedBy accepts g.committee v.signer t v.signature) text may.2)

-- if the seal of a vote was inserted at a place, the vote was counted
pub counted-counts : (g : Gathering) (v : Vote) (p : ℕ) (new : List Seal) → new ≡ insert g.seals p (seal v) → CountsVote g v (record g { seals = new })
counted-counts g v p new e = record {
  seals = (take p g.seals, drop p g.seals, sym (take-append-drop p g.seals), e);
  others = refl;
}
