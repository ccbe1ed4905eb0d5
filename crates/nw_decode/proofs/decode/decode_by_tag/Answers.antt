use Rattle.nw_decode.proofs.Words.{ℕ, List, [], ◌∷◌, get_or, inl, refl, sym, subst, arith, MatchResult-weaker}
use Rattle.nw_decode.specs.declared.error.DecodeError.TheVariants.{Tag}
use Rattle.nw_decode.specs.Faults.{OfVote, AtTag, AtDigest}
use Rattle.nw_decode.specs.Parts.{Decodes}
use Rattle.nw_decode.proofs.Fronts.{later, one_field}
use Rattle.nw_decode.proofs.Fields.{exit, failed_as, short_as, tag_fails, tagged}
use Rattle.nw_decode.proofs.decode.decode_by_tag.Goals as goal

pub returns-in_err-tag : goal.returns-in_err-tag
returns-in_err-tag c = exit _ _ _ _ c.from_residual.ensures.1 (inl (short_as AtTag 1 _ _ refl c.in_err-tag.ensures.0 c.in_err-tag.ensures.1))

pub returns-in-1 : goal.returns-in-1
returns-in-1 c =
    let tag = c.in_ok-tag.ensures in
    subst (λ (t : List ℕ). Decodes t c.decode_block.result) (sym (tagged _ _ _ 1 tag.0 tag.1 tag.2 c.in-1.is)) c.decode_block.ensures

pub returns-in-2 : goal.returns-in-2
returns-in-2 c =
    let tag = c.in_ok-tag.ensures in
    subst (λ (t : List ℕ). Decodes t c.decode_certificate.result) (sym (tagged _ _ _ 2 tag.0 tag.1 tag.2 c.in-2.is)) c.decode_certificate.ensures

pub returns-in-3 : goal.returns-in-3
returns-in-3 c =
    let tag = c.in_ok-tag.ensures in
    let vote : Decodes (3 ∷ c.in_ok-tag.rest.now) c.decode_vote.result = MatchResult-weaker c.decode_vote.result c.decode_vote.ensures (λ m spells. spells)
    (λ e fault. inl (later AtTag (AtDigest OfVote) _ _ e (one_field AtTag (AtDigest OfVote) (3 ∷ []) c.in_ok-tag.rest.now refl refl) fault)) in
    subst (λ (t : List ℕ). Decodes t c.decode_vote.result) (sym (tagged _ _ _ 3 tag.0 tag.1 tag.2 c.in-3.is)) vote

pub returns-in_default : goal.returns-in_default
returns-in_default c =
    let tag = c.in_ok-tag.ensures in
    inl (failed_as AtTag 1 _ _ Tag refl tag.0 tag.1 (tag_fails (get_or c.in_ok-tag.tag.now 0 0) (λ one. omega arith) (λ two. omega arith) (λ three. omega arith)))
