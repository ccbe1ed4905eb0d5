-- How many bytes the parts of a body and of a message have.
use Rattle.nw_codec.proofs.Words.{◌≡◌, ℕ, ◌+◌, ◌*◌, List, [], ◌∷◌, ◌++◌, ◌∙◌, length, ap, refl, arith, w16, w32, to_be_bytes, flat_map}
use Rattle.std.proofs.Common.{length-append}
use Rattle.std.specs.List.{AllByRecursion}
use Rattle.std.proofs.lemmas.List.Elements.{recursion_from_All}
use Rattle.std.proofs.lemmas.List.Sums.{sum_by-cons}
use Rattle.nw_codec.specs.declared.block.Ref.{Ref}
use Rattle.nw_codec.specs.declared.block.Block.{Block}
use Rattle.nw_codec.specs.declared.certificate.Signature.{Signature}
use Rattle.nw_codec.specs.declared.certificate.Seal.{Seal}
use Rattle.nw_codec.specs.declared.certificate.Certificate.{Certificate}
use Rattle.nw_codec.specs.declared.message.Message.TheVariants as messages
use Rattle.nw_codec.specs.declared.subject.Subject.{Subject}
use Rattle.nw_codec.specs.declared.vote.Vote.{Vote}
use Rattle.nw_codec.specs.Grammar.{round_bytes, parent_bytes, subject_bytes, seal_bytes, seal, body, message}
use Rattle.nw_codec.specs.Packed.{transaction_bytes}
use Rattle.nw_codec.specs.Fits.{transactions_size, body_size}
use Rattle.nw_codec.specs.Spelled.{Spells}
use Rattle.nw_codec.specs.Subject.{certificate_subject, vote_subject}
use Rattle.nw_codec.specs.Typed.{IsRef, IsBlock, IsSeal, IsSubject}

pub length-parents : (ps : List Ref) → AllByRecursion IsRef ps → length (flat_map parent_bytes ps) ≡ 34 * length ps
length-parents [] typed = refl
length-parents (p ∷ ps) typed =
    let others = length-parents ps typed.1 in
    let digest : length p.digest.0 ≡ 32 = typed.0.digest in
    let cut = length-append (parent_bytes p) (flat_map parent_bytes ps) in
    let one = length-append (to_be_bytes w16 p.author) p.digest.0 in
    omega (arith, others, digest, cut, one)

pub length-transactions : (ts : List (List ℕ)) → length (flat_map transaction_bytes ts) ≡ transactions_size ts
length-transactions [] = refl
length-transactions (t ∷ ts) =
    let others = length-transactions ts in
    let cut = length-append (transaction_bytes t) (flat_map transaction_bytes ts) in
    let one = length-append (to_be_bytes w32 (length t)) t in
    let sum : transactions_size (t ∷ ts) ≡ (4 + length t) + transactions_size ts = sum_by-cons (λ (x : List ℕ). 4 + length x) t ts in
    omega (arith, others, cut, one, sum)

pieces : (a r n ps k ts : List ℕ) → length a ≡ 2 → length r ≡ 6 → length n ≡ 2 → length k ≡ 2 → length (1 ∷ a ++ r ++ n ++ ps ++ k ++ ts) ≡ 13 + length ps + length ts
pieces a r n ps k ts ea er en ek = simp length-append (omega arith)

pub length-seal : (s : Seal) → IsSeal s → length (seal_bytes s) ≡ 66
length-seal s typed = omega (arith, length-append (to_be_bytes w16 s.signer) s.signature.0, typed.signature.len)

pub length-seals : (seals : List Seal) → AllByRecursion IsSeal seals → length (flat_map seal_bytes seals) ≡ 66 * length seals
length-seals [] typed = refl
length-seals (s ∷ seals) typed = omega (arith, length-seal s typed.0, length-seals seals typed.1, length-append (seal_bytes s) (flat_map seal_bytes seals))

pub length-subject : (s : Subject) → IsSubject s → length (subject_bytes s) ≡ 40
length-subject s typed =
    omega (arith, length-append (s.digest.0 ++ round_bytes s.round) (to_be_bytes w16 s.author), length-append s.digest.0 (round_bytes s.round), typed.digest_len)

pub length-body : (b : Block) → IsBlock b → length (body b) ≡ body_size b
unfolding body
length-body b typed =
    let ps = length-parents b.parents (recursion_from_All IsRef b.parents typed.parents) in
    let ts = length-transactions b.transactions in
    let all = pieces (to_be_bytes w16 b.author) (round_bytes b.round) (to_be_bytes w16 (length b.parents)) (flat_map parent_bytes b.parents) (to_be_bytes w16 (length b.transactions)) (flat_map transaction_bytes b.transactions) refl refl refl refl in
    omega (arith, ps, ts, all)

-- ---- messages

around : (body last : List ℕ) → length last ≡ 64 → length (1 ∷ body ++ last) ≡ 1 + length body + 64
around body last e = simp length-append (omega (arith, e))

pub length-block : (text : List ℕ) (b : Block) (s : Signature) → Spells text (messages.Block b s) → length text ≡ 1 + body_size b + 64
unfolding message
length-block text b s spells = omega (arith, ap length spells.bytes, around (body b) s.0 spells.typed.1.len, length-body b spells.typed.0)

votes_after : (subject n seals : List ℕ) (k : ℕ) → length subject ≡ 40 → length n ≡ 2 → length seals ≡ 66 * k → length (2 ∷ subject ++ n ++ seals) ≡ 43 + 66 * k
votes_after subject n seals k es en ek = simp length-append (omega (arith, es, en, ek))

pub length-certificate : (text : List ℕ) (c : Certificate) → Spells text (messages.Certificate c) → length text ≡ 43 + 66 * length c.votes
unfolding message
length-certificate text c spells =
    let seals = length-seals c.votes (recursion_from_All IsSeal c.votes spells.typed.votes) in
    ap length spells.bytes ∙ votes_after _ (to_be_bytes w16 (length c.votes)) _ _ (length-subject (certificate_subject c) spells.typed.subject) refl seals

one_seal : (subject sealed : List ℕ) → length subject ≡ 40 → length sealed ≡ 66 → length (3 ∷ subject ++ sealed) ≡ 107
one_seal subject sealed es el = simp length-append (omega (arith, es, el))

pub length-vote : (text : List ℕ) (v : Vote) → Spells text (messages.Vote v) → length text ≡ 107
unfolding message
length-vote text v spells = ap length spells.bytes ∙ one_seal _ _ (length-subject (vote_subject v) spells.typed.subject) (length-seal (seal v) spells.typed.sealed)
