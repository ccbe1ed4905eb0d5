-- The parts that the readers find are those of the message that the text spells.
use Rattle.nw_decode.proofs.Words.{◌≡◌, ℕ, ◌+◌, ◌*◌, ◌<◌, ◌≤◌, ◌⊎◌, inl, inr, List, [], ◌∷◌, ◌++◌, length, take, drop, Some, None, refl, sym, ap, subst, ◌∙◌, append_assoc, arith, w16, to_be_bytes, flat_map, AllByRecursion, append-nil, length-append, length-drop, length-take, nil_from_length, take-append-drop, recursion_from_All, Ref, Block, Signature, Seal, Certificate, Subject, Vote, round_bytes, parent_bytes, subject_bytes, seal_bytes, seal, transaction_bytes, certificate_subject, vote_subject, AreBytes, IsRef, IsBlock, IsSeal, IsSubject, IsCertificate, Spells, same_start, same16, same48, bytes_of, length-subject}
use Rattle.std.proofs.Common.{All}
use Rattle.std.proofs.lemmas.List.{drop-drop}
use Rattle.nw_codec.specs.declared.message.Message.TheVariants as messages
use Rattle.nw_decode.specs.declared.error.DecodeError.{DecodeError}
use Rattle.nw_decode.specs.declared.error.DecodeError.TheVariants.{Short, TooManyParents, TooManyTransactions, TooManyVotes}
use Rattle.nw_codec.specs.Grammar.{message}
use Rattle.nw_codec.specs.Packed.{ArePacked}
use Rattle.nw_decode.specs.Faults.{Kind, Stage, AtDigest, AtSubjectRound, AtSubjectAuthor, FaultFrom, stage_after_subject, AtSignature, AtVersion, AtAuthor, AtRound, AtParentCount, AtTransactionCount, AtVoteCount, AtSealSignature, AtEnd, at_parents, at_transactions, at_seals, Reaches}
use Rattle.nw_decode.specs.Parts.{ReadsCount, NumberAt, RoundAt, HeadAt, ItemsAt, ParentsAt, TransactionsAt, LastSignature, IsLast, AreBlockParts, AreCertificateParts}
use Rattle.nw_codec.proofs.Packed.{are_packed}
use Rattle.nw_codec.proofs.Sizes.{length-parents, length-seals}
use Rattle.nw_decode.proofs.Fields.{number_len, round_leaves, short_as}
use Rattle.nw_decode.proofs.Fronts.{onward, one_field, passed, later}
use Rattle.nw_decode.proofs.WrittenBlock.{block_message_is}
use Rattle.nw_decode.proofs.WrittenVotes.{subject_laid_out, certificate_message_is, vote_message_is}
use Rattle.nw_decode.proofs.OneText.{counted, counts_fit}
use Rattle.nw_decode.proofs.OneVote.{same_signature}
use Rattle.nw_decode.proofs.Items.{parent_kind, seal_kind, same_items}
use Rattle.nw_decode.proofs.WholeBlock.{BlockRead}
use Rattle.nw_decode.proofs.WholeVotes.{CertificateRead}

fewer : (n m : ℕ) → (m < n) ⊎ (n ≤ m)
fewer n m = grind arith

-- ---- parts that were read pass their tests

pub head_leads : (text rest : List ℕ) (author round : ℕ) → HeadAt text author round rest → Reaches AtVersion text AtParentCount rest
head_leads text rest author round head =
    let numbers : List ℕ = round_bytes round ++ rest in
    let later : List ℕ = to_be_bytes w16 author ++ numbers in
    let version : Reaches AtVersion ((1 ∷ []) ++ later) AtAuthor later = one_field AtVersion AtAuthor (1 ∷ []) later refl refl in
    let first : Reaches AtAuthor later AtRound numbers = one_field AtAuthor AtRound (to_be_bytes w16 author) numbers refl refl in
    let second : Reaches AtRound numbers AtParentCount rest = one_field AtRound AtParentCount (round_bytes round) rest refl refl in
    subst (λ (t : List ℕ). Reaches AtVersion t AtParentCount rest) (sym head.bytes) (onward AtVersion AtAuthor AtParentCount _ _ _ version (onward AtAuthor AtRound AtParentCount _ _ _ first second))

pub signature_leads : (stage : Stage) (text : List ℕ) (s : Signature) → IsLast 64 stage → LastSignature text s → Reaches stage text AtEnd []
signature_leads stage text s last at =
    subst (λ (t : List ℕ). Reaches stage t AtEnd []) (sym at.bytes) (one_field stage AtEnd s.0 [] (last.wide ∙ ap Some (sym at.signed.len)) (last.passes s.0))

pub subject_leads : (kind : Kind) (text rest : List ℕ) → 40 ≤ length text → rest ≡ drop 40 text → Reaches (AtDigest kind) text (stage_after_subject kind) rest
subject_leads kind text rest long back =
    let numbers : List ℕ = drop 32 text in
    let author : List ℕ = drop 6 numbers in
    let after_digest = passed (AtDigest kind) (AtSubjectRound kind) 32 text refl (omega (arith, long)) refl in
    let after_round = passed (AtSubjectRound kind) (AtSubjectAuthor kind) 6 numbers refl (omega (arith, long, length-drop 32 text)) refl in
    let after_author = passed (AtSubjectAuthor kind) (stage_after_subject kind) 2 author refl (omega (arith, long, length-drop 32 text, length-drop 6 numbers)) refl in
    let all = onward (AtDigest kind) (AtSubjectRound kind) (stage_after_subject kind) _ _ _ after_digest (onward (AtSubjectRound kind) (AtSubjectAuthor kind) (stage_after_subject kind) _ _ _ after_round after_author) in
    let same : drop 2 author ≡ drop 40 text = drop-drop 2 6 numbers ∙ drop-drop 8 32 text in
    subst (λ (t : List ℕ). Reaches (AtDigest kind) text (stage_after_subject kind) t) (same ∙ sym back) all

short_numbers : (kind : Kind) (numbers : List ℕ) (e : DecodeError) → length numbers < 8 → e ≡ Short → FaultFrom (AtSubjectRound kind) numbers e
short_numbers kind numbers e few is =
    let author : List ℕ = drop 6 numbers in
    elim (fewer 6 (length numbers)) [
      | inl lt ↦ short_as (AtSubjectRound kind) 6 numbers e refl lt is
      | inr le ↦ later (AtSubjectRound kind) (AtSubjectAuthor kind) numbers author e (passed (AtSubjectRound kind) (AtSubjectAuthor kind) 6 numbers refl le refl) (short_as (AtSubjectAuthor kind) 2 author e refl (omega (arith, few, length-drop 6 numbers)) is)
    ]

-- a text that is too short for a subject ends in one of its fields
pub short_subject : (kind : Kind) (text : List ℕ) (e : DecodeError) → length text < 40 → e ≡ Short → FaultFrom (AtDigest kind) text e
short_subject kind text e few is =
    let numbers : List ℕ = drop 32 text in
    elim (fewer 32 (length text)) [
      | inl lt ↦ short_as (AtDigest kind) 32 text e refl lt is
      | inr le ↦ later (AtDigest kind) (AtSubjectRound kind) text numbers e (passed (AtDigest kind) (AtSubjectRound kind) 32 text refl le refl) (short_numbers kind numbers e (omega (arith, few, length-drop 32 text)) is)
    ]

-- ---- the stages of the format

pub signature_ends : IsLast 64 AtSignature
signature_ends = record { wide = refl; passes = λ field. refl }

pub seal_ends : (signer : ℕ) → IsLast 64 (AtSealSignature 0 signer)
seal_ends signer = record { wide = refl; passes = λ field. refl }

pub counts_parents : ReadsCount AtParentCount 100 TooManyParents (λ n. at_parents n None (11 + 34 * n))
counts_parents = record { wide = refl; test = λ field. refl }

pub counts_transactions : (size : ℕ) → ReadsCount (AtTransactionCount size) 1024 TooManyTransactions (λ n. at_transactions n (size + 2))
counts_transactions size = record { wide = refl; test = λ field. refl }

pub counts_votes : ReadsCount AtVoteCount 100 TooManyVotes (λ n. at_seals n None)
counts_votes = record { wide = refl; test = λ field. refl }

-- the fields that precede the rest
pub front_of : (a b : Stage) (text rest : List ℕ) → Reaches a text b rest → (front : List ℕ) × (text ≡ front ++ rest)
front_of a b text rest reaches = (flat_map (λ field. field) reaches.fields, reaches.whole)

-- ---- a block

pub parents_found : (text after_count parents rest : List ℕ) (count : ℕ) → NumberAt text count after_count → count ≤ 100 → ItemsAt 34 count after_count parents rest
    → Reaches AtParentCount text (at_parents count None (11 + 34 * count)) after_count → Reaches (at_parents count None (11 + 34 * count)) after_count (AtTransactionCount (11 + 34 * count)) rest
    → (length parents ≤ 3400) × ParentsAt text parents rest × Reaches AtParentCount text (AtTransactionCount (11 + length parents)) rest
parents_found text after_count parents rest count at_count few lie first others =
    let whole = onward AtParentCount (at_parents count None (11 + 34 * count)) (AtTransactionCount (11 + 34 * count)) _ _ _ first others in (
      omega (arith, lie.len, few),
      record {
        count = count;
        low = at_count.low;
        len = lie.len;
        bytes = at_count.bytes ∙ ap (λ (t : List ℕ). to_be_bytes w16 count ++ t) lie.bytes;
      },
      subst (λ (n : ℕ). Reaches AtParentCount text (AtTransactionCount (11 + n)) rest) (sym lie.len) whole,
    )

-- if two equal lists end in pieces of the same length, their beginnings have the same length
same_length : (a b x y : List ℕ) → length x ≡ length y → a ++ x ≡ b ++ y → length a ≡ length b
same_length a b x y len e = omega (arith, ap length e, length-append a x, length-append b y, len)

pub block_lies : (text after_head after_parents after_transactions : List ℕ) (author round : ℕ) (parents : List ℕ) (count : ℕ) (transactions : List ℕ) (s : Signature)
    → HeadAt text author round after_head → ParentsAt after_head parents after_parents → TransactionsAt after_parents count transactions after_transactions → LastSignature after_transactions s
    → BlockRead text [] → (b : Block) × Spells (1 ∷ text) (messages.Block b s) × AreBlockParts b author round parents count transactions
block_lies text after_head after_parents after_transactions author round parents count transactions s head at_parents at_transactions last r =
    let b : Block = r.block in
    let many = counted b r.fits in
    let typed : AllByRecursion IsRef b.parents = recursion_from_All IsRef b.parents r.typed.parents in
    let whole : text ≡ (1 ∷ []) ++ (to_be_bytes w16 author ++ (round_bytes round ++ (to_be_bytes w16 at_parents.count ++ (parents ++ (to_be_bytes w16 count ++ (transactions ++ (s.0 ++ []))))))) =
    head.bytes ∙ ap (λ (t : List ℕ). (1 ∷ []) ++ (to_be_bytes w16 author ++ (round_bytes round ++ t))) (at_parents.bytes ∙ ap (λ (t : List ℕ). to_be_bytes w16 at_parents.count ++ (parents ++ t)) (at_transactions.bytes ∙ ap (λ (t : List ℕ). to_be_bytes w16 count ++ (transactions ++ t)) last.bytes)) in
    let cut = ap (λ (t : List ℕ). (1 ∷ []) ++ t) (sym whole) ∙ r.cut ∙ block_message_is b r.signature [] in
    let tag = same_start (1 ∷ []) (1 ∷ []) _ _ refl cut in
    let version = same_start (1 ∷ []) (1 ∷ []) _ _ refl tag.1 in
    let same_author = same_start (to_be_bytes w16 author) (to_be_bytes w16 b.author) _ _ refl version.1 in
    let same_round = same_start (round_bytes round) (round_bytes b.round) _ _ refl same_author.1 in
    let parent_count = same_start (to_be_bytes w16 at_parents.count) (to_be_bytes w16 (length b.parents)) _ _ refl same_round.1 in
    let parents_many : at_parents.count ≡ length b.parents = same16 at_parents.count (length b.parents) at_parents.low many.parents parent_count.0 in
    let same_parents_text = same_start parents (flat_map parent_bytes b.parents) _ _ (omega (arith, at_parents.len, parents_many, length-parents b.parents typed)) parent_count.1 in
    let transaction_count = same_start (to_be_bytes w16 count) (to_be_bytes w16 (length b.transactions)) _ _ refl same_parents_text.1 in
    let signature_len : length (s.0 ++ []) ≡ length (r.signature.0 ++ []) = omega (arith, length-append s.0 [], length-append r.signature.0 [], last.signed.len, r.signed.len) in
    let same_transactions_text = same_start transactions (flat_map transaction_bytes b.transactions) (s.0 ++ []) (r.signature.0 ++ []) (same_length _ _ _ _ signature_len transaction_count.1) transaction_count.1 in
    let signature = same_start s.0 r.signature.0 [] [] (last.signed.len ∙ sym r.signed.len) same_transactions_text.1 in
    let spells : Spells (1 ∷ text) (messages.Block b r.signature) = record { typed = (r.typed, r.signed); fits = r.fits; bytes = r.cut ∙ append-nil (message (messages.Block b r.signature)) } in (
      b,
      subst (λ (x : Signature). Spells (1 ∷ text) (messages.Block b x)) (sym (same_signature s r.signature signature.0)) spells,
      record {
        typed = r.typed;
        fits = r.fits;
        author_is = same16 author b.author head.low_author r.typed.author same_author.0;
        round_is = same48 round b.round head.low_round r.typed.round same_round.0;
        parents_are = same_parents_text.0;
        count_is = same16 count (length b.transactions) at_transactions.low many.transactions transaction_count.0;
        transactions_are = same_transactions_text.0;
      },
    )

-- parents with the same encoding as the block's are the block's
pub parents_built : (b : Block) (text : List ℕ) (parents : List Ref) → IsBlock b → text ≡ flat_map parent_bytes b.parents → All IsRef parents → text ≡ flat_map parent_bytes parents → parents ≡ b.parents
parents_built b text parents typed is each built =
    let mine = recursion_from_All IsRef parents each in
    let own = recursion_from_All IsRef b.parents typed.parents in
    let same : flat_map parent_bytes parents ≡ flat_map parent_bytes b.parents = sym built ∙ is in
    let many : length parents ≡ length b.parents = omega (arith, ap length same, length-parents parents mine, length-parents b.parents own) in
    (same_items (parent_kind 0) parents b.parents [] [] many mine own (ap (λ (t : List ℕ). t ++ []) same)).0

pub parents_long : (b : Block) (author round : ℕ) (parents : List ℕ) (count : ℕ) (transactions : List ℕ) → AreBlockParts b author round parents count transactions → (n : ℕ) × (length parents ≡ 34 * n)
parents_long b author round parents count transactions parts =
    (length b.parents, ap length parts.parents_are ∙ length-parents b.parents (recursion_from_All IsRef b.parents parts.typed.parents))

pub transactions_packed : (b : Block) (author round : ℕ) (parents : List ℕ) (count : ℕ) (transactions : List ℕ) → AreBlockParts b author round parents count transactions → ArePacked count transactions
transactions_packed b author round parents count transactions parts =
    subst (λ (t : List ℕ). ArePacked count t) (sym parts.transactions_are) (are_packed count b.transactions (sym parts.count_is) parts.fits.short_transactions)

pub length-parent : (p : Ref) → IsRef p → length (parent_bytes p) ≡ 34
length-parent p typed = omega (arith, length-append (to_be_bytes w16 p.author) p.digest.0, typed.digest)

-- ---- a certificate

-- the subject of 40 bytes that were read
pub subject_read : (text digest after_digest after_round rest : List ℕ) (round author : ℕ) → AreBytes text → length text ≡ 40 → digest ≡ take 32 text → after_digest ≡ drop 32 text → RoundAt after_digest round after_round → NumberAt after_round author rest
    → (s : Subject) → s ≡ record { digest = record { 0 = digest }; round = round; author = author } → IsSubject s × (text ≡ subject_bytes s)
subject_read text digest after_digest after_round rest round author each long front back at_round at_author s is =
    let cut : text ≡ digest ++ after_digest = sym (take-append-drop 32 text) ∙ (λ i. sym front i ++ sym back i) in
    let numbers : after_digest ≡ round_bytes round ++ (to_be_bytes w16 author ++ rest) = at_round.bytes ∙ ap (λ (t : List ℕ). round_bytes round ++ t) at_author.bytes in
    let none : rest ≡ [] = nil_from_length rest (omega (arith, long, ap length back, length-drop 32 text, round_leaves _ _ _ at_round, number_len _ _ _ at_author)) in
    let whole : text ≡ ((digest ++ round_bytes round) ++ to_be_bytes w16 author) ++ rest = cut ∙ ap (λ (t : List ℕ). digest ++ t) numbers ∙ sym (subject_laid_out digest (round_bytes round) (to_be_bytes w16 author) rest) in
    rw is (
      record {
        digest_len = omega (arith, ap length front, length-take 32 text, long);
        digest_bytes = (bytes_of digest after_digest text cut each).0;
        low_round = at_round.low;
        low_author = at_author.low;
      },
      whole ∙ ap (λ (t : List ℕ). ((digest ++ round_bytes round) ++ to_be_bytes w16 author) ++ t) none ∙ append-nil _,
    )

pub certificate_lies : (text front after_subject after_count rest : List ℕ) (count : ℕ) (seals : List ℕ)
    → 40 ≤ length text → front ≡ take 40 text → after_subject ≡ drop 40 text → NumberAt after_subject count after_count → ItemsAt 66 count after_count seals rest
    → CertificateRead text rest → rest ≡ [] → (c : Certificate) × Spells (2 ∷ text) (messages.Certificate c) × AreCertificateParts c front seals
certificate_lies text front after_subject after_count rest count seals long first back at_count at_seals r none =
    let c : Certificate = r.found in
    let typed : AllByRecursion IsSeal c.votes = recursion_from_All IsSeal c.votes r.typed.votes in
    let parted : text ≡ front ++ after_subject = sym (take-append-drop 40 text) ∙ (λ i. sym first i ++ sym back i) in
    let whole : text ≡ front ++ (to_be_bytes w16 count ++ (seals ++ rest)) =
    parted ∙ ap (λ (t : List ℕ). front ++ t) (at_count.bytes ∙ ap (λ (t : List ℕ). to_be_bytes w16 count ++ t) at_seals.bytes) in
    let cut = ap (λ (t : List ℕ). (2 ∷ []) ++ t) (sym whole) ∙ r.cut ∙ certificate_message_is c rest in
    let tag = same_start (2 ∷ []) (2 ∷ []) _ _ refl cut in
    let size : length front ≡ length (subject_bytes (certificate_subject c)) = omega (arith, ap length first, length-take 40 text, long, length-subject (certificate_subject c) r.typed.subject) in
    let subject = same_start front (subject_bytes (certificate_subject c)) _ _ size tag.1 in
    let number = same_start (to_be_bytes w16 count) (to_be_bytes w16 (length c.votes)) _ _ refl subject.1 in
    let many : count ≡ length c.votes = same16 count (length c.votes) at_count.low (counts_fit (messages.Certificate c) r.fits) number.0 in
    let votes = same_start seals (flat_map seal_bytes c.votes) rest rest (omega (arith, at_seals.len, many, length-seals c.votes typed)) number.1 in (
      c,
      record { typed = r.typed; fits = r.fits; bytes = r.cut ∙ ap (λ (t : List ℕ). message (messages.Certificate c) ++ t) none ∙ append-nil (message (messages.Certificate c)) },
      record {
        typed = r.typed;
        fits = r.fits;
        subject_is = subject.0;
        seals_are = votes.0;
      },
    )

pub seals_long : (c : Certificate) (subject seals : List ℕ) → AreCertificateParts c subject seals → (n : ℕ) × (length seals ≡ 66 * n)
seals_long c subject seals parts = (length c.votes, ap length parts.seals_are ∙ length-seals c.votes (recursion_from_All IsSeal c.votes parts.typed.votes))

-- seals with the same encoding as the certificate's are the certificate's
pub seals_built : (c : Certificate) (text : List ℕ) (seals : List Seal) → IsCertificate c → text ≡ flat_map seal_bytes c.votes → All IsSeal seals → text ≡ flat_map seal_bytes seals → seals ≡ c.votes
seals_built c text seals typed is each built =
    let mine = recursion_from_All IsSeal seals each in
    let own = recursion_from_All IsSeal c.votes typed.votes in
    let same : flat_map seal_bytes seals ≡ flat_map seal_bytes c.votes = sym built ∙ is in
    let many : length seals ≡ length c.votes = omega (arith, ap length same, length-seals seals mine, length-seals c.votes own) in
    (same_items seal_kind seals c.votes [] [] many mine own (ap (λ (t : List ℕ). t ++ []) same)).0

-- ---- a vote

pub vote_lies : (text front after_subject after_signer : List ℕ) (v : Vote) → front ≡ take 40 text → after_subject ≡ drop 40 text → IsSubject (vote_subject v) → front ≡ subject_bytes (vote_subject v) → NumberAt after_subject v.signer after_signer → LastSignature after_signer v.signature → Spells (3 ∷ text) (messages.Vote v)
vote_lies text front after_subject after_signer v first back typed is at_signer last = record {
  typed = record { subject = typed; sealed = record { signer = at_signer.low; signature = last.signed } };
  fits = tt;
  bytes =
      let sealed : after_subject ≡ seal_bytes (seal v) ++ [] = rw (at_signer.bytes, last.bytes) (sym (append_assoc (to_be_bytes w16 v.signer) v.signature.0 [])) in
      let whole : text ≡ subject_bytes (vote_subject v) ++ (seal_bytes (seal v) ++ []) = sym (take-append-drop 40 text) ∙ (λ i. (sym first ∙ is) i ++ (sym back ∙ sealed) i) in
      ap (λ (t : List ℕ). (3 ∷ []) ++ t) whole ∙ sym (vote_message_is v []) ∙ append-nil (message (messages.Vote v));
}
