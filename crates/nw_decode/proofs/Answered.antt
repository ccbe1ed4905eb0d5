-- The four clauses of `decode_message`, from `Decodes`.
use Rattle.nw_decode.proofs.Words.{◌≡◌, ◌≢◌, ◌↔◌, ◌⊎◌, inl, inr, ℕ, List, Result, Ok, Err, sym, ap, ◌∙◌, subst, IfOk, Message, Spells, IsSpelled}
use Rattle.std.specs.Result.{IsErrOf, IfErr}
use Rattle.nw_codec.specs.declared.message.Message.TheVariants as messages
use Rattle.nw_decode.specs.declared.error.DecodeError.{DecodeError}
use Rattle.nw_decode.specs.declared.error.DecodeError.TheVariants.{NoMemory}
use Rattle.nw_decode.specs.Faults.{AtTag, IsWhole, IsFirstFault}
use Rattle.nw_decode.specs.Parts.{Decodes}
use Rattle.nw_codec.specs.Spelled.{DecodingAllocates}
use Rattle.nw_decode.proofs.Fronts.{one_fault, not_both}
use Rattle.nw_decode.proofs.Decided.{never_memory}
use Rattle.nw_decode.proofs.Written.{spelled_is_whole}

abbrev failing : DecodeError → Result Message DecodeError
failing e = Err e

failing_is : (d e : DecodeError) → failing d ≡ failing e → d ≡ e
failing_is d e h = cc

-- why a text was not decoded
abbrev Fails : List ℕ → DecodeError → Type 0
Fails text e = IsFirstFault text e ⊎ ((e ≡ NoMemory) × DecodingAllocates text)

memory_is_whole : (text : List ℕ) → DecodingAllocates text → IsWhole text
memory_is_whole text (inl block) = spelled_is_whole text (messages.Block block.0 block.1, block.2)
memory_is_whole text (inr certificate) = spelled_is_whole text (messages.Certificate certificate.0, certificate.1)

fault_of : (text : List ℕ) (d e : DecodeError) → Fails text d → e ≢ NoMemory → (failing d ≡ failing e) ↔ IsFirstFault text e
fault_of text d e (inl fault) other = (
  λ h. subst (λ (x : DecodeError). IsFirstFault text x) (failing_is d e h) fault,
  λ g. ap failing (one_fault AtTag text d e fault g),
)
fault_of text d e (inr memory) other = (
  λ h. absurd (other (sym (failing_is d e h) ∙ memory.0)),
  λ g. absurd (not_both AtTag text e (memory_is_whole text memory.1) g),
)

memory_of : (text : List ℕ) (d : DecodeError) → Fails text d → d ≡ NoMemory → DecodingAllocates text
memory_of text d (inl fault) is = absurd (never_memory AtTag text (subst (λ (x : DecodeError). IsFirstFault text x) is fault))
memory_of text d (inr memory) is = memory.1

only_memory : (text : List ℕ) (d : DecodeError) → Fails text d → IsSpelled text → d ≡ NoMemory
only_memory text d (inl fault) spelled = absurd (not_both AtTag text d (spelled_is_whole text spelled) fault)
only_memory text d (inr memory) spelled = memory.0

pub says_found : (text : List ℕ) (r : Result Message DecodeError) → Decodes text r → IfOk r (λ m. Spells text m)
says_found text (Ok m) decodes = decodes
says_found text (Err d) decodes = tt

pub says_fault : (text : List ℕ) (r : Result Message DecodeError) → Decodes text r → (e : DecodeError) → e ≢ NoMemory → (IsErrOf r e ↔ IsFirstFault text e)
says_fault text (Ok m) decodes e other = (
  λ h. absurd (cc h),
  λ g. absurd (not_both AtTag text e (spelled_is_whole text (m, decodes)) g),
)
says_fault text (Err d) decodes e other = fault_of text d e decodes other

pub says_memory : (text : List ℕ) (r : Result Message DecodeError) → Decodes text r → IsErrOf r NoMemory → DecodingAllocates text
says_memory text (Ok m) decodes h = absurd (cc h)
says_memory text (Err d) decodes h = memory_of text d decodes (failing_is d NoMemory h)

pub says_spelled : (text : List ℕ) (r : Result Message DecodeError) → Decodes text r → IsSpelled text → IfErr r (λ e. e ≡ NoMemory)
says_spelled text (Ok m) decodes spelled = tt
says_spelled text (Err d) decodes spelled = only_memory text d decodes spelled
