-- Plain values that cross between C and the store.
use Rattle.std.specs.Prelude.{◌≡◌, ℕ, ◌<◌, List, length}
use Rattle.nw_digest.specs.declared.digest.Digest.{Digest}
use Rattle.nw_codec.specs.declared.subject.Subject.{Subject}
use Rattle.nw_c.specs.declared.plain.CDigest.{CDigest}
use Rattle.nw_c.specs.declared.plain.CSubject.{CSubject}

-- the digest of these bytes
abbrev pub digest_in : CDigest → Digest
digest_in d = record { 0 = d.bytes }

-- the subject as C sees it
abbrev pub subject_of : Subject → CSubject
subject_of s = record { digest = record { bytes = s.digest.0 }; round = s.round; author = s.author }

-- the subject that C sees, as a value of the store
abbrev pub subject_in : CSubject → Subject
subject_in s = record { digest = digest_in s.digest; round = s.round; author = s.author }

-- each such text has `needed` bytes, and there is not so much room
abbrev pub IsTooLong : (List ℕ → Type 0) → ℕ → ℕ → Type 0
IsTooLong IsText room needed = ((text : List ℕ) → IsText text → length text ≡ needed) × (room < needed)
