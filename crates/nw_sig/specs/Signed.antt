-- The texts that are signed, and the meaning of a signature scheme.
use Rattle.std.specs.Prelude.{ℕ, Bool, List, ◌++◌, codes}
use Rattle.nw_digest.specs.declared.digest.Digest.{Digest}
use Rattle.nw_codec.specs.Grammar.{subject_bytes}
use Rattle.nw_codec.specs.declared.certificate.Signature.{Signature}
use Rattle.nw_codec.specs.declared.subject.Subject.{Subject}
use Rattle.nw_committee.specs.declared.member.Key.{Key}

-- the meaning of a scheme: under which key it accepts which signature for which text
abbrev pub Meaning : Type 0
Meaning = Key → List ℕ → Signature → Bool

-- the text that the author of a block signs: the letters NWBK and the digest
unfoldable pub text_of_block : Digest → List ℕ
text_of_block digest = codes "NWBK" ++ digest.0

-- the text that a member signs to vote for a block: the letters NWVT, and the block's digest, round and author
unfoldable pub text_of_vote : Subject → List ℕ
text_of_vote s = codes "NWVT" ++ subject_bytes s
