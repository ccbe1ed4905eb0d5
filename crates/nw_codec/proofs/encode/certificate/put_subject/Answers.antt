use Rattle.nw_codec.proofs.Words.{[], ◌++◌, append_assoc, subst, on_ok_weaker, to_be_bytes, w16}
use Rattle.nw_codec.specs.Grammar.{round_bytes}
use Rattle.nw_codec.specs.Typed.{AreBytes}
use Rattle.nw_codec.proofs.Pieces.{bytes_of}
use Rattle.nw_codec.proofs.encode.certificate.put_subject.Goals as goal

pub returns-clause-text : goal.returns-clause-text
returns-clause-text g c = on_ok_weaker c.put-2.result
    (λ put before start. rw c.bytes.ensures.text at (put before _ (c.in_ok-put.ensures.text before [] start)))
    c.put-2.ensures.text

pub returns-clause-typed : goal.returns-clause-typed
returns-clause-typed g c =
    let s = c.args.subject.now in
    let each = subst AreBytes c.bytes.ensures.text c.put-2.ensures.bytes in
    let slot = round_bytes s.round ++ to_be_bytes w16 s.author in
    on_ok_weaker c.put-2.result (λ put. record {
      digest_len = c.bytes.ensures.ranges.0;
      digest_bytes = (bytes_of s.digest.0 slot _ (append_assoc s.digest.0 (round_bytes s.round) (to_be_bytes w16 s.author)) each).0;
      low_round = c.bytes.ensures.ranges.1;
      low_author = c.bytes.ensures.ranges.2;
    }) c.put-2.ensures.text
