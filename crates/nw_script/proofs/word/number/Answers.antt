use Rattle.std.proofs.Common.{◌≡◌, ◌∙◌, ap, false, subst, sym, true}
use Rattle.std.specs.Result.{result_ok}
use Rattle.std.proofs.lemmas.Fmt.{parse-decimal}
use Rattle.nw_script.proofs.Numbers.{spelled_by_parse, IsPlain-decimal}
use Rattle.nw_script.specs.Word.{IsPlain}
use Rattle.nw_script.proofs.word.number.Goals as goal

pub returns-then-is_plain-clause-spelled : goal.returns-then-is_plain-clause-spelled
returns-then-is_plain-clause-spelled c =
    let plain : IsPlain c.args.word.now = subst IsPlain c.as_bytes.ensures.value (c.is_plain.ensures.0 c.if-is_plain.true) in
    rw c.ok.ensures.value (spelled_by_parse c.args.word.now c.parse.result c.parse.ensures.value.0 plain)

pub returns-then-is_plain-clause-found : goal.returns-then-is_plain-clause-found
returns-then-is_plain-clause-found c = λ n small is.
    c.ok.ensures.value ∙ ap result_ok (parse-decimal 64 n c.args.word.now c.parse.result small small is c.parse.ensures.value.0)

pub returns-else-is_plain-clause-found : goal.returns-else-is_plain-clause-found
returns-else-is_plain-clause-found c = λ n small is.
    let plain = c.is_plain.ensures.1 (subst IsPlain (sym (c.as_bytes.ensures.value ∙ is)) (IsPlain-decimal n small)) in
    let no : false ≡ true = sym c.if-is_plain.false ∙ plain in cc
