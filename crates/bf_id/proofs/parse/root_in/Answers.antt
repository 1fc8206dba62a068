use Rattle.std.proofs.Common.{List, ℕ, sym, subst}
use Rattle.bf_id.specs.TextParts.{IsPlain}
use Rattle.bf_id.proofs.Texts.{plain_decimal, root_found}
use Rattle.bf_id.proofs.parse.root_in.Goals as goal

pub returns-then-not-is_plain : goal.returns-then-not-is_plain
returns-then-not-is_plain c = λ root small e.
    let P : List ℕ → Type 0 = IsPlain in
    let plain = plain_decimal root c.args.text.now small e in
    let passes = c.is_plain.ensures.1 (subst P (sym c.as_bytes.ensures.value) plain) in
    let fails = c.if-not-is_plain.true in
    cc

pub returns : goal.returns
returns c =
    let P : List ℕ → Type 0 = IsPlain in
    let plain = c.is_plain.ensures.0 c.if-not-is_plain.false in
    rw c.ok.ensures.value (root_found c.args.text.now c.parse.result (subst P c.as_bytes.ensures.value plain) c.parse.ensures.value.0)
