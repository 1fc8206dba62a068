use Rattle.std.proofs.Common.{arith}
use Rattle.std.proofs.lemmas.Str.Pattern.{split_parts}
use Rattle.std.proofs.Common.{None, Some}
use Rattle.bf_id.proofs.Texts.{parted_text, whole_found}
use Rattle.bf_id.proofs.id.Id.parse.Goals as goal

pub returns-in-None : goal.returns-in-None
returns-in-None c =
    let no_stop = split_parts 46 c.args.text.now None c.in-None.ensures.cases (omega arith) in
    whole_found c.args.text.now c.root_in.result c.map.result no_stop c.root_in.ensures c.map.ensures.cases

pub returns-in-Some : goal.returns-in-Some
returns-in-Some c =
    let parts = split_parts 46 c.args.text.now (Some (c.in-Some.root, c.in-Some.octants)) c.in-Some.ensures.cases (omega arith) in
    parted_text c.args.text.now c.in-Some.root.now c.in-Some.octants.now c.from_parts.result parts.0 parts.1 c.from_parts.ensures
