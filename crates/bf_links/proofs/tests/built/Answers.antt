use Rattle.std.proofs.Common.{Bool, arith}
use Rattle.std.proofs.lemmas.List.Sums.{count_by-le-length, length-filter}
use Rattle.bf_id.specs.Id.{touches}
use Rattle.bf_links.specs.declared.link.Link.{Link}
use Rattle.bf_links.proofs.tests.built.Goals as goal

pub build-requires-clause-few : goal.build-requires-clause-few
build-requires-clause-few g c =
    let test : Link → Bool = λ (leaf : Link). touches c.args.shape c.args.id leaf.id in
    let kept = length-filter test c.args.leaves.now in
    let most = count_by-le-length test c.args.leaves.now in
    omega (arith, kept, most)
