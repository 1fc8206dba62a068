use Rattle.bf_case.specs.Regrid.{target_of}
use Rattle.bf_proxy.proofs.LawLemmas.{is_regridded, share_unit}
use Rattle.bf_proxy.proofs.laws.sources_are_the_leaves_that_share_the_box.Goals as goal

pub returns : goal.returns
returns c = λ shape levels ids w can. share_unit shape levels ids (target_of shape ids w) (is_regridded shape levels ids w can)
