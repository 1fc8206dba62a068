use Rattle.bf_case.proofs.FaceLemmas.{shares_near, some_opposite}
use Rattle.bf_case.proofs.laws.leaves_that_share_a_face_are_near_and_leave_no_place_out.Goals as goal

pub returns-clause-near : goal.returns-clause-near
returns-clause-near c = shares_near

pub returns-clause-all : goal.returns-clause-all
returns-clause-all c shape side leaves i g face a b domain is balanced has inner a_in b_in =
    let one = some_opposite shape side leaves i g face a b domain is balanced has inner a_in b_in in
    (one.other, record { domain = domain; map = is; own_in = has; other_in = one.in_map; share = one.share }, one.part)
