use Rattle.std.proofs.Common.{◌∙◌, ap}
use Rattle.bf_buddy.specs.Members.{is_member}
use Rattle.bf_migrate_rounds.proofs.CommonLemmas.{member_with}
use Rattle.bf_migrate_rounds.proofs.peers.with.Goals as goal

pub returns-then-rank-lt32 : goal.returns-then-rank-lt32
returns-then-rank-lt32 c = λ other below.
    ap (λ ranks. is_member ranks other) c.with.ensures ∙ member_with c.args.ranks c.args.rank other below
