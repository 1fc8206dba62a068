use Rattle.std.proofs.Common.{suc, refl}
use Rattle.bf_mark_rounds.proofs.RoundLemmas.{last_force_leads}
use Rattle.bf_mark_rounds.proofs.laws.the_last_force_round_leads_on.Goals as goal

pub returns : goal.returns
returns c = λ shape ids w owner before members map_is few stop rise owned.
    last_force_leads shape ids (suc before) map_is few w owner members rise owned before refl stop
